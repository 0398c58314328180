-- What a node relies on of a notice that is answered.
use Rattle.node_deeds.specs.declared.desks.About.{About as KeptAbout}
use Rattle.node_deeds.specs.Shown.{row_about}
use Rattle.node_deeds.specs.Cores.{IsSoundRow}

-- the pipe that a host is asked for may be made
abbrev pub IsSoundAbout : KeptAbout → Type 0
IsSoundAbout what = IsSoundRow (row_about what)
