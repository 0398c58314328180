-- When an end of a link is at rest.
use Rattle.std.specs.Prelude.{◌==◌, Bool, true, false, length}
use Rattle.shdlc_core.specs.declared.answers.LinkState.{LinkState}
use Rattle.shdlc_core.specs.declared.answers.LinkState.TheVariants.{Down, Waiting, Up}
use Rattle.link_laws.specs.machine.Machine.{LinkEnd, whole_acked}

-- an end doesn't wait, and where it is up all messages that were sent in its session are acknowledged
abbrev pub end_rests : LinkEnd → Bool
end_rests e = by_phase e.shdlc.phase where
  by_phase : LinkState → Bool
  by_phase Up = whole_acked e == length e.sent
  by_phase Waiting = false
  by_phase Down = true
