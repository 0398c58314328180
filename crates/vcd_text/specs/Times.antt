-- The times of a text.
use Rattle.std.specs.Prelude.{◌<◌, ◌^◌}
use Rattle.vcd_text.specs.declared.reader.VcdTold.{VcdTold}
use Rattle.vcd_text.specs.declared.reader.VcdTold.TheVariants.{Nothing, Begins, Changes}

-- a line begins at a time below 2^63
abbrev pub FitsTold : VcdTold → Type 0
FitsTold Nothing = Unit {0}
FitsTold (Begins time) = time < 2 ^ 63
FitsTold (Changes change) = Unit {0}
