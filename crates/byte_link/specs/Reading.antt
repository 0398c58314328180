-- What a list of bytes says.
use Rattle.std.specs.Prelude.{ℕ, Bool, true, false, List, [], ◌∷◌, ◌++◌, filter, if◌then◌else◌}
use Rattle.byte_link.specs.declared.unit.Unit as unit
use Rattle.byte_link.specs.declared.unit.Unit.TheVariants.{Nothing, Tick, Frame, Refused}
use Rattle.byte_link.specs.Units.{is_whole, unit_said}

abbrev pub emptied : List ℕ → List ℕ
emptied bytes = if is_whole bytes then [] else bytes

-- the bytes, oldest first, that came since the last whole unit, from all that came, newest first
abbrev pub unit_under_way : List ℕ → List ℕ
unit_under_way [] = []
unit_under_way (newest ∷ older) = emptied (unit_under_way older ++ newest ∷ [])

-- what the newest byte of a list, the newest first, gives
abbrev pub unit_given : List ℕ → unit.Unit
unit_given [] = Nothing
unit_given (newest ∷ older) = unit_said (unit_under_way older ++ newest ∷ [])

-- what is given by each byte of a list, its oldest first, after what came before
abbrev pub units_given : List ℕ → List ℕ → List unit.Unit
units_given seen [] = []
units_given seen (next ∷ later) = unit_given (next ∷ seen) ∷ units_given (next ∷ seen) later

abbrev pub says_something : unit.Unit → Bool
says_something Nothing = false
says_something Tick = true
says_something (Frame lpdu) = true
says_something (Refused fault) = true

-- the units of a list of bytes, its oldest first
abbrev pub units : List ℕ → List unit.Unit
units bytes = filter says_something (units_given [] bytes)
