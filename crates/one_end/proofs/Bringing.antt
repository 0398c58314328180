-- What a byte brought.
use Rattle.std.specs.Prelude.{filter}
use Rattle.one_end.proofs.Words.{FrameComes, List, [], ap, arith, bytes_bring, causes_brought, flat_map, refl, true, ℕ, ◌++◌, ◌∙◌, ◌∷◌, ◌≡◌}
use Rattle.byte_link.specs.declared.unit.Unit.{Unit}
use Rattle.byte_link.specs.declared.unit.Unit.TheVariants as unit
use Rattle.byte_link.specs.Reading.{unit_given, units_given, says_something}
use Rattle.byte_link.specs.Written.{units_behind}
use Rattle.swp_frame.specs.declared.fed.Fed.TheVariants as fed
use Rattle.lone_laws.specs.alone.Ends.{unit_brings}
use Rattle.lone_laws.specs.alone.Ends.EndForm.{OnBytes}
use Rattle.one_end.specs.declared.reading.Brought.{Brought}
use Rattle.one_end.specs.Reading.{is_nothing_brought}

-- where it brought nothing, nothing comes to the node
pub nothing_brought : (b : Brought) → is_nothing_brought b ≡ true → causes_brought b ≡ []
nothing_brought b is = grind arith

brought_by : (u : Unit) (units : List Unit) → unit_brings u ++ flat_map unit_brings (filter says_something units)
    ≡ flat_map unit_brings (filter says_something (u ∷ units))
brought_by u units = grind arith

-- bytes of a byte link bring what their units bring
pub units_bring : (number : ℕ) (bytes older : List ℕ) → bytes_bring OnBytes number older bytes ≡ flat_map unit_brings (units_behind older bytes)
units_bring number [] older = refl
units_bring number (byte ∷ bytes) older =
    ap (λ causes. unit_brings (unit_given (byte ∷ older)) ++ causes) (units_bring number bytes (byte ∷ older))
    ∙ brought_by (unit_given (byte ∷ older)) (units_given (byte ∷ older) bytes)

-- so those that give nothing bring nothing
pub no_units : (number : ℕ) (bytes older : List ℕ) → units_behind older bytes ≡ [] → bytes_bring OnBytes number older bytes ≡ []
no_units number bytes older is = units_bring number bytes older ∙ ap (flat_map unit_brings) is

-- and those that give an LPDU bring its frame
pub one_frame : (number : ℕ) (bytes older lpdu : List ℕ) → units_behind older bytes ≡ unit.Frame lpdu ∷ []
    → bytes_bring OnBytes number older bytes ≡ FrameComes lpdu ∷ []
one_frame number bytes older lpdu is = units_bring number bytes older ∙ ap (flat_map unit_brings) is
