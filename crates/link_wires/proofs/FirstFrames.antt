-- What a line that damages a frame finds on a wire.
use Rattle.link_wires.proofs.Words.{List, Loss, LostCause, None, OnWire, Option, Some, [], ap, if_beyond, length, lost_as, refl, told_as, ℕ, ◌∙◌, ◌∷◌, ◌≡◌}
use Rattle.swp_frame.specs.Stuffing.{frame_of}
use Rattle.history.specs.Damage.{Verdict, verdict_on}
use Rattle.history.specs.Damage.Verdict.{Same as ReadSame, LostFor, Undetected as ReadOther}
use Rattle.link_wires.specs.declared.damage.Verdict.TheVariants as told
use Rattle.link_wires.specs.declared.finding.Damaged.TheVariants.{Lost}
use Rattle.link_wires.specs.Damages.{Finds, first_lpdu}

abbrev just : Option (List ℕ) → List ℕ
just None = []
just (Some bytes) = bytes

is_lost : (v : Verdict) (cause : LostCause) → told.Lost cause ≡ told_as v → (why : Loss) × (v ≡ LostFor why) × (cause ≡ lost_as why)
is_lost ReadSame cause h = cc
is_lost (LostFor why) cause h = (why, refl, cc)
is_lost (ReadOther read) cause h = cc

pub finds_lost : (wire : List OnWire) (places sent : List ℕ) (cause : LostCause) → first_lpdu wire ≡ Some sent
    → if_beyond (length (frame_of sent)) places ≡ None → told.Lost cause ≡ told_as (verdict_on sent places) → Finds wire places (Lost cause)
finds_lost [] places sent cause h q v = cc
finds_lost (x ∷ xs) places sent cause h q v =
    let z = is_lost (verdict_on sent places) cause v in (
      ap (λ s. if_beyond (length (frame_of s)) places) (ap just h) ∙ q,
      (z.0, ap Some (ap (λ s. verdict_on s places) (ap just h) ∙ z.1), z.2),
    )
