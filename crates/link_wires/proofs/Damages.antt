-- The verdict on a damaged frame, bit by bit.
use Rattle.std.proofs.Common.{eqb, not, set, zero}
use Rattle.link_wires.proofs.Words.{Bool, List, Loss, LostCause, None, Option, Some, Symbol, [], answers_after, ap, arith, drop, false, flipped, get_or}
use Rattle.link_wires.proofs.Words.{judged_by_first, length, lost_as, map, option_or, refl, suc, sym, symbol_of, told_as, true, ℕ, ◌+◌, ◌<◌, ◌∙◌, ◌∷◌, ◌≡◌, ◌≤◌}
use lib.Pointwise.{pointwise}
use Rattle.std.proofs.lemmas.List.{drop_more}
use Rattle.std.specs.Prelude.{filter, if◌then◌else◌, ◌&&◌}
use Rattle.trace_model.specs.declared.entry.LostCause.TheVariants as lost
use Rattle.swp_frame.specs.declared.fed.Fed.{Fed}
use Rattle.swp_frame.specs.declared.fed.Fed.TheVariants.{Nothing, Frame, Refused}
use Rattle.swp_frame.specs.Verdicts.{is_verdict, verdict}
use Rattle.link_laws.specs.messages.Links.Loss.{Broken}
use Rattle.history.specs.Damage.{first_frame, read_as, same_bytes}
use Rattle.history.specs.Damage.Verdict.{Same, Undetected}
use Rattle.link_wires.specs.declared.damage.Verdict.{Verdict as Told}
use Rattle.link_wires.specs.declared.damage.Verdict.TheVariants as told

-- why a frame is lost where none was read
abbrev pub cause_is : Option LostCause → LostCause
cause_is None = lost.Nothing
cause_is (Some why) = why

-- the verdict where this was the first refusal and these answers are to come
abbrev pub told_in : List ℕ → Option LostCause → List Fed → Told
told_in lpdu refused [] = told.Lost (cause_is refused)
told_in lpdu refused (Nothing ∷ feds) = told_in lpdu refused feds
told_in lpdu refused (Frame read ∷ feds) = told_as (read_as lpdu read)
told_in lpdu refused (Refused fault ∷ feds) = told_in lpdu (option_or refused (Some (lost_as (Broken fault)))) feds

behind_refusal : (lpdu : List ℕ) (why : Loss) (feds : List Fed)
    → told_as (first_frame lpdu why (filter is_verdict feds)) ≡ told_in lpdu (Some (lost_as why)) feds
behind_refusal lpdu why [] = refl
behind_refusal lpdu why (Nothing ∷ feds) = behind_refusal lpdu why feds
behind_refusal lpdu why (Frame read ∷ feds) = refl
behind_refusal lpdu why (Refused fault ∷ feds) = behind_refusal lpdu why feds

pub judged_in : (lpdu : List ℕ) (feds : List Fed) → told_as (judged_by_first lpdu (filter is_verdict feds)) ≡ told_in lpdu None feds
judged_in lpdu [] = refl
judged_in lpdu (Nothing ∷ feds) = judged_in lpdu feds
judged_in lpdu (Frame read ∷ feds) = refl
judged_in lpdu (Refused fault ∷ feds) = behind_refusal lpdu (Broken fault) feds

pub flipped_past : (place : ℕ) (bits : List Bool) → length bits ≤ place → flipped place bits ≡ bits
flipped_past place [] h = refl
flipped_past zero (b ∷ bits) h = absurd (omega arith)
flipped_past (suc place) (b ∷ bits) h = ap (λ bs. b ∷ bs) (flipped_past place bits (omega arith))

pub flipped_at_place : (place : ℕ) (bits : List Bool) (d : Bool) → place < length bits
    → set bits place (not (get_or bits place d)) ≡ flipped place bits
flipped_at_place place [] d h = absurd (omega arith)
flipped_at_place zero (b ∷ bits) d h = refl
flipped_at_place (suc place) (b ∷ bits) d h = ap (λ bs. b ∷ bs) (flipped_at_place place bits d (omega arith))

-- one bit more is read, and this was answered
pub read_one : {fed : Fed} (lpdu : List ℕ) (refused now : Option LostCause) (seen : List Symbol) (bits : List Bool) (k : ℕ) (d : Bool)
    → k < length bits → fed ≡ verdict (symbol_of (get_or bits k d) ∷ seen)
    → told_in lpdu refused (fed ∷ answers_after (symbol_of (get_or bits k d) ∷ seen) (map symbol_of (drop (k + 1) bits)))
    ≡ told_in lpdu now (answers_after (symbol_of (get_or bits k d) ∷ seen) (map symbol_of (drop (k + 1) bits)))
    → told_in lpdu refused (answers_after seen (map symbol_of (drop k bits)))
    ≡ told_in lpdu now (answers_after (symbol_of (get_or bits k d) ∷ seen) (map symbol_of (drop (k + 1) bits)))
read_one lpdu refused now seen bits k d h is step =
    ap (λ bs. told_in lpdu refused (answers_after seen (map symbol_of bs))) (drop_more bits k d h)
    ∙ ap (λ f. told_in lpdu refused (f ∷ answers_after (symbol_of (get_or bits k d) ∷ seen) (map symbol_of (drop (k + 1) bits)))) (sym is)
    ∙ step

same_pair : (t a b : Bool) → a ≡ b → (t && a) ≡ (if t then b else false)
same_pair true a b h = h
same_pair false a b h = refl

same_is : (read lpdu : List ℕ) → pointwise eqb read lpdu ≡ same_bytes read lpdu
same_is [] [] = refl
same_is [] (b ∷ second) = refl
same_is (a ∷ first) [] = refl
same_is (a ∷ first) (b ∷ second) = same_pair (eqb a b) (pointwise eqb first second) (same_bytes first second) (same_is first second)

pub told_where_same : (read lpdu : List ℕ) → pointwise eqb read lpdu ≡ true → told.Same ≡ told_as (read_as lpdu read)
told_where_same read lpdu h = ap (λ (t : Bool). told_as (if t then Same else Undetected read)) (sym h ∙ same_is read lpdu)

pub told_where_other : (read lpdu : List ℕ) → pointwise eqb read lpdu ≡ false → told.Undetected read ≡ told_as (read_as lpdu read)
told_where_other read lpdu h = ap (λ (t : Bool). told_as (if t then Same else Undetected read)) (sym h ∙ same_is read lpdu)
