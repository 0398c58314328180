-- What the memories in memory tell of a write: the proofs of a law of `Nv`.
use Rattle.std.specs.Prelude.{◌≡◌, ◌⊎◌, ℕ, Bool, true, false, not, if◌then◌else◌, List, length, Option, None, Some}
use Rattle.std.proofs.Common.{inl, inr, sym, ap, ◌∙◌, subst}
use Rattle.std.proofs.lemmas.Bool.{cases_Bool, false≢true}
use Rattle.std.proofs.lemmas.List.FromFn.{length-map-range_with_len}
use Rattle.swp_base.specs.Outside.{one_more, overwritten, IsWritten}
use Rattle.swp_base.specs.InMemory.{Plan, Memory, is_next, plan_after, torn_bytes, WritesAsPlanned, WritesSurely}

length-torn_bytes : (plan : Option Plan) (len : ℕ) → is_next plan ≡ true → length (torn_bytes plan len) ≡ len
length-torn_bytes None len next = absurd (false≢true next)
length-torn_bytes (Some p) len next = length-map-range_with_len _ 0 len

pub planned_is_told : (old : Memory) (at : ℕ) (bytes : List ℕ) (ok : Bool) (new : Memory) → WritesAsPlanned old at bytes ok new
    → IsWritten ok old.content new.content at bytes
planned_is_told old at bytes ok new made = by_plan (cases_Bool (is_next old.plan))
  where
    torn : Memory
    torn = record old { content = overwritten old.content at (torn_bytes old.plan (length bytes)); plan = None; faults = one_more old.faults }

    whole : Memory
    whole = record old { content = overwritten old.content at bytes; plan = plan_after old.plan }

    by_plan : (is_next old.plan ≡ true) ⊎ (is_next old.plan ≡ false) → IsWritten ok old.content new.content at bytes
    by_plan (inl next) = subst (λ o. IsWritten o old.content new.content at bytes) (sym (made.answer ∙ ap not next)) (
      torn_bytes old.plan (length bytes),
      length-torn_bytes old.plan (length bytes) next,
      ap (λ m. m.content)
          (made.memory ∙ ap (λ b. if b then torn else whole) next),
    )
    by_plan (inr later) = subst (λ o. IsWritten o old.content new.content at bytes) (sym (made.answer ∙ ap not later))
        (ap (λ m. m.content) (made.memory ∙ ap (λ b. if b then torn else whole) later))

pub sure_is_told : (old : List ℕ) (at : ℕ) (bytes : List ℕ) (ok : Bool) (new : List ℕ) → WritesSurely old at bytes ok new → IsWritten ok old new at bytes
sure_is_told old at bytes ok new made = subst (λ o. IsWritten o old new at bytes) (sym made.answer) made.memory
