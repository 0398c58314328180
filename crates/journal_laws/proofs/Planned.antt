-- Writes that were made in order until one failed.
use Rattle.std.proofs.Common.{◌≡◌, inl, inr, ℕ, suc, Bool, true, false, List, [], ◌∷◌, ap, ◌∙◌, subst, not, cond, length, Option, sym, arith}
use Rattle.std.proofs.lemmas.Bool.{true≢false, false≢true, not-true}
use Rattle.swp_base.specs.Outside.{IsWritten}
use Rattle.swp_base.specs.InMemory.{Plan, Memory, is_next, plan_after, memory_after, WritesAsPlanned}
use Rattle.journal_laws.specs.Writes.{Write, after_writes, IsCut, AreMade}
use Rattle.journal_laws.specs.Planned.{fails_within, after_planned}

module _ {M : Type 0} (writes : M → ℕ → List ℕ → Bool → M → Type 0) (content : M → List ℕ)
    (told : (old : M) (at : ℕ) (bytes : List ℕ) (ok : Bool) (new : M) → writes old at bytes ok new → IsWritten ok (content old) (content new) at bytes) where
  pub made_whole : (planned : List Write) (old new : M) → AreMade writes planned old true new → content new ≡ after_writes planned (content old)
  made_whole [] old new made = ap content made.1
  made_whole (w ∷ planned) old new (inl failed) = absurd (true≢false failed.0)
  made_whole (w ∷ planned) old new (inr rest) =
      made_whole planned rest.0 new rest.2 ∙ ap (after_writes planned) (told old w.at w.bytes true rest.0 rest.1)

  pub made_in_part : (planned : List Write) (old new : M) → AreMade writes planned old false new → (k : ℕ) × IsCut k planned (content old) (content new)
  made_in_part [] old new made = absurd (false≢true made.0)
  made_in_part (w ∷ planned) old new (inl failed) = (0, told old w.at w.bytes false new failed.1)
  made_in_part (w ∷ planned) old new (inr rest) =
      let later = made_in_part planned rest.0 new rest.2 in
      (suc later.0, subst (λ c. IsCut later.0 planned c (content new)) (told old w.at w.bytes true rest.0 rest.1) later.1)

-- ---- where the failing write is planned, which writes are made is known

pub none_within : (plan : Option Plan) → fails_within 0 plan ≡ false
none_within plan = grind arith

pub plan_of_memory_after : (m : Memory) (at : ℕ) (bytes : List ℕ) → is_next m.plan ≡ false → (memory_after m at bytes).plan ≡ plan_after m.plan
plan_of_memory_after m at bytes later = grind arith

pub planned_answer : (planned : List Write) (old : Memory) (ok : Bool) (new : Memory) → AreMade WritesAsPlanned planned old ok new
    → ok ≡ not (fails_within (length planned) old.plan)
planned_answer [] old ok new made = made.0 ∙ ap not (sym (none_within old.plan))
planned_answer (w ∷ planned) old ok new (inl failed) = grind arith
planned_answer (w ∷ planned) old ok new (inr rest) =
    let later : is_next old.plan ≡ false = not-true (is_next old.plan) (sym rest.1.answer) in
    planned_answer planned rest.0 ok new rest.2
    ∙ ap (λ m. not (fails_within (length planned) m)) (ap (λ (m : Memory). m.plan) rest.1.memory ∙ plan_of_memory_after old w.at w.bytes later)
    ∙ ap not (grind arith)

pub planned_memory : (planned : List Write) (old : Memory) (ok : Bool) (new : Memory) → AreMade WritesAsPlanned planned old ok new
    → new ≡ after_planned planned old
planned_memory [] old ok new made = made.1
planned_memory (w ∷ planned) old ok new (inl failed) = grind arith
planned_memory (w ∷ planned) old ok new (inr rest) =
    let later : is_next old.plan ≡ false = not-true (is_next old.plan) (sym rest.1.answer) in
    planned_memory planned rest.0 ok new rest.2
    ∙ ap (after_planned planned) rest.1.memory
    ∙ ap (λ b. cond b (memory_after old w.at w.bytes) (after_planned planned (memory_after old w.at w.bytes))) (sym later)
