-- Reads in front of writes.
use Rattle.std.proofs.Common.{◌≡◌, inl, inr, ℕ, zero, suc, Bool, true, false, not, List, [], ◌∷◌, Option, None, refl, ap, ◌∙◌, subst, ◌⊎◌, ◌<◌, ◌≤◌, arith}
use Rattle.std.proofs.lemmas.Bool.{true≢false, false≢true, cases_lt}
use Rattle.swp_base.specs.InMemory.{Memory, is_next_read, ReadsAsPlanned, ReadsSurely, WritesSurely}
use Rattle.journal_laws.specs.Writes.{Write, after_writes, AreMade, AreRead, AreCalled}

module _ {M : Type 0} (reads : M → Bool → M → Type 0) where
  -- one more read, behind reads that went through
  pub one_more_read : (most : ℕ) (old between : M) (ok : Bool) (new : M) → AreRead reads most old true between → reads between ok new
      → AreRead reads (suc most) old ok new
  unfolding AreRead
  one_more_read most old between true new before now = more most old before
    where
      more : (n : ℕ) (m : M) → AreRead reads n m true between → AreRead reads (suc n) m true new
      more zero m r = inr (inr (new, subst (λ (x : M). reads x true new) r.1 now, (refl, refl)))
      more (suc n) m (inl r) = inr (inr (new, subst (λ (x : M). reads x true new) r.1 now, inl (refl, refl)))
      more (suc n) m (inr (inl r)) = absurd (true≢false r.0)
      more (suc n) m (inr (inr r)) = inr (inr (r.0, r.1, more n r.0 r.2))
  one_more_read most old between false new before now = more most old before
    where
      more : (n : ℕ) (m : M) → AreRead reads n m true between → AreRead reads (suc n) m false new
      more zero m r = inr (inl (refl, subst (λ (x : M). reads x false new) r.1 now))
      more (suc n) m (inl r) = inr (inl (refl, subst (λ (x : M). reads x false new) r.1 now))
      more (suc n) m (inr (inl r)) = absurd (true≢false r.0)
      more (suc n) m (inr (inr r)) = inr (inr (r.0, r.1, more n r.0 r.2))

  pub no_reads : (most : ℕ) (m : M) → AreRead reads most m true m
  unfolding AreRead
  no_reads zero m = (refl, refl)
  no_reads (suc most) m = inl (refl, refl)

  -- a greater bound
  pub more_reads : (most : ℕ) (old : M) (ok : Bool) (new : M) → AreRead reads most old ok new → AreRead reads (suc most) old ok new
  unfolding AreRead
  more_reads zero old ok new r = inl r
  more_reads (suc most) old ok new (inl r) = inl r
  more_reads (suc most) old ok new (inr (inl r)) = inr (inl r)
  more_reads (suc most) old ok new (inr (inr r)) = inr (inr (r.0, r.1, more_reads most r.0 ok new r.2))

  pub reads_up_to : (most more : ℕ) (old : M) (ok : Bool) (new : M) → AreRead reads most old ok new → most ≤ more → AreRead reads more old ok new
  reads_up_to most zero old ok new r low = subst (λ n. AreRead reads n old ok new) (omega arith) r
  reads_up_to most (suc more) old ok new r low = by_cases (λ below. reads_up_to most more old ok new r below) (cases_lt more most)
    where
      by_cases : (most ≤ more → AreRead reads more old ok new) → (more < most) ⊎ (most ≤ more) → AreRead reads (suc more) old ok new
      by_cases again (inl above) = subst (λ n. AreRead reads n old ok new) (omega arith) r
      by_cases again (inr below) = more_reads more old ok new (again below)

-- ---- planned

pub reads_content : (most : ℕ) (old : Memory) (ok : Bool) (new : Memory) → AreRead ReadsAsPlanned most old ok new → new.content ≡ old.content
unfolding AreRead
reads_content zero old ok new r = ap (λ (m : Memory). m.content) r.1
reads_content (suc most) old ok new (inl r) = ap (λ (m : Memory). m.content) r.1
reads_content (suc most) old ok new (inr (inl r)) = ap (λ (m : Memory). m.content) r.1.memory
reads_content (suc most) old ok new (inr (inr r)) = reads_content most r.0 ok new r.2 ∙ ap (λ (m : Memory). m.content) r.1.memory

pub reads_plan : (most : ℕ) (old : Memory) (ok : Bool) (new : Memory) → AreRead ReadsAsPlanned most old ok new → new.plan ≡ old.plan
unfolding AreRead
reads_plan zero old ok new r = ap (λ (m : Memory). m.plan) r.1
reads_plan (suc most) old ok new (inl r) = ap (λ (m : Memory). m.plan) r.1
reads_plan (suc most) old ok new (inr (inl r)) = ap (λ (m : Memory). m.plan) r.1.memory
reads_plan (suc most) old ok new (inr (inr r)) = reads_plan most r.0 ok new r.2 ∙ ap (λ (m : Memory). m.plan) r.1.memory

next_none : (r : Option ℕ) → r ≡ None → not (is_next_read r) ≡ true
next_none r none = ap (λ x. not (is_next_read x)) none

pub reads_surely : (most : ℕ) (old : Memory) (ok : Bool) (new : Memory) → AreRead ReadsAsPlanned most old ok new → old.failing_read ≡ None
    → (ok ≡ true) × (new ≡ old)
unfolding AreRead
reads_surely zero old ok new r none = r
reads_surely (suc most) old ok new (inl r) none = r
reads_surely (suc most) old ok new (inr (inl r)) none = absurd (false≢true (r.1.answer ∙ next_none old.failing_read none))
reads_surely (suc most) old ok new (inr (inr r)) none =
    let same : r.0 ≡ old = r.1.memory ∙ (grind arith) in
    let rest = reads_surely most r.0 ok new r.2 (ap (λ (m : Memory). m.failing_read) same ∙ none) in
    (rest.0, rest.1 ∙ same)

-- ---- surely

sure_reads : (most : ℕ) (old : List ℕ) (ok : Bool) (new : List ℕ) → AreRead ReadsSurely most old ok new → (ok ≡ true) × (new ≡ old)
unfolding AreRead
sure_reads zero old ok new r = r
sure_reads (suc most) old ok new (inl r) = r
sure_reads (suc most) old ok new (inr (inl r)) = absurd (false≢true r.1.answer)
sure_reads (suc most) old ok new (inr (inr r)) =
    let rest = sure_reads most r.0 ok new r.2 in (rest.0, rest.1 ∙ r.1.memory)

sure_writes : (planned : List Write) (old : List ℕ) (ok : Bool) (new : List ℕ) → AreMade WritesSurely planned old ok new
    → (ok ≡ true) × (new ≡ after_writes planned old)
sure_writes [] old ok new made = made
sure_writes (w ∷ planned) old ok new (inl failed) = absurd (false≢true failed.1.answer)
sure_writes (w ∷ planned) old ok new (inr rest) =
    let later = sure_writes planned rest.0 ok new rest.2 in (later.0, later.1 ∙ ap (after_writes planned) rest.1.memory)

pub sure_calls : (most : ℕ) (planned : List Write) (old : List ℕ) (ok : Bool) (new : List ℕ) → AreCalled ReadsSurely WritesSurely most planned old ok new
    → (ok ≡ true) × (new ≡ after_writes planned old)
sure_calls most planned old ok new (inl failed) = absurd (false≢true (sure_reads most old false new failed.1).0)
sure_calls most planned old ok new (inr rest) =
    let made = sure_writes planned rest.0 ok new rest.2 in
    (made.0, made.1 ∙ ap (after_writes planned) (sure_reads most old true rest.0 rest.1).1)
