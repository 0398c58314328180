-- An end that waits, over lists of events.
use Rattle.std.proofs.Common.{◌≡◌, ℕ, zero, suc, ◌+◌, ◌/◌, ◌%◌, ◌<◌, ◌≤◌, Bool, true, false, cond, eqb, leb, List, [], ◌∷◌, refl, sym, ap, ◌∙◌, arith}
use Rattle.std.specs.Prelude.{Option, Some, None}
use Rattle.std.specs.List.{AllByRecursion}
use Rattle.std.proofs.lemmas.Grind.{common_steps}
use Rattle.std.proofs.lemmas.Option.{none-some}
use Rattle.swp_base.specs.declared.control_frames.Act.{Act}
use Rattle.swp_base.specs.declared.control_frames.Act.TheVariants.{Ready, SyncId, PowerMode}
use Rattle.swp_act.specs.declared.ActEvent.{ActEvent}
use Rattle.swp_act.specs.declared.ActEvent.TheVariants.{Start, Take, Tick, Stop}
use Rattle.swp_act.specs.declared.ActOut.{ActOut}
use Rattle.swp_act.specs.declared.Phase.{Phase}
use Rattle.swp_act.specs.declared.Phase.TheVariants.{Inactive, Awaiting, Active}
use Rattle.swp_act.specs.declared.uicc.UiccAct.{UiccAct}
use Rattle.swp_act.specs.declared.clf.ClfAct.{ClfAct}
use Rattle.swp_act.specs.Activation.{uicc_step, clf_step, phase_ticked, out_ticked, uicc_powered, clf_synced, clf_readied, no_act_out}
use Rattle.swp_act.specs.Tries.{uicc_after, clf_after, ticks_in, IsNoPowerMode, IsNoReady, ticks_from, answer_to_tick}

-- a phase after n ticks
abbrev phase_after : ℕ → Phase → Phase
phase_after zero p = p
phase_after (suc n) p = phase_after n (phase_ticked p)

-- one tick of an end that waits
tick_counts : (t k : ℕ) → k < 9 → phase_ticked (Awaiting t k) ≡ Awaiting t (k + 1)
tick_counts t k low =
    let no : leb 10 (k + 1) ≡ false = grind (arith, common_steps) in ap (λ b. cond b (cond (leb 3 t) Inactive (Awaiting (t + 1) 0)) (Awaiting t (k + 1))) no

tick_tries : (t : ℕ) → t < 3 → phase_ticked (Awaiting t 9) ≡ Awaiting (t + 1) 0
tick_tries t low = let no : leb 3 t ≡ false = grind (arith, common_steps) in ap (λ b. cond b Inactive (Awaiting (t + 1) 0)) no

-- the first of n + 1 more ticks: it is the tenth since the t-th try, or it isn't
waits_by_place : (n t k : ℕ) (b : Bool) → leb 9 k ≡ b → k < 10 → t + (k + suc n) / 10 ≤ 3
    → ((u i : ℕ) → i < 10 → u + (i + n) / 10 ≤ 3 → phase_after n (Awaiting u i) ≡ Awaiting (u + (i + n) / 10) ((i + n) % 10))
    → phase_after n (phase_ticked (Awaiting t k)) ≡ Awaiting (t + (k + suc n) / 10) ((k + suc n) % 10)
waits_by_place n t k true e low fits more =
    let nine : k ≡ 9 = grind (arith, common_steps) in
    ap (λ i. phase_after n (phase_ticked (Awaiting t i))) nine
    ∙ (ap (phase_after n) (tick_tries t (omega arith))
    ∙ (more (t + 1) 0 (omega arith) (omega arith)
    ∙ (ap (λ i. Awaiting i ((0 + n) % 10)) (omega arith) ∙ ap (Awaiting (t + (k + suc n) / 10)) (omega arith))))
waits_by_place n t k false e low fits more =
    let below : k < 9 = grind (arith, common_steps) in
    ap (phase_after n) (tick_counts t k below)
    ∙ (more t (k + 1) (omega arith) (omega arith)
    ∙ (ap (λ i. Awaiting i (((k + 1) + n) % 10)) (omega arith) ∙ ap (Awaiting (t + (k + suc n) / 10)) (omega arith)))

-- n more ticks, from k ticks after the t-th try
waits : (n t k : ℕ) → k < 10 → t + (k + n) / 10 ≤ 3 → phase_after n (Awaiting t k) ≡ Awaiting (t + (k + n) / 10) ((k + n) % 10)
waits zero t k low fits = sym (ap (λ a. Awaiting a ((k + 0) % 10)) (omega arith) ∙ ap (Awaiting t) (omega arith))
waits (suc n) t k low fits = waits_by_place n t k (leb 9 k) refl low fits (λ u i. waits n u i)

-- what the tick after n ticks since the t-th try answers
answer_is : (last : Option Act) (t n : ℕ) → t ≤ 3 → n < ticks_from t → out_ticked (Awaiting (t + n / 10) (n % 10)) last ≡ answer_to_tick last t (n + 1)
answer_is last t n small fits = by_tenth (eqb ((n + 1) % 10) 0) refl (same_tenth (leb 10 (n % 10 + 1)) (eqb ((n + 1) % 10) 0) refl refl)
  where
    same_tenth : (a b : Bool) → leb 10 (n % 10 + 1) ≡ a → eqb ((n + 1) % 10) 0 ≡ b → a ≡ b
    same_tenth true true p q = refl
    same_tenth false false p q = refl
    same_tenth true false p q = absurd (grind (arith, common_steps))
    same_tenth false true p q = absurd (grind (arith, common_steps))

    same_third : (a b : Bool) → (n + 1) % 10 ≡ 0 → leb 3 (t + n / 10) ≡ a → eqb (n + 1) (ticks_from t) ≡ b → a ≡ b
    same_third true true d p q = refl
    same_third false false d p q = refl
    same_third true false d p q = absurd (grind (arith, common_steps))
    same_third false true d p q = absurd (grind (arith, common_steps))

    given_up : ActOut
    given_up = record { send = None; became_active = false; ended_link = false; sync = None; gave_up = Some 3 }

    by_tenth : (b : Bool) → eqb ((n + 1) % 10) 0 ≡ b → leb 10 (n % 10 + 1) ≡ eqb ((n + 1) % 10) 0
        → out_ticked (Awaiting (t + n / 10) (n % 10)) last ≡ answer_to_tick last t (n + 1)
    by_tenth true e same =
        let d : (n + 1) % 10 ≡ 0 = grind (arith, common_steps) in
        rw ((same ∙ e), e, (same_third (leb 3 (t + n / 10)) (eqb (n + 1) (ticks_from t)) d refl refl)) refl
    by_tenth false e same =
        rw ((same ∙ e), e) refl

-- what doesn't answer a UICC changes nothing but its ticks
uicc_kept : (s : UiccAct) (es : List ActEvent) → AllByRecursion IsNoPowerMode es
    → uicc_after s es ≡ record { phase = phase_after (ticks_in es) s.phase; last = s.last }
uicc_kept s [] quiet = refl
uicc_kept s (Start value ∷ es) quiet = absurd quiet.0
uicc_kept s (Take act true ∷ es) quiet = uicc_kept s es quiet.1
uicc_kept s (Take (PowerMode code) false ∷ es) quiet =
    let other : leb code 1 ≡ false = grind (arith, common_steps, quiet.0) in
    rw other (uicc_kept s es quiet.1)
uicc_kept s (Take Ready false ∷ es) quiet = uicc_kept s es quiet.1
uicc_kept s (Take (SyncId id) false ∷ es) quiet = uicc_kept s es quiet.1
uicc_kept s (Tick ∷ es) quiet = uicc_kept (record { phase = phase_ticked s.phase; last = s.last }) es quiet.1
uicc_kept s (Stop ∷ es) quiet = absurd quiet.0

clf_kept : (s : ClfAct) (es : List ActEvent) → AllByRecursion IsNoReady es
    → clf_after s es ≡ record { phase = phase_after (ticks_in es) s.phase; last = s.last; power = s.power }
clf_kept s [] quiet = refl
clf_kept s (Start value ∷ es) quiet = absurd quiet.0
clf_kept s (Take act true ∷ es) quiet = clf_kept s es quiet.1
clf_kept s (Take (PowerMode code) false ∷ es) quiet = clf_kept s es quiet.1
clf_kept s (Take Ready false ∷ es) quiet = absurd quiet.0
clf_kept s (Take (SyncId id) false ∷ es) quiet = absurd quiet.0
clf_kept s (Tick ∷ es) quiet = clf_kept (record { phase = phase_ticked s.phase; last = s.last; power = s.power }) es quiet.1
clf_kept s (Stop ∷ es) quiet = absurd quiet.0

-- the answer to one more tick, n ticks after a try
answer_after : (last : Option Act) (t n : ℕ) → t ≤ 3 → n < ticks_from t → out_ticked (phase_after n (Awaiting t 0)) last ≡ answer_to_tick last t (n + 1)
answer_after last t n small fits =
    ap (λ p. out_ticked p last) (waits n t 0 (omega arith) (omega arith))
    ∙ (ap (λ m. out_ticked (Awaiting (t + m / 10) (m % 10)) last) (omega arith) ∙ answer_is last t n small fits)

pub uicc_tries : (s : UiccAct) (id : ℕ) (between : List ActEvent) → AllByRecursion IsNoPowerMode between → ticks_in between < 30
    → (uicc_step (uicc_after s (Start id ∷ between)) Tick).1 ≡ answer_to_tick (Some (SyncId id)) 1 (ticks_in between + 1)
uicc_tries s id between quiet few =
    ap (λ u. (uicc_step u Tick).1) (uicc_kept (record { phase = Awaiting 1 0; last = Some (SyncId id) }) between quiet)
    ∙ answer_after (Some (SyncId id)) 1 (ticks_in between) (omega arith) few

clf_waits : (power id t : ℕ) (between : List ActEvent) → t ≤ 3 → AllByRecursion IsNoReady between → ticks_in between < ticks_from t →
    (clf_step (clf_after (record { phase = Awaiting t 0; last = Some (PowerMode power); power = power }) between) Tick).1 ≡ answer_to_tick
    (Some (PowerMode power)) t (ticks_in between + 1)
clf_waits power id t between small quiet few =
    ap (λ u. (clf_step u Tick).1) (clf_kept (record { phase = Awaiting t 0; last = Some (PowerMode power); power = power }) between quiet)
    ∙ answer_after (Some (PowerMode power)) t (ticks_in between) small few

pub clf_tries_first : (s : ClfAct) (id : ℕ) (between : List ActEvent) → ((tries ticks : ℕ) → s.phase ≡ Awaiting tries ticks → ⊥)
    → AllByRecursion IsNoReady between → ticks_in between < 30
    → (clf_step (clf_after s (Take (SyncId id) false ∷ between)) Tick).1 ≡ answer_to_tick (Some (PowerMode s.power)) 1 (ticks_in between + 1)
clf_tries_first s id between idle quiet few = by_phase s.phase s.last s.power idle
  where
    by_phase : (p : Phase) (last : Option Act) (power : ℕ) → ((tries ticks : ℕ) → p ≡ Awaiting tries ticks → ⊥)
        → (clf_step (clf_after (record { phase = p; last = last; power = power }) (Take (SyncId id) false ∷ between)) Tick).1
        ≡ answer_to_tick (Some (PowerMode power)) 1 (ticks_in between + 1)
    by_phase Inactive last power idle = clf_waits power id 1 between (omega arith) quiet few
    by_phase (Awaiting tries ticks) last power idle = absurd (idle tries ticks refl)
    by_phase Active last power idle = clf_waits power id 1 between (omega arith) quiet few

pub clf_tries_later : (s : ClfAct) (id tries ticks : ℕ) (between : List ActEvent) → s.phase ≡ Awaiting tries ticks → tries ≤ 3
    → AllByRecursion IsNoReady between → ticks_in between < ticks_from tries
    → (clf_step (clf_after s (Take (SyncId id) false ∷ between)) Tick).1 ≡ answer_to_tick (Some (PowerMode s.power)) tries (ticks_in between + 1)
clf_tries_later s id tries ticks between waiting small quiet few =
    ap (λ p. (clf_step (clf_after (record { phase = p; last = s.last; power = s.power }) (Take (SyncId id) false ∷ between)) Tick).1) waiting
    ∙ clf_waits s.power id tries between small quiet few

-- an end gives up only while it waits
ticked_up : (p : Phase) (last : Option Act) → (n : ℕ) → (out_ticked p last).gave_up ≡ Some n
    → (n ≡ 3) × (tries ticks : ℕ) × (p ≡ Awaiting tries ticks) × (3 ≤ tries) × (9 ≤ ticks)
ticked_up Inactive last n some = absurd (none-some n some)
ticked_up (Awaiting tries ticks) last n some = by_tests (leb 10 (ticks + 1)) (leb 3 tries) refl refl
  where
    by_tests : (a b : Bool) → leb 10 (ticks + 1) ≡ a → leb 3 tries ≡ b → (n ≡ 3) × (m k : ℕ) × (Awaiting tries ticks ≡ Awaiting m k) × (3 ≤ m) × (9 ≤ k)
    by_tests true true p q = (let e : Some 3 ≡ Some n = rw (p, q) at some in cc, tries, ticks, refl, grind (arith, common_steps), grind (arith, common_steps))
    by_tests true false p q = absurd (none-some n (rw (p, q) at some))
    by_tests false b p q = absurd (none-some n (rw p at some))
ticked_up Active last n some = absurd (none-some n some)

pub uicc_gives_up : (s : UiccAct) (e : ActEvent) → (n : ℕ) → (uicc_step s e).1.gave_up ≡ Some n
    → (n ≡ 3) × (e ≡ Tick) × (tries ticks : ℕ) × (s.phase ≡ Awaiting tries ticks) × (3 ≤ tries) × (9 ≤ ticks)
uicc_gives_up s (Start value) n some = absurd (none-some n some)
uicc_gives_up s (Take act true) n some = absurd (none-some n some)
uicc_gives_up s (Take (PowerMode code) false) n some = by_code (leb code 1) s.phase refl some
  where
    by_code : (b : Bool) (p : Phase) → leb code 1 ≡ b → (cond b (uicc_powered p s) (s, no_act_out)).1.gave_up ≡ Some n
        → (n ≡ 3) × (Take (PowerMode code) false ≡ Tick) × (tries ticks : ℕ) × (s.phase ≡ Awaiting tries ticks) × (3 ≤ tries) × (9 ≤ ticks)
    by_code true Inactive e some = absurd (none-some n some)
    by_code true (Awaiting tries ticks) e some = absurd (none-some n some)
    by_code true Active e some = absurd (none-some n some)
    by_code false p e some = absurd (none-some n some)
uicc_gives_up s (Take Ready false) n some = absurd (none-some n some)
uicc_gives_up s (Take (SyncId id) false) n some = absurd (none-some n some)
uicc_gives_up s Tick n some = let up = ticked_up s.phase s.last n some in (up.0, refl, up.1, up.2, up.3, up.4, up.5)
uicc_gives_up s Stop n some = absurd (none-some n some)

pub clf_gives_up : (s : ClfAct) (e : ActEvent) → (n : ℕ) → (clf_step s e).1.gave_up ≡ Some n
    → (n ≡ 3) × (e ≡ Tick) × (tries ticks : ℕ) × (s.phase ≡ Awaiting tries ticks) × (3 ≤ tries) × (9 ≤ ticks)
clf_gives_up s (Start value) n some = absurd (none-some n some)
clf_gives_up s (Take act true) n some = absurd (none-some n some)
clf_gives_up s (Take (SyncId id) false) n some = by_phase s.phase some
  where
    by_phase : (p : Phase) → (clf_synced p s id).1.gave_up ≡ Some n
        → (n ≡ 3) × (Take (SyncId id) false ≡ Tick) × (tries ticks : ℕ) × (s.phase ≡ Awaiting tries ticks) × (3 ≤ tries) × (9 ≤ ticks)
    by_phase Inactive some = absurd (none-some n some)
    by_phase (Awaiting tries ticks) some = absurd (none-some n some)
    by_phase Active some = absurd (none-some n some)
clf_gives_up s (Take Ready false) n some = by_phase s.phase some
  where
    by_phase : (p : Phase) → (clf_readied p s).1.gave_up ≡ Some n
        → (n ≡ 3) × (Take Ready false ≡ Tick) × (tries ticks : ℕ) × (s.phase ≡ Awaiting tries ticks) × (3 ≤ tries) × (9 ≤ ticks)
    by_phase Inactive some = absurd (none-some n some)
    by_phase (Awaiting tries ticks) some = absurd (none-some n some)
    by_phase Active some = absurd (none-some n some)
clf_gives_up s (Take (PowerMode code) false) n some = absurd (none-some n some)
clf_gives_up s Tick n some = let up = ticked_up s.phase s.last n some in (up.0, refl, up.1, up.2, up.3, up.4, up.5)
clf_gives_up s Stop n some = absurd (none-some n some)
