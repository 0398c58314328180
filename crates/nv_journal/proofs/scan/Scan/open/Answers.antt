use Rattle.std.proofs.Common.{not, ◌≢◌}
use Rattle.std.proofs.lemmas.Bool.Decides.{nat_tests}
use Rattle.nv_journal.proofs.Words.{BadRecord, Bool, Head, IsPassed, IsTrue, Journal, List, None, Option, Says, SaysSoFar, Side, Some, State, UnknownFormat, []}
use Rattle.nv_journal.proofs.Words.{ap, ap₂, arith, bank, cond, current, drop, false, fault, found_from, gate_at, head, inl, inr, is_opened_gate, is_some}
use Rattle.nv_journal.proofs.Words.{journal, journal_in_use, length, length-bank, no_journal, option_map_or, other, reads_up_to, records, refl, subst, sym}
use Rattle.nv_journal.proofs.Words.{true, true≢false, unformatted, ℕ, ◌==◌, ◌||◌, ◌∙◌, ◌≡◌, ◌≤◌, ◌⊎◌}
use Rattle.nv_journal.specs.Faults.{IsKnown, is_known}
use Rattle.nv_journal.specs.Scanning.{begun_in, begun_scan, head_at}
use Rattle.nv_journal.proofs.scan.Scan.open.Goals as goal
use Rattle.nv_journal.proofs.scan.Scan.open.Goals.{else-state-ne1-via-then-state-ne1+else-state-ne2, else-state-ne1-via-else-state-ne1}
use Rattle.journal_laws.specs.declared.banks.Side.TheVariants.{First, Second}
use Rattle.journal_laws.specs.Banks.{newer}
use Rattle.journal_laws.specs.Journal.{state_by}
use Rattle.journal_laws.proofs.Reading.{behind-none}

-- A pass in front of the first record.
head_at_side : (c : List ℕ) (side : Side) → head_at (head c First) (head c Second) side ≡ head c side
head_at_side c First = refl
head_at_side c Second = refl

module _ (c : List ℕ) (long : 65536 ≤ length c) where
  abbrev state : State
  state = begun_scan (head c First) (head c Second)

  abbrev state_in : Option Side → State
  state_in o = option_map_or
      (λ side. begun_in side (head_at (head c First) (head c Second) side) (is_opened_gate (head_at (head c First) (head c Second) (other side)).gate))
      o (state_by None unformatted false)

  begun_side : (side : Side) → current c ≡ Some side → state ≡ begun_in side (head c side) (is_opened_gate (head c (other side)).gate)
  begun_side side is =
      ap state_in is
      ∙ ap₂ (λ (h : Head) (k : Head). begun_in side h (is_opened_gate k.gate)) (head_at_side c side) (head_at_side c (other side))

  passed_side : (side : Side) → current c ≡ Some side → IsPassed c side (begun_in side (head c side) (is_opened_gate (head c (other side)).gate)) []
  passed_side side is = record {
    in_use = is;
    version = refl;
    generation = refl;
    base = refl;
    snapshot = refl;
    beside = refl;
    passed = [];
    many = refl;
    size = refl;
    found = ap (λ n. found_from (head c side).version n 0 (drop 12 (bank c side))) (length-bank c side long)
        ∙ sym (behind-none (found_from (head c side).version 32768 0 (drop 12 (bank c side))));
    ahead_is = refl;
  }

  in_use_begun : current c ≡ state.in_use
  in_use_begun = by_bank (current c) refl
    where
      by_bank : (o : Option Side) → current c ≡ o → current c ≡ state.in_use
      by_bank None is = is ∙ ap (λ (s : State). s.in_use) (sym (ap state_in is))
      by_bank (Some side) is = is ∙ ap (λ (s : State). s.in_use) (sym (begun_side side is))

  version_begun : (journal c).head.version ≡ state.version
  version_begun = by_bank (current c) refl
    where
      by_bank : (o : Option Side) → current c ≡ o → (journal c).head.version ≡ state.version
      by_bank None is = ap (λ (j : Journal). j.head.version) (no_journal c is) ∙ ap (λ (s : State). s.version) (sym (ap state_in is))
      by_bank (Some side) is = ap (λ (j : Journal). j.head.version) (journal_in_use c side is) ∙ ap (λ (s : State). s.version) (sym (begun_side side is))

  none_begun : current c ≡ None → IsTrue (state.version == 1 || state.version == 2) → Says c state
  none_begun is known = record {
    size = long;
    state_is = ap₂ (λ o (j : Journal). state_by o j (option_map_or (λ side. is_opened_gate (head c (other side)).gate) o false)) is (no_journal c is)
        ∙ sym (ap state_in is);
    sound = record {
      known = subst (λ v. IsTrue (v == 1 || v == 2)) (sym version_begun) known;
      good = ap (λ (j : Journal). j.found.is_bad) (no_journal c is);
    };
  }

  -- a pass ends before its first record exactly where no bank is in use
  says_begun : (ended : Bool) → is_some state.in_use ≡ not ended → IsTrue (state.version == 1 || state.version == 2) → SaysSoFar c state [] ended
  says_begun ended is known = record {
    size = long;
    in_use = in_use_begun;
    passed = λ side used. let now : current c ≡ Some side = in_use_begun ∙ used in
        subst (λ s. IsPassed c side s []) (sym (begun_side side now)) (passed_side side now);
    at_end = λ at_end. none_begun (in_use_begun ∙ none state.in_use (is ∙ ap not at_end)) known;
  }
    where
      none : (o : Option Side) → is_some o ≡ false → o ≡ None
      none None e = refl
      none (Some side) e = absurd (true≢false e)

  unknown_is_told : state.version ≢ 1 → state.version ≢ 2 → fault c ≡ Some (UnknownFormat state.version)
  unknown_is_told not_1 not_2 =
      ap (λ v. cond (v == 1 || v == 2) (cond (journal c).found.is_bad (Some (BadRecord (gate_at c (length (records c))))) None)
      (Some (UnknownFormat v))) version_begun
      ∙ ap (λ b. cond b (cond (journal c).found.is_bad (Some (BadRecord (gate_at c (length (records c))))) None) (Some (UnknownFormat state.version)))
      (unknown state.version not_1 not_2)
    where
      unknown : (v : ℕ) → v ≢ 1 → v ≢ 2 → (v == 1 || v == 2) ≡ false
      unknown v a b = grind (arith, nat_tests)

idle_begun : (o : Option Side) (ended : Bool) → is_some o ≡ not ended → o ≡ None → IsTrue ended
idle_begun o true is none = refl
idle_begun o false is none = absurd (true≢false (sym is ∙ ap is_some none))

known_begun : (v : ℕ) → (v ≡ 1) ⊎ (v ≡ 2) → IsTrue (v == 1 || v == 2)
known_begun v (inl one) = subst (λ n. IsTrue (n == 1 || n == 2)) (sym one) refl
known_begun v (inr two) = subst (λ n. IsTrue (n == 1 || n == 2)) (sym two) refl

-- a pass begins at the first gate
begun_size : (h k : Head) → ((begun_scan h k).size ≡ 0) × ((begun_scan h k).many ≡ 0)
begun_size h k = by_bank (newer h k)
  where
    state_in' : Option Side → State
    state_in' o = option_map_or (λ side. begun_in side (head_at h k side) (is_opened_gate (head_at h k (other side)).gate)) o (state_by None unformatted false)

    by_bank : (o : Option Side) → ((state_in' o).size ≡ 0) × ((state_in' o).many ≡ 0)
    by_bank None = (refl, refl)
    by_bank (Some side) = (refl, refl)

unknown_version : (v : ℕ) → v ≢ 1 → v ≢ 2 → (v == 1 || v == 2) ≡ false
unknown_version v a b = grind (arith, nat_tests)

pub returns-in-Err-clause-refused : goal.returns-in-Err-clause-refused
returns-in-Err-clause-refused g c = (
  inl record {
    fault = refl;
    read = reads_up_to g.N.Nv.reads 2 37 c.args.nv false c.read_heads.new.nv c.in-Err.ensures.step (omega arith);
    rose = c.in-Err.ensures.fault;
  },
  c.in-Err.ensures.kept,
)

pub returns-then-state-ne2-clause-refused : goal.returns-then-state-ne2-clause-refused
returns-then-state-ne2-clause-refused g c = (
  inr record {
    fault_is = tt;
    read = reads_up_to g.N.Nv.reads 2 37 c.args.nv true c.read_heads.new.nv c.in-Ok.ensures.step (omega arith);
    told = λ tells.
        let content = g.N.Nv.content c.args.nv in
        let heads = c.in-Ok.ensures.heads tells in
        let is : c.begun-state.result ≡ begun_scan (head content First) (head content Second) = c.begun-state.ensures ∙ ap₂ begun_scan heads.0 heads.1 in
        let long : 65536 ≤ length content = omega (arith, g.met.N.Nv.sized c.args.nv tells, c.requires) in
        rw is
        (unknown_is_told content long (λ e. c.if-state-ne1.true (ap (λ (s : State). s.version) is ∙ e))
        (λ e. c.if-state-ne2.true (ap (λ (s : State). s.version) is ∙ e)));
  },
  c.in-Ok.ensures.kept,
)

pub invariant_of-result : goal.invariant_of-result
invariant_of-result g c =
    let s = c.begun-state.result in
    let zero = begun_size c.in-Ok.heads.0 c.in-Ok.heads.1 in
    let none = ap (λ (t : State). t.size) c.begun-state.ensures ∙ zero.0 in
    let known : IsTrue (s.version == 1 || s.version == 2) = elim c.else-state-ne1.branch [
      | else-state-ne1-via-then-state-ne1+else-state-ne2 w ↦ known_begun s.version (inr w.if-state-ne2.false)
      | else-state-ne1-via-else-state-ne1 w ↦ known_begun s.version (inl w.if-state-ne1.false)
    ] in
    record {
      size = c.in-Ok.ensures.size ∙ c.requires;
      inside = omega (arith, none);
      read = omega (arith, none, ap length c.new.ensures);
      few = omega (arith, none, (ap (λ (t : State). t.many) c.begun-state.ensures ∙ zero.1));
      known = known;
      idle = idle_begun s.in_use c.is_none-ended.result c.is_none-ended.ensures;
      says = λ tells.
          let content = g.N.Nv.content c.args.nv in
          let heads = c.in-Ok.ensures.heads tells in
          let is : s ≡ begun_scan (head content First) (head content Second) = c.begun-state.ensures ∙ ap₂ begun_scan heads.0 heads.1 in
          let long : 65536 ≤ length content = omega (arith, g.met.N.Nv.sized c.args.nv tells, c.requires) in
          rw (c.in-Ok.ensures.kept tells, c.new.ensures, is)
          (says_begun content long c.is_none-ended.result (rw is at c.is_none-ended.ensures) (rw is at known));
    }

pub returns-clause-known : goal.returns-clause-known
returns-clause-known g c = λ tells.
    let s = c.begun-state.result in
    let content = g.N.Nv.content c.args.nv in
    let heads = c.in-Ok.ensures.heads tells in
    let long : 65536 ≤ length content = omega (arith, g.met.N.Nv.sized c.args.nv tells, c.requires) in
    let known : IsKnown s.version = elim c.else-state-ne1.branch [
      | else-state-ne1-via-then-state-ne1+else-state-ne2 w ↦ known_begun s.version (inr w.if-state-ne2.false)
      | else-state-ne1-via-else-state-ne1 w ↦ known_begun s.version (inl w.if-state-ne1.false)
    ] in
    subst IsKnown (ap (λ (t : State). t.version) (c.begun-state.ensures ∙ ap₂ begun_scan heads.0 heads.1) ∙ sym (version_begun content long)) known

pub returns-then-state-ne2-clause-unknown : goal.returns-then-state-ne2-clause-unknown
returns-then-state-ne2-clause-unknown g c = λ tells.
    let content = g.N.Nv.content c.args.nv in
    let heads = c.in-Ok.ensures.heads tells in
    let long : 65536 ≤ length content = omega (arith, g.met.N.Nv.sized c.args.nv tells, c.requires) in
    inr (ap is_known (version_begun content long ∙ sym (ap (λ (t : State). t.version) (c.begun-state.ensures ∙ ap₂ begun_scan heads.0 heads.1)))
    ∙ unknown_version c.begun-state.result.version c.if-state-ne1.true c.if-state-ne2.true)
