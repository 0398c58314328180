-- A run over any memory is a run of a node alone, over a memory that keeps its bytes and of which one write fails as planned.
use Rattle.std.proofs.Common.{slice_index}
use Rattle.std.proofs.lemmas.Bool.Decides.{nat_tests}
use Rattle.std.proofs.lemmas.Nat.{mod-mul-add}
use Rattle.std.proofs.lemmas.List.FromFn.{fill_by_all}
use Rattle.one_end.proofs.Words.{Bool, EndForm, Foretells, IsRunOfBytes, List, Lone, Memory, None, Option, Running, Some, WereMade, Write, [], after_planned}
use Rattle.one_end.proofs.Words.{after_planned-append, ap, append-nil, arith, booted_from, cond, end_booted, end_causes, end_written, false, found_in_memory}
use Rattle.one_end.proofs.Words.{get_or, is_none, length, lone_after, new_link_end, plan_behind, planned_whole, refl, role_alone, subst, suc, sym, true, zero}
use Rattle.one_end.proofs.Words.{ℕ, ◌%◌, ◌++◌, ◌+◌, ◌<◌, ◌∙◌, ◌∷◌, ◌≡◌}
use Rattle.swp_base.specs.InMemory.{Plan, cycled, plan_after}
use Rattle.swp_base.specs.Outside.{overwritten, IsWritten}
use Rattle.journal_laws.specs.Writes.{AreMade, IsCut, after_writes}
use Rattle.journal_laws.specs.Planned.{fails_within}
use Rattle.journal_laws.proofs.Planned.{made_whole, made_in_part, none_within}
use Rattle.hci_store.specs.Starting.{ready_writes, HasWritten}
use Rattle.node_machine.specs.Node.{found, boot_writes}
use Rattle.node_laws.proofs.cuts.Commits.{IsFilled, planned_filled}
use Rattle.lone_laws.specs.alone.Lone.{lone_booted}
use Rattle.lone_laws.specs.alone.Ends.{end_node}
use Rattle.lone_laws.specs.alone.Memories.{IsTakenMemory, behind_boot}
use Rattle.lone_laws.specs.alone.Runs.{IsAnsweredRun}
use Rattle.lone_laws.proofs.answered.Runs.{answered_run, boots_silently, found_again}
use Rattle.one_end.specs.WholeRuns.{IsRunAlone}

-- ## A node that begins over a memory that its boot has left

abbrev node_over : ℕ → Option Running → Memory → Lone
node_over number r m = record {
  number = number;
  link = 2;
  node = r;
  memory = m;
  side = new_link_end (role_alone number);
  rsets = 0;
  session = 0;
}

-- a boot over it writes nothing, and finds what that one found
begins_as : (number : ℕ) (old : List ℕ) → IsTakenMemory old → (m : Memory) → m.content ≡ behind_boot old → booted_from number old m ≡ lone_booted number 2 m
begins_as number old taken m is =
    let by : List Write → Running → Lone = λ w r. node_over number (cond (fails_within (length w) m.plan) None (Some r)) (after_planned w m) in
    let silent : boot_writes m.content ≡ [] = ap boot_writes is ∙ boots_silently old taken in
    let same : found number (2 ∷ []) m.content ≡ found_in_memory number (2 ∷ []) old =
    ap (found number (2 ∷ [])) is ∙ found_again old taken number (2 ∷ []) in
    ap (λ b. node_over number (cond b None (Some (found_in_memory number (2 ∷ []) old))) m) (sym (none_within m.plan))
    ∙ (ap (by []) (sym same) ∙ ap (λ w. by w (found number (2 ∷ []) m.content)) (sym silent))

-- ## A plan that foretells what became of the writes

abbrev plan_of : ℕ → List ℕ → Option Plan
plan_of nth fill = Some (record { nth = nth; fill = fill })

nearer_by : (n k : ℕ) (fill : List ℕ) → plan_after (plan_of (suc n + suc k) fill) ≡ plan_of (n + suc k) fill
nearer_by n k fill = grind arith

-- writes in front of the one that fails go through
spared : (n k : ℕ) (fill : List ℕ) → fails_within n (plan_of (n + suc k) fill) ≡ false
spared n k fill = grind (arith, nat_tests)

behind_spared : (ws : List Write) (k : ℕ) (fill : List ℕ) → plan_behind ws (plan_of (length ws + suc k) fill) ≡ plan_of (suc k) fill
behind_spared [] k fill = ap (λ n. plan_of n fill) (omega arith)
behind_spared (w ∷ ws) k fill = ap (plan_behind ws) (nearer_by (length ws) k fill) ∙ behind_spared ws k fill

-- bytes as a fill give themselves
fills_itself : (fill : List ℕ) → cycled fill (length fill) ≡ fill
fills_itself fill =
    sym (fill_by_all (λ i. slice_index fill (i % length fill)) fill (length fill) 0 refl
    (λ k within. ap (λ i. get_or fill i 0) (sym (ap (λ n. n % length fill) (omega arith) ∙ mod-mul-add 0 (length fill) k within))))

-- a cut has a fill
cut_filled : (k : ℕ) (ws : List Write) (old new : List ℕ) → IsCut k ws old new → (fill : List ℕ) × (k < length ws) × IsFilled k fill ws old new
cut_filled k [] old new cut = absurd cut
cut_filled zero (w ∷ ws) old new cut = (
  cut.0,
  omega arith,
  cut.2 ∙ ap (overwritten old w.at) (sym (ap (cycled cut.0) (sym cut.1) ∙ fills_itself cut.0)),
)
cut_filled (suc k) (w ∷ ws) old new cut =
    let later = cut_filled k ws (overwritten old w.at w.bytes) new cut in
    let within = later.1 in
    (later.0, omega (arith, within), later.2)

-- and leaves one memory
filled_same : (k : ℕ) (fill : List ℕ) (ws : List Write) (old a b : List ℕ) → IsFilled k fill ws old a → IsFilled k fill ws old b → a ≡ b
filled_same k fill [] old a b p q = absurd p
filled_same zero fill (w ∷ ws) old a b p q = p ∙ sym q
filled_same (suc k) fill (w ∷ ws) old a b p q = filled_same k fill ws (overwritten old w.at w.bytes) a b p q

-- ## A memory of such a plan

-- the writes of a run, as they were made
module _ {N : Type 0} (writes : N → ℕ → List ℕ → Bool → N → Type 0) (content : N → List ℕ)
    (told : (old : N) (at : ℕ) (bytes : List ℕ) (ok : Bool) (new : N) → writes old at bytes ok new → IsWritten ok (content old) (content new) at bytes) where
  abbrev memory_of_plan : List ℕ → Option Plan → Memory
  memory_of_plan c plan = record { content = c; plan = plan; failing_read = None; faults = 0 }

  -- such a memory, which begins as this one and ends as the other did
  record HasMemory (sure torn : List Write) (start end : List ℕ) (stopped : Bool) : Type 0 where
    plan : Option Plan
    foretells : Foretells plan sure torn stopped
    ends : (after_planned (sure ++ torn) (memory_of_plan start plan)).content ≡ end

  unplanned : (sure torn : List Write) (first new : N) → torn ≡ [] → AreMade writes sure first true new
      → HasMemory sure torn (content first) (content new) false
  unplanned sure torn first new none made =
      let m : Memory = memory_of_plan (content first) None in
      let ran = planned_whole sure m refl in
      record {
        plan = None;
        foretells = refl;
        ends = ap (λ l. (after_planned l m).content) (ap (λ l. sure ++ l) none ∙ append-nil sure)
            ∙ (ran.0 ∙ sym (made_whole writes content told sure first new made));
      }

  planned : (sure torn : List Write) (first mid new : N) → AreMade writes sure first true mid → AreMade writes torn mid false new
      → HasMemory sure torn (content first) (content new) true
  planned sure torn first mid new made cut =
      let part = made_in_part writes content told torn mid new cut in
      let k : ℕ = part.0 in
      let filled = cut_filled k torn (content mid) (content new) part.1 in
      let fill : List ℕ = filled.0 in
      let within = filled.1 in
      let p : Option Plan = plan_of (length sure + suc k) fill in
      let m : Memory = memory_of_plan (content first) p in
      let sure_spared : fails_within (length sure) p ≡ false = spared (length sure) k fill in
      let ran = planned_whole sure m sure_spared in
      let then : Memory = after_planned sure m in
      let last : plan_behind sure p ≡ plan_of (suc k) fill = behind_spared sure k fill in
      let content_then : then.content ≡ content mid = ran.0 ∙ sym (made_whole writes content told sure first mid made) in
      let fails : fails_within (length torn) (plan_of (suc k) fill) ≡ true = grind (arith, nat_tests, within) in
      record {
        plan = p;
        foretells = (sure_spared, ap (fails_within (length torn)) last ∙ fails);
        ends = ap (λ (x : Memory). x.content) (after_planned-append sure torn m sure_spared)
            ∙ filled_same k fill torn (content mid) (after_planned torn then).content (content new)
            (subst (λ c. IsFilled k fill torn c (after_planned torn then).content) content_then
            (planned_filled k fill torn then (ran.1 ∙ last) within)) filled.2;
      }

  has_memory : (sure torn : List Write) (first new : N) (stopped : Bool) → WereMade writes sure torn first stopped new
      → HasMemory sure torn (content first) (content new) stopped
  has_memory sure torn first new false made = unplanned sure torn first new made.0 made.1
  has_memory sure torn first new true made = planned sure torn first made.0 new made.1 made.2

  -- ## The run

  module _ (reads : N → Bool → N → Type 0) (old first new : N) (stopped : Bool) (form : EndForm) (is_clf : Bool) (bytes written : List ℕ)
      (taken : IsTakenMemory (content old)) (boot : HasWritten reads writes content (ready_writes (content old)) old true first)
      (run : IsRunOfBytes writes first new stopped form is_clf (content old) bytes written) where
    pub first_is : content first ≡ behind_boot (content old)
    first_is =
        made_whole writes content told (ready_writes (content old)) boot.read first boot.made
        ∙ ap (after_writes (ready_writes (content old))) boot.unchanged

    pub ran_alone : IsRunAlone (content first) (content new) stopped form is_clf bytes written
    ran_alone =
        let h = has_memory run.sure run.torn first new stopped run.made in
        let m : Memory = memory_of_plan (content first) h.plan in
        let same : end_booted is_clf (content old) m ≡ end_node is_clf m = begins_as (cond is_clf 0 2) (content old) taken m first_is in
        record {
          memory = m;
          content_is = refl;
          wrote = sym (ap (λ l. end_written form l bytes) same) ∙ run.wrote m h.foretells;
          now = grind arith;
          power = ap (λ l. is_none (lone_after l (end_causes form l bytes)).node) (sym same) ∙ run.runs m h.foretells;
        }

    pub ran_answered : IsAnsweredRun (content old) (content new) stopped form is_clf bytes written
    ran_answered =
        answered_run (content old) (content new) stopped form is_clf bytes written taken ran_alone.memory (ran_alone.content_is ∙ first_is) ran_alone.wrote
        ran_alone.now ran_alone.power
