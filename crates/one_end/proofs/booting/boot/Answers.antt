-- A node boots that is to run alone.
use Rattle.one_end.proofs.Words.{Bool, Core, HasBooted, List, Lone, Memory, Node, None, RunsAlone, Some, [], ap, cond, false, found_in_memory, map}
use Rattle.one_end.proofs.Words.{new_link_end, refl, role_alone, subst, sym, true, ℕ, ◌∙◌, ◌∷◌, ◌≡◌}
use Rattle.gate_admin.specs.View.{hosts_where}
use Rattle.node_machine.specs.Node.{new_desk}
use Rattle.node_core.specs.Booting.{hosts_linked, role_at}
use Rattle.node_core.specs.Running.{RunsAs, core_kept}
use Rattle.node_ends.specs.Making.{new_port}
use Rattle.one_end.proofs.booting.boot.Goals.{then-is_clf, else-is_clf}
use Rattle.one_end.proofs.booting.boot.Goals as goal

-- A node that runs alone has booted.
-- the node as it begins, over this memory
abbrev begun : ℕ → Core → Memory → Lone
begun number core m = record {
  number = number;
  link = 2;
  node = Some (record { core = core; desks = new_desk 2 ∷ [] });
  memory = m;
  side = new_link_end (role_alone number);
  rsets = 0;
  session = 0;
}

abbrev no_bytes : Memory
no_bytes = record { content = []; plan = None; failing_read = None; faults = 0 }

-- it has the one link with host 02
linked : (is_clf : Bool) → hosts_linked (cond is_clf 0 2) 4 ≡ 2 ∷ []
unfolding hosts_where
linked true = refl
linked false = refl

-- the controller begins alone, and host 02
boot_begins : {N : Type 0} {n : Node N} (is_clf : Bool) (number : ℕ) → number ≡ cond is_clf 0 2 → n.number ≡ number → (m : Memory)
    → RunsAs n (core_kept n) (map (new_port (role_at number)) (hosts_linked number 4)) → RunsAlone n (begun n.number (core_kept n) m) []
boot_begins {N} {n} is_clf number is own m runs =
    let k : ℕ = cond is_clf 0 2 in
    let there : RunsAs n (core_kept n) (new_port (role_at k) 2 ∷ []) =
    subst (λ hosts. RunsAs n (core_kept n) (map (new_port (role_at k)) hosts)) (linked is_clf)
    (subst (λ j. RunsAs n (core_kept n) (map (new_port (role_at j)) (hosts_linked j 4))) is runs) in
    subst (λ j. RunsAlone n (begun j (core_kept n) m) []) (sym (own ∙ is)) (go is_clf (own ∙ is) there)
  where
    go : (is_clf : Bool) → n.number ≡ cond is_clf 0 2 → RunsAs n (core_kept n) (new_port (role_at (cond is_clf 0 2)) 2 ∷ [])
        → RunsAlone n (begun (cond is_clf 0 2) (core_kept n) m) []
    go true q r = record {
      core = _;
      port = new_port (role_at 0) 2;
      runs = r;
      host = refl;
      node_is = refl;
      number_is = sym q;
      link_is = refl;
      side_is = refl;
      due = refl;
    }
    go false q r = record {
      core = _;
      port = new_port (role_at 2) 2;
      runs = r;
      host = refl;
      node_is = refl;
      number_is = sym q;
      link_is = refl;
      side_is = refl;
      due = refl;
    }

-- it found this content
boot_finds : {N : Type 0} {n : Node N} (writes : N → ℕ → List ℕ → Bool → N → Type 0) (is_clf : Bool) (number : ℕ) → number ≡ cond is_clf 0 2
    → n.number ≡ number → (content : List ℕ) → RunsAs n (core_kept n) (map (new_port (role_at number)) (hosts_linked number 4))
    → core_kept n ≡ (found_in_memory number (hosts_linked number 4) content).core → HasBooted writes content n.store.journal.nv n
boot_finds {n = n} writes is_clf number is own content runs found = record {
  after = begun n.number (core_kept n) no_bytes;
  stands = boot_begins is_clf number is own no_bytes runs;
  sure = [];
  torn = [];
  made = (refl, (refl, refl));
  is = λ m foretold.
      ap (λ c. (begun n.number c m, []))
      (sym (found ∙ (ap (λ hosts. (found_in_memory number hosts content).core) (ap (λ k. hosts_linked k 4) is ∙ linked is_clf)
      ∙ ap (λ k. (found_in_memory k (2 ∷ []) content).core) (sym own))));
}

pub returns-in-Ok-clause-may : goal.returns-in-Ok-clause-may
returns-in-Ok-clause-may g c =
    let number : c.if-is_clf.number ≡ cond c.args.is_clf 0 2 =
    elim c.if-is_clf.branch [
      | then-is_clf w ↦ w.number-is ∙ sym (ap (λ b. cond b 0 2) w.if-is_clf.true)
      | else-is_clf w ↦ w.number-is ∙ sym (ap (λ b. cond b 0 2) w.if-is_clf.false)
    ] in
    let k = c.in-Ok.ensures in
    let n = c.in-Ok.node in
    (begun n.number (core_kept n) no_bytes, boot_begins c.args.is_clf c.if-is_clf.number number k.number no_bytes k.runs)

pub returns-in-Ok-clause-booted : goal.returns-in-Ok-clause-booted
returns-in-Ok-clause-booted g c told =
    let number : c.if-is_clf.number ≡ cond c.args.is_clf 0 2 =
    elim c.if-is_clf.branch [
      | then-is_clf w ↦ w.number-is ∙ sym (ap (λ b. cond b 0 2) w.if-is_clf.true)
      | else-is_clf w ↦ w.number-is ∙ sym (ap (λ b. cond b 0 2) w.if-is_clf.false)
    ] in
    let k = c.in-Ok.ensures in
    boot_finds g.N.Nv.writes c.args.is_clf c.if-is_clf.number number k.number (g.N.Nv.content c.args.nv) k.runs (k.found told)
