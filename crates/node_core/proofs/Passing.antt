-- A node goes through its ends, one after another.
use Rattle.node_core.proofs.Words.{AllByRecursion, AreAllDifferent, AreFewDue, Bool, Brings, Entry, FewAreDue, IsInStep, IsNodeInOrder, List, Message, Node}
use Rattle.node_core.proofs.Words.{None, Option, Port, Some, Work, [], ap, arith, drop, drop_all, false, goes_through_ends, got_at, have_turns, held_at}
use Rattle.node_core.proofs.Words.{is_held, length, lets_go, map, not, option_map, option_map_or, passes, plan_left, port_at, refl, rests, slice_get, subst}
use Rattle.node_core.proofs.Words.{suc, sym, true, true≢false, ℕ, ◌&&◌, ◌==◌, ◌∙◌, ◌∷◌, ◌≡◌, ◌≢◌, ◌≤◌}
use Rattle.node_core.proofs.Joining.{brings_plain, brings_then, brings_cut}
use Rattle.node_core.proofs.HavingTurns.{brings_same, stays, let_cut, let_writes, let_anyway}
use Rattle.node_core.proofs.Steps.{plainly}
use Rattle.node_core.proofs.Ticking.{found_there}
use Rattle.node_core.proofs.Ordering.{turns_fine, stays_in_order}
use Rattle.node_core.proofs.Elsewhere.{host_at, turns_hosts, turns_few, few_at_all, hosts_differ, different_left, next_host, no_host, as_many_hosts}

module _ {N : Type 0} (writes : N → ℕ → List ℕ → Bool → N → Type 0) where
  -- no end is left
  pub none_left : {old : N} {S : Work → Type 0} {w : Work} → S w → w.cut ≡ false → Brings writes old old S (goes_through_ends []) w
  none_left stands live = brings_plain writes stands live refl (λ plan. refl)

  -- the messages of one end had their turns, and the node has its power still
  pub one_more : {old mid new : N} {R S : Work → Type 0} {w : Work} (h : ℕ) (hosts : List ℕ)
      (b : Brings writes old mid R (have_turns h (got_at w.ports h)) w) → b.after.cut ≡ false
      → Brings writes mid new S (goes_through_ends hosts) b.after → Brings writes old new S (goes_through_ends (h ∷ hosts)) w
  one_more h hosts b live c = brings_same (brings_then writes b live c) (λ plan. refl)

  -- a write failed there: the node does nothing more
  pub no_more : {old new : N} {S : Work → Type 0} {w : Work} (h : ℕ) (hosts : List ℕ)
      (b : Brings writes old new S (have_turns h (got_at w.ports h)) w) → b.after.cut ≡ true → Brings writes old new S (goes_through_ends (h ∷ hosts)) w
  no_more h hosts b dead = brings_same (brings_cut writes (goes_through_ends hosts) b dead refl b.stands) (λ plan. refl)

  -- all ends, ascending
  pub all_passed : {old new : N} {S : Work → Type 0} {w : Work} → Brings writes old new S (goes_through_ends (map (λ (p : Port). p.desk.host) w.ports)) w
      → Brings writes old new S passes w
  all_passed b = brings_same b (λ plan. refl)

-- an end that rests
pub none_waits : (ms : List Message) (held : Bool) → ((length ms == 0) && not held) ≡ true → ms ≡ []
none_waits [] held q = refl
none_waits (m ∷ ms) held q = grind arith

pub not_held : (ms : List Message) (held : Bool) → ((length ms == 0) && not held) ≡ true → held ≡ false
not_held ms held q = grind arith

-- ## One end after another

-- The node has come to this state in its turns before the end at this place, and whatever the turns bring from there, its pass brings.
pub record PassesOn {N : Type 0} (writes : N → ℕ → List ℕ → Bool → N → Type 0) (first n : Node N) (noted : List Entry) (short : Bool)
    (start : List Entry) (i : ℕ) (w : Work) : Type 0 where
  pub now : Work
  pub under : IsInStep n noted short start now
  pub order : IsNodeInOrder now.core now.ports
  pub hosts : map host_at now.ports ≡ map host_at w.ports
  pub differ : AreAllDifferent (map host_at w.ports)
  pub few : AllByRecursion (λ (k : ℕ). FewAreDue (port_at now.ports k)) (drop i (map host_at w.ports))
  pub onto : (last : Node N) (notes : List Entry) (full : Bool)
      → Brings writes n.store.journal.nv last.store.journal.nv (IsInStep last notes full start) (goes_through_ends (drop i (map host_at w.ports))) now
      → Brings writes first.store.journal.nv last.store.journal.nv (IsInStep last notes full start) passes w

pub pass_begins : {N : Type 0} (writes : N → ℕ → List ℕ → Bool → N → Type 0) {n : Node N} {noted start : List Entry} {short : Bool} {w : Work}
    → IsInStep n noted short start w → IsNodeInOrder w.core w.ports → AreFewDue w.ports → PassesOn writes n n noted short start 0 w
pass_begins writes {n} {w = w} u order few = record {
  now = w;
  under = u;
  order = order;
  hosts = refl;
  differ = hosts_differ n.ends.pool n.ends.seats w.ports u.ends.hosts u.ends.each;
  few = few_at_all w.ports (map host_at w.ports) few;
  onto = λ last notes full b. all_passed writes b;
}

-- the next end is that of this host
pub next_is : {N : Type 0} {writes : N → ℕ → List ℕ → Bool → N → Type 0} {first n : Node N} {noted start : List Entry} {short : Bool} {i : ℕ} {w : Work}
    (k : PassesOn writes first n noted short start i w) (h : ℕ) → Some h ≡ option_map host_at (slice_get k.now.ports i)
    → drop i (map host_at w.ports) ≡ h ∷ drop (suc i) (map host_at w.ports)
next_is {i = i} k h is = ap (drop i) (sym k.hosts) ∙ (next_host i k.now.ports h is ∙ ap (λ hosts. h ∷ drop (suc i) hosts) k.hosts)

-- few control frames wait there
pub next_few : {N : Type 0} {writes : N → ℕ → List ℕ → Bool → N → Type 0} {first n : Node N} {noted start : List Entry} {short : Bool} {i : ℕ} {w : Work}
    (k : PassesOn writes first n noted short start i w) (h : ℕ) → Some h ≡ option_map host_at (slice_get k.now.ports i)
    → FewAreDue (port_at k.now.ports h)
next_few k h is = (subst (λ hosts. AllByRecursion (λ (g : ℕ). FewAreDue (port_at k.now.ports g)) hosts) (next_is k h is) k.few).0

-- the ends after turns that went through
after_turns : {N : Type 0} {writes : N → ℕ → List ℕ → Bool → N → Type 0} {old new : N} {S : Work → Type 0} {w : Work} (h : ℕ) (ms : List Message)
    (b : Brings writes old new S (have_turns h ms) w) → b.after.cut ≡ false → have_turns h ms (record w { plan = None })
    ≡ record b.after { plan = plan_left b.after.cut b.sure None }
after_turns h ms b live = grind arith

few_left : (hosts : List ℕ) (h : ℕ) (a b : List Port) → AllByRecursion (λ (g : ℕ). g ≢ h) hosts
    → AllByRecursion (λ (g : ℕ). FewAreDue (port_at a g)) hosts → ((g : ℕ) → g ≢ h → FewAreDue (port_at a g) → FewAreDue (port_at b g))
    → AllByRecursion (λ (g : ℕ). FewAreDue (port_at b g)) hosts
few_left [] h a b differ few on = tt
few_left (g ∷ hosts) h a b differ few on = (on g differ.0 few.0, few_left hosts h a b differ.1 few.1 on)

-- they had their turns there, and the node has its power still
pub pass_goes_on : {N : Type 0} {writes : N → ℕ → List ℕ → Bool → N → Type 0} {first n n2 : Node N} {noted noted2 start : List Entry}
    {short short2 : Bool} {i : ℕ} {w : Work} (k : PassesOn writes first n noted short start i w) (h : ℕ)
    → Some h ≡ option_map host_at (slice_get k.now.ports i)
    → (b : Brings writes n.store.journal.nv n2.store.journal.nv (IsInStep n2 noted2 short2 start) (have_turns h (got_at k.now.ports h)) k.now)
    → b.after.cut ≡ false → n.store.journal.live ≡ true → PassesOn writes first n2 noted2 short2 start (suc i) w
pass_goes_on {N} {writes} {first} {n} {n2} {start = start} {i = i} {w = w} k h is b live power =
    let split = next_is k h is in
    let left : List ℕ = drop (suc i) (map host_at w.ports) in
    let differ = subst (λ hosts. AreAllDifferent hosts) split (different_left i (map host_at w.ports) k.differ) in
    let few = subst (λ hosts. AllByRecursion (λ (g : ℕ). FewAreDue (port_at k.now.ports g)) hosts) split k.few in
    let ms = got_at k.now.ports h in
    let same : (have_turns h ms (record k.now { plan = None })).ports ≡ b.after.ports = ap (λ (v : Work). v.ports) (after_turns h ms b live) in
    let Q : List Port → Type 0 = λ ports. (g : ℕ) → g ≢ h → FewAreDue (port_at k.now.ports g) → FewAreDue (port_at ports g) in
    record {
      now = b.after;
      under = b.stands;
      order = stays_in_order (turns_fine h ms) b live (k.under.power ∙ ap not power) k.order;
      hosts = ap (map host_at) (sym same) ∙ (turns_hosts h ms (record k.now { plan = None }) ∙ k.hosts);
      differ = k.differ;
      few = few_left left h k.now.ports b.after.ports differ.0 few.1 (subst Q same (turns_few h ms (record k.now { plan = None })));
      onto = λ last notes full c.
          let G : List ℕ → Type 0 = λ hosts. Brings writes n.store.journal.nv last.store.journal.nv (IsInStep last notes full start)
          (goes_through_ends hosts) k.now in
          k.onto last notes full (subst G (sym split) (one_more writes h left b live c));
    }

-- nothing is left to do at the next end: its turns do nothing
pub pass_rests : {N : Type 0} {writes : N → ℕ → List ℕ → Bool → N → Type 0} {first n : Node N} {noted start : List Entry} {short : Bool} {i : ℕ} {w : Work}
    (k : PassesOn writes first n noted short start i w) → option_map_or rests (slice_get k.now.ports i) false ≡ true → n.store.journal.live ≡ true
    → PassesOn writes first n noted short start (suc i) w
pass_rests {N} {writes} {first} {n} {noted} {start} {short} {i} {w} k none live = by (slice_get k.now.ports i) refl
  where
    by : (o : Option Port) → slice_get k.now.ports i ≡ o → PassesOn writes first n noted short start (suc i) w
    by None q = absurd (true≢false (sym none ∙ ap (λ (o : Option Port). option_map_or rests o false) q))
    by (Some p) q =
        let h = p.desk.host in
        let at = found_there i k.now.ports p (subst (λ hosts. AreAllDifferent hosts) (sym k.hosts) k.differ) q in
        let quiet : rests p ≡ true = ap (λ (o : Option Port). option_map_or rests o false) (sym q) ∙ none in
        let got : [] ≡ got_at k.now.ports h =
        sym (none_waits p.side.got (is_held p.side) quiet) ∙ ap (λ (o : Option Port). option_map_or (λ (x : Port). x.side.got) o []) (sym at) in
        let held : held_at k.now.ports h ≡ false = grind arith in
        let U : Work → Type 0 = λ v. IsInStep n noted short start v in
        let T : List Message → Type 0 = λ ms. Brings writes n.store.journal.nv n.store.journal.nv (IsInStep n noted short start) (have_turns h ms) k.now in
        let b = subst T got (plainly writes {n2 = n} (lets_go h) k.under live refl (subst U (sym (stays h k.now held)) k.under) (let_cut h k.now)
        (let_writes h k.now) (let_anyway h k.now)) in
        pass_goes_on k h (ap (option_map host_at) (sym q)) b (b.stands.power ∙ ap not live) live

-- a write failed there
pub pass_stops : {N : Type 0} {writes : N → ℕ → List ℕ → Bool → N → Type 0} {first n n2 : Node N} {noted noted2 start : List Entry}
    {short short2 : Bool} {i : ℕ} {w : Work} (k : PassesOn writes first n noted short start i w) (h : ℕ)
    → Some h ≡ option_map host_at (slice_get k.now.ports i)
    → (b : Brings writes n.store.journal.nv n2.store.journal.nv (IsInStep n2 noted2 short2 start) (have_turns h (got_at k.now.ports h)) k.now)
    → b.after.cut ≡ true → Brings writes first.store.journal.nv n2.store.journal.nv (IsInStep n2 noted2 short2 start) passes w
pass_stops {N} {writes} {first} {n} {n2} {noted2 = noted2} {start = start} {short2 = short2} {i = i} {w = w} k h is b dead =
    let G : List ℕ → Type 0 = λ hosts. Brings writes n.store.journal.nv n2.store.journal.nv (IsInStep n2 noted2 short2 start)
    (goes_through_ends hosts) k.now in
    k.onto n2 noted2 short2 (subst G (sym (next_is k h is)) (no_more writes h (drop (suc i) (map host_at w.ports)) b dead))

-- no end is left
pub pass_ends : {N : Type 0} {writes : N → ℕ → List ℕ → Bool → N → Type 0} {first n : Node N} {noted start : List Entry} {short : Bool} {i : ℕ} {w : Work}
    (k : PassesOn writes first n noted short start i w) → drop i (map host_at w.ports) ≡ [] → n.store.journal.live ≡ true
    → Brings writes first.store.journal.nv n.store.journal.nv (IsInStep n noted short start) passes w
pass_ends {N} {writes} {first} {n} {noted} {start} {short} {i} {w} k none live =
    let G : List ℕ → Type 0 = λ hosts. Brings writes n.store.journal.nv n.store.journal.nv (IsInStep n noted short start)
    (goes_through_ends hosts) k.now in
    k.onto n noted short (subst G (sym none) (none_left writes k.under (k.under.power ∙ ap not live)))

-- behind the last place none is
pub pass_over : {N : Type 0} {writes : N → ℕ → List ℕ → Bool → N → Type 0} {first n : Node N} {noted start : List Entry} {short : Bool} {i : ℕ} {w : Work}
    (k : PassesOn writes first n noted short start i w) → None ≡ option_map host_at (slice_get k.now.ports i) → drop i (map host_at w.ports) ≡ []
pass_over {i = i} k none = ap (drop i) (sym k.hosts) ∙ no_host i k.now.ports none

-- there are at most seven ends
pub pass_full : {N : Type 0} {writes : N → ℕ → List ℕ → Bool → N → Type 0} {first n : Node N} {noted start : List Entry} {short : Bool} {i : ℕ} {w : Work}
    (k : PassesOn writes first n noted short start i w) → 7 ≤ i → drop i (map host_at w.ports) ≡ []
pass_full {n = n} {i = i} {w = w} k past =
    let same = ap (λ (hosts : List ℕ). length hosts) k.hosts in
    let few = k.under.ends.few in
    drop_all i (map host_at w.ports) (omega (arith, as_many_hosts n.ends.pool n.ends.seats k.now.ports k.under.ends.each, same, few, past))
