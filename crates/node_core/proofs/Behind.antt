-- A step of a node that runs: what it may begin with, and that the node runs behind it.
use Rattle.node_core.proofs.Words.{AreAtMostDue, AreHeldWhileOneWaits, AreInTime, AreYoung, BeginsStep, Bool, Brings, EndsStandFor, Entry, Foretells}
use Rattle.node_core.proofs.Words.{HasStepped, IsHeldWhileOneWaits, IsInStep, IsNodeInOrder, IsUsable, List, MayStartAt, Node, NodeInput, None, Option, Port}
use Rattle.node_core.proofs.Words.{Stored, WereMade, Work, [], ap, arith, between, false, map, plan_left, port_at, refl, steps, subst, sym, true, ℕ, ◌==◌, ◌∙◌}
use Rattle.node_core.proofs.Words.{◌∷◌, ◌≡◌, ◌≤◌}
use Rattle.node_core.proofs.Elsewhere.{hosts_differ}
use Rattle.node_core.proofs.Staying.{steps_fine}
use Rattle.node_core.proofs.Lasting.{OfAll, Ready, Rests}
use Rattle.node_core.proofs.Resting.{MakeOneMore, step_rests}
use Rattle.node_core.proofs.Between.{begins_in_step, has_stepped, runs_ready, usable_with}

-- ## What a step asks for

pub ready_few : (ports : List Port) → OfAll (Ready 0) ports → AreAtMostDue 4 ports
ready_few [] all = tt
ready_few (p ∷ ports) all = let none = all.0.0 in (omega (arith, none), ready_few ports all.1)

pub in_time_young : (ports : List Port) → AreInTime ports → AreYoung ports
in_time_young [] time = tt
in_time_young (p ∷ ports) time = let t = time.0 in (omega (arith, t), in_time_young ports time.1)

pub held_here : (h : ℕ) (ports : List Port) → AreHeldWhileOneWaits ports → IsHeldWhileOneWaits (port_at ports h)
held_here h [] held = tt
held_here h (p ∷ ports) held = by (held_here h ports held.1) (p.desk.host == h) refl
  where
    by : IsHeldWhileOneWaits (port_at ports h) → (b : Bool) → (p.desk.host == h) ≡ b → IsHeldWhileOneWaits (port_at (p ∷ ports) h)
    by later true q = rw q held.0
    by later false q = rw q later

pub power_may_start : (value : ℕ) (o : Option Port) → value ≤ 1 → MayStartAt value o
power_may_start value o low = grind arith

-- ## What it brings

-- A step that began with ends at rest, behind which what was done to them isn't kept.
pub stepped : {N : Type 0} (writes : N → ℕ → List ℕ → Bool → N → Type 0) {n n1 n2 : Node N} {noted noted2 start : List Entry} {short short2 : Bool}
    {w : Work} (input : NodeInput) → MakeOneMore input → BeginsStep n noted short start w
    → Brings writes n.store.journal.nv n1.store.journal.nv (IsInStep n1 noted2 short2 start) (steps input) w
    → ((ports : List Port) → EndsStandFor n1.ends ports → EndsStandFor n2.ends (map between ports)) → n2.store ≡ n1.store
    → n2.number ≡ n1.number → n2.tasks ≡ n1.tasks → IsUsable n1.store
    → Brings writes n.store.journal.nv n2.store.journal.nv (HasStepped n2 noted2 short2 start) (steps input) w
stepped {N} writes {n} {n1} {n2} {noted} {noted2} {start} {short} {short2} {w} input more begins b ended store number tasks usable =
    let M : Stored N → Type 0 = λ s. WereMade writes b.sure b.torn n.store.journal.nv b.after.cut s.journal.nv in
    record {
      after = b.after;
      stands = has_stepped b.stands (ended b.after.ports b.stands.ends) store number tasks (usable_with store usable) order rest;
      sure = b.sure;
      torn = b.torn;
      written = b.written;
      made = subst M (sym store) b.made;
      is = b.is;
    }
  where
    first : Work
    first = record w { plan = None }

    is : b.after.cut ≡ false → steps input first ≡ record b.after { plan = plan_left b.after.cut b.sure None }
    is live = let F : Bool → Type 0 = λ t. Foretells None b.sure b.torn t in b.is None (subst F (sym live) refl)

    order : b.after.cut ≡ false → IsNodeInOrder b.after.core b.after.ports
    order live =
        let P : Work → Type 0 = λ v. IsNodeInOrder v.core v.ports in
        subst P (is live) (steps_fine input first (record { sure = record { power = begins.power; plan = refl }; order = begins.runs.order })).order

    rest : b.after.cut ≡ false → OfAll (Rests 2) b.after.ports
    rest live =
        let P : Work → Type 0 = λ v. OfAll (Rests 2) v.ports in
        let u = begins_in_step begins in
        subst P (is live) (step_rests input more first
        (hosts_differ n.ends.pool n.ends.seats w.ports u.ends.hosts u.ends.each) (runs_ready begins.runs begins.sent)
        (ap (λ (v : Work). v.cut) (is live) ∙ live))
