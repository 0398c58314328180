-- A node stays in order: its turns leave its links and their hosts, and an init that runs waits for the answer to its command.
use Rattle.std.specs.Option.{option_map}
use Rattle.node_core.proofs.Words.{AreGranted, Bool, Brings, Core, Deed, Foretells, Init, IsNodeInOrder, IsOnTask, List, Message, None, Option, Port}
use Rattle.node_core.proofs.Words.{Some, Work, Write, [], all_done, ap, arith, deeds_of, done, end_view, false, goes_through_ends, got_at}
use Rattle.node_core.proofs.Words.{handles, has_turn, have_turns, held_at, holds_back, host_deeds, lack, lets_go, map, needs, option_map_or, own_view, passes}
use Rattle.node_core.proofs.Words.{plan_behind, port_at, refl, subst, sym, true, unless_cut, ℕ, ◌==◌, ◌∙◌, ◌∷◌, ◌≡◌, ◌≢◌}
use Rattle.node_core.proofs.Joining.{goes_on}
use Rattle.node_core.proofs.Allowing.{controller_allowed}
use Rattle.node_core.proofs.HostAllowing.{host_allowed}
use Rattle.node_core.proofs.Elsewhere.{host_at, let_links, held_links, handled_links, of_hosts}
use Rattle.node_core.proofs.EndKinds.{kind_at, same_kinds, hosts_alike, roles_alike}

-- ## Hosts and tasks

pub in_order_at : (core : Core) (a b : List Port) → map kind_at b ≡ map kind_at a → IsNodeInOrder core a → IsNodeInOrder core b
in_order_at core a b same order = record {
  hosts = of_hosts b a (hosts_alike b a same) order.hosts;
  own = λ some. hosts_alike b a same ∙ order.own some;
  roles = roles_alike core.node a b same order.roles;
  task = order.task;
}

pub with_task : (core other : Core) (ports : List Port) → other.node ≡ core.node → IsOnTask other → IsNodeInOrder core ports → IsNodeInOrder other ports
with_task core other ports node task order = grind arith

-- ## Without a write that fails

none_behind : (writes : List Write) → plan_behind writes None ≡ None
none_behind [] = refl
none_behind (x ∷ writes) = none_behind writes

-- a node that has its power, and in which no write is to fail
pub record IsSure (w : Work) : Type 0 where
  pub power : w.cut ≡ false
  pub plan : w.plan ≡ None

-- it is in order too
pub record IsFine (w : Work) : Type 0 where
  pub sure : IsSure w
  pub order : IsNodeInOrder w.core w.ports

pub done_sure : (h : ℕ) (d : Deed) (w : Work) → IsSure w → IsSure (done h d w)
done_sure h d w s = record { power = (grind arith) ∙ s.power; plan = grind arith }

-- what deeds that may be done leave of a node
pub record Leaves (h : ℕ) (deeds : List Deed) (w : Work) : Type 0 where
  pub sure : IsSure (all_done h deeds w)
  pub node : (all_done h deeds w).core.node ≡ w.core.node
  pub task : IsOnTask (all_done h deeds w).core

pub granted_leave : (h : ℕ) (init : Option Init) (deeds : List Deed) (w : Work) → IsSure w → AreGranted h init deeds w → Leaves h deeds w
granted_leave h init [] w s granted = record { sure = s; node = refl; task = granted }
granted_leave h init (d ∷ deeds) w s granted =
    let l = granted_leave h init deeds (done h d w) (done_sure h d w s) (subst (λ v. AreGranted h init deeds (done h d v)) (grind arith) granted.1) in
    grind arith

-- ## Turns

as_host : (core : Core) (ports : List Port) (h : ℕ) (m : Message) → (core.node == 0) ≡ false
    → deeds_of core ports h m ≡ option_map_or (λ e. host_deeds (own_view core) e m) (option_map end_view (port_at ports h)) []
as_host core ports h m q = rw q refl

at_node : (h : ℕ) (m : Message) (w : Work) → IsOnTask w.core → (b : Bool) → (w.core.node == 0) ≡ b
    → AreGranted h w.core.init (deeds_of w.core w.ports h m) (has_turn h m w)
at_node h m w on true q = subst (λ deeds. AreGranted h w.core.init deeds (has_turn h m w)) (sym (rw q refl)) (controller_allowed h m w.core.init w on)
at_node h m w on false q =
    subst (λ deeds. AreGranted h w.core.init deeds (has_turn h m w)) (sym (as_host w.core w.ports h m q)) (by (port_at w.ports h))
  where
    some : w.core.node ≢ 0
    some none = (let e : true ≡ false = sym (ap (λ (n : ℕ). n == 0) none) ∙ q in cc)

    by : (o : Option Port) → AreGranted h w.core.init (option_map_or (λ e. host_deeds (own_view w.core) e m) (option_map end_view o) []) (has_turn h m w)
    by None = on
    by (Some p) = host_allowed h m w on some p

-- what a node decides of a message may be done
pub node_allowed : (h : ℕ) (m : Message) (w : Work) → IsOnTask w.core → AreGranted h w.core.init (deeds_of w.core w.ports h m) (has_turn h m w)
node_allowed h m w on = at_node h m w on (w.core.node == 0) refl

handles_fine : (h : ℕ) (m : Message) (w : Work) → IsFine w → IsFine (handles h m (deeds_of w.core w.ports h m) w)
handles_fine h m w f =
    let deeds : List Deed = deeds_of w.core w.ports h m in
    let l = granted_leave h w.core.init deeds (has_turn h m w) (record { power = f.sure.power; plan = f.sure.plan }) (node_allowed h m w f.order.task) in
    record {
      sure = l.sure;
      order = with_task w.core (handles h m deeds w).core (handles h m deeds w).ports l.node l.task
          (in_order_at w.core w.ports (handles h m deeds w).ports (same_kinds (handles h m deeds w).ports w.ports (handled_links h m deeds w)) f.order);
    }

held_fine : (h : ℕ) (short : ℕ × ℕ) (w : Work) → IsFine w → IsFine (holds_back h short w)
held_fine h short w f = by (option_map_or (λ (p : Port). p.desk.holds) (port_at w.ports h) false) refl
  where
    order : IsNodeInOrder w.core (holds_back h short w).ports
    order = in_order_at w.core w.ports (holds_back h short w).ports (same_kinds (holds_back h short w).ports w.ports (held_links h short w)) f.order

    by : (b : Bool) → option_map_or (λ (p : Port). p.desk.holds) (port_at w.ports h) false ≡ b → IsFine (holds_back h short w)
    by true q = let o : IsNodeInOrder w.core _ = rw q at order in rw q (record { sure = record { power = f.sure.power; plan = f.sure.plan }; order = o })
    by false q = let o : IsNodeInOrder w.core _ = rw q at order in rw q (record { sure = record { power = f.sure.power; plan = f.sure.plan }; order = o })

let_fine : (h : ℕ) (w : Work) → IsFine w → IsFine (lets_go h w)
let_fine h w f = by (held_at w.ports h) refl
  where
    order : IsNodeInOrder w.core (lets_go h w).ports
    order = in_order_at w.core w.ports (lets_go h w).ports (same_kinds (lets_go h w).ports w.ports (let_links h w)) f.order

    by : (b : Bool) → held_at w.ports h ≡ b → IsFine (lets_go h w)
    by true q = let o : IsNodeInOrder w.core _ = rw q at order in rw q (record { sure = record { power = f.sure.power; plan = f.sure.plan }; order = o })
    by false q = grind arith

pub turns_fine : (h : ℕ) (ms : List Message) (w : Work) → IsFine w → IsFine (have_turns h ms w)
turns_fine h [] w f = let_fine h w f
turns_fine h (m ∷ ms) w f =
    by (lack w.ports (needs h (deeds_of w.core w.ports h m))) refl (turns_fine h ms (handles h m (deeds_of w.core w.ports h m) w))
  where
    done : Work
    done = handles h m (deeds_of w.core w.ports h m) w

    P : Work → Type 0
    P v = IsFine v

    by : (o : Option (ℕ × ℕ)) → lack w.ports (needs h (deeds_of w.core w.ports h m)) ≡ o → (IsFine done → IsFine (have_turns h ms done))
        → IsFine (have_turns h (m ∷ ms) w)
    by None q later =
        let handled = handles_fine h m w f in
        subst P (sym (room q ∙ goes_on (have_turns h ms) done handled.sure.power)) (later handled)
      where
        room : lack w.ports (needs h (deeds_of w.core w.ports h m)) ≡ None → have_turns h (m ∷ ms) w ≡ unless_cut (have_turns h ms) done
        room q = rw q refl
    by (Some short) q later = subst P (sym (none q)) (held_fine h short w f)
      where
        none : lack w.ports (needs h (deeds_of w.core w.ports h m)) ≡ Some short → have_turns h (m ∷ ms) w ≡ holds_back h short w
        none q = rw q refl

ends_fine : (hosts : List ℕ) (w : Work) → IsFine w → IsFine (goes_through_ends hosts w)
ends_fine [] w f = f
ends_fine (h ∷ hosts) w f =
    let next : Work = have_turns h (got_at w.ports h) w in
    let one = turns_fine h (got_at w.ports h) w f in
    subst (λ v. IsFine v) (sym (goes_on (goes_through_ends hosts) next one.sure.power)) (ends_fine hosts next one)

pub passes_fine : (w : Work) → IsFine w → IsFine (passes w)
passes_fine w f = ends_fine (map host_at w.ports) w f

-- ## What a node brings about

-- what keeps a node in order where no write fails does so in each step in which none failed
pub stays_in_order : {N : Type 0} {writes : N → ℕ → List ℕ → Bool → N → Type 0} {old new : N} {S : Work → Type 0} {f : Work → Work} {w : Work}
    → ((v : Work) → IsFine v → IsFine (f v)) → (b : Brings writes old new S f w) → b.after.cut ≡ false → w.cut ≡ false → IsNodeInOrder w.core w.ports
    → IsNodeInOrder b.after.core b.after.ports
stays_in_order {f = f} {w = w} keeps b live power order =
    let fine = keeps (record w { plan = None }) (record { sure = record { power = power; plan = refl }; order = order }) in
    (subst (λ v. IsFine v) (b.is None (subst (λ t. Foretells None b.sure b.torn t) (sym live) refl)) fine).order
