-- A node that has booted runs.
use Rattle.node_core.proofs.Words.{AllByRecursion, AreAtMostDue, AreHeldWhileOneWaits, AreInTime, AreOfHosts, EndsStandFor, HasOwnLink, HaveOwnRoles, IsClf}
use Rattle.node_core.proofs.Words.{IsTrue, IsUsable, List, Named, Node, None, Port, RunsAs, [], ap, arith, between, has, hosts_linked, hosts_where}
use Rattle.node_core.proofs.Words.{init_running, map, new_port, refl, subst, suc, sym, zero, ℕ, ◌∷◌, ◌≡◌, ◌≤◌}
use Rattle.swp_base.specs.declared.link_terms.Role.TheVariants.{Clf, Uicc}
use Rattle.node_core.specs.Booting.{role_at}
use Rattle.node_core.specs.Running.{core_kept}
use Rattle.node_core.proofs.Masks.{hosts_within, links_within}

-- a node as it begins, with new ends of the links with these hosts
pub record BeginsAs {N : Type 0} (number : ℕ) (role : Named) (hosts : List ℕ) (n : Node N) : Type 0 where
  pub number_is : n.number ≡ number
  pub ends : EndsStandFor n.ends (map (new_port role) hosts)
  pub live : IsTrue n.store.journal.live
  pub command : n.tasks.command ≡ None
  pub init : n.tasks.init ≡ None

new_few : (role : Named) (hosts : List ℕ) → AreAtMostDue 5 (map (new_port role) hosts)
new_few role [] = tt
new_few role (h ∷ hosts) = (grind arith, new_few role hosts)

new_in_time : (role : Named) (hosts : List ℕ) → AreInTime (map (new_port role) hosts)
new_in_time role [] = tt
new_in_time role (h ∷ hosts) = (omega arith, new_in_time role hosts)

new_held : (role : Named) (hosts : List ℕ) → AreHeldWhileOneWaits (map (new_port role) hosts)
new_held role [] = tt
new_held role (h ∷ hosts) = (λ some. absurd (some refl), new_held role hosts)

new_between : (role : Named) (hosts : List ℕ) → map between (map (new_port role) hosts) ≡ map (new_port role) hosts
new_between role [] = refl
new_between role (h ∷ hosts) = ap (λ ports. new_port role h ∷ ports) (new_between role hosts)

new_clfs : (hosts : List ℕ) → AllByRecursion (λ (p : Port). IsClf p.side.role) (map (new_port Clf) hosts)
new_clfs [] = tt
new_clfs (h ∷ hosts) = (tt, new_clfs hosts)

-- the new ends of a controller, and those of a host
clf_roles : (node : ℕ) (hosts : List ℕ) → node ≡ 0 → HaveOwnRoles node (map (new_port Clf) hosts)
clf_roles node hosts none = record { clf = λ zero. new_clfs hosts; uicc = λ some. absurd (some none) }

-- a node with new ends, whose links are in order
new_runs : {N : Type 0} (n : Node N) (number : ℕ) (role : Named) (hosts : List ℕ) → BeginsAs number role hosts n → IsUsable n.store
    → AreOfHosts (map (new_port role) hosts) → HasOwnLink n.number (map (new_port role) hosts) → HaveOwnRoles n.number (map (new_port role) hosts)
    → RunsAs n (core_kept n) (map (new_port role) hosts)
new_runs n number role hosts b usable of own roles =
    record {
      usable = usable;
      live = b.live;
      node = refl;
      stands = record { journal = refl; tables = refl; command = sym b.command; init = ap init_running (sym b.init) };
      ends = subst (λ ports. EndsStandFor n.ends ports) (sym (new_between role hosts)) b.ends;
      order = record { hosts = of; own = own; roles = roles; task = (tt, λ zero. refl) };
      few = new_few role hosts;
      in_time = new_in_time role hosts;
      held = new_held role hosts;
    }

-- the controller with links to the hosts of a mask, or a host with the link of its number
pub linked_runs : {N : Type 0} (n : Node N) (number mask : ℕ) → number ≤ 7 → BeginsAs number (role_at number) (hosts_linked number mask) n
    → IsUsable n.store → RunsAs n (core_kept n) (map (new_port (role_at number)) (hosts_linked number mask))
linked_runs n zero mask low b usable =
    let hosts : List ℕ = hosts_where (has mask) in
    new_runs n 0 Clf hosts b usable (links_within Clf hosts (hosts_within (has mask))) (λ some. absurd (some b.number_is))
    (clf_roles n.number hosts b.number_is)
linked_runs n (suc k) mask low b usable = grind arith

-- a host has the link of its number
pub host_role : (h : ℕ) → 1 ≤ h → role_at h ≡ Uicc
host_role h some = grind arith

pub host_linked : (h mask : ℕ) → 1 ≤ h → hosts_linked h mask ≡ h ∷ []
host_linked h mask some = grind arith
