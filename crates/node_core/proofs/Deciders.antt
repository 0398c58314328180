-- What a node looks at as it decides.
use Rattle.node_core.proofs.Words.{AreOfHosts, Bool, Desk, DeskOf, Entry, HasOwnLink, IsInStep, IsNodeInOrder, List, Message, Node, None, Option, Port, Some}
use Rattle.node_core.proofs.Words.{Work, [], ap, arith, desk_shown, eq-eqb, got_at, handling, has_link, init_running, map, option_map}
use Rattle.node_core.proofs.Words.{option_map_or, port_at, refl, slice_get, sym, true, ℕ, ◌==◌, ◌∙◌, ◌∷◌, ◌≡◌, ◌≢◌, ◌≤◌}
use Rattle.node_deeds.specs.Cores.{handled}
use Rattle.node_deeds.specs.Hosts.{IsHostAt}

-- ## Controllers

-- a controller handles a message while no init runs
pub handled_idle : {N : Type 0} (n : Node N) (m : Message) → n.number ≡ 0 → init_running n.tasks.init ≡ None → handling n m ≡ handled m.0 m.1
handled_idle n m number none = grind arith

-- ## Hosts

-- the only end of a host
one_port : (node : ℕ) (ports : List Port) (h : ℕ) (p : Port) → map (λ (q : Port). q.desk.host) ports ≡ node ∷ [] → port_at ports h ≡ Some p → h ≡ node
one_port node [] h p own at = cc
one_port node (q ∷ r ∷ ports) h p own at = cc
one_port node (q ∷ []) h p own at = grind arith

-- where a message waits, the end is that of a host's own link
pub own_host : (w : Work) (h : ℕ) {m : Message} {ms : List Message} → w.core.node ≢ 0 → HasOwnLink w.core.node w.ports → got_at w.ports h ≡ m ∷ ms
    → h ≡ w.core.node
own_host w h some own got = by (port_at w.ports h) refl
  where
    by : (o : Option Port) → port_at w.ports h ≡ o → h ≡ w.core.node
    by None q = (let none : [] ≡ _ = sym (ap (λ (o : Option Port). option_map_or (λ (p : Port). p.side.got) o []) q) ∙ got in cc)
    by (Some p) q = one_port w.core.node w.ports h p (own some) q

-- the only end of a node
pub record IsOnly (node : ℕ) (ports : List Port) : Type 0 where
  pub port : Port
  pub ports_are : ports ≡ port ∷ []
  pub host : port.desk.host ≡ node

pub only : (node : ℕ) (ports : List Port) → map (λ (q : Port). q.desk.host) ports ≡ node ∷ [] → IsOnly node ports
only node [] own = cc
only node (q ∷ r ∷ ports) own = cc
only node (q ∷ []) own = record { port = q; ports_are = refl; host = cc }

-- what a host looks at is that of its end
pub record LooksAt {N : Type 0} (n : Node N) (d : Desk) (up : Bool) (w : Work) : Type 0 where
  pub port : Port
  pub at : port_at w.ports n.number ≡ Some port
  pub is : IsHostAt n.store d up n.tasks w.core port
  pub host : d.host ≡ n.number

desk_is : (p : Port) (d : Desk) (ports : List Port) → ports ≡ p ∷ [] → Some (desk_shown d) ≡ option_map (λ (q : Port). q.desk) (slice_get ports 0)
    → p.desk ≡ desk_shown d
desk_is p d ports is shown = grind arith

pub found_one : (node : ℕ) (p : Port) → p.desk.host ≡ node → port_at (p ∷ []) node ≡ Some p
found_one node p host = let e : (p.desk.host == node) ≡ true = eq-eqb p.desk.host node host in rw e refl

pub looks_at : {N : Type 0} {n : Node N} {noted start : List Entry} {short : Bool} {w : Work} (d : Desk) (up : Bool) → IsInStep n noted short start w
    → n.store.journal.live ≡ true → n.number ≢ 0 → IsNodeInOrder w.core w.ports
    → Some (desk_shown d) ≡ option_map (λ (q : Port). q.desk) (slice_get w.ports 0) → up ≡ has_link w.ports d.host → LooksAt n d up w
looks_at {n = n} {w = w} d up u live some order shown linked =
    let o = only w.core.node w.ports (order.own (λ none. some (sym u.node ∙ none))) in
    let host : o.port.desk.host ≡ n.number = o.host ∙ u.node in
    let own : d.host ≡ n.number = ap (λ (x : DeskOf). x.host) (sym (desk_is o.port d w.ports o.ports_are shown)) ∙ host in
    grind arith

-- there is an end of it
pub some_desk : {N : Type 0} {n : Node N} {noted start : List Entry} {short : Bool} {w : Work} → IsInStep n noted short start w
    → n.number ≢ 0 → IsNodeInOrder w.core w.ports → None ≡ option_map (λ (q : Port). q.desk) (slice_get w.ports 0) → ⊥
some_desk {w = w} u some order none =
    let o = only w.core.node w.ports (order.own (λ zero. some (sym u.node ∙ zero))) in
    let one : None ≡ Some o.port.desk = none ∙ ap (λ (l : List Port). option_map (λ (q : Port). q.desk) (slice_get l 0)) o.ports_are in cc

-- its number is that of a host
pub own_number : (d : Desk) (ports : List Port) → AreOfHosts ports → Some (desk_shown d) ≡ option_map (λ (q : Port). q.desk) (slice_get ports 0)
    → (1 ≤ d.host) × (d.host ≤ 7)
own_number d [] hosts shown = cc
own_number d (p ∷ ports) hosts shown = grind arith
