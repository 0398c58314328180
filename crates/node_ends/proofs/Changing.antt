-- One of the ends of a node is changed: the ports that they stand for change as the definition says.
use Rattle.std.proofs.lemmas.Option.{get_or_from_slice_get}
use Rattle.node_ends.proofs.Words.{AllByRecursion, AreEnds, AreSendableInputs, Bool, Desk, DeskOf, End, EndsStandFor, FromNode, HaveOwnHosts, HaveOwners}
use Rattle.node_ends.proofs.Words.{HaveOwnersFrom, HoldsSeat, IsSoundDesk, KeptEnds, List, Machine, Moves, None, Option, PoolState, Port, Seat, SeatBecomes}
use Rattle.node_ends.proofs.Words.{SeatStandsFor, SeatsStandFor, Some, Turn, [], after_turn, ap, arith, changed_if, desk_shown, eq-eqb, false, kept_number}
use Rattle.node_ends.proofs.Words.{length, length-set, option_map, place_in, port_at, refl, slice_get, slice_get_within, slice_index_or, slice_set, subst, suc}
use Rattle.node_ends.proofs.Words.{sym, true, turn, with_port, zero, ℕ, ◌*◌, ◌+◌, ◌<◌, ◌==◌, ◌∙◌, ◌∷◌, ◌≡◌, ◌≢◌}
use Rattle.node_ends.proofs.Counting.{reached_on, turn_acked}
use Rattle.node_ends.proofs.Opening.{kept_so}

-- ## Hosts

pub host_is : {pool : PoolState} {s : Seat} {p : Port} → SeatStandsFor pool s p → s.desk.host ≡ p.desk.host
host_is h = ap (λ (d : DeskOf). d.host) h.desk

pub differs : (a b : ℕ) → a ≢ b → (a == b) ≡ false
differs a b n = grind arith

pub same : (a b : ℕ) → a ≡ b → (a == b) ≡ true
same a b e = eq-eqb a b e

-- a port of another host stays
passed_by : {pool : PoolState} {s : Seat} {p : Port} (h : ℕ) (f : Port → Port) → SeatStandsFor pool s p → s.desk.host ≢ h
    → changed_if (p.desk.host == h) f p ≡ p
passed_by {p = p} h f g other = let no = differs p.desk.host h (λ e. other (host_is g ∙ e)) in rw no refl

-- the port of this host is changed
picked : {pool : PoolState} {s : Seat} {p : Port} (h : ℕ) (f : Port → Port) → SeatStandsFor pool s p → s.desk.host ≡ h
    → changed_if (p.desk.host == h) f p ≡ f p
picked {p = p} h f g is = let yes = same p.desk.host h (sym (host_is g) ∙ is) in rw yes refl

-- ## Owners

-- two ends at different places use four owners
pub apart_places : (one other : End) (j k : ℕ) → (one.outbox.owner ≡ 2 * j) → (one.inbox.joiner.owner ≡ 2 * j + 1)
    → (other.outbox.owner ≡ 2 * k) → (other.inbox.joiner.owner ≡ 2 * k + 1) → j ≢ k → HaveOwners one other
apart_places one other j k a b c d differ = grind arith

pub owners_at : (k i : ℕ) (seats : List Seat) (s : Seat) → slice_get seats i ≡ Some s → HaveOwnersFrom k seats
    → (s.side.outbox.owner ≡ 2 * (k + i)) × (s.side.inbox.joiner.owner ≡ 2 * (k + i) + 1)
owners_at k i [] s is o = cc
owners_at k zero (t ∷ seats) s is o = grind arith
owners_at k (suc i) (t ∷ seats) s is o =
    let r = owners_at (k + 1) i seats s is o.2 in
    (omega (arith, r.0), omega (arith, r.1))

pub all_at : {X : Type 0} (P : X → Type 0) (xs : List X) (i : ℕ) (x : X) → slice_get xs i ≡ Some x → AllByRecursion P xs → P x
all_at P [] i x is all = cc
all_at P (y ∷ xs) zero x is all = let e : y ≡ x = cc in subst P e all.0
all_at P (y ∷ xs) (suc i) x is all = all_at P xs i x is all.1

-- ## One end is changed

-- The end of the link with this host is changed with its pool, and stands for the changed port.
pub record OneChanges (old new : PoolState) (h : ℕ) (f : Port → Port) (s t : Seat) : Type 0 where
  pub before : s.desk.host ≡ h
  pub after : t.desk.host ≡ h
  pub moves : Moves old new s.side t.side
  pub stands : (p : Port) → SeatStandsFor old s p → SeatStandsFor new t (f p)

module _ {old new : PoolState} {h : ℕ} {f : Port → Port} {s t : Seat} (c : OneChanges old new h f s t) where
  -- an end at another place of another host stays
  stays : (j k : ℕ) (u : Seat) (p : Port) → j ≢ k → (s.side.outbox.owner ≡ 2 * j) × (s.side.inbox.joiner.owner ≡ 2 * j + 1)
      → (u.side.outbox.owner ≡ 2 * k) → (u.side.inbox.joiner.owner ≡ 2 * k + 1) → u.desk.host ≢ h → SeatStandsFor old u p
      → SeatStandsFor new u (changed_if (p.desk.host == h) f p)
  stays j k u p differ own a b other g =
      subst (λ q. SeatStandsFor new u q) (sym (passed_by h f g other)) (record {
        holds = c.moves.beside u.side u.waiting p.side (apart_places s.side u.side j k own.0 own.1 a b differ) g.holds;
        desk = g.desk;
        late = g.late;
        ended = g.ended;
        reached = g.reached;
        acked = g.acked;
        aside = g.aside;
        sound = g.sound;
      })

  -- all ends behind that place stay
  rest_stays : (j k : ℕ) (seats : List Seat) (ports : List Port) → j < k
      → (s.side.outbox.owner ≡ 2 * j) × (s.side.inbox.joiner.owner ≡ 2 * j + 1)
      → HaveOwnersFrom k seats → AllByRecursion (λ (u : Seat). u.desk.host ≢ h) seats → SeatsStandFor old seats ports
      → SeatsStandFor new seats (with_port h f ports)
  rest_stays j k [] [] behind own owners hosts g = tt
  rest_stays j k [] (p ∷ ports) behind own owners hosts g = g
  rest_stays j k (u ∷ seats) [] behind own owners hosts g = g
  rest_stays j k (u ∷ seats) (p ∷ ports) behind own owners hosts g = (
    stays j k u p (λ e. omega (arith, behind, e)) own owners.0 owners.1 hosts.0 g.0,
    rest_stays j (k + 1) seats ports (omega (arith, behind)) own owners.2 hosts.1 g.1,
  )

  -- all ends, from the place k on
  change_at : (k i : ℕ) (seats : List Seat) (ports : List Port) → slice_get seats i ≡ Some s → HaveOwnersFrom k seats → HaveOwnHosts seats
      → SeatsStandFor old seats ports → SeatsStandFor new (slice_set seats i t) (with_port h f ports)
  change_at k i [] ports is owners hosts g = cc
  change_at k i (u ∷ seats) [] is owners hosts g = absurd g
  change_at k zero (u ∷ seats) (p ∷ ports) is owners hosts g =
      let e : u ≡ s = cc in
      let one : SeatStandsFor old s p = subst (λ x. SeatStandsFor old x p) e g.0 in
      let others = subst (λ (x : Seat). AllByRecursion (λ (y : Seat). y.desk.host ≢ x.desk.host) seats) e hosts.0 in
      let rest = subst (λ n. AllByRecursion (λ (y : Seat). y.desk.host ≢ n) seats) c.before others in (
        subst (λ q. SeatStandsFor new t q) (sym (picked h f one c.before)) (c.stands p one),
        rest_stays (k + zero) (k + 1) seats ports (omega arith) (owners_at k zero (u ∷ seats) s is owners) owners.2 rest g.1,
      )
  change_at k (suc i) (u ∷ seats) (p ∷ ports) is owners hosts g =
      let own = owners_at (k + 1) i seats s is owners.2 in
      let other = all_at (λ (y : Seat). y.desk.host ≢ u.desk.host) seats i s is hosts.0 in (
        stays (k + 1 + i) k u p (λ e. omega (arith, e)) own owners.0 owners.1 (λ e. other (c.before ∙ sym e)) g.0,
        change_at (k + 1) i seats ports is owners.2 hosts.1 g.1,
      )

  pub owners_stay : (k i : ℕ) (seats : List Seat) → slice_get seats i ≡ Some s → HaveOwnersFrom k seats → HaveOwnersFrom k (slice_set seats i t)
  owners_stay k i [] is o = cc
  owners_stay k zero (u ∷ seats) is o = grind arith
  owners_stay k (suc i) (u ∷ seats) is o = (o.0, o.1, owners_stay (k + 1) i seats is o.2)

  all_stay : (n i : ℕ) (seats : List Seat) → slice_get seats i ≡ Some s → AllByRecursion (λ (u : Seat). u.desk.host ≢ n) seats
      → AllByRecursion (λ (u : Seat). u.desk.host ≢ n) (slice_set seats i t)
  all_stay n i [] is all = cc
  all_stay n zero (u ∷ seats) is all = grind arith
  all_stay n (suc i) (u ∷ seats) is all = (all.0, all_stay n i seats is all.1)

  pub hosts_stay : (i : ℕ) (seats : List Seat) → slice_get seats i ≡ Some s → HaveOwnHosts seats → HaveOwnHosts (slice_set seats i t)
  hosts_stay i [] is hosts = cc
  hosts_stay zero (u ∷ seats) is hosts =
      let e : u ≡ s = cc in
      let same_host : u.desk.host ≡ t.desk.host = ap (λ (x : Seat). x.desk.host) e ∙ (c.before ∙ sym c.after) in
      (subst (λ n. AllByRecursion (λ (y : Seat). y.desk.host ≢ n) seats) same_host hosts.0, hosts.1)
  hosts_stay (suc i) (u ∷ seats) is hosts = (all_stay u.desk.host i seats is hosts.0, hosts_stay i seats is hosts.1)

  pub one_changes : (i : ℕ) (seats : List Seat) (ports : List Port) → slice_get seats i ≡ Some s → AreEnds old seats ports
      → AreEnds new (slice_set seats i t) (with_port h f ports)
  one_changes i seats ports is e = record {
    each = change_at 0 i seats ports is e.owners e.hosts e.each;
    owners = owners_stay 0 i seats is e.owners;
    hosts = hosts_stay i seats is e.hosts;
    few = (let l = length-set {A = Seat} seats i t in omega (arith, l, e.few));
  }

-- ## Places

-- where no end is that of this host, no port is
pub none_at : (pool : PoolState) (h : ℕ) (f : Port → Port) (seats : List Seat) (ports : List Port) → place_in h seats ≡ None → SeatsStandFor pool seats ports
    → (with_port h f ports ≡ ports) × (port_at ports h ≡ None)
none_at pool h f [] [] none g = (refl, refl)
none_at pool h f [] (p ∷ ports) none g = absurd g
none_at pool h f (s ∷ seats) [] none g = absurd g
none_at pool h f (s ∷ seats) (p ∷ ports) none g = by (λ r. none_at pool h f seats ports r g.1) (s.desk.host == h) (place_in h seats) refl refl
  where
    by : (place_in h seats ≡ None → (with_port h f ports ≡ ports) × (port_at ports h ≡ None)) → (b : Bool) (o : Option ℕ) → (s.desk.host == h) ≡ b
        → place_in h seats ≡ o → (with_port h f (p ∷ ports) ≡ p ∷ ports) × (port_at (p ∷ ports) h ≡ None)
    by later b o q r = grind arith

-- the end at the place of this host, and the port that it stands for
pub record IsPlaced (pool : PoolState) (seats : List Seat) (ports : List Port) (i h : ℕ) : Type 0 where
  pub seat : Seat
  pub port : Port
  pub seat_is : slice_get seats i ≡ Some seat
  pub host : seat.desk.host ≡ h
  pub port_is : port_at ports h ≡ Some port
  pub stands : SeatStandsFor pool seat port

pub placed : (pool : PoolState) (h i : ℕ) (seats : List Seat) (ports : List Port) → place_in h seats ≡ Some i → SeatsStandFor pool seats ports
    → IsPlaced pool seats ports i h
placed pool h i [] ports is g = cc
placed pool h i (s ∷ seats) [] is g = absurd g
placed pool h i (s ∷ seats) (p ∷ ports) is g = by (λ j r. placed pool h j seats ports r g.1) (s.desk.host == h) (place_in h seats) refl refl
  where
    by : ((j : ℕ) → place_in h seats ≡ Some j → IsPlaced pool seats ports j h) → (b : Bool) (o : Option ℕ) → (s.desk.host == h) ≡ b
        → place_in h seats ≡ o → IsPlaced pool (s ∷ seats) (p ∷ ports) i h
    by later true o q r = grind arith
    by later false None q r = absurd (let z : None ≡ Some i = rw (q, r) at is in cc)
    by later false (Some j) q r =
        let next : Some (suc j) ≡ Some i = rw (q, r) at is in
        let suc_is : suc j ≡ i = cc in
        let l = later j r in
        let other : (p.desk.host == h) ≡ false = ap (λ n. n == h) (sym (host_is g.0)) ∙ q in
        let P : ℕ → Type 0 = λ n. IsPlaced pool (s ∷ seats) (p ∷ ports) n h in
        subst P suc_is (grind arith)

-- ## The end of this host is changed

pub placed_in : {pool : PoolState} {seats : List Seat} {ports : List Port} (h i : ℕ) → place_in h seats ≡ Some i → AreEnds pool seats ports
    → IsPlaced pool seats ports i h
placed_in {pool} {seats} {ports} h i is e = placed pool h i seats ports is e.each

pub within : {pool : PoolState} {seats : List Seat} {ports : List Port} (h i : ℕ) → place_in h seats ≡ Some i → AreEnds pool seats ports
    → (i < length seats) × (i < 7)
within {pool} {seats} h i is e =
    let p = placed_in h i is e in
    let n = slice_get_within seats i p.seat p.seat_is in
    (n, omega (arith, n, e.few))

-- what is read at the place is the end there
pub read_at : (seats : List Seat) (i : ℕ) (s d : Seat) → slice_get seats i ≡ Some s → slice_index_or seats i d ≡ s
read_at seats i s d is = get_or_from_slice_get seats i s d is

pub nowhere : {pool : PoolState} {seats : List Seat} {ports : List Port} (h : ℕ) (f : Port → Port) (o : Option ℕ) → o ≡ place_in h seats
    → ((i : ℕ) → o ≡ Some i → ⊥) → AreEnds pool seats ports → AreEnds pool seats (with_port h f ports) × (port_at ports h ≡ None)
nowhere {pool} {seats} {ports} h f None is none e =
    let n = none_at pool h f seats ports (sym is) e.each in
    (subst (λ l. AreEnds pool seats l) (sym n.0) e, n.1)
nowhere h f (Some i) is none e = absurd (none i refl)

-- what the ends show stays as it is then
pub still_nowhere : {kept shown : KeptEnds} {ports : List Port} (h : ℕ) (f : Port → Port) (o : Option ℕ) → o ≡ place_in h kept.seats
    → ((i : ℕ) → o ≡ Some i → ⊥) → kept ≡ shown → EndsStandFor shown ports → EndsStandFor shown (with_port h f ports)
still_nowhere h f o is none same stands = kept_so same stands (λ e. (nowhere h f o is none e).0)

-- an end's place is one of seven
pub low_place : {pool : PoolState} {slice seats : List Seat} {ports : List Port} (i : ℕ) → i < length slice → slice ≡ seats → AreEnds pool seats ports → i < 7
low_place i inside is e = let few = e.few in let len = ap (λ (l : List Seat). length l) is in omega (arith, inside, few, len)

-- the owner of the end there
pub owner_at_place : {pool : PoolState} {seats : List Seat} {ports : List Port} (h i : ℕ) (place : place_in h seats ≡ Some i) (e : AreEnds pool seats ports)
    → (placed_in h i place e).seat.side.outbox.owner ≡ 2 * i
owner_at_place {pool} {seats} h i place e =
    let p = placed_in h i place e in
    omega (arith, (owners_at 0 i seats p.seat p.seat_is e.owners).0)

-- a call on an end does to it what its node does to the port
pub record Turned (old new : PoolState) (s t : Seat) (x : Turn) : Type 0 where
  pub sendable : AreSendableInputs (FromNode x ∷ [])
  pub moves : Moves old new s.side t.side
  pub desk : t.desk ≡ s.desk
  pub late : t.late ≡ s.late
  pub ended : t.ended ≡ s.ended
  pub acked : t.acked ≡ s.acked
  pub stands : (m : Machine) → HoldsSeat old s m → s.aside ≡ m.aside → HoldsSeat new t (turn m x) × (t.aside ≡ (turn m x).aside)

pub turned : {old new : PoolState} {s t : Seat} {x : Turn} → Turned old new s t x → SeatBecomes old new s t (after_turn x)
turned {x = x} c = record {
  host = ap (λ (s : Desk). s.host) c.desk;
  moves = c.moves;
  stands = λ p g. record {
    holds = (c.stands p.side g.holds g.aside).0;
    desk = ap desk_shown c.desk ∙ g.desk;
    late = c.late ∙ g.late;
    ended = c.ended ∙ g.ended;
    reached = reached_on p.side (FromNode x) c.sendable g.reached;
    acked = c.acked ∙ (g.acked ∙ ap kept_number (sym (turn_acked p.side x c.sendable g.reached)));
    aside = (c.stands p.side g.holds g.aside).1;
    sound = subst IsSoundDesk (sym c.desk) g.sound;
  };
}

-- the end that is lent at the place of this host, and the port that it stands for
pub record IsLent (pool : PoolState) (ports : List Port) (h : ℕ) (s : Seat) : Type 0 where
  pub port : Port
  pub port_is : port_at ports h ≡ Some port
  pub host : s.desk.host ≡ h
  pub stands : SeatStandsFor pool s port

pub lent_at : {pool : PoolState} {seats : List Seat} {ports : List Port} (h i : ℕ) (s : Seat) → Some i ≡ place_in h seats → s ≡ slice_index_or seats i s
    → AreEnds pool seats ports → IsLent pool ports h s
lent_at {pool} {seats} h i s place is e =
    let p = placed_in h i (sym place) e in
    let same : p.seat ≡ s = sym (is ∙ read_at seats i p.seat s p.seat_is) in
    let Q : Seat → Type 0 = λ x. x.desk.host ≡ h in
    record { port = p.port; port_is = p.port_is; host = subst Q same p.host; stands = subst (λ x. SeatStandsFor pool x p.port) same p.stands }

-- its owner for what goes out
pub owner_lent : {pool : PoolState} {seats : List Seat} {ports : List Port} (h i : ℕ) (s : Seat) → Some i ≡ place_in h seats → s ≡ slice_index_or seats i s
    → AreEnds pool seats ports → s.side.outbox.owner ≡ 2 * i
owner_lent {pool} {seats} h i s place is e =
    let p = placed_in h i (sym place) e in
    ap (λ (x : Seat). x.side.outbox.owner) (is ∙ read_at seats i p.seat s p.seat_is) ∙ owner_at_place h i (sym place) e

-- what becomes of it becomes of its port
pub becomes_at : {old new : PoolState} {seats : List Seat} {f : Port → Port} (ports : List Port) (h i : ℕ) (s t : Seat) → Some i ≡ place_in h seats
    → s ≡ slice_index_or seats i s → SeatBecomes old new s t f → AreEnds old seats ports → AreEnds new (slice_set seats i t) (with_port h f ports)
becomes_at {old} {new} {seats} {f} ports h i s t place is b e =
    let p = placed_in h i (sym place) e in
    let same : p.seat ≡ s = sym (is ∙ read_at seats i p.seat s p.seat_is) in
    let host : s.desk.host ≡ h = ap (λ (x : Seat). x.desk.host) (sym same) ∙ p.host in
    let one : OneChanges old new h f s t = record { before = host; after = b.host ∙ host; moves = b.moves; stands = b.stands } in
    one_changes one i seats ports (p.seat_is ∙ ap (λ (x : Seat). Some x) same) e

-- what is told where there is an end
pub told_there : {X : Type 0} (f : Port → X) (x : X) (o : Option Port) (p : Port) → o ≡ Some p → x ≡ f p → Some x ≡ option_map f o
told_there f x o p is told = ap (λ y. Some y) told ∙ ap (option_map f) (sym is)
