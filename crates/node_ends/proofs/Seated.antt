-- The end at a place is changed, or those at all places, one after another.
use Rattle.node_ends.proofs.Words.{AreEnds, EndsStandFor, HaveOwnersFrom, KeptEnds, List, None, PoolState, Port, Seat, SeatBecomes, SeatStandsFor}
use Rattle.node_ends.proofs.Words.{SeatsStandFor, Some, [], ap, arith, drop, length, length-set, map, refl, slice_get, slice_index_or, slice_set, subst, suc}
use Rattle.node_ends.proofs.Words.{sym, take, zero, ℕ, ◌*◌, ◌++◌, ◌+◌, ◌<◌, ◌∙◌, ◌∷◌, ◌≡◌, ◌≢◌, ◌≤◌}
use Rattle.node_ends.specs.Ends.{at_place}
use Rattle.node_ends.proofs.Opening.{opened, kept_so}
use Rattle.node_ends.proofs.Changing.{OneChanges, apart_places, owners_at, owners_stay, hosts_stay, read_at}

module _ {old new : PoolState} {f : Port → Port} {s t : Seat} (c : SeatBecomes old new s t f) where
  -- an end at another place stays
  stays : (j k : ℕ) (u : Seat) (p : Port) → j ≢ k → (s.side.outbox.owner ≡ 2 * j) × (s.side.inbox.joiner.owner ≡ 2 * j + 1)
      → (u.side.outbox.owner ≡ 2 * k) → (u.side.inbox.joiner.owner ≡ 2 * k + 1) → SeatStandsFor old u p → SeatStandsFor new u p
  stays j k u p differ own a b g = record {
    holds = c.moves.beside u.side u.waiting p.side (apart_places s.side u.side j k own.0 own.1 a b differ) g.holds;
    desk = g.desk;
    late = g.late;
    ended = g.ended;
    reached = g.reached;
    acked = g.acked;
    aside = g.aside;
    sound = g.sound;
  }

  -- all ends behind that place stay
  rest_stays : (j k : ℕ) (seats : List Seat) (ports : List Port) → j < k
      → (s.side.outbox.owner ≡ 2 * j) × (s.side.inbox.joiner.owner ≡ 2 * j + 1)
      → HaveOwnersFrom k seats → SeatsStandFor old seats ports → SeatsStandFor new seats ports
  rest_stays j k [] [] behind own owners g = tt
  rest_stays j k [] (p ∷ ports) behind own owners g = g
  rest_stays j k (u ∷ seats) [] behind own owners g = g
  rest_stays j k (u ∷ seats) (p ∷ ports) behind own owners g = (
    stays j k u p (λ e. omega (arith, behind, e)) own owners.0 owners.1 g.0,
    rest_stays j (k + 1) seats ports (omega (arith, behind)) own owners.2 g.1,
  )

  -- all ends, from the place k on
  change_at : (k i : ℕ) (seats : List Seat) (ports : List Port) → slice_get seats i ≡ Some s → HaveOwnersFrom k seats
      → SeatsStandFor old seats ports → SeatsStandFor new (slice_set seats i t) (at_place i f ports)
  change_at k i [] ports is owners g = cc
  change_at k i (u ∷ seats) [] is owners g = absurd g
  change_at k zero (u ∷ seats) (p ∷ ports) is owners g =
      let e : u ≡ s = cc in
      let P : Seat → Type 0 = λ x. SeatStandsFor old x p in
      let own = owners_at k zero (u ∷ seats) s is owners in
      (c.stands p (subst P e g.0), rest_stays (k + zero) (k + 1) seats ports (omega arith) own owners.2 g.1)
  change_at k (suc i) (u ∷ seats) (p ∷ ports) is owners g =
      let own = owners_at (k + 1) i seats s is owners.2 in
      (stays (k + 1 + i) k u p (λ e. omega (arith, e)) own owners.0 owners.1 g.0, change_at (k + 1) i seats ports is owners.2 g.1)

  pub here_changes : (i : ℕ) (seats : List Seat) (ports : List Port) → slice_get seats i ≡ Some s → AreEnds old seats ports
      → AreEnds new (slice_set seats i t) (at_place i f ports)
  here_changes i seats ports is e =
      let one : OneChanges old new s.desk.host f s t = record { before = refl; after = c.host; moves = c.moves; stands = c.stands } in
      record {
        each = change_at 0 i seats ports is e.owners e.each;
        owners = owners_stay one 0 i seats is e.owners;
        hosts = hosts_stay one i seats is e.hosts;
        few = (let l = length-set {A = Seat} seats i t in omega (arith, l, e.few));
      }

-- ## The end at a place

-- the end at a place, and the port that it stands for
pub record IsSeated (pool : PoolState) (seats : List Seat) (ports : List Port) (i : ℕ) : Type 0 where
  pub seat : Seat
  pub port : Port
  pub seat_is : slice_get seats i ≡ Some seat
  pub port_is : slice_get ports i ≡ Some port
  pub stands : SeatStandsFor pool seat port

pub seated : (pool : PoolState) (i : ℕ) (seats : List Seat) (ports : List Port) → i < length seats → SeatsStandFor pool seats ports
    → IsSeated pool seats ports i
seated pool i [] ports inside g = absurd (omega (arith, inside))
seated pool i (s ∷ seats) [] inside g = absurd g
seated pool zero (s ∷ seats) (p ∷ ports) inside g = record { seat = s; port = p; seat_is = refl; port_is = refl; stands = g.0 }
seated pool (suc i) (s ∷ seats) (p ∷ ports) inside g =
    let r = seated pool i seats ports (omega (arith, inside)) g.1 in
    record { seat = r.seat; port = r.port; seat_is = r.seat_is; port_is = r.port_is; stands = r.stands }

-- behind the last end there is none
pub beyond : (pool : PoolState) (i : ℕ) (f : Port → Port) (seats : List Seat) (ports : List Port) → length seats ≤ i → SeatsStandFor pool seats ports
    → (at_place i f ports ≡ ports) × (slice_get ports i ≡ None)
beyond pool i f [] [] past g = (refl, refl)
beyond pool i f [] (p ∷ ports) past g = absurd g
beyond pool i f (s ∷ seats) [] past g = absurd g
beyond pool zero f (s ∷ seats) (p ∷ ports) past g = absurd (omega (arith, past))
beyond pool (suc i) f (s ∷ seats) (p ∷ ports) past g =
    let r = beyond pool i f seats ports (omega (arith, past)) g.1 in
    (ap (λ l. p ∷ l) r.0, r.1)

-- what the ends show stays as it is then
pub still_beyond : {kept shown : KeptEnds} {ports : List Port} (i : ℕ) (f : Port → Port) → length kept.seats ≤ i → kept ≡ shown → EndsStandFor shown ports
    → EndsStandFor shown (at_place i f ports)
still_beyond {kept} {ports = ports} i f past same stands =
    kept_so same stands (λ e.
    subst (λ l. EndsStandFor kept l) (sym (beyond kept.pool i f kept.seats ports past e.each).0) e)

pub none_beyond : {kept shown : KeptEnds} {ports : List Port} (i : ℕ) → length kept.seats ≤ i → kept ≡ shown → EndsStandFor shown ports
    → None ≡ slice_get ports i
none_beyond {kept} {ports = ports} i past same stands = sym (beyond kept.pool i (λ (p : Port). p) kept.seats ports past (opened same stands).each).1

-- the end that is read at a place stands for the port there
pub record IsReadHere (pool : PoolState) (ports : List Port) (i : ℕ) (r : Seat) : Type 0 where
  pub port : Port
  pub port_is : slice_get ports i ≡ Some port
  pub stands : SeatStandsFor pool r port

pub reads_here : {pool : PoolState} {seats : List Seat} {ports : List Port} (i : ℕ) (d : Seat) → i < length seats
    → AreEnds pool seats ports → IsReadHere pool ports i (slice_index_or seats i d)
reads_here {pool} {seats} {ports} i d inside e =
    let p = seated pool i seats ports inside e.each in
    let P : Seat → Type 0 = λ s. SeatStandsFor pool s p.port in
    record { port = p.port; port_is = p.port_is; stands = subst P (sym (read_at seats i p.seat d p.seat_is)) p.stands }

-- the same of the end that is lent there
pub lent_here : {pool : PoolState} {seats : List Seat} {ports : List Port} (i : ℕ) (s : Seat) → i < length seats → s ≡ slice_index_or seats i s
    → AreEnds pool seats ports → IsReadHere pool ports i s
lent_here {pool} {seats} {ports} i s inside is e =
    let P : Seat → Type 0 = λ x. IsReadHere pool ports i x in subst P (sym is) (reads_here i s inside e)

-- its owner for what goes out
pub owner_here : {pool : PoolState} {seats : List Seat} {ports : List Port} (i : ℕ) (s : Seat) → i < length seats → s ≡ slice_index_or seats i s
    → AreEnds pool seats ports → s.side.outbox.owner ≡ 2 * i
owner_here {pool} {seats} {ports} i s inside is e =
    let p = seated pool i seats ports inside e.each in
    let owner : p.seat.side.outbox.owner ≡ 2 * i = omega (arith, (owners_at 0 i seats p.seat p.seat_is e.owners).0) in
    ap (λ (x : Seat). x.side.outbox.owner) (is ∙ read_at seats i p.seat s p.seat_is) ∙ owner

-- what becomes of it becomes of its port
pub becomes_here : {old new : PoolState} {seats : List Seat} {f : Port → Port} (ports : List Port) (i : ℕ) (s t : Seat) → i < length seats
    → s ≡ slice_index_or seats i s → SeatBecomes old new s t f → AreEnds old seats ports → AreEnds new (slice_set seats i t) (at_place i f ports)
becomes_here {old} {seats = seats} ports i s t inside is b e =
    let p = seated old i seats ports inside e.each in
    here_changes b i seats ports (p.seat_is ∙ ap (λ (x : Seat). Some x) (sym (is ∙ read_at seats i p.seat s p.seat_is))) e

-- ## All ends, one after another

-- those at the first places are changed so, and the others aren't
abbrev pub first_changed : ℕ → (Port → Port) → List Port → List Port
first_changed i f ports = map f (take i ports) ++ drop i ports

-- none is changed yet
pub none_changed : (f : Port → Port) (ports : List Port) → first_changed 0 f ports ≡ ports
none_changed f ports = grind arith

-- the next one is changed
pub next_changed : (i : ℕ) (f : Port → Port) (ports : List Port) → at_place i f (first_changed i f ports) ≡ first_changed (suc i) f ports
next_changed zero f [] = refl
next_changed (suc i) f [] = refl
next_changed zero f (p ∷ []) = refl
next_changed zero f (p ∷ q ∷ ports) = refl
next_changed (suc i) f (p ∷ ports) = ap (λ l. f p ∷ l) (next_changed i f ports)

-- the next one is the one that was there
pub next_there : (i : ℕ) (f : Port → Port) (ports : List Port) → slice_get (first_changed i f ports) i ≡ slice_get ports i
next_there zero f [] = refl
next_there (suc i) f [] = refl
next_there zero f (p ∷ ports) = refl
next_there (suc i) f (p ∷ ports) = next_there i f ports

-- behind the last place all are changed
pub all_changed : (i : ℕ) (f : Port → Port) (ports : List Port) → length ports ≤ i → first_changed i f ports ≡ map f ports
all_changed zero f [] past = refl
all_changed (suc i) f [] past = refl
all_changed zero f (p ∷ ports) past = absurd (omega (arith, past))
all_changed (suc i) f (p ∷ ports) past = ap (λ l. f p ∷ l) (all_changed i f ports (omega (arith, past)))

-- there are as many ports as ends
pub as_many : (pool : PoolState) (seats : List Seat) (ports : List Port) → SeatsStandFor pool seats ports → length seats ≡ length ports
as_many pool [] [] g = refl
as_many pool [] (p ∷ ports) g = absurd g
as_many pool (s ∷ seats) [] g = absurd g
as_many pool (s ∷ seats) (p ∷ ports) g = ap suc (as_many pool seats ports g.1)

-- at a place only the port there matters
pub at_place_as : (i : ℕ) (f g : Port → Port) (ports : List Port) → ((p : Port) → slice_get ports i ≡ Some p → f p ≡ g p)
    → at_place i f ports ≡ at_place i g ports
at_place_as i f g [] same = refl
at_place_as zero f g (p ∷ ports) same = ap (λ (q : Port). q ∷ ports) (same p refl)
at_place_as (suc i) f g (p ∷ ports) same = ap (λ (l : List Port). p ∷ l) (at_place_as i f g ports same)

-- where nothing changes there, nothing changes
pub at_place_still : (i : ℕ) (ports : List Port) → at_place i (λ (p : Port). p) ports ≡ ports
at_place_still i [] = refl
at_place_still zero (p ∷ ports) = refl
at_place_still (suc i) (p ∷ ports) = ap (λ (l : List Port). p ∷ l) (at_place_still i ports)
