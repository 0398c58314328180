-- Two ends of a node are changed by one call, or one end by two things that happen to it.
use Rattle.node_ends.proofs.Words.{AllByRecursion, AreEnds, Bool, End, HaveOwnHosts, HaveOwners, HaveOwnersFrom, HoldsEnd, List, Machine, None, Option}
use Rattle.node_ends.proofs.Words.{PoolState, Port, Seat, SeatStandsFor, SeatsStandFor, Some, Waiting, [], ap, arith, changed_if, eq-eqb, eqb-true, false}
use Rattle.node_ends.proofs.Words.{length, length-set, map, port_at, refl, slice_get, slice_set, subst, suc, sym, true, true≢false, with_port, zero, ℕ, ◌*◌}
use Rattle.node_ends.proofs.Words.{◌+◌, ◌==◌, ◌∙◌, ◌∷◌, ◌≡◌, ◌≢◌}
use Rattle.node_ends.proofs.Changing.{host_is, apart_places, owners_at, all_at, differs}

-- ## Places

get_same : (xs : List Seat) (i : ℕ) (y x : Seat) → slice_get xs i ≡ Some y → slice_get (slice_set xs i x) i ≡ Some x
get_same [] i y x is = cc
get_same (z ∷ xs) zero y x is = refl
get_same (z ∷ xs) (suc i) y x is = get_same xs i y x is

get_other : (xs : List Seat) (i n : ℕ) (x : Seat) → n ≢ i → slice_get (slice_set xs i x) n ≡ slice_get xs n
get_other [] i n x other = refl
get_other (z ∷ xs) zero zero x other = absurd (other refl)
get_other (z ∷ xs) zero (suc n) x other = refl
get_other (z ∷ xs) (suc i) zero x other = refl
get_other (z ∷ xs) (suc i) (suc n) x other = get_other xs i n x (λ e. other (ap suc e))

pub not_same : (n i : ℕ) → (n == i) ≡ false → n ≢ i
not_same n i q = λ e. (let z : true ≡ false = sym (eq-eqb n i e) ∙ q in true≢false z)

-- two ends at two places are of two hosts
hosts_differ : (i n : ℕ) (seats : List Seat) (a s : Seat) → HaveOwnHosts seats → slice_get seats i ≡ Some a → slice_get seats n ≡ Some s → n ≢ i
    → s.desk.host ≢ a.desk.host
hosts_differ i n [] a s hosts at is other = cc
hosts_differ zero zero (u ∷ seats) a s hosts at is other = absurd (other refl)
hosts_differ zero (suc n) (u ∷ seats) a s hosts at is other =
    let e : u ≡ a = cc in
    let far = all_at (λ (y : Seat). y.desk.host ≢ u.desk.host) seats n s is hosts.0 in
    λ q. far (q ∙ ap (λ (x : Seat). x.desk.host) (sym e))
hosts_differ (suc i) zero (u ∷ seats) a s hosts at is other =
    let e : u ≡ s = cc in
    let far = all_at (λ (y : Seat). y.desk.host ≢ u.desk.host) seats i a at hosts.0 in
    λ q. far (sym q ∙ ap (λ (x : Seat). x.desk.host) (sym e))
hosts_differ (suc i) (suc n) (u ∷ seats) a s hosts at is other = hosts_differ i n seats a s hosts.1 at is (λ e. other (ap suc e))

-- an end has the owners and the host of the one that was there
pub record HasPlaceOf (s t : Seat) : Type 0 where
  pub sender : t.side.outbox.owner ≡ s.side.outbox.owner
  pub receiver : t.side.inbox.joiner.owner ≡ s.side.inbox.joiner.owner
  pub host : t.desk.host ≡ s.desk.host

owners_set : (k i : ℕ) (seats : List Seat) (s t : Seat) → HasPlaceOf s t → slice_get seats i ≡ Some s → HaveOwnersFrom k seats
    → HaveOwnersFrom k (slice_set seats i t)
owners_set k i [] s t c is o = cc
owners_set k zero (u ∷ seats) s t c is o = grind arith
owners_set k (suc i) (u ∷ seats) s t c is o = (o.0, o.1, owners_set (k + 1) i seats s t c is o.2)

all_set : (n i : ℕ) (seats : List Seat) (s t : Seat) → HasPlaceOf s t → slice_get seats i ≡ Some s → AllByRecursion (λ (u : Seat). u.desk.host ≢ n) seats
    → AllByRecursion (λ (u : Seat). u.desk.host ≢ n) (slice_set seats i t)
all_set n i [] s t c is all = cc
all_set n zero (u ∷ seats) s t c is all = grind arith
all_set n (suc i) (u ∷ seats) s t c is all = (all.0, all_set n i seats s t c is all.1)

hosts_set : (i : ℕ) (seats : List Seat) (s t : Seat) → HasPlaceOf s t → slice_get seats i ≡ Some s → HaveOwnHosts seats
    → HaveOwnHosts (slice_set seats i t)
hosts_set i [] s t c is hosts = cc
hosts_set zero (u ∷ seats) s t c is hosts =
    let e : u ≡ s = cc in
    let same_host : u.desk.host ≡ t.desk.host = ap (λ (x : Seat). x.desk.host) e ∙ sym c.host in
    (subst (λ n. AllByRecursion (λ (y : Seat). y.desk.host ≢ n) seats) same_host hosts.0, hosts.1)
hosts_set (suc i) (u ∷ seats) s t c is hosts = (all_set u.desk.host i seats s t c is hosts.0, hosts_set i seats s t c is hosts.1)

-- ## Ports

chosen : (h : ℕ) (f : Port → Port) (p : Port) → p.desk.host ≡ h → changed_if (p.desk.host == h) f p ≡ f p
chosen h f p is = let yes : (p.desk.host == h) ≡ true = eq-eqb p.desk.host h is in rw yes refl

passed : (h : ℕ) (f : Port → Port) (p : Port) → p.desk.host ≢ h → changed_if (p.desk.host == h) f p ≡ p
passed h f p other = let no = differs p.desk.host h other in rw no refl

-- two things that happen to the ends of one host
pub twice : (h : ℕ) (f g : Port → Port) → ((p : Port) → (f p).desk.host ≡ p.desk.host) → (ports : List Port)
    → with_port h (λ p. g (f p)) ports ≡ with_port h g (with_port h f ports)
twice h f g keeps [] = refl
twice h f g keeps (p ∷ ports) = by (p.desk.host == h) refl (twice h f g keeps ports)
  where
    by : (b : Bool) → (p.desk.host == h) ≡ b → with_port h (λ q. g (f q)) ports ≡ with_port h g (with_port h f ports)
        → with_port h (λ q. g (f q)) (p ∷ ports) ≡ with_port h g (with_port h f (p ∷ ports))
    by b e later = grind arith

-- where there is no end of a host, nothing happens to it
pub none_there : (h : ℕ) (f : Port → Port) (ports : List Port) → port_at ports h ≡ None → with_port h f ports ≡ ports
none_there h f [] none = refl
none_there h f (p ∷ ports) none = by (p.desk.host == h) refl (none_there h f ports)
  where
    by : (b : Bool) → (p.desk.host == h) ≡ b → (port_at ports h ≡ None → with_port h f ports ≡ ports) → with_port h f (p ∷ ports) ≡ p ∷ ports
    by b e later = grind arith

-- what happens to another end makes none
pub none_after : (h k : ℕ) (f : Port → Port) → ((p : Port) → (f p).desk.host ≡ p.desk.host) → (ports : List Port) → port_at ports h ≡ None
    → port_at (with_port k f ports) h ≡ None
none_after h k f keeps [] none = refl
none_after h k f keeps (p ∷ ports) none = by (p.desk.host == h) (p.desk.host == k) refl refl (none_after h k f keeps ports)
  where
    by : (a b : Bool) → (p.desk.host == h) ≡ a → (p.desk.host == k) ≡ b → (port_at ports h ≡ None → port_at (with_port k f ports) h ≡ None)
        → port_at (with_port k f (p ∷ ports)) h ≡ None
    by a b e d later = grind arith

-- ## Two ends are changed

-- The ends at two places are changed with their pool, and all others in it stay.
pub record BothChange (old new : PoolState) (f g : Port → Port) (a b c d : Seat) : Type 0 where
  pub one : (p : Port) → SeatStandsFor old a p → SeatStandsFor new c (f p)
  pub other : (p : Port) → SeatStandsFor old b p → SeatStandsFor new d (g p)
  pub beside : (k : End) (waiting : Option Waiting) (m : Machine) → HaveOwners a.side k → HaveOwners b.side k
      → HoldsEnd old k waiting m → HoldsEnd new k waiting m
  pub first : HasPlaceOf a c
  pub second : HasPlaceOf b d
  pub keeps : (p : Port) → (f p).desk.host ≡ p.desk.host

-- each end stands for its port
each_stands : {old new : PoolState} (f g : Port → Port) (seats after : List Seat) (ports : List Port) → length after ≡ length seats
    → ((n : ℕ) (s t : Seat) (p : Port) → slice_get seats n ≡ Some s → slice_get after n ≡ Some t → SeatStandsFor old s p
    → SeatStandsFor new t (g (f p))) → SeatsStandFor old seats ports → SeatsStandFor new after (map g (map f ports))
each_stands f g [] [] [] len each h = tt
each_stands f g [] [] (p ∷ ports) len each h = absurd h
each_stands f g [] (t ∷ after) ports len each h = absurd (omega (arith, len))
each_stands f g (s ∷ seats) [] ports len each h = absurd (omega (arith, len))
each_stands f g (s ∷ seats) (t ∷ after) [] len each h = absurd h
each_stands f g (s ∷ seats) (t ∷ after) (p ∷ ports) len each h = (
  each 0 s t p refl refl h.0,
  each_stands f g seats after ports (omega (arith, len)) (λ n u v q is at x. each (suc n) u v q is at x) h.1,
)

-- the owners of the end at a place
pub own_places : (i : ℕ) (seats : List Seat) (s : Seat) → slice_get seats i ≡ Some s → HaveOwnersFrom 0 seats
    → (s.side.outbox.owner ≡ 2 * i) × (s.side.inbox.joiner.owner ≡ 2 * i + 1)
own_places i seats s is owners = let o = owners_at 0 i seats s is owners in let out = o.0 in let into = o.1 in (omega (arith, out), omega (arith, into))

module _ {old new : PoolState} {f g : Port → Port} {a b c d : Seat} (x : BothChange old new f g a b c d) where
  -- an end at a third place
  third : (i j n : ℕ) (seats : List Seat) (s : Seat) (p : Port) → slice_get seats i ≡ Some a → slice_get seats j ≡ Some b → slice_get seats n ≡ Some s
      → n ≢ i → n ≢ j → HaveOwnersFrom 0 seats → SeatStandsFor old s p → SeatStandsFor new s p
  third i j n seats s p at there is one two owners h =
      let own = own_places n seats s is owners in
      let one_own = own_places i seats a at owners in
      let two_own = own_places j seats b there owners in
      record {
        holds = x.beside s.side s.waiting p.side
            (apart_places a.side s.side i n one_own.0 one_own.1 own.0 own.1 (λ e. one (sym e)))
            (apart_places b.side s.side j n two_own.0 two_own.1 own.0 own.1 (λ e. two (sym e))) h.holds;
        desk = h.desk;
        late = h.late;
        ended = h.ended;
        reached = h.reached;
        acked = h.acked;
        aside = h.aside;
        sound = h.sound;
      }

  pub both_change : (i j : ℕ) (seats : List Seat) (ports : List Port) → slice_get seats i ≡ Some a → slice_get seats j ≡ Some b → i ≢ j
      → AreEnds old seats ports
      → AreEnds new (slice_set (slice_set seats i c) j d) (with_port b.desk.host g (with_port a.desk.host f ports))
  both_change i j seats ports at there differ e =
      let l = length-set {A = Seat} seats i c in
      let r = length-set {A = Seat} (slice_set seats i c) j d in
      record {
        each = each_stands F G seats (slice_set (slice_set seats i c) j d) ports (omega (arith, l, r))
            (λ n s t p is now h. by n s t p is now h (n == i) (n == j) refl refl) e.each;
        owners = owners_set 0 j (slice_set seats i c) b d x.second next (owners_set 0 i seats a c x.first at e.owners);
        hosts = hosts_set j (slice_set seats i c) b d x.second next (hosts_set i seats a c x.first at e.hosts);
        few = omega (arith, l, r, e.few);
      }
    where
      next : slice_get (slice_set seats i c) j ≡ Some b
      next = get_other seats i j c (λ q. differ (sym q)) ∙ there

      F : Port → Port
      F p = changed_if (p.desk.host == a.desk.host) f p

      G : Port → Port
      G p = changed_if (p.desk.host == b.desk.host) g p

      apart : b.desk.host ≢ a.desk.host
      apart = hosts_differ i j seats a b e.hosts at there (λ q. differ (sym q))

      by : (n : ℕ) (s t : Seat) (p : Port) → slice_get seats n ≡ Some s → slice_get (slice_set (slice_set seats i c) j d) n ≡ Some t
          → SeatStandsFor old s p → (u v : Bool) → (n == i) ≡ u → (n == j) ≡ v → SeatStandsFor new t (G (F p))
      by n s t p is now h true v q r =
          let here : n ≡ i = eqb-true n i q in
          let away : i ≢ j = differ in
          let was : slice_get seats i ≡ Some s = subst (λ k. slice_get seats k ≡ Some s) here is in
          let now_here : slice_get (slice_set (slice_set seats i c) j d) i ≡ Some t = grind arith in
          let old_seat : Some s ≡ Some a = sym was ∙ at in
          let new_seat : Some t ≡ Some c = sym now_here ∙ (get_other (slice_set seats i c) j i d away ∙ get_same seats i a c at) in
          let s_is : s ≡ a = cc in
          let t_is : t ≡ c = cc in
          let host : p.desk.host ≡ a.desk.host = sym (host_is h) ∙ ap (λ (u : Seat). u.desk.host) s_is in
          let far : (f p).desk.host ≢ b.desk.host = λ z. apart (sym z ∙ (x.keeps p ∙ host)) in
          let is_so : G (F p) ≡ f p = ap G (chosen a.desk.host f p host) ∙ passed b.desk.host g (f p) far in
          let P : Port → Type 0 = λ r. SeatStandsFor new t r in
          let Q : Seat → Type 0 = λ u. SeatStandsFor new u (f p) in
          let R : Seat → Type 0 = λ u. SeatStandsFor old u p in
          subst P (sym is_so) (subst Q (sym t_is) (x.one p (subst R s_is h)))
      by n s t p is now h false true q r =
          let here : n ≡ j = eqb-true n j r in
          let was : slice_get seats j ≡ Some s = subst (λ k. slice_get seats k ≡ Some s) here is in
          let now_here : slice_get (slice_set (slice_set seats i c) j d) j ≡ Some t = grind arith in
          let old_seat : Some s ≡ Some b = sym was ∙ there in
          let new_seat : Some t ≡ Some d = sym now_here ∙ get_same (slice_set seats i c) j b d next in
          let s_is : s ≡ b = cc in
          let t_is : t ≡ d = cc in
          let host : p.desk.host ≡ b.desk.host = sym (host_is h) ∙ ap (λ (u : Seat). u.desk.host) s_is in
          let far : p.desk.host ≢ a.desk.host = λ z. apart (sym host ∙ z) in
          let is_so : G (F p) ≡ g p = ap G (passed a.desk.host f p far) ∙ chosen b.desk.host g p host in
          let P : Port → Type 0 = λ y. SeatStandsFor new t y in
          let Q : Seat → Type 0 = λ u. SeatStandsFor new u (g p) in
          let R : Seat → Type 0 = λ u. SeatStandsFor old u p in
          subst P (sym is_so) (subst Q (sym t_is) (x.other p (subst R s_is h)))
      by n s t p is now h false false q r =
          let one : n ≢ i = not_same n i q in
          let two : n ≢ j = not_same n j r in
          let same_seat : Some t ≡ Some s = sym now ∙ (get_other (slice_set seats i c) j n d two ∙ (get_other seats i n c one ∙ is)) in
          let t_is : t ≡ s = cc in
          let first : p.desk.host ≢ a.desk.host = λ z. hosts_differ i n seats a s e.hosts at is one (host_is h ∙ z) in
          let second : p.desk.host ≢ b.desk.host = λ z. hosts_differ j n seats b s e.hosts there is two (host_is h ∙ z) in
          let is_so : G (F p) ≡ p = ap G (passed a.desk.host f p first) ∙ passed b.desk.host g p second in
          let P : Port → Type 0 = λ y. SeatStandsFor new t y in
          let Q : Seat → Type 0 = λ u. SeatStandsFor new u p in
          subst P (sym is_so) (subst Q (sym t_is) (third i j n seats s p at there is one two e.owners h))
