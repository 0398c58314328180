-- What a node looks at of its ends before it decides is what is kept of them.
use Rattle.std.proofs.Common.{◌/◌}
use Rattle.node_ends.proofs.Words.{AllByRecursion, AreEnds, AreSoundDesks, Bool, Desk, DeskOf, Down, HaveOwnHosts, List, PoolState, Port, Seat, SeatsStandFor}
use Rattle.node_ends.proofs.Words.{Some, Up, [], ap, ap₂, arith, common_steps, cond, eq-eqb, eqb, get_or, has_link, is_up, length, map, port_at}
use Rattle.node_ends.proofs.Words.{refl, suc, sym, take, take_all, true, zero, ℕ, ◌%◌, ◌*◌, ◌++◌, ◌+◌, ◌<◌, ◌==◌, ◌∙◌, ◌∷◌, ◌≡◌, ◌≢◌, ◌≤◌}
use Rattle.gate_admin.specs.View.{has}
use Rattle.node_deeds.specs.Shown.{AreSeen, ports_shown, seen_at}
use Rattle.node_ends.specs.Ends.{AreOfHosts}
use Rattle.node_ends.proofs.Changing.{host_is}

-- ## Masks

pub bit_is : (b : Bool) (n : ℕ) → n ≡ cond b 1 0 → eqb n 1 ≡ b
bit_is b n q = grind arith

-- a mask with these bits, each at most 1
pub bits : (m a b c d e f g : ℕ) → m ≡ 2 * a + 4 * b + 8 * c + 16 * d + 32 * e + 64 * f + 128 * g → a ≤ 1 → b ≤ 1 → c ≤ 1 → d ≤ 1 → e ≤ 1 → f ≤ 1 → g ≤ 1
    → (m / 2 % 2 ≡ a) × (m / 4 % 2 ≡ b) × (m / 8 % 2 ≡ c) × (m / 16 % 2 ≡ d) × (m / 32 % 2 ≡ e) × (m / 64 % 2 ≡ f) × (m / 128 % 2 ≡ g)
bits m a b c d e f g is p q r s t u v = grind arith

pub has_bit : (test : ℕ → Bool) (m : ℕ) (h : ℕ) → 1 ≤ h → h ≤ 7 → eqb (m / 2 % 2) 1 ≡ test 1 → eqb (m / 4 % 2) 1 ≡ test 2 → eqb (m / 8 % 2) 1 ≡ test 3
    → eqb (m / 16 % 2) 1 ≡ test 4 → eqb (m / 32 % 2) 1 ≡ test 5 → eqb (m / 64 % 2) 1 ≡ test 6 → eqb (m / 128 % 2) 1 ≡ test 7 → has m h ≡ test h
has_bit test m zero some most a b c d e f g = absurd (omega (arith, some))
has_bit test m (suc zero) some most a b c d e f g = a
has_bit test m (suc (suc zero)) some most a b c d e f g = b
has_bit test m (suc (suc (suc zero))) some most a b c d e f g = c
has_bit test m (suc (suc (suc (suc zero)))) some most a b c d e f g = d
has_bit test m (suc (suc (suc (suc (suc zero))))) some most a b c d e f g = e
has_bit test m (suc (suc (suc (suc (suc (suc zero)))))) some most a b c d e f g = f
has_bit test m (suc (suc (suc (suc (suc (suc (suc zero))))))) some most a b c d e f g = g
has_bit test m (suc (suc (suc (suc (suc (suc (suc (suc n)))))))) some most a b c d e f g = absurd (omega (arith, most))

-- ## Each end is found by its host

abbrev pub IsFound : List Port → Port → Type 0
IsFound all q = port_at all q.desk.host ≡ Some q

found_behind : (pool : PoolState) (s : Seat) (p : Port) (all : List Port) (seats : List Seat) (ports : List Port) → s.desk.host ≡ p.desk.host
    → AllByRecursion (λ (t : Seat). t.desk.host ≢ s.desk.host) seats → SeatsStandFor pool seats ports → AllByRecursion (IsFound all) ports
    → AllByRecursion (IsFound (p ∷ all)) ports
found_behind pool s p all [] [] same differ g found = tt
found_behind pool s p all [] (q ∷ ports) same differ g found = absurd g
found_behind pool s p all (t ∷ seats) [] same differ g found = absurd g
found_behind pool s p all (t ∷ seats) (q ∷ ports) same differ g found =
    (by (p.desk.host == q.desk.host) refl, found_behind pool s p all seats ports same differ.1 g.1 found.1)
  where
    by : (b : Bool) → (p.desk.host == q.desk.host) ≡ b → IsFound (p ∷ all) q
    by b e = grind arith

pub all_found : (pool : PoolState) (seats : List Seat) (ports : List Port) → HaveOwnHosts seats → SeatsStandFor pool seats ports
    → AllByRecursion (IsFound ports) ports
all_found pool [] [] own g = tt
all_found pool [] (p ∷ ports) own g = absurd g
all_found pool (s ∷ seats) [] own g = absurd g
all_found pool (s ∷ seats) (p ∷ ports) own g =
    let here : (p.desk.host == p.desk.host) ≡ true = eq-eqb p.desk.host p.desk.host refl in
    (rw here refl, found_behind pool s p ports seats ports (host_is g.0) own.0 g.1 (all_found pool seats ports own.1 g.1))

-- ## What is seen

up_is : (b : Bool) → is_up (cond b Up Down) ≡ b
up_is b = grind arith

each_seen : (pool : PoolState) (up : ℕ) (all : List Port) (seats : List Seat) (ports : List Port)
    → ((h : ℕ) → 1 ≤ h → h ≤ 7 → has up h ≡ has_link all h) → AreOfHosts ports → AllByRecursion (IsFound all) ports → SeatsStandFor pool seats ports
    → map seen_at ports ≡ map seen_at (ports_shown up (map (λ (s : Seat). s.desk) seats))
each_seen pool up all [] [] mask hosts found g = refl
each_seen pool up all [] (p ∷ ports) mask hosts found g = absurd g
each_seen pool up all (s ∷ seats) [] mask hosts found g = absurd g
each_seen pool up all (s ∷ seats) (p ∷ ports) mask hosts found g =
    let linked : has_link all p.desk.host ≡ is_up p.side.shdlc.phase = grind arith in
    let same : has up s.desk.host ≡ is_up p.side.shdlc.phase = grind arith in
    ap₂ (λ (x : DeskOf × Bool) xs. x ∷ xs) (grind arith) (each_seen pool up all seats ports mask hosts.1 found.1 g.1)

pub are_seen : (pool : PoolState) (up : ℕ) (desks : List Desk) (seats : List Seat) (ports : List Port) → desks ≡ map (λ (s : Seat). s.desk) seats
    → ((h : ℕ) → 1 ≤ h → h ≤ 7 → has up h ≡ has_link ports h) → AreOfHosts ports → AreEnds pool seats ports → AreSeen up desks ports
are_seen pool up desks seats ports is mask hosts e = record {
  same = each_seen pool up ports seats ports mask hosts (all_found pool seats ports e.hosts e.each) e.each
      ∙ ap (λ ds. map seen_at (ports_shown up ds)) (sym is);
}

-- the desks of the ends so far, and one more
pub one_desk : (seats : List Seat) (i : ℕ) (s : Seat) (desks more : List Desk) → i < length seats → s ≡ get_or seats i s
    → desks ≡ map (λ (t : Seat). t.desk) (take i seats) → more ≡ desks ++ s.desk ∷ [] → more ≡ map (λ (t : Seat). t.desk) (take (i + 1) seats)
one_desk seats i s desks more inside is so_far pushed = grind (arith, common_steps)

-- behind the last end they are all
pub all_desks : {slice seats : List Seat} (i : ℕ) (desks : List Desk) → desks ≡ map (λ (t : Seat). t.desk) (take i slice) → length slice ≤ i
    → slice ≡ seats → desks ≡ map (λ (t : Seat). t.desk) seats
all_desks {slice} i desks so_far past same = so_far ∙ ap (map (λ (t : Seat). t.desk)) (take_all i slice past ∙ same)

pub are_sound : (pool : PoolState) (seats : List Seat) (ports : List Port) → SeatsStandFor pool seats ports
    → AreSoundDesks (map (λ (s : Seat). s.desk) seats)
are_sound pool [] [] g = tt
are_sound pool [] (p ∷ ports) g = absurd g
are_sound pool (s ∷ seats) [] g = absurd g
are_sound pool (s ∷ seats) (p ∷ ports) g = (g.0.sound, are_sound pool seats ports g.1)
