-- A message that is read.
use Rattle.node_ends.proofs.Words.{Bool, DeskOf, End, HoldsEnd, HoldsSeat, List, Machine, None, Option, PoolState, Port, Seat, SeatStandsFor, SeatsStandFor}
use Rattle.node_ends.proofs.Words.{Some, Unanswered, Waiting, [], ap, ap₂, arith, chain_bytes, common_steps, desk_shown, drop, false, is_held, is_idle, is_over}
use Rattle.node_ends.proofs.Words.{is_some, length, list_any, min, not, notice_shown, option_map, option_map_or, refl, rests, slice_get, slice_index_or, suc}
use Rattle.node_ends.proofs.Words.{take, zero, ℕ, ◌&&◌, ◌++◌, ◌-◌, ◌<◌, ◌==◌, ◌||◌, ◌∙◌, ◌∷◌, ◌≡◌, ◌≤◌}
use Rattle.node_ends.specs.Desks.{have_notices}

-- the one that waits, whose bytes were copied into a buffer
pub waits_read : {pool : PoolState} {k : End} {o : Option Waiting} {m : Machine} (w : Waiting) (len : ℕ) (old new : List ℕ) → o ≡ Some w
    → HoldsEnd pool k o m → length old ≡ 4096 → len ≡ min (length (chain_bytes pool w.chain) - 0) (length old)
    → new ≡ take len (drop 0 (chain_bytes pool w.chain)) ++ drop len old → m.got ≡ (w.pipe, take len new) ∷ []
waits_read w len old new waits h whole is put = grind (arith, common_steps)

-- what is kept at a place
pub desk_is : (pool : PoolState) (seats : List Seat) (ports : List Port) (i : ℕ) → SeatsStandFor pool seats ports
    → option_map (λ (s : Seat). desk_shown s.desk) (slice_get seats i) ≡ option_map (λ (p : Port). p.desk) (slice_get ports i)
desk_is pool [] [] i each = refl
desk_is pool [] (p ∷ ports) i each = absurd each
desk_is pool (s ∷ seats) [] i each = absurd each
desk_is pool (s ∷ seats) (p ∷ ports) zero each = ap (λ (d : DeskOf). Some d) each.0.desk
desk_is pool (s ∷ seats) (p ∷ ports) (suc i) each = desk_is pool seats ports i each.1

-- flags that are kept at a place
pub flag_is : (pool : PoolState) (f : Seat → Bool) (g : Port → Bool) → ((s : Seat) (p : Port) → SeatStandsFor pool s p → f s ≡ g p)
    → (seats : List Seat) (ports : List Port) (i : ℕ) → SeatsStandFor pool seats ports
    → option_map_or f (slice_get seats i) false ≡ option_map_or g (slice_get ports i) false
flag_is pool f g same [] [] i each = refl
flag_is pool f g same [] (p ∷ ports) i each = absurd each
flag_is pool f g same (s ∷ seats) [] i each = absurd each
flag_is pool f g same (s ∷ seats) (p ∷ ports) zero each = same s p each.0
flag_is pool f g same (s ∷ seats) (p ∷ ports) (suc i) each = flag_is pool f g same seats ports i each.1

-- a notice waits where one is kept
notice_is : (o : Option Unanswered) → is_some o ≡ is_some (option_map notice_shown o)
notice_is o = grind arith

-- whether it is so at some end
any_is : (pool : PoolState) (f : Seat → Bool) (g : Port → Bool) → ((s : Seat) (p : Port) → SeatStandsFor pool s p → f s ≡ g p)
    → (seats : List Seat) (ports : List Port) → SeatsStandFor pool seats ports → list_any f seats ≡ list_any g ports
any_is pool f g same [] [] each = refl
any_is pool f g same [] (p ∷ ports) each = absurd each
any_is pool f g same (s ∷ seats) [] each = absurd each
any_is pool f g same (s ∷ seats) (p ∷ ports) each = ap₂ (λ (a b : Bool). a || b) (same s p each.0) (any_is pool f g same seats ports each.1)

pub notices_are : (pool : PoolState) (seats : List Seat) (ports : List Port) → SeatsStandFor pool seats ports
    → list_any (λ (s : Seat). is_some s.desk.notice) seats ≡ have_notices ports
notices_are pool =
    any_is pool (λ (s : Seat). is_some s.desk.notice) (λ (p : Port). is_some p.desk.notice)
    (λ s p g. notice_is s.desk.notice ∙ ap (λ (d : DeskOf). is_some d.notice) g.desk)

pub ended_are : (pool : PoolState) (seats : List Seat) (ports : List Port) → SeatsStandFor pool seats ports
    → list_any (λ (s : Seat). s.ended || s.late) seats ≡ list_any is_over ports
ended_are pool = any_is pool (λ (s : Seat). s.ended || s.late) is_over (λ s p g. ap₂ (λ (a b : Bool). a || b) g.ended g.late)

-- nothing is left to do at an end of which this is kept
pub idle_is : {pool : PoolState} {s : Seat} {p : Port} (answer : Bool) → SeatStandsFor pool s p
    → (HoldsSeat pool s p.side → answer ≡ (not (s.ended || s.late) && ((length p.side.got == 0) && not (is_held p.side)))) → answer ≡ is_idle p
idle_is {p = p} answer g is = is g.holds ∙ ap₂ (λ (ended late : Bool). not (ended || late) && rests p) g.ended g.late

-- what is read at a place
pub is_there : (seats : List Seat) (i : ℕ) (s : Seat) → i < length seats → ((d : Seat) → s ≡ slice_index_or seats i d) → Some s ≡ slice_get seats i
is_there [] i s inside is = absurd (omega (arith, inside))
is_there (t ∷ seats) zero s inside is = ap (λ (x : Seat). Some x) (is s)
is_there (t ∷ seats) (suc i) s inside is = is_there seats i s (omega (arith, inside)) is

pub is_none_there : (seats : List Seat) (i : ℕ) → length seats ≤ i → None ≡ slice_get seats i
is_none_there [] i past = refl
is_none_there (t ∷ seats) zero past = absurd (omega (arith, past))
is_none_there (t ∷ seats) (suc i) past = is_none_there seats i (omega (arith, past))
