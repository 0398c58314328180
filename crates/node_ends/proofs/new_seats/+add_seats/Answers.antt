use Rattle.node_ends.proofs.Words.{AddsNew, IsNewSeat, List, Seat, [], arith, length, subst, sym, ℕ, ◌++◌, ◌∷◌, ◌≡◌}
use Rattle.node_ends.proofs.Making.{one_more, on_ok}
use Rattle.node_ends.proofs.new_seats.+add_seats.Goals as goal

pub returns-in-Ok : goal.returns-in-Ok
returns-in-Ok t c =
    let before : List Seat = c.args.seats.now.items in
    let seat : Seat = c.in_ok-seat.seat in
    let now : List Seat = c.add_seats.new.seats.items in
    let items : c.push.new.self.items ≡ before ++ seat ∷ [] = c.in-Ok.ensures.items in
    let n = c.in_ok-seat.ensures in
    let count : c.len-k.result ≡ length before = (let l = c.len-k.ensures in omega (arith, l)) in
    on_ok c.add_seats.result (λ a.
    let P : List Seat → Type 0 = λ l. AddsNew c.args.role c.in-Some.rest.now l now in
    let H : List ℕ → Type 0 = λ l. AddsNew c.args.role l before now in
    let N : ℕ → Type 0 = λ k. IsNewSeat c.args.role k c.in-Some.host.now seat in
    let cases = c.in-Some.ensures.cases in
    subst H (sym cases.0) (one_more c.args.role c.in-Some.host.now c.in-Some.rest.now before now seat (subst N count n) (subst P items a))) c.add_seats.ensures
