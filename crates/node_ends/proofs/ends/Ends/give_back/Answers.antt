use Rattle.node_ends.proofs.Words.{Accounts, AreEnds, FetchMessage, Gives, HoldsEnd, HoldsSeat, KeepsOthers, List, Machine, Moves, None, Option, PoolState}
use Rattle.node_ends.proofs.Words.{Port, Seat, SeatBecomes, Some, Waiting, after_turn, ap, arith, chain_of, place_in, refl, slice_index_or, slice_set, subst}
use Rattle.node_ends.proofs.Words.{sym, turn, with_port, ℕ, ◌∙◌, ◌≡◌}
use Rattle.node_ends.proofs.Moving.{given_holds, given_moves, stays_beside, waiting_live}
use Rattle.node_ends.proofs.Opening.{opened}
use Rattle.node_ends.proofs.Changing.{lent_at, becomes_at, still_nowhere, turned}
use Rattle.node_ends.proofs.Relaying.{none_there_is}
use Rattle.node_ends.proofs.ends.Ends.give_back.Goals as goal

-- no message waits any more at an end
fetched : {old new : PoolState} (s : Seat) (left : Option Waiting) → Moves old new s.side s.side
    → ((m : Machine) → HoldsSeat old s m → HoldsEnd new s.side left (turn m FetchMessage))
    → SeatBecomes old new s (record s { waiting = left }) (after_turn FetchMessage)
fetched s left moves holds =
    turned {x = FetchMessage}
    (record { sendable = tt; moves = moves; desk = refl; late = refl; ended = refl; acked = refl; stands = λ m h same. (holds m h, same) })

none_back : {pool : PoolState} (s : Seat) (left : Option Waiting) → s.waiting ≡ None → left ≡ None
    → SeatBecomes pool pool s (record s { waiting = left }) (after_turn FetchMessage)
none_back {pool} s left none same = fetched s left (stays_beside pool s.side s.side refl refl) (λ m h. grind arith)

-- the blocks of the one that waited at the end of this host went back to the pool
given_at : {old new : PoolState} {seats : List Seat} (ports : List Port) (h i : ℕ) (s : Seat) (w : Waiting) (left : Option Waiting)
    → Some i ≡ place_in h seats → s ≡ slice_index_or seats i s → s.waiting ≡ Some w → left ≡ None → Gives old new w.chain
    → KeepsOthers old new w.chain w.chain → AreEnds old seats ports
    → AreEnds new (slice_set seats i (record s { waiting = left })) (with_port h (after_turn FetchMessage) ports)
given_at {old} {new} ports h i s w left place is waits none gives keeps e =
    let l = lent_at h i s place is e in
    let A : Option Waiting → Type 0 = λ o. Accounts s.side old (chain_of o) in
    let moves = given_moves old new s.side w.chain (subst A waits l.stands.holds.accounts) gives keeps in
    becomes_at ports h i s _ place is (fetched s left moves (λ m g.
    let P : Option Waiting → Type 0 = λ o. HoldsEnd old s.side o m in
    let Q : Option Waiting → Type 0 = λ o. HoldsEnd new s.side o (turn m FetchMessage) in
    subst Q (sym none) (given_holds old new s.side w m (subst P waits g) gives keeps))) e

pub returns-in_default : goal.returns-in_default
returns-in_default c ports stands =
    still_nowhere c.args.host (after_turn FetchMessage) c.place_of.result
    (c.place_of.ensures.place ∙ ap (place_in c.args.host) c.as_slice.ensures.value) c.in_default.not-Some c.self.view_is stands

pub give-requires : goal.give-requires
give-requires c =
    let l = lent_at c.args.host c.in-Some.i c.index_mut-seat.result.now (c.in-Some.ensures.place ∙ ap (place_in c.args.host) c.as_slice.ensures.value)
    c.index_mut-seat.ensures.value c.self.invariant.1 in
    waiting_live c.in-Some-take.field-0 (sym c.take.ensures.value ∙ c.in-Some-take.is) l.stands.holds

pub returns-in-Some-take : goal.returns-in-Some-take
returns-in-Some-take c ports stands =
    given_at ports c.args.host c.in-Some.i c.index_mut-seat.result.now c.in-Some-take.field-0 c.take.new.self
    (c.in-Some.ensures.place ∙ ap (place_in c.args.host) c.as_slice.ensures.value) c.index_mut-seat.ensures.value
    (sym c.take.ensures.value ∙ c.in-Some-take.is) c.take.ensures.after c.give.ensures.given c.give.ensures.others (opened c.self.view_is stands)

pub invariant_of-self : goal.invariant_of-self
invariant_of-self c =
    let i = c.self.invariant in (
      _,
      given_at i.0 c.args.host c.in-Some.i c.index_mut-seat.result.now c.in-Some-take.field-0 c.take.new.self
          (c.in-Some.ensures.place ∙ ap (place_in c.args.host) c.as_slice.ensures.value) c.index_mut-seat.ensures.value
          (sym c.take.ensures.value ∙ c.in-Some-take.is) c.take.ensures.after c.give.ensures.given c.give.ensures.others i.1,
    )

pub returns-in_default-take : goal.returns-in_default-take
returns-in_default-take c ports stands =
    becomes_at ports c.args.host c.in-Some.i c.index_mut-seat.result.now _
    (c.in-Some.ensures.place ∙ ap (place_in c.args.host) c.as_slice.ensures.value) c.index_mut-seat.ensures.value
    (none_back _ c.take.new.self (sym c.take.ensures.value ∙ none_there_is c.take.result c.in_default-take.not-Some) c.take.ensures.after)
    (opened c.self.view_is stands)
