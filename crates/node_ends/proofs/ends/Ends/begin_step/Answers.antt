use Rattle.node_ends.proofs.Words.{AreEnds, EndsStandFor, KeptEnds, List, Port, Seat, [], add-one, ap, arith, false, length, length-set, slice_set, subst, sym}
use Rattle.node_ends.proofs.Words.{◌<◌, ◌∙◌, ◌≡◌}
use Rattle.node_ends.proofs.Opening.{opened}
use Rattle.node_ends.proofs.Seated.{becomes_here, as_many, first_changed, none_changed, next_changed, all_changed}
use Rattle.node_ends.proofs.Beside.{begun}
use Rattle.node_ends.proofs.ends.Ends.begin_step.Goals as goal

abbrev begins : Port → Port
begins p = record p { late = false; ended = false; turns = [] }

pub loop-i-init : goal.loop-i-init
loop-i-init c = record {
  count = ap (λ (k : KeptEnds). length k.seats) c.self.view_is;
  stands = λ ports stands. (let P : List Port → Type 0 = λ l. AreEnds c.self.inside.pool c.self.inside.seats.items l in
      subst P (sym (none_changed begins ports)) (opened c.self.view_is stands));
}

pub loop-i-preserved : goal.loop-i-preserved
loop-i-preserved c =
    let i = c.loop-i.i in
    let s = c.index_mut-seat.result.now in
    let pool = c.loop-i.self-inside.pool in
    let seats = c.loop-i.self-inside.seats.items in
    let count : length seats ≡ length c.args.self.now.seats = c.loop-i.invariant.count in
    let same : length c.self.inside.seats.items ≡ length c.args.self.now.seats = ap (λ (k : KeptEnds). length k.seats) c.self.view_is in
    let inside : i < length seats = (let n = c.len-i-end.ensures in let t = c.loop-i-test.true in omega (arith, n, t, same, count)) in
    record {
      count = length-set {A = Seat} seats i _ ∙ count;
      stands = λ ports stands.
          (let P : List Port → Type 0 = λ l. AreEnds pool (slice_set seats i (record s { late = false; ended = false })) l in
          subst P (next_changed i begins ports ∙ ap (λ m. first_changed m begins ports) (sym (add-one i)))
          (becomes_here _ i s _ inside c.index_mut-seat.ensures.value (begun pool s) (c.loop-i.invariant.stands ports stands)));
    }

pub returns : goal.returns
returns c ports stands =
    let many = as_many c.self.inside.pool c.self.inside.seats.items ports (opened c.self.view_is stands).each in
    let past = c.loop-i-test.false in
    let P : List Port → Type 0 = λ l. AreEnds c.loop-i.self-inside.pool c.loop-i.self-inside.seats.items l in
    subst P (all_changed c.loop-i.i begins ports (omega (arith, many, c.len-i-end.ensures, past))) (c.loop-i.invariant.stands ports stands)

pub invariant_of-self : goal.invariant_of-self
invariant_of-self c =
    let i = c.self.invariant in
    (_, c.loop-i.invariant.stands i.0 (subst (λ k. EndsStandFor k i.0) c.self.view_is i.1))
