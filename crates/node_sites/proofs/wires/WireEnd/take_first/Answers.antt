use Rattle.node_sites.proofs.Words.{IsTakenOff, Some, sym, ◌∙◌}
use Rattle.node_sites.proofs.Arrivals.{none_taken, one_taken}
use Rattle.node_sites.proofs.wires.WireEnd.take_first.Goals as goal

pub returns-in_default : goal.returns-in_default
returns-in_default c l w =
    let p = c.pop_front in
    none_taken c.args.at l c.args.entries.now.items w (record { first_is = sym c.in_default.is ∙ p.ensures.value; new_is = p.ensures.items })

pub returns : goal.returns
returns c l w =
    let p = c.pop_front in
    let off : IsTakenOff c.args.self.now.wire p.new.self (Some c.in-Some.flying) =
    record { first_is = sym c.in-Some.is ∙ p.ensures.value; new_is = p.ensures.items } in
    one_taken c.args.at l c.args.entries.now.items w off c.max-self.ensures c.read_lpdu-read.ensures.says c.in_ok-push.ensures.items
