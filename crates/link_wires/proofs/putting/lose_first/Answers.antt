use Rattle.link_wires.proofs.Words.{Some, sym, ◌∙◌}
use Rattle.link_wires.proofs.Wires.{IsTakenOff}
use Rattle.link_wires.proofs.GoingOut.{lost_first}
use Rattle.link_wires.proofs.putting.lose_first.Goals as goal

pub returns-in_ok-push : goal.returns-in_ok-push
returns-in_ok-push c frames why w so =
    let p = c.pop_front in
    let off : IsTakenOff c.args.wire.now p.new.self (Some c.in-Some.flying) =
    record { first_is = sym c.in-Some.is ∙ p.ensures.value; new_is = p.ensures.items } in
    lost_first why c.args.entries.now.items c.args.to frames w so off c.in_ok-push.ensures.items
