use Rattle.link_wires.proofs.Words.{Some, sym, ◌∙◌}
use Rattle.link_wires.proofs.Wires.{IsTakenOff, too_old, grows_older}
use Rattle.link_wires.proofs.wire.age_first.Goals as goal

pub returns-then-flying-ge-LIFE : goal.returns-then-flying-ge-LIFE
returns-then-flying-ge-LIFE c x frames w =
    let p = c.pop_front in
    let off : IsTakenOff c.args.wire.now p.new.self (Some c.in-Some.flying) =
    record { first_is = sym c.in-Some.is ∙ p.ensures.value; new_is = p.ensures.items } in
    too_old c.args.to c.args.entries.now.items w off c.if-flying-ge-LIFE.true c.in_ok-push.ensures.items

pub returns : goal.returns
returns c x frames w =
    let p = c.pop_front in
    let off : IsTakenOff c.args.wire.now p.new.self (Some c.in-Some.flying) =
    record { first_is = sym c.in-Some.is ∙ p.ensures.value; new_is = p.ensures.items } in
    grows_older c.args.to c.args.entries.now.items w off c.if-flying-ge-LIFE.false c.push_back-none.ensures.items
