use Rattle.link_end.proofs.Words.{arith, sym, ◌∙◌}
use Rattle.link_end.proofs.EndLemmas.{dropped}
use Rattle.link_end.proofs.«end».End.put_down.Goals as goal

pub returns-in-Down-clause-stands : goal.returns-in-Down-clause-stands
returns-in-Down-clause-stands c m h =
    let stands =
    dropped c.args.pool.now c.args.self.now c.drop_controls.new.self c.bring_to_front.new.acts m c.drop_controls.ensures.stands c.bring_to_front.ensures h in
    grind (arith, c.if-not-down.false, sym h.halfway.link.kept.phase ∙ sym c.in-Down.ensures.value, stands)
