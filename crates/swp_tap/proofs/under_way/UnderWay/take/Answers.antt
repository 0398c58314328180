use Rattle.std.proofs.Common.{ap, ◌∙◌}
use Rattle.hcp_chain.specs.Joining.{join_step}
use Rattle.hcp_chain.specs.declared.joiner.Open.{Open}
use Rattle.hcp_chain.specs.Holding.{HoldsWhole}
use Rattle.hcp_chain.proofs.ReadyLemmas.{ready_given}
use Rattle.swp_tap.proofs.Coming.{holds_whole, open_stays}
use Rattle.swp_tap.proofs.under_way.UnderWay.take.Goals as goal

pub invariant_of-self-in-Whole : goal.invariant_of-self-in-Whole
invariant_of-self-in-Whole c =
    let e = c.in-Whole.ensures in
    let whole : Open = record { pipe = c.in-Whole.pipe; chain = c.in-Whole.chain } in
    let h : HoldsWhole c.take.new.pool c.take.new.self whole =
    holds_whole c.self.inside.pool c.take.new.pool c.self.inside.joiner c.take.new.self whole c.self.invariant e.owner e.holds e.used in
    ready_given c.take.new.pool c.give.new.self c.take.new.self whole h c.give.ensures.given c.give.ensures.others

pub returns-in-Whole-clause-open : goal.returns-in-Whole-clause-open
returns-in-Whole-clause-open c =
    let e = c.in-Whole.ensures in
    let whole : Open = record { pipe = c.in-Whole.pipe; chain = c.in-Whole.chain } in
    let h : HoldsWhole c.take.new.pool c.take.new.self whole =
    holds_whole c.self.inside.pool c.take.new.pool c.self.inside.joiner c.take.new.self whole c.self.invariant e.owner e.holds e.used in
    open_stays c.take.new.pool c.give.new.self c.take.new.self whole h c.give.ensures.others
    ∙ (e.«open» ∙ ap (λ m. (join_step m c.args.packet.now).1) c.self.view_is)
