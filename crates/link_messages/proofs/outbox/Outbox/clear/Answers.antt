use Rattle.link_messages.proofs.OutgoingLemmas.{clears_more}
use Rattle.link_messages.proofs.outbox.Outbox.clear.Goals as goal

pub loop-preserved : goal.loop-preserved
loop-preserved c =
    clears_more c.args.pool.now c.loop.pool c.give_front.new.pool c.args.self.now c.loop.self c.give_front.new.self c.loop.invariant c.loop-test.ensures.given
