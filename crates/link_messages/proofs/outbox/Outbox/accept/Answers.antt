use Rattle.link_messages.proofs.Words.{Accepts, PoolState, arith, length, refl, subst, sym, ◌<◌}
use Rattle.link_messages.proofs.OutgoingLemmas.{TakesInto, taken_into, accepted, left_fits, added}
use Rattle.link_messages.proofs.outbox.Outbox.accept.Goals as goal

pub push-requires : goal.push-requires
push-requires c =
    let e = c.in_ok-take.ensures in
    let P : PoolState → Type 0 = λ p. TakesInto p c.take.new.self c.chain-chain.result c.take.new.chain c.args.message.now in
    let t =
    subst P c.chain-chain.ensures.unchanged (record { appends = e.ok; appended = e.appended; live = e.live; others = e.others; room = e.room.0 refl }) in
    let into = taken_into c.args.pipe c.requires.lies.kept c.chain-chain.ensures.chain c.requires.sendable t in
    record {
      live = e.live;
      room = subst (λ n. length c.args.self.now.queue.items < n) (sym c.requires.lies.kept.capacity) into.room;
      fits = omega (arith, left_fits c.requires.lies into);
    }

pub returns-clause-ok : goal.returns-clause-ok
returns-clause-ok c =
    let old = c.args.self.now in
    let e = c.in_ok-take.ensures in
    let P : PoolState → Type 0 = λ p. TakesInto p c.take.new.self c.chain-chain.result c.take.new.chain c.args.message.now in
    let t =
    subst P c.chain-chain.ensures.unchanged (record { appends = e.ok; appended = e.appended; live = e.live; others = e.others; room = e.room.0 refl }) in
    let into = taken_into c.args.pipe c.requires.lies.kept c.chain-chain.ensures.chain c.requires.sendable t in
    subst (λ b. Accepts c.args.pool.now c.take.new.self old b (c.args.pipe, c.args.message.now)) (sym c.push.ensures)
    (accepted c.requires.lies into.kept into.messages (record { acked = refl; cut = refl; left = added old.left into; owner = refl }))
