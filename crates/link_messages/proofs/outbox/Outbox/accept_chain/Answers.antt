use Rattle.link_messages.proofs.Words.{Accepts, LeavesOthersBut, arith, chain_bytes, length, refl, subst, sym, ◌<◌}
use Rattle.link_messages.proofs.OutgoingLemmas.{passed_into, accepted, left_fits, added}
use Rattle.link_messages.proofs.outbox.Outbox.accept_chain.Goals as goal

pub push-requires : goal.push-requires
push-requires c =
    let e = c.in-Ok.ensures in
    let into =
    passed_into c.args.pipe c.requires.lies.kept c.requires.live c.requires.other c.requires.sendable
    (record { passes = e.ok; same_bytes = e.same_bytes; live = e.live; others = e.others; room = e.room.0 refl }) in
    record {
      live = e.live;
      room = subst (λ n. length c.args.self.now.queue.items < n) (sym c.requires.lies.kept.capacity) into.0.room;
      fits = omega (arith, left_fits c.requires.lies into.0);
    }

pub returns-in-Ok-clause-ok : goal.returns-in-Ok-clause-ok
returns-in-Ok-clause-ok c =
    let old = c.args.self.now in
    let e = c.in-Ok.ensures in
    let into =
    passed_into c.args.pipe c.requires.lies.kept c.requires.live c.requires.other c.requires.sendable
    (record { passes = e.ok; same_bytes = e.same_bytes; live = e.live; others = e.others; room = e.room.0 refl }) in
    subst (λ b. Accepts c.args.pool.now c.pass.new.self old b (c.args.pipe, chain_bytes c.args.pool.now c.args.chain)) (sym c.push.ensures)
    (accepted c.requires.lies into.0.kept into.0.messages (record { acked = refl; cut = refl; left = added old.left into.0; owner = refl }))

pub returns-in-Ok-clause-elsewhere : goal.returns-in-Ok-clause-elsewhere
returns-in-Ok-clause-elsewhere c =
    let old = c.args.self.now in
    let e = c.in-Ok.ensures in
    let into =
    passed_into c.args.pipe c.requires.lies.kept c.requires.live c.requires.other c.requires.sendable
    (record { passes = e.ok; same_bytes = e.same_bytes; live = e.live; others = e.others; room = e.room.0 refl }) in
    subst (λ b. LeavesOthersBut c.args.pool.now c.pass.new.self old.owner c.args.chain old.queue.items b.queue.items) (sym c.push.ensures) into.1
