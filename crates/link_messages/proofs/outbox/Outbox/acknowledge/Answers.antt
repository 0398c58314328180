use Rattle.link_messages.proofs.Words.{arith, chain_bytes, length, ◌+◌, ◌≡◌}
use Rattle.hcp_packet.specs.Packets.{packet_count}
use Rattle.link_messages.proofs.OutgoingLemmas.{acknowledges_none, acknowledges_more, first_live, first_given, none_whole, none_left}
use Rattle.link_messages.proofs.outbox.Outbox.acknowledge.Goals as goal

pub loop-first-init : goal.loop-first-init
loop-first-init c =
    let lies = c.requires.lies in
    acknowledges_none c.args.pool.now (record c.args.self.now { acked = c.args.self.now.acked + c.from.result })
    (record { kept = lies.kept; acked = omega (arith, c.requires.cut, c.from.ensures); cut = lies.cut })

pub len-len-requires : goal.len-len-requires
len-len-requires c = first_live c.loop-first.pool c.loop-first.self c.in-Some.first.now c.loop-first.invariant.gives.lies.kept c.in-Some.ensures

pub returns-then-fragments-self-clause-all : goal.returns-then-fragments-self-clause-all
returns-then-fragments-self-clause-all c =
    (none_whole c.loop-first.pool c.loop-first.self c.in-Some.first.now c.in-Some.ensures
    (omega (arith, c.div_ceil-fragments.ensures, c.len-len.ensures, c.if-fragments-self.true))).0

pub returns-then-fragments-self-clause-rest : goal.returns-then-fragments-self-clause-rest
returns-then-fragments-self-clause-rest c =
    (none_whole c.loop-first.pool c.loop-first.self c.in-Some.first.now c.in-Some.ensures
    (omega (arith, c.div_ceil-fragments.ensures, c.len-len.ensures, c.if-fragments-self.true))).1

pub loop-first-preserved : goal.loop-first-preserved
loop-first-preserved c =
    let given = c.give_front-given in
    let count : c.div_ceil-fragments.result ≡ packet_count (length (chain_bytes c.loop-first.pool c.in-Some.first.now.chain)) =
    omega (arith, c.div_ceil-fragments.ensures, c.len-len.ensures) in
    let back =
    first_given c.loop-first.pool given.new.pool c.loop-first.self given.new.self c.in-Some.first.now given.result c.div_ceil-fragments.result
    c.loop-first.invariant.gives.lies c.in-Some.ensures given.ensures.given given.ensures.none count (omega (arith, c.if-fragments-self.false)) in
    acknowledges_more c.args.pool.now c.loop-first.pool given.new.pool (record c.args.self.now { acked = c.args.self.now.acked + c.from.result })
    c.loop-first.self _ c.loop-first.whole c.loop-first.invariant back.0 back.1

pub returns-clause-all : goal.returns-clause-all
returns-clause-all c = (none_left c.loop-first.pool c.loop-first.self c.in_default.ensures).0

pub returns-clause-rest : goal.returns-clause-rest
returns-clause-rest c = (none_left c.loop-first.pool c.loop-first.self c.in_default.ensures).1
