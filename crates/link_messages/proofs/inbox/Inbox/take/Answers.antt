use Rattle.std.proofs.Common.{not}
use Rattle.link_messages.proofs.Words.{HoldsWhole, Inbox, List, Packet, PoolState, ap, arith, chain_bytes, join_step, refl, subst, sym, ◌∙◌, ◌≡◌}
use Rattle.std.specs.Option.{option_to_list}
use Rattle.hcp_packet.specs.Packets.{packet_of, packet_seen, is_good}
use Rattle.link_messages.specs.Incoming.{Joins, messages_under_way}
use Rattle.link_messages.proofs.IncomingLemmas.{Keeps, dropped_bad, kept_good, first_tells, joins_whole, joins_fault, fault_said}
use Rattle.link_messages.proofs.inbox.Inbox.take.Goals as goal
use Rattle.link_messages.proofs.inbox.Inbox.take.Goals.{After-is_err}

told : (c : After-is_err) → is_good (chain_bytes c.take_view.new.pool c.in-Whole.chain) ≡ not c.is_err.result
told c =
    let tells = first_tells (chain_bytes c.take_view.new.pool c.in-Whole.chain) c.copy_out-count.result c.copy_out-count.ensures.count in
    grind (arith, tells, c.copy_out-count.ensures.copied, c.read_header.ensures.good, c.is_err.ensures.value)

joined : {new : PoolState} {after : Inbox} (c : After-is_err) → after.joiner ≡ c.take_view.new.self
    → (HoldsWhole c.take_view.new.pool c.take_view.new.self (record { pipe = c.in-Whole.pipe; chain = c.in-Whole.chain })
    → Keeps c.take_view.new.pool new (record c.args.self.now { joiner = c.take_view.new.self }) after
    (record { pipe = c.in-Whole.pipe; chain = c.in-Whole.chain }))
    → Joins c.args.pool.now new c.args.self.now after (option_to_list (packet_of c.args.info.now))
joined {new} {after} c same keeps =
    let e = c.in-Whole.ensures in
    let packets = ap option_to_list (sym c.in-Ok.ensures.ok ∙ ap packet_of c.bytes.ensures.value) in
    subst (λ (l : List Packet). Joins c.args.pool.now new c.args.self.now after l) packets
    (joins_whole c.requires.lies c.requires.ready
    (record { owner = e.owner; under = e.«open»; holds = e.holds; owners = e.used; others = e.others }) e.says same keeps)

pub returns-then-is_err-clause-ok : goal.returns-then-is_err-clause-ok
returns-then-is_err-clause-ok c =
    let at = (goal.at.returns-then-is_err-clause-ok c).After-is_err in
    joined at refl (λ h. dropped_bad c.take_view.new.pool c.give.new.self (record c.args.self.now { joiner = c.take_view.new.self })
    (record { pipe = c.in-Whole.pipe; chain = c.in-Whole.chain }) h c.requires.ready.fetched (told at ∙ ap not c.if-is_err.true)
    c.give.ensures.given c.give.ensures.others)

pub returns-else-is_err-clause-ok : goal.returns-else-is_err-clause-ok
returns-else-is_err-clause-ok c =
    let at = (goal.at.returns-else-is_err-clause-ok c).After-is_err in
    joined at refl (λ h. kept_good c.take_view.new.pool (record c.args.self.now { joiner = c.take_view.new.self })
    (record { pipe = c.in-Whole.pipe; chain = c.in-Whole.chain }) h (told at ∙ ap not c.if-is_err.false))

pub returns-in-Fault-clause-err : goal.returns-in-Fault-clause-err
returns-in-Fault-clause-err c =
    let e = c.in-Fault.ensures in
    let before = c.args.self.now in
    let p = packet_seen c.in-Ok.packet in
    let f = joins_fault c.args.pool.now c.take_view.new.pool before c.take_view.new.self p c.requires.lies c.requires.ready
    (record { owner = e.owner; under = e.«open»; holds = e.holds; owners = e.used; others = e.others })
    (fault_said c.take_view.new.pool c.in-Fault.fault (join_step (messages_under_way c.args.pool.now before) p).0 e.says) in
    (f.lies, f.owner, f.none, f.used, f.elsewhere)
