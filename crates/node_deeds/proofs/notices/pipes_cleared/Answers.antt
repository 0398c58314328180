use Rattle.node_deeds.proofs.Words.{arith, host_core, length, ◌∙◌, ◌≡◌}
use Rattle.node_deeds.proofs.HostWalks.{cleared_host}
use Rattle.node_deeds.proofs.notices.pipes_cleared.Goals as goal

pub returns-in-len1-clause-deeds : goal.returns-in-len1-clause-deeds
returns-in-len1-clause-deeds g c =
    let s = c.args.store.now in
    let one : length c.args.body.now ≡ 1 = omega arith in
    λ a init. c.accepts.ensures.deeds a init
    ∙ cleared_host (host_core c.args.host s.journal.state s.tables init) c.args.body.now one c.if-cleared-le7.true
