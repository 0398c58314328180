use Rattle.node_deeds.proofs.Words.{host_core, sym, ◌∙◌}
use Rattle.node_deeds.proofs.HostWalks.{created_welcome}
use Rattle.node_deeds.proofs.notices.pipe_created.Goals as goal

pub returns-then-is_welcome-clause-deeds : goal.returns-then-is_welcome-clause-deeds
returns-then-is_welcome-clause-deeds g c =
    let s = c.args.store.now in
    let named = sym c.pipe_named_in.ensures ∙ c.in-Some.is in
    let welcome = sym c.is_welcome.ensures ∙ c.if-is_welcome.true in
    λ a init. c.accepts.ensures.deeds a init
    ∙ created_welcome (host_core c.args.host s.journal.state s.tables init) c.args.body.now c.in-Some.row named welcome
