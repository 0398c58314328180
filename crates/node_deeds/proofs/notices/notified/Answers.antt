use Rattle.node_deeds.proofs.Words.{ap, body_in, host_core, own_view, pipe_created, pipe_deleted, pipes_cleared, sym, ◌∙◌}
use Rattle.node_machine.specs.HostReplies.{notified_deeds}
use Rattle.node_deeds.proofs.notices.notified.Goals as goal

pub returns-in-18-clause-deeds : goal.returns-in-18-clause-deeds
returns-in-18-clause-deeds g c =
    let s = c.args.store.now in
    let is = sym c.instruction_of.ensures ∙ c.in-18.is in
    λ a init. c.pipe_created.ensures.deeds a init
    ∙ (ap (pipe_created (own_view (host_core c.args.host s.journal.state s.tables init))) c.body_in-body.ensures
    ∙ ap (λ n. notified_deeds (own_view (host_core c.args.host s.journal.state s.tables init)) n (body_in c.args.message.now)) (sym is))

pub returns-in-19-clause-deeds : goal.returns-in-19-clause-deeds
returns-in-19-clause-deeds g c =
    let s = c.args.store.now in
    let is = sym c.instruction_of.ensures ∙ c.in-19.is in
    λ a init. c.pipe_deleted.ensures.deeds a init
    ∙ (ap (pipe_deleted (own_view (host_core c.args.host s.journal.state s.tables init))) c.body_in-body.ensures
    ∙ ap (λ n. notified_deeds (own_view (host_core c.args.host s.journal.state s.tables init)) n (body_in c.args.message.now)) (sym is))

pub returns-in-21-clause-deeds : goal.returns-in-21-clause-deeds
returns-in-21-clause-deeds g c =
    let s = c.args.store.now in
    let is = sym c.instruction_of.ensures ∙ c.in-21.is in
    λ a init. c.pipes_cleared.ensures.deeds a init
    ∙ (ap (pipes_cleared (own_view (host_core c.args.host s.journal.state s.tables init))) c.body_in-body.ensures
    ∙ ap (λ n. notified_deeds (own_view (host_core c.args.host s.journal.state s.tables init)) n (body_in c.args.message.now)) (sym is))
