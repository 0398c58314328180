use Rattle.node_deeds.proofs.Words.{ap, deeds_shown, host_core, learned_of, sym, ◌++◌, ◌∙◌}
use Rattle.node_deeds.proofs.HostWalks.{learned_creation}
use Rattle.node_deeds.proofs.responses.learn.Goals as goal

pub returns-in-Some-clause-deeds : goal.returns-in-Some-clause-deeds
returns-in-Some-clause-deeds g c =
    let s = c.args.store.now in
    let named = sym c.pipe_named_in.ensures ∙ c.in-Some.is in
    λ a init. c.learn_command.ensures.deeds a c.args.host init
    ∙ ap (λ ds. deeds_shown a c.args.deeds.now.items ++ ds)
    (learned_creation (host_core c.args.host s.journal.state s.tables init) c.args.order c.args.value.now c.in-Some.row c.in-Creation.is named)

pub returns-in-Deletion-clause-deeds : goal.returns-in-Deletion-clause-deeds
returns-in-Deletion-clause-deeds g c =
    let s = c.args.store.now in
    λ a init. c.learn_command-in-Deletion.ensures.deeds a c.args.host init
    ∙ ap (λ o. deeds_shown a c.args.deeds.now.items ++ learned_of (host_core c.args.host s.journal.state s.tables init) o c.args.value.now)
    (sym c.in-Deletion.is)

pub returns-in-Clearing-clause-deeds : goal.returns-in-Clearing-clause-deeds
returns-in-Clearing-clause-deeds g c =
    let s = c.args.store.now in
    λ a init. c.learn_command-in-Clearing.ensures.deeds a c.args.host init
    ∙ ap (λ o. deeds_shown a c.args.deeds.now.items ++ learned_of (host_core c.args.host s.journal.state s.tables init) o c.args.value.now)
    (sym c.in-Clearing.is)
