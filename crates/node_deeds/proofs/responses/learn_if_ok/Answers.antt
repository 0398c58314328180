use Rattle.node_deeds.proofs.Words.{[], ap, cond, deeds_shown, eq-eqb, host_core, learned_of, sym, ◌++◌, ◌∙◌}
use Rattle.node_deeds.proofs.responses.learn_if_ok.Goals as goal

pub returns-then-code-eq0-clause-deeds : goal.returns-then-code-eq0-clause-deeds
returns-then-code-eq0-clause-deeds g c =
    let s = c.args.store.now in
    λ a init. c.learn.ensures.deeds a init
    ∙ ap
    (λ b. deeds_shown a c.args.deeds.now.items
    ++ cond b (learned_of (host_core c.args.host s.journal.state s.tables init) c.args.order c.args.value.now) [])
    (sym (eq-eqb c.args.code 0 c.if-code-eq0.true))
