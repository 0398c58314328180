use Rattle.node_core.proofs.Words.{IsInStep, Work, subst, sym, ◌∙◌}
use Rattle.node_core.proofs.Lateness.{none_times_out}
use Rattle.node_core.proofs.node.Node.times_out.Goals as goal

pub returns-then-not-have_notices-clause-carried : goal.returns-then-not-have_notices-clause-carried
returns-then-not-have_notices-clause-carried g c start w u few =
    let P : Work → Type 0 = λ v. IsInStep c.args.self.now (g.W.Watch.noted c.args.watch.now) (g.W.Watch.is_short c.args.watch.now) start v in
    subst P (sym (none_times_out w (sym (c.have_notices.ensures w.ports u.ends) ∙ c.if-not-have_notices.true))) u
