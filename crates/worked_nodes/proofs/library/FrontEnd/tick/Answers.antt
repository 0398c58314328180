use Rattle.worked_nodes.proofs.Words.{BeginsStep, Brings, Entry, HasStepped, List, Node, Stored, Work, ap, begins_at_rest, refl, steps, subst, sym, ◌∙◌, ◌≡◌}
use Rattle.node_machine.specs.Node.NodeInput.{TimePasses}
use Rattle.worked_nodes.proofs.Fetching.{runs_behind, is_done, not_done, may_again, all_behind, none_behind, brings_also}
use Rattle.worked_nodes.proofs.library.FrontEnd.tick.Goals as goal

pub send_all-requires : goal.send_all-requires
send_all-requires g c =
    let m = c.self.invariant
    (sym (ap (λ (s : Stored g.row.N.Denot). s.journal.live) c.store.ensures) ∙ (sym c.live.ensures ∙ c.if-not-live.false)) in
    let b = c.tick-ran.ensures.stepped _ _ (begins_at_rest (g.W.Watch.noted c.args.watch.now) (g.W.Watch.is_short c.args.watch.now) m.runs m.sent) in
    record { runs = (_, _, runs_behind b.stands (is_done (sym c.tick-ran.ensures.ran ∙ c.in-Done.is))) }

pub invariant_of-self : goal.invariant_of-self
invariant_of-self g c live =
    let m = c.self.invariant
    (sym (ap (λ (s : Stored g.row.N.Denot). s.journal.live) c.store.ensures) ∙ (sym c.live.ensures ∙ c.if-not-live.false)) in
    let b = c.tick-ran.ensures.stepped _ _ (begins_at_rest (g.W.Watch.noted c.args.watch.now) (g.W.Watch.is_short c.args.watch.now) m.runs m.sent) in
    may_again (c.send_all.ensures.sent _ _ (runs_behind b.stands (is_done (sym c.tick-ran.ensures.ran ∙ c.in-Done.is))))

pub returns-in-Done-clause-stepped : goal.returns-in-Done-clause-stepped
returns-in-Done-clause-stepped g c start w begins =
    let all = c.send_all.ensures in
    let F : Node g.row.N.Denot → Type 0 = λ n. BeginsStep n (g.W.Watch.noted c.args.watch.now) (g.W.Watch.is_short c.args.watch.now) start w
    → Brings g.N.Nv.writes n.store.journal.nv c.tick-ran.new.self.store.journal.nv
    (HasStepped c.tick-ran.new.self (g.W.Watch.noted c.tick-ran.new.watch) (g.W.Watch.is_short c.tick-ran.new.watch) start)
    (steps TimePasses) w in
    let stepped = subst F c.self.view_is (c.tick-ran.ensures.stepped start w) begins in
    brings_also (ap (λ (s : Stored g.row.N.Denot). s.journal.nv) all.store)
    (λ k h. all_behind h all.store (is_done (sym c.tick-ran.ensures.ran ∙ c.in-Done.is)) all.sent all.handed) stepped

pub returns-in_default-clause-stepped : goal.returns-in_default-clause-stepped
returns-in_default-clause-stepped g c start w begins =
    let F : Node g.row.N.Denot → Type 0 = λ n. BeginsStep n (g.W.Watch.noted c.args.watch.now) (g.W.Watch.is_short c.args.watch.now) start w
    → Brings g.N.Nv.writes n.store.journal.nv c.tick-ran.new.self.store.journal.nv
    (HasStepped c.tick-ran.new.self (g.W.Watch.noted c.tick-ran.new.watch) (g.W.Watch.is_short c.tick-ran.new.watch) start)
    (steps TimePasses) w in
    let stepped = subst F c.self.view_is (c.tick-ran.ensures.stepped start w) begins in
    brings_also refl (λ k h. none_behind _ _ h (not_done (λ is. c.in_default.not-Done (c.tick-ran.ensures.ran ∙ is)))) stepped
