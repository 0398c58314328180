use Rattle.node_core.proofs.Words.{Brings, IsInStep, ap, not, passes, refl, settles, sym, sync_kept, ◌∙◌}
use Rattle.node_core.proofs.Joining.{brings_cut, brings_then}
use Rattle.node_core.proofs.HavingTurns.{brings_same}
use Rattle.node_core.proofs.Settling.{settled_ports, quiet_few}
use Rattle.node_core.proofs.Passing.{none_left}
use Rattle.node_core.proofs.Idle.{none_came, idle_finishes, only_passes}
use Rattle.node_core.proofs.Ordering.{stays_in_order}
use Rattle.node_core.proofs.Staying.{settles_fine}
use Rattle.node_core.proofs.Faults.{ran_is}
use Rattle.node_core.proofs.node.Node.finish.Goals as goal

pub returns-then-are_idle-clause-carried : goal.returns-then-are_idle-clause-carried
returns-then-are_idle-clause-carried g c start w u may =
    let s = c.args.self.now.store in
    let live = u.power ∙ ap not c.requires.live in
    let none = ap (sync_kept s.journal.state s.tables) (none_came c.args.came (c.is_none.ensures ∙ ap not c.if-is_none.true)) in
    brings_same (none_left g.N.Nv.writes u live) (λ plan. idle_finishes (sync_kept s.journal.state s.tables c.args.came) (record w { plan = plan }) none live
    (sym (c.are_idle.ensures w.ports u.ends) ∙ c.if-are_idle.true))

pub passes-requires-2-clause-may : goal.passes-requires-2-clause-may
passes-requires-2-clause-may g c =
    let r = c.requires.may in
    let t = c.settle_sessions in
    let s = c.args.self.now.store in
    let b : Brings g.N.Nv.writes s.journal.nv t.new.self.store.journal.nv
    (IsInStep t.new.self (g.W.Watch.noted t.new.watch) (g.W.Watch.is_short t.new.watch) r.0) (settles (sync_kept s.journal.state s.tables c.args.came)) r.1 =
    t.ensures.carried r.0 r.1 r.2 in
    let live = b.stands.power ∙ ap not (ran_is t.ensures.ran c.is_done.ensures ∙ c.if-not-is_done.false) in
    let order = stays_in_order (settles_fine s.journal.state s.tables c.args.came) b live (r.2.power ∙ ap not c.requires.live) r.3.0 in
    (r.0, b.after, b.stands, (order, quiet_few b.after.ports r.1.ports (settled_ports (sync_kept s.journal.state s.tables c.args.came) b live) r.3.1))

pub returns-then-not-have_ended-clause-carried : goal.returns-then-not-have_ended-clause-carried
returns-then-not-have_ended-clause-carried g c start w u may =
    let s = c.args.self.now.store in
    let none = ap (sync_kept s.journal.state s.tables) (none_came c.args.came (c.is_none-2.ensures ∙ ap not c.if-is_none-2.true)) in
    let over = sym (c.have_ended.ensures w.ports u.ends) ∙ c.if-not-have_ended.true in
    brings_same (c.passes.ensures.carried start w u may)
    (λ plan. only_passes (sync_kept s.journal.state s.tables c.args.came) (record w { plan = plan }) none (u.power ∙ ap not c.requires.live) over)

pub returns-then-not-is_done-clause-carried : goal.returns-then-not-is_done-clause-carried
returns-then-not-is_done-clause-carried g c start w u may =
    let t = c.settle_sessions in
    let s = c.args.self.now.store in
    let b : Brings g.N.Nv.writes s.journal.nv t.new.self.store.journal.nv
    (IsInStep t.new.self (g.W.Watch.noted t.new.watch) (g.W.Watch.is_short t.new.watch) start) (settles (sync_kept s.journal.state s.tables c.args.came)) w =
    t.ensures.carried start w u in
    brings_same (brings_cut g.N.Nv.writes passes b
    (b.stands.power ∙ ap not (ran_is t.ensures.ran c.is_done.ensures ∙ c.if-not-is_done.true)) refl b.stands) (λ plan. refl)

pub returns-clause-carried : goal.returns-clause-carried
returns-clause-carried g c start w u may =
    let t = c.settle_sessions in
    let s = c.args.self.now.store in
    let b : Brings g.N.Nv.writes s.journal.nv t.new.self.store.journal.nv
    (IsInStep t.new.self (g.W.Watch.noted t.new.watch) (g.W.Watch.is_short t.new.watch) start) (settles (sync_kept s.journal.state s.tables c.args.came)) w =
    t.ensures.carried start w u in
    let live = b.stands.power ∙ ap not (ran_is t.ensures.ran c.is_done.ensures ∙ c.if-not-is_done.false) in
    let order = stays_in_order (settles_fine s.journal.state s.tables c.args.came) b live (u.power ∙ ap not c.requires.live) may.0 in
    brings_same (brings_then g.N.Nv.writes b live (c.passes-2.ensures.carried start b.after b.stands
    (order, quiet_few b.after.ports w.ports (settled_ports (sync_kept s.journal.state s.tables c.args.came) b live) may.1))) (λ plan. refl)
