use Rattle.node_core.proofs.Words.{IfSome, NodeInput, Option, Stored, all_come, ap, input_of_node, refl, subst, sym, sync_kept, times_out, ℕ, ◌∙◌, ◌≤◌}
use Rattle.node_core.proofs.Elsewhere.{hosts_differ}
use Rattle.node_core.proofs.Stepping.{whole_step}
use Rattle.node_core.proofs.Between.{begins_in_step, at_rest, rests_in_step, runs_ready, kept_none_ended, ends_kept}
use Rattle.node_core.proofs.Behind.{ready_few, stepped}
use Rattle.node_core.proofs.Asking.{begins_at_rest}
use Rattle.node_core.proofs.SeenAsNode.{still_runs, seen_runs}
use Rattle.node_core.proofs.Came.{node_more, kept_may, kept_refused, sync_of_hosts, synced_by, came_order, came_few, came_planned, came_written}
use Rattle.node_core.proofs.running_node.RunningNode.step.Goals as goal

pub comes-requires : goal.comes-requires
comes-requires g c =
    let m = rw (← c.self.view_is) at c.requires in
    let noted = g.W.Watch.noted c.args.watch.now in
    (noted, at_rest m.0 m.1, begins_at_rest noted (g.W.Watch.is_short c.args.watch.now) m.2 m.3, kept_may c.args.input m.1 m.4)

pub finish-ran-requires-clause-live : goal.finish-ran-requires-clause-live
finish-ran-requires-clause-live g c =
    let m = rw (← c.self.view_is) at c.requires in ap (λ (s : Stored g.row.N.Denot). s.journal.live) c.comes.ensures.store ∙ m.2.live

pub finish-ran-requires-clause-host : goal.finish-ran-requires-clause-host
finish-ran-requires-clause-host g c =
    let m = rw (← c.self.view_is) at c.requires in
    let noted = g.W.Watch.noted c.args.watch.now in
    let b = begins_at_rest noted (g.W.Watch.is_short c.args.watch.now) m.2 m.3 in
    let has = (c.in-Ok.ensures.came noted (at_rest m.0 m.1) (begins_in_step b)).0 in
    let P : Option (ℕ × ℕ) → Type 0 = λ o. IfSome o (λ (pair : ℕ × ℕ). (1 ≤ pair.0) × (pair.0 ≤ 7)) in
    subst P (sym has.sync) (sync_of_hosts (input_of_node c.args.input) (at_rest m.0 m.1).ports b.runs.order.hosts)

pub finish-ran-requires-clause-may : goal.finish-ran-requires-clause-may
finish-ran-requires-clause-may g c =
    let m = rw (← c.self.view_is) at c.requires in
    let i : NodeInput = input_of_node c.args.input in
    let noted = g.W.Watch.noted c.args.watch.now in
    let w = at_rest m.0 m.1 in
    let b = begins_at_rest noted (g.W.Watch.is_short c.args.watch.now) m.2 m.3 in (
      noted,
      times_out i (all_come i w),
      c.comes.ensures.carried noted w b,
      (came_order i w b.runs.order, came_few i (node_more c.args.input m.1 m.4) w (ready_few w.ports (runs_ready b.runs b.sent))),
    )

pub returns-in-Err-clause-refusal : goal.returns-in-Err-clause-refusal
returns-in-Err-clause-refusal g c core ports runs =
    let noted = g.W.Watch.noted c.args.watch.now in
    sym (kept_refused c.args.input ports)
    ∙ c.in-Err.ensures.came noted (at_rest core ports) (rests_in_step noted (g.W.Watch.is_short c.args.watch.now) (seen_runs c.self.view_is runs))

pub returns-in-Err-clause-unchanged : goal.returns-in-Err-clause-unchanged
returns-in-Err-clause-unchanged g c core ports runs =
    let r = seen_runs c.self.view_is runs in
    let noted = g.W.Watch.noted c.args.watch.now in
    let rests = rests_in_step noted (g.W.Watch.is_short c.args.watch.now) r in
    still_runs r (c.in-Err.ensures.unchanged noted (at_rest core ports) rests (kept_none_ended ports)) c.comes.ensures.store

pub returns-clause-refusal : goal.returns-clause-refusal
returns-clause-refusal g c core ports runs =
    let noted = g.W.Watch.noted c.args.watch.now in
    sym (kept_refused c.args.input ports)
    ∙ (c.in-Ok.ensures.came noted (at_rest core ports) (rests_in_step noted (g.W.Watch.is_short c.args.watch.now) (seen_runs c.self.view_is runs))).1

pub returns-clause-active : goal.returns-clause-active
returns-clause-active g c start w begins =
    let b = rw (← c.self.view_is) at begins in (c.in-Ok.ensures.came start w (begins_in_step b)).0.active

pub returns-clause-stepped : goal.returns-clause-stepped
returns-clause-stepped g c = rw (← c.self.view_is) (λ start w b.
    let m = rw (← c.self.view_is) at c.requires in
    let i : NodeInput = input_of_node c.args.input in
    let n = c.self.inside.node.ends in
    let u = begins_in_step b in
    let more = node_more c.args.input m.1 m.4 in
    let has = (c.in-Ok.ensures.came start w u).0 in
    let syncs = synced_by w.core i w.ports (hosts_differ n.pool n.seats w.ports u.ends.hosts u.ends.each)
    ∙ ap (sync_kept w.core.journal w.core.tables) (sym has.sync) in
    let behind = c.finish-ran.ensures.carried start (times_out i (all_come i w)) (c.comes.ensures.carried start w b)
    (came_order i w b.runs.order, came_few i more w (ready_few w.ports (runs_ready b.runs b.sent))) in
    let whole = whole_step g.N.Nv.writes i c.in-Ok.came.sync u b.runs.live c.comes.ensures.store (came_planned i w) (came_written i w) syncs behind in
    stepped g.N.Nv.writes {n2 = record c.finish-ran.new.self { ends = c.begin_step.new.self }} i more b whole
    (λ ports e. ends_kept c.begin_step.new.self ports (c.begin_step.ensures ports e)) refl refl refl c.finish-ran.ensures.usable)
