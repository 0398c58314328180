use Rattle.node_core.proofs.Words.{Stored, ap, sym, ◌∙◌}
use Rattle.node_core.proofs.Between.{at_rest}
use Rattle.node_core.proofs.Asking.{not_zero, begins_at_rest, asked_may}
use Rattle.node_core.proofs.SeenAsNode.{seen_may}
use Rattle.node_core.proofs.Unwritten.{host_still}
use Rattle.node_core.proofs.host.Host.step_unwritten.Goals as goal

pub step-requires : goal.step-requires
step-requires g c =
    let m = seen_may c.self.view_is c.requires.may in
    let nonzero = not_zero c.self.inside.node.number c.self.invariant in (
      m.core,
      m.ports,
      m.runs,
      m.sent,
      asked_may c.args.what c.number-host.result m.core m.ports c.requires.what (λ zero. nonzero (sym m.runs.node ∙ zero)) m.runs.order,
    )

pub returns-clause-refusal : goal.returns-clause-refusal
returns-clause-refusal g c = rw (← c.self.view_is) (λ core ports r. rw (← c.number-host.ensures) (c.in_default.ensures.refusal core ports r))

pub returns-in-Err-clause-refusal : goal.returns-in-Err-clause-refusal
returns-in-Err-clause-refusal g c = rw (← c.self.view_is) (λ core ports r. rw (← c.number-host.ensures) (c.in-Err.ensures.refusal core ports r))

pub returns-clause-stepped : goal.returns-clause-stepped
returns-clause-stepped g c = rw (← c.self.view_is) (λ start w b. rw (← c.number-host.ensures) (c.in_default.ensures.stepped start w b))

pub returns-in-Err-clause-unchanged : goal.returns-in-Err-clause-unchanged
returns-in-Err-clause-unchanged g c = rw (← c.self.view_is) c.in-Err.ensures.unchanged

pub returns-clause-quietly : goal.returns-clause-quietly
returns-clause-quietly g c =
    rw (← c.self.view_is) (λ start w b.
    let none = rw c.number-host.ensures at (c.in_default.ensures.refusal w.core w.ports b.runs) in
    let whole = rw c.number-host.ensures at (c.in_default.ensures.stepped start w b) in
    (host_still g.N.Nv.writes c.args.what c.requires.what (not_zero c.self.inside.node.number c.self.invariant) none b whole).1)

pub returns-clause-memory : goal.returns-clause-memory
returns-clause-memory g c =
    let m = seen_may c.self.view_is c.requires.may in
    let start = g.W.Watch.noted c.args.watch.now in
    let b = begins_at_rest start (g.W.Watch.is_short c.args.watch.now) m.runs m.sent in
    let w = at_rest m.core m.ports in
    let none = rw c.number-host.ensures at (c.in_default.ensures.refusal w.core w.ports b.runs) in
    let whole = rw c.number-host.ensures at (c.in_default.ensures.stepped start w b) in
    rw (← c.self.view_is) (host_still g.N.Nv.writes c.args.what c.requires.what (not_zero c.self.inside.node.number c.self.invariant) none b whole).0

pub returns-clause-live : goal.returns-clause-live
returns-clause-live g c =
    let m = seen_may c.self.view_is c.requires.may in
    let start = g.W.Watch.noted c.args.watch.now in
    let b = begins_at_rest start (g.W.Watch.is_short c.args.watch.now) m.runs m.sent in
    let w = at_rest m.core m.ports in
    let none = rw c.number-host.ensures at (c.in_default.ensures.refusal w.core w.ports b.runs) in
    let whole = rw c.number-host.ensures at (c.in_default.ensures.stepped start w b) in
    (host_still g.N.Nv.writes c.args.what c.requires.what (not_zero c.self.inside.node.number c.self.invariant) none b whole).2

pub returns-in-Err-clause-live : goal.returns-in-Err-clause-live
returns-in-Err-clause-live g c =
    ap (λ (s : Stored g.row.N.Denot). s.journal.live) c.in-Err.ensures.quiet.1 ∙ (seen_may c.self.view_is c.requires.may).runs.live
