use Rattle.std.proofs.Common.{is_ok}
use Rattle.hci_store.proofs.Words.{AreMade, HoldsTables, arith, compact_writes, subst, ◌∙◌}
use Rattle.hci_store.proofs.Committed.{holds_snapshot, holds_by, compact_left}
use Rattle.hci_store.proofs.store.Store.compact.Goals as goal
use Rattle.swp_base.proofs.Results.{on_ok}

pub invariant_of-self : goal.invariant_of-self
invariant_of-self g c =
    let k = c.self.inside in
    let made = c.compact.ensures in
    let content = g.N.Nv.content in
    record {
      recordable = c.self.invariant.recordable;
      holds = λ live tells.
          holds_by c.compact.result c.compact.new.self.live (HoldsTables (content c.compact.new.self.nv) k.tables)
          (on_ok c.compact.result _ _ (made.records tells)
          (λ is. holds_snapshot (content c.compact.new.self.nv) k.tables c.self.invariant.recordable c.snapshot_of-snapshot.ensures.tables
          (is ∙ c.snapshot_of-snapshot.ensures.records)))
          made.fault made.dead
          (λ spent. rw (made.unchanged spent) (c.self.invariant.holds (rw (← c.self.view_is) at c.requires.live) tells)) live;
    }

pub returns-clause-made : goal.returns-clause-made
returns-clause-made g c = λ not_spent.
    let k = c.self.inside in
    rw (← c.self.view_is)
    (subst (λ l. AreMade g.N.Nv.writes (compact_writes k.journal.state l) k.journal.nv (is_ok c.compact.result) c.compact.new.self.nv)
    c.snapshot_of-snapshot.ensures.records (c.compact.ensures.made not_spent))

pub returns-clause-holds : goal.returns-clause-holds
returns-clause-holds g c tells =
    let k = c.self.inside in
    let content = g.N.Nv.content in
    on_ok c.compact.result _ _ (c.compact.ensures.records tells)
    (λ is. holds_snapshot (content c.compact.new.self.nv) k.tables c.self.invariant.recordable c.snapshot_of-snapshot.ensures.tables
    (is ∙ c.snapshot_of-snapshot.ensures.records))

pub returns-clause-cut : goal.returns-clause-cut
returns-clause-cut g c = λ tells failed.
    let k = c.self.inside in
    let made = c.compact.ensures in
    let bodies = c.snapshot_of-snapshot.ensures in
    rw (← c.self.view_is)
    (compact_left (g.N.Nv.content k.journal.nv) (g.N.Nv.content c.compact.new.self.nv) k.journal.state k.tables (made.said tells)
    (c.self.invariant.holds (rw (← c.self.view_is) at c.requires.live) tells) c.snapshot_of-snapshot.result
    (rw (← c.self.view_is) at c.requires.started)
    (omega (arith, c.generation.type_inv, c.generation.ensures, c.if-generation.false)) c.self.invariant.recordable bodies.tables bodies.records bodies.room
    (made.cut tells failed))
