use Rattle.std.proofs.Common.{◌∙◌, refl, sym}
use Rattle.std.proofs.lemmas.Bool.{and_left, and_right}
use Rattle.gate_admin.specs.View.{hosts_where, is_noticed}
use Rattle.gate_admin.specs.Decide.{shares}
use Rattle.gate_admin.proofs.ViewLemmas.{any-here, any-later}
use Rattle.gate_admin.proofs.pipes.is_one_noticed.Goals as goal
use Rattle.gate_admin.proofs.pipes.is_one_noticed.Goals.{else-shares-via-then-shares+else-is_noticed, else-shares-via-else-shares}

pub returns-then-is_noticed : goal.returns-then-is_noticed
returns-then-is_noticed c =
    sym (c.loop-other.invariant
    ∙ any-here (is_noticed c.args.view.now) (shares c.args.tables.now c.args.view.now c.args.host) c.loop-other.other c.loop-other-test.true
    (sym c.shares.ensures ∙ c.if-shares.true) (sym c.is_noticed.ensures ∙ c.if-is_noticed.true))

pub loop-other-preserved : goal.loop-other-preserved
loop-other-preserved c =
    let p = is_noticed c.args.view.now in
    let q = shares c.args.tables.now c.args.view.now c.args.host in
    let other = c.loop-other.other in
    elim c.else-shares.branch [
      | else-shares-via-then-shares+else-is_noticed w ↦
          c.loop-other.invariant ∙ any-later p q other c.loop-other-test.true (and_right (q other) (p other) (sym w.is_noticed.ensures ∙ w.if-is_noticed.false))
      | else-shares-via-else-shares w ↦
          c.loop-other.invariant ∙ any-later p q other c.loop-other-test.true (and_left (q other) (p other) (sym c.shares.ensures ∙ w.if-shares.false))
    ]

pub loop-other-init : goal.loop-other-init
unfolding hosts_where
loop-other-init c = refl
