use Rattle.std.proofs.Common.{ap, sym, ◌∙◌}
use Rattle.link_wires.specs.Damages.{told_verdict}
use Rattle.link_wires.proofs.Damages.{told_where_same, told_where_other}
use Rattle.link_wires.proofs.damage.verdict_of.Goals as goal

pub returns-then-eq : goal.returns-then-eq
returns-then-eq c =
    told_where_same c.in-Ok.read c.args.lpdu.now (sym c.eq.ensures ∙ c.if-eq.true) ∙ ap (told_verdict c.args.lpdu.now) (sym c.in-Ok.is)

pub returns-else-eq : goal.returns-else-eq
returns-else-eq c =
    told_where_other c.in-Ok.read c.args.lpdu.now (sym c.eq.ensures ∙ c.if-eq.false) ∙ ap (told_verdict c.args.lpdu.now) (sym c.in-Ok.is)
