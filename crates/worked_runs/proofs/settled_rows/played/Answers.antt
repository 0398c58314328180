use Rattle.std.proofs.Common.{[], refl, sym, subst, arith}
use Rattle.std.specs.Prelude.{All}
use Rattle.trace_model.specs.declared.line.Header.{Header}
use Rattle.lines_told.specs.lines.Below.{IsPlayedLine}
use Rattle.worked_runs.proofs.SettledRows.{line_more}
use Rattle.worked_runs.proofs.settled_rows.played.Goals as goal

pub loop-line-init : goal.loop-line-init
loop-line-init g c =
    record {
      lines = subst (λ (h : Header). All (IsPlayedLine h) c.args.lines.now) (sym c.opened-world.ensures.header) c.requires.lines;
      stands = record { plays = []; stands = c.opened-world.ensures.stands; said = refl; none = refl };
    }

pub step-requires-clause-room : goal.step-requires-clause-room
step-requires-clause-room g c =
    let at = c.loop-line.invariant.stands in
    let said = at.said in
    let few = c.requires.few in
    record { plays = at.plays; stands = at.stands; few = omega (arith, said, few, c.loop-line-test.true) }

pub loop-line-preserved : goal.loop-line-preserved
loop-line-preserved g c =
    let at = c.loop-line.invariant.stands in
    record {
      lines = subst (λ (h : Header). All (IsPlayedLine h) c.args.lines.now) (sym c.in-Ok.ensures.header) c.loop-line.invariant.lines;
      stands = line_more _ at c.in-Ok.ensures.header (c.in-Ok.ensures.stands at.plays at.stands);
    }

pub returns : goal.returns
returns g c = let at = c.loop-line.invariant.stands in (at.plays, at.stands, at.none)
