use Rattle.pipe_table.proofs.Words.{arith, as_opened, false, refl}
use Rattle.pipe_table.proofs.TableLemmas.{changed_more}
use Rattle.pipe_table.proofs.table.close_rows.Goals as goal

pub loop-row-preserved : goal.loop-row-preserved
loop-row-preserved c =
    changed_more (as_opened false) c.args.rows.now c.loop-row.row-index _ (omega arith) c.loop-row.auto.rows c.loop-row.invariant
    c.as_opened.ensures refl
