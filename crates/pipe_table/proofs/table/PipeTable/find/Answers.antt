use Rattle.std.specs.Prelude.{IsSome}
use Rattle.pipe_table.proofs.Words.{List, PipeRow, ap, pid_of, subst, ◌∙◌}
use Rattle.sorted_rows.proofs.RowLemmas.{row_of-within}
use Rattle.pipe_table.specs.PipeRows.{pipe_at}
use Rattle.pipe_table.proofs.table.PipeTable.find.Goals as goal

pub returns-clause-dynamic : goal.returns-clause-dynamic
returns-clause-dynamic c = λ some.
    let seen = c.row_of.ensures ∙ ap (λ (rows : List PipeRow). pipe_at rows c.args.pid) c.as_slice.ensures.value in
    row_of-within pid_of 2 112 c.args.pid c.self.inside.rows.items c.self.invariant (subst (λ o. IsSome o) seen some)
