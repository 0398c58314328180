use Rattle.pipe_table.proofs.Words.{ArePipeRows, List, PipeRow, ap, pid_of, subst, sym, ◌∙◌}
use Rattle.pipe_table.specs.PipeRows.{with_pipe}
use Rattle.sorted_rows.proofs.RowLemmas.{AreRows-with_row}
use Rattle.pipe_table.proofs.table.PipeTable.insert.Goals as goal

pub invariant_of-self : goal.invariant_of-self
invariant_of-self c =
    let P : List PipeRow → Type 0 = ArePipeRows in
    subst P (sym c.put.ensures) (AreRows-with_row pid_of 2 112 c.args.row c.self.inside.rows.items c.self.invariant c.requires.0 c.requires.1)

pub returns : goal.returns
returns c = c.put.ensures ∙ ap (λ (rows : List PipeRow). with_pipe rows c.args.row) c.self.view_is
