use Rattle.pipe_table.proofs.Words.{ArePipeRows, AreRows-filter, List, PipeRow, eqb, not, pid_of, subst, sym}
use Rattle.pipe_table.proofs.table.PipeTable.remove.Goals as goal

pub invariant_of-self : goal.invariant_of-self
invariant_of-self c =
    let P : List PipeRow → Type 0 = ArePipeRows in
    subst P (sym c.take_out.ensures.removed) (AreRows-filter pid_of 2 112 (λ row. not (eqb row.pid c.args.pid)) c.self.inside.rows.items c.self.invariant)
