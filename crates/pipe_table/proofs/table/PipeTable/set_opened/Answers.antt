use Rattle.pipe_table.proofs.Words.{ArePipeRows, List, PipeRow, ap, items-with_items, length, length-map, subst, sym, with_opened, ◌∙◌}
use Rattle.pipe_table.proofs.TableLemmas.{ArePipeRows-with_opened}
use Rattle.pipe_table.proofs.table.PipeTable.set_opened.Goals as goal

pub invariant_of-self : goal.invariant_of-self
invariant_of-self c =
    let changed = c.set_row_opened.ensures.set ∙ ap (λ (rows : List PipeRow). with_opened rows c.args.pid c.args.opened) c.as_mut_slice.ensures.value in
    subst ArePipeRows (sym (items-with_items c.self.inside.rows c.set_row_opened.new.rows (ap length changed ∙ length-map _ _) ∙ changed))
    (ArePipeRows-with_opened c.self.inside.rows.items c.args.pid c.args.opened c.self.invariant)
