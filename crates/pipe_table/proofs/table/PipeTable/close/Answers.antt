use Rattle.pipe_table.proofs.Words.{ArePipeRows, List, PipeRow, all_closed, ap, items-with_items, length, length-map, subst, sym, ◌∙◌, ◌≡◌}
use Rattle.pipe_table.proofs.TableLemmas.{ArePipeRows-all_closed}
use Rattle.pipe_table.proofs.table.PipeTable.close.Goals as goal

pub invariant_of-self : goal.invariant_of-self
invariant_of-self c =
    let P : List PipeRow → Type 0 = ArePipeRows in
    let changed = c.close_rows.ensures ∙ ap all_closed c.as_mut_slice.ensures.value in
    let same : length c.close_rows.new.rows ≡ length c.self.inside.rows.items = ap length changed ∙ length-map _ _ in
    subst P (sym (items-with_items c.self.inside.rows c.close_rows.new.rows same ∙ changed)) (ArePipeRows-all_closed c.self.inside.rows.items c.self.invariant)
