use Rattle.pipe_table.proofs.Words.{ArePipeRows, AreRows-filter, List, PipeRow, ap, not, pid_of, rules, subst, sym, ◌∙◌}
use Rattle.arrayvec.proofs.ArrayVecLemmas.{filter-from_retain}
use Rattle.pipe_table.specs.PipeRows.{joins_host, rows_without_host}
use Rattle.pipe_table.proofs.table.PipeTable.clear_host.Goals as goal

pub invariant_of-self : goal.invariant_of-self
invariant_of-self c =
    let kept = filter-from_retain _ (λ (row : PipeRow). not (joins_host row c.args.host)) _ (λ x b f' y called. search rules) _ _ c.retain.ensures.filtered in
    subst ArePipeRows (sym kept) (AreRows-filter pid_of 2 112 (λ row. not (joins_host row c.args.host)) c.self.inside.rows.items c.self.invariant)

pub returns : goal.returns
returns c =
    let kept = filter-from_retain _ (λ (row : PipeRow). not (joins_host row c.args.host)) _ (λ x b f' y called. search rules) _ _ c.retain.ensures.filtered in
    kept ∙ ap (λ (rows : List PipeRow). rows_without_host rows c.args.host) c.self.view_is
