use Rattle.journal_laws.proofs.ReadFirst.{one_more_read, no_reads, more_reads}
use Rattle.nv_journal.proofs.Compacting.{not_ok}
use Rattle.nv_journal.proofs.heads.read_heads.Goals as goal

pub returns-in_err-first-clause-step : goal.returns-in_err-first-clause-step
returns-in_err-first-clause-step g c =
    let reads = g.N.Nv.reads in
    let old = c.args.nv.now in
    rw (not_ok c.from_residual.result c.from_residual.ensures.0)
    (more_reads reads 1 old _ c.read_head.new.nv (one_more_read reads 0 old old _ c.read_head.new.nv (no_reads reads 0 old) c.in_err-first.ensures.step))

pub returns-in_err-second-clause-step : goal.returns-in_err-second-clause-step
returns-in_err-second-clause-step g c =
    let reads = g.N.Nv.reads in
    let old = c.args.nv.now in
    let between = c.read_head.new.nv in
    rw (not_ok c.from_residual-in_err-second.result c.from_residual-in_err-second.ensures.0)
    (one_more_read reads 1 old between _ c.read_head-2.new.nv
    (one_more_read reads 0 old old _ between (no_reads reads 0 old) c.in_ok-first.ensures.step) c.in_err-second.ensures.step)

pub returns-clause-step : goal.returns-clause-step
returns-clause-step g c =
    let reads = g.N.Nv.reads in
    let old = c.args.nv.now in
    let between = c.read_head.new.nv in
    one_more_read reads 1 old between _ c.read_head-2.new.nv
    (one_more_read reads 0 old old _ between (no_reads reads 0 old) c.in_ok-first.ensures.step) c.in_ok-second.ensures.step
