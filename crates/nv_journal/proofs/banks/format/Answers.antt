use Rattle.nv_journal.proofs.Compacting.{not_ok}
use Rattle.nv_journal.proofs.banks.format.Goals as goal

pub returns-in_err-open_bank-clause-made : goal.returns-in_err-open_bank-clause-made
returns-in_err-open_bank-clause-made g c = rw (not_ok c.from_residual.result c.from_residual.ensures.0) c.in_err-open_bank.ensures.made
