use Rattle.std.proofs.Common.{rules, ℕ, eqb, not}
use Rattle.arrayvec.proofs.ArrayVecLemmas.{filter-from_retain}
use Rattle.hci_tables.proofs.statics.close_host.Goals as goal

pub returns : goal.returns
returns c = filter-from_retain _ (λ (pair : ℕ × ℕ). not (eqb pair.0 c.args.host)) _ (λ x b f' y called. search rules) _ _ c.retain.ensures.filtered
