use Rattle.std.proofs.Common.{rules, ℕ, eqb, not}
use Rattle.arrayvec.proofs.ArrayVecLemmas.{filter-from_retain}
use Rattle.hci_tables.specs.Tables.{static_place}
use Rattle.hci_tables.proofs.statics.take_out.Goals as goal

pub returns : goal.returns
returns c =
    filter-from_retain _ (λ (pair : ℕ × ℕ). not (eqb (static_place pair) c.args.place)) _ (λ x b f' y called. search rules) _ _ c.retain.ensures.filtered
