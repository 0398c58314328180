use Rattle.std.proofs.Common.{ℕ, List, subst, sym, not, eqb}
use Rattle.sorted_rows.specs.Rows.{AreRows}
use Rattle.sorted_rows.proofs.RowLemmas.{AreRows-filter}
use Rattle.hci_tables.specs.Tables.{static_place}
use Rattle.hci_tables.proofs.tables.Tables.clear.Goals as goal

pub invariant_of-self : goal.invariant_of-self
invariant_of-self c =
    let P : List (ℕ × ℕ) → Type 0 = AreRows static_place 0 16 in (
      subst P (sym c.close_host.ensures)
          (AreRows-filter static_place 0 16 (λ pair. not (eqb pair.0 c.args.host)) c.self.inside.statics.items c.self.invariant.0),
      c.self.invariant.1,
    )
