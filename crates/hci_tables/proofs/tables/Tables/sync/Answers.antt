use Rattle.std.proofs.Common.{ℕ, List, subst, sym, arith}
use Rattle.sorted_rows.specs.Rows.{AreRows}
use Rattle.sorted_rows.proofs.RowLemmas.{AreRows-with_row}
use Rattle.hci_tables.specs.Tables.{sync_host}
use Rattle.hci_tables.proofs.tables.Tables.sync.Goals as goal

pub invariant_of-self : goal.invariant_of-self
invariant_of-self c =
    let P : List (ℕ × ℕ) → Type 0 = AreRows sync_host 1 8 in (
      c.self.invariant.0,
      subst P (sym c.keep.ensures)
          (AreRows-with_row sync_host 1 8 (c.args.host, c.args.id) c.self.inside.syncs.items c.self.invariant.1 (omega arith) (omega arith)),
    )
