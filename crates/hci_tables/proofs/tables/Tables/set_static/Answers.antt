use Rattle.std.proofs.Common.{ℕ, List, subst, sym, not, eqb, arith}
use Rattle.sorted_rows.specs.Rows.{AreRows}
use Rattle.sorted_rows.proofs.RowLemmas.{AreRows-filter, AreRows-with_row}
use Rattle.hci_tables.specs.Tables.{static_place}
use Rattle.hci_tables.proofs.tables.Tables.set_static.Goals as goal

pub invariant_of-self : goal.invariant_of-self
invariant_of-self c =
    let P : List (ℕ × ℕ) → Type 0 = AreRows static_place 0 16 in (
      subst P (sym c.open.ensures)
          (AreRows-with_row static_place 0 16 (c.args.host, c.args.pid) c.self.inside.statics.items c.self.invariant.0 (omega arith) (omega arith)),
      c.self.invariant.1,
    )

pub invariant_of-self-else-opened : goal.invariant_of-self-else-opened
invariant_of-self-else-opened c =
    let P : List (ℕ × ℕ) → Type 0 = AreRows static_place 0 16 in (
      subst P (sym c.close.ensures) (AreRows-filter static_place 0 16
          (λ pair. not (eqb (static_place pair) (static_place (c.args.host, c.args.pid)))) c.self.inside.statics.items c.self.invariant.0),
      c.self.invariant.1,
    )
