-- Where the row of a pipe comes from that stands behind a command.
use Rattle.tables_laws.proofs.Words.{AreTables, Bool, Clear, Command, Create, Delete, HciTables, IfSome, None, Option, PipeRow, Set, SetOpened, Some, Sync}
use Rattle.tables_laws.proofs.Words.{apply, as_opened, cond, cond_both, eqb, eqb-true, false, inl, inr, joins_host, ltb, not, option_and_then, option_map}
use Rattle.tables_laws.proofs.Words.{pid_of, pipe_at, refl, row_of-with_row, row_of-without_row, subst, sym, with_opened, with_static, ℕ, ◌≡◌}
use Rattle.tables_laws.specs.tables.Changes.{SameEnds, WasThere, ComesFrom}
use Rattle.tables_laws.proofs.tables.LookUps.{row_of-map, row_of-filter, if_passes}

same_ends : (row : PipeRow) → SameEnds row row
same_ends row = record { creator = refl; creator_gate = refl; dest = refl; dest_gate = refl }

was_there : (t : HciTables) (pid : ℕ) (o : Option PipeRow) → pipe_at t.rows pid ≡ o → IfSome o (WasThere t pid)
was_there t pid None is = tt
was_there t pid (Some row) is = (row, is, same_ends row)

as_before : (t : HciTables) (pid : ℕ) → IfSome (pipe_at t.rows pid) (WasThere t pid)
as_before t pid = was_there t pid (pipe_at t.rows pid) refl

filtered : (t : HciTables) (pid : ℕ) (test : PipeRow → Bool) (o : Option PipeRow) → pipe_at t.rows pid ≡ o
    → IfSome (option_and_then (if_passes test) o) (WasThere t pid)
filtered t pid test None is = tt
filtered t pid test (Some row) is = cond_both (test row) (Some row) None (λ o. IfSome o (WasThere t pid)) (λ yes. (row, is, same_ends row)) (λ no. tt)

set_opened : ℕ → Bool → PipeRow → PipeRow
set_opened pid opened row = cond (eqb row.pid pid) (as_opened opened row) row

changed : (t : HciTables) (pid other : ℕ) (opened : Bool) (o : Option PipeRow) → pipe_at t.rows pid ≡ o
    → IfSome (option_map (set_opened other opened) o) (WasThere t pid)
unfolding set_opened
changed t pid other opened None is = tt
changed t pid other opened (Some row) is = (
  row,
  is,
  cond_both (eqb row.pid other) (as_opened opened row) row (SameEnds row)
      (λ yes. record { creator = refl; creator_gate = refl; dest = refl; dest_gate = refl }) (λ no. same_ends row),
)

pub ends-apply : (t : HciTables) (command : Command) (pid : ℕ) → AreTables t → IfSome (pipe_at (apply t command).rows pid) (ComesFrom t command pid)
unfolding set_opened
ends-apply t (Create row) pid h =
    let From : Option PipeRow → Type 0 = λ o. IfSome o (ComesFrom t (Create row) pid) in
    let made = as_opened false row in
    subst From (sym (row_of-with_row pid_of made t.rows pid))
    (cond_both (eqb row.pid pid) (Some made) (pipe_at t.rows pid) From
    (λ same. inl (eqb-true row.pid pid same, record { creator = refl; creator_gate = refl; dest = refl; dest_gate = refl }))
    (λ other. or_before (pipe_at t.rows pid) (as_before t pid)))
  where
    or_before : (o : Option PipeRow) → IfSome o (WasThere t pid) → IfSome o (ComesFrom t (Create row) pid)
    or_before None h = tt
    or_before (Some r) h = inr h
ends-apply t (Delete gone) pid h =
    let From : Option PipeRow → Type 0 = λ o. IfSome o (WasThere t pid) in
    subst From (sym (row_of-without_row pid_of gone t.rows pid))
    (cond_both (eqb gone pid) None (pipe_at t.rows pid) From (λ same. tt) (λ other. as_before t pid))
ends-apply t (Clear host) pid h =
    subst (λ o. IfSome o (WasThere t pid)) (sym (row_of-filter pid_of 2 112 (λ row. not (joins_host row host)) pid t.rows h.rows))
    (filtered t pid (λ row. not (joins_host row host)) (pipe_at t.rows pid) refl)
ends-apply t (SetOpened host other opened) pid h =
    let From : Option PipeRow → Type 0 = λ o. IfSome o (WasThere t pid) in
    cond_both (ltb other 2) (record t { statics = with_static t.statics host other opened }) (record t { rows = with_opened t.rows other opened })
    (λ u. From (pipe_at u.rows pid))
    (λ static. as_before t pid)
    (λ dynamic. subst From (sym (row_of-map pid_of (set_opened other opened) pid t.rows (keeps other opened)))
    (changed t pid other opened (pipe_at t.rows pid) refl))
  where
    keeps : (other : ℕ) (opened : Bool) (row : PipeRow) → (cond (eqb row.pid other) (as_opened opened row) row).pid ≡ row.pid
    keeps other opened row = cond_both (eqb row.pid other) (as_opened opened row) row (λ r. r.pid ≡ row.pid) (λ yes. refl) (λ no. refl)
ends-apply t (Set host gate param value) pid h = as_before t pid
ends-apply t (Sync host id) pid h = as_before t pid
