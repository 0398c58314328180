-- The tables that the commands of a journal's records make, their snapshot, and what a commit or a cut of it leaves.
use Rattle.std.proofs.Common.{IfErr, IsSome, OnOk, add-one, append-nil, append_assoc, ap₂, is_some, nat_le, nat_lt, not, slice_index, suc}
use Rattle.std.proofs.Common.{zero, ◌%◌, ◌&&◌, ◌/◌, ◌<◌, ◌^◌}
use Rattle.std.specs.List.{AllByRecursion, All}
use Rattle.std.proofs.lemmas.Bool.{and_parts, le-leb, and_from, lt-ltb, true≢false}
use Rattle.std.proofs.lemmas.List.Elements.{All-from_recursion}
use Rattle.hci_store.proofs.Words.{AreMade, BadRecord, Bool, Err, GenerationsSpent, HasRoomForBody, HciTables, HoldsTables, IsKnown, IsRecordable, IsSound}
use Rattle.hci_store.proofs.Words.{IsTrue, JournalFault, Keeps, LeftByCut, List, None, NvFault, Result, Says, Some, State, [], after_writes, ap, appended}
use Rattle.hci_store.proofs.Words.{applied, apply, are_commands, arith, body_of, close, command_of, compact_writes, cond, count_of, create_command, false}
use Rattle.hci_store.proofs.Words.{fault, filter, first_other, fold, gate_at, inl, inr, is_known, is_opened_gate, journal, length, map, nat_tests, no_tables}
use Rattle.hci_store.proofs.Words.{open_command, option_map_or, pid_of, place_of_value, records, refl, set_command, slice_get, static_command, static_place}
use Rattle.hci_store.proofs.Words.{subst, sym, sync_command, sync_host, tables_of, take, true, used, ℕ, ◌*◌, ◌++◌, ◌+◌, ◌==◌, ◌∙◌, ◌∷◌, ◌≡◌, ◌≤◌, ◌⊎◌}
use Rattle.whitelist.specs.Whitelist.{holds}
use Rattle.registry.specs.Values.{IsPresent, is_default, value_place}
use Rattle.registry.specs.declared.value.RegValue.{RegValue}
use Rattle.hci_tables.specs.declared.command.Command.{Command}
use Rattle.hci_tables.specs.declared.command.Command.TheVariants.{Create, Delete, Clear, SetOpened, Set, Sync}
use Rattle.hci_tables.specs.Commands.{is_allowed, IsCommand}
use Rattle.hci_tables.specs.Tables.{AreTables, is_kept_sync, with_static, without_identity}
use Rattle.hci_store.specs.Image.{image_fault}
use Rattle.hci_store.specs.Snapshots.{snapshot_of}
use Rattle.hci_store.specs.Committing.{room_writes, with_room, commit_writes, committed}
use Rattle.pipe_table.specs.declared.row.PipeRow.{PipeRow}
use Rattle.pipe_table.specs.PipeRows.{ArePipeRows, all_closed, as_opened, joins_host, with_opened, with_pipe}
use Rattle.sorted_rows.specs.Rows.{AreRows, rows_before, rows_behind, with_row}
use Rattle.sorted_rows.proofs.RowLemmas.{AreRows-map}
use Rattle.nv_journal.specs.Faults.{IsFaulty}
use Rattle.nv_journal.proofs.Appending as appending
use Rattle.nv_journal.proofs.Compacting as compacting
use Rattle.journal_laws.specs.Writes.{Write, last_place}
use Rattle.journal_laws.specs.Operations.{CanCompact, append_writes, compacted}
use Rattle.journal_laws.specs.Records.{IsBody}
use Rattle.journal_laws.proofs.Opening.{compact_count}

-- a value that is allowed is short
pub short_value : (host param : ℕ) (value : List ℕ) → is_allowed host param value ≡ true → length value ≤ 20
short_value host param value is = grind arith

pub read_again : (c : Command) → IsCommand c → command_of (body_of c) ≡ Some c
read_again x0 may = grind arith

pub applied_commands : (t : HciTables) (cs : List Command) → AllByRecursion IsCommand cs → fold applied t (map body_of cs) ≡ fold apply t cs
applied_commands t [] all = refl
applied_commands t (c ∷ cs) all = let h0 = read_again c all.0 in let h1 = applied_commands (apply t c) cs all.1 in grind arith

pub commands_again : (cs : List Command) → AllByRecursion IsCommand cs → are_commands (map body_of cs) ≡ true
commands_again [] all = refl
commands_again (c ∷ cs) all = ap (λ o. is_some o && are_commands (map body_of cs)) (read_again c all.0) ∙ commands_again cs all.1

-- ---- tables stay recordable

module _ {X : Type 0} (P : X → Type 0) where
  pub all-filter : (p : X → Bool) (xs : List X) → AllByRecursion P xs → AllByRecursion P (filter p xs)
  all-filter p [] all = tt
  all-filter p (x ∷ xs) all = let h0 = all-filter p xs all.1 in grind arith

  pub all-append : (xs ys : List X) → AllByRecursion P xs → AllByRecursion P ys → AllByRecursion P (xs ++ ys)
  all-append [] ys a b = b
  all-append (x ∷ xs) ys a b = (a.0, all-append xs ys a.1 b)

  all-map : (f : X → X) → ((x : X) → P x → P (f x)) → (xs : List X) → AllByRecursion P xs → AllByRecursion P (map f xs)
  all-map f keeps [] all = tt
  all-map f keeps (x ∷ xs) all = (keeps x all.0, all-map f keeps xs all.1)

abbrev MayCreate : PipeRow → Type 0
MayCreate row = IsCommand (create_command row)

abbrev MaySet : RegValue → Type 0
MaySet v = IsCommand (set_command v)

created : (row : PipeRow) → IsCommand (Create row) → MayCreate (as_opened false row)
created row is = grind arith

set_again : (t : HciTables) (host gate param : ℕ) (v : RegValue) → MaySet v → AllByRecursion MaySet t.values
    → (b : Bool) → AllByRecursion MaySet (cond b (filter (λ row. not (place_of_value row == value_place host param)) t.values)
    (filter (λ row. nat_lt (place_of_value row) (place_of_value v)) t.values ++ v ∷ filter (λ row. nat_lt (place_of_value v) (place_of_value row)) t.values))
set_again t host gate param v may all true = all-filter MaySet (λ row. not (place_of_value row == value_place host param)) t.values all
set_again t host gate param v may all false =
    all-append MaySet (filter (λ row. nat_lt (place_of_value row) (place_of_value v)) t.values)
    (v ∷ filter (λ row. nat_lt (place_of_value v) (place_of_value row)) t.values)
    (all-filter MaySet (λ row. nat_lt (place_of_value row) (place_of_value v)) t.values all)
    (may, all-filter MaySet (λ row. nat_lt (place_of_value v) (place_of_value row)) t.values all)

pub recordable-none : IsRecordable no_tables
recordable-none = record { rows = tt; values = tt }

pub recordable-close : (t : HciTables) → IsRecordable t → IsRecordable (close t)
recordable-close t is = record { rows = all-map MayCreate (as_opened false) (λ row may. may) t.rows is.rows; values = is.values }

pub recordable-apply : (t : HciTables) (c : Command) → IsRecordable t → IsCommand c → IsRecordable (apply t c)
recordable-apply t (Create row) is may = record {
  rows = all-append MayCreate (filter (λ r. nat_lt r.pid row.pid) t.rows) (as_opened false row ∷ filter (λ r. nat_lt row.pid r.pid) t.rows)
      (all-filter MayCreate (λ r. nat_lt r.pid row.pid) t.rows is.rows) (created row may, all-filter MayCreate (λ r. nat_lt row.pid r.pid) t.rows is.rows);
  values = is.values;
}
recordable-apply t (Delete pid) is may = record { rows = all-filter MayCreate (λ r. not (r.pid == pid)) t.rows is.rows; values = is.values }
recordable-apply t (Clear host) is may = record {
  rows = all-filter MayCreate (λ r. not (joins_host r host)) t.rows is.rows;
  values = all-filter MaySet (λ v. not (v.host == host)) t.values is.values;
}
recordable-apply t (SetOpened host pid opened) is may = by_pipe (nat_lt pid 2)
  where
    state : (row : PipeRow) → MayCreate row → (b : Bool) → MayCreate (cond b (as_opened opened row) row)
    state row m x2 = grind arith

    by_pipe : (b : Bool) → IsRecordable (cond b (record t { statics = with_static t.statics host pid opened })
        (record t { rows = map (λ row. cond (row.pid == pid) (as_opened opened row) row) t.rows }))
    by_pipe true = record { rows = is.rows; values = is.values }
    by_pipe false = record {
      rows =
          all-map MayCreate (λ row. cond (row.pid == pid) (as_opened opened row) row) (λ row m. state row m (row.pid == pid)) t.rows is.rows;
      values =
          is.values;
    }
recordable-apply t (Set host gate param value) is may = record {
  rows = is.rows;
  values = set_again t host gate param (record { host = host; gate = gate; param = param; value = record { items = value.items } }) may is.values
      (is_default param value.items);
}
recordable-apply t (Sync host id) is may = record { rows = is.rows; values = by_kept (is_kept_sync t.syncs host id) }
  where
    by_kept : (b : Bool) → AllByRecursion MaySet (cond b t.values (without_identity t.values host))
    by_kept true = is.values
    by_kept false = all-filter MaySet (λ row. not (place_of_value row == value_place host 1)) t.values is.values

-- ---- the parts of a snapshot

pub syncs_by_rows : (low : ℕ) (xs : List (ℕ × ℕ)) → 1 ≤ low → AreRows sync_host low 8 xs → AllByRecursion (λ s. IsCommand (sync_command s)) xs
syncs_by_rows low [] some rows = tt
syncs_by_rows low (x ∷ xs) some rows =
    let h0 = and_from (nat_le 1 x.0) (nat_le x.0 7) (le-leb 1 x.0 (omega (arith, rows.0))) (le-leb x.0 7 (omega (arith, rows.1))) in
    let h1 = syncs_by_rows (x.0 + 1) xs (omega arith) rows.2 in grind arith

pub statics_by_rows : (low : ℕ) (xs : List (ℕ × ℕ)) → AreRows static_place low 16 xs → AllByRecursion (λ s. IsCommand (static_command s)) xs
statics_by_rows low [] rows = tt
statics_by_rows low (x ∷ xs) rows =
    let h0 = and_from (nat_le x.0 7) (nat_lt x.1 112) (le-leb x.0 7 (omega (arith, rows.1))) (lt-ltb x.1 112 (omega (arith, rows.1))) in
    let h1 = statics_by_rows (static_place x + 1) xs rows.2 in grind arith

pub syncs_may : (xs : List (ℕ × ℕ)) → AreRows sync_host 1 8 xs → All (λ s. IsCommand (sync_command s)) xs
syncs_may xs rows = All-from_recursion (λ s. IsCommand (sync_command s)) xs (syncs_by_rows 1 xs (omega arith) rows)

pub statics_may : (xs : List (ℕ × ℕ)) → AreRows static_place 0 16 xs → All (λ s. IsCommand (static_command s)) xs
statics_may xs rows = All-from_recursion (λ s. IsCommand (static_command s)) xs (statics_by_rows 0 xs rows)

map-map_bodies : {X : Type 0} (g : X → Command) (xs : List X) → map (λ x. body_of (g x)) xs ≡ map body_of (map g xs)
map-map_bodies g [] = refl
map-map_bodies g (x ∷ xs) = ap (λ l. body_of (g x) ∷ l) (map-map_bodies g xs)

map-append_bodies : (xs ys : List Command) → map body_of (xs ++ ys) ≡ map body_of xs ++ map body_of ys
map-append_bodies [] ys = refl
map-append_bodies (x ∷ xs) ys = ap (λ l. body_of x ∷ l) (map-append_bodies xs ys)

joined : (bodies : List (List ℕ)) (commands : List Command) (more : List (List ℕ)) (next : List Command) → bodies ≡ map body_of commands
    → more ≡ map body_of next
    → bodies ++ more ≡ map body_of (commands ++ next)
joined bodies commands more next a b = ap₂ (λ x y. x ++ y) a b ∙ sym (map-append_bodies commands next)

pub bodies_of_snapshot : (t : HciTables) →
    [] ++ map (λ s. body_of (sync_command s)) t.syncs ++ map (λ v. body_of (set_command v)) t.values ++ map (λ r. body_of (create_command r)) t.rows
    ++ map (λ r. body_of (open_command r)) (filter (λ r. r.opened) t.rows) ++ map (λ s. body_of (static_command s)) t.statics ≡ map body_of (snapshot_of t)
bodies_of_snapshot t =
    let syncs = map sync_command t.syncs in
    let values = map set_command t.values in
    let rows = map create_command t.rows in
    let opened = map open_command (filter (λ row. row.opened) t.rows) in
    joined _ (syncs ++ values ++ rows ++ opened) _ (map static_command t.statics)
    (joined _ (syncs ++ values ++ rows) _ opened
    (joined _ (syncs ++ values) _ rows
    (joined _ syncs _ values (map-map_bodies sync_command t.syncs) (map-map_bodies set_command t.values))
    (map-map_bodies create_command t.rows))
    (map-map_bodies open_command (filter (λ row. row.opened) t.rows)))
    (map-map_bodies static_command t.statics)

-- ---- what is left of tables where all pipes are closed

closed_twice : (rows : List PipeRow) → all_closed (all_closed rows) ≡ all_closed rows
closed_twice [] = refl
closed_twice (row ∷ rows) = ap (λ l. as_opened false row ∷ l) (closed_twice rows)

pub close-close : (t : HciTables) → close (close t) ≡ close t
close-close t = ap (λ l. record t { rows = l; statics = [] }) (closed_twice t.rows)

-- a filter that looks at no states
closed-filter : (p : PipeRow → Bool) → ((row : PipeRow) → p (as_opened false row) ≡ p row) → (rows : List PipeRow)
    → filter p (all_closed rows) ≡ all_closed (filter p rows)
closed-filter p same [] = refl
closed-filter p same (row ∷ rows) = let h0 = closed-filter p same rows in grind arith

pub closed-append : (xs ys : List PipeRow) → all_closed (xs ++ ys) ≡ all_closed xs ++ all_closed ys
closed-append [] ys = refl
closed-append (x ∷ xs) ys = ap (λ l. as_opened false x ∷ l) (closed-append xs ys)

closed-with_pipe : (rows : List PipeRow) (row : PipeRow) → all_closed (with_pipe (all_closed rows) row) ≡ all_closed (with_pipe rows row)
closed-with_pipe rows row =
    ap₂ (λ xs ys. all_closed (xs ++ row ∷ ys)) (closed-filter (λ r. nat_lt r.pid row.pid) (λ r. refl) rows)
    (closed-filter (λ r. nat_lt row.pid r.pid) (λ r. refl) rows)
    ∙ closed-append (all_closed (rows_before pid_of row.pid rows)) (row ∷ all_closed (rows_behind pid_of row.pid rows))
    ∙ ap₂ (λ xs ys. xs ++ as_opened false row ∷ ys) (closed_twice (rows_before pid_of row.pid rows)) (closed_twice (rows_behind pid_of row.pid rows))
    ∙ sym (closed-append (rows_before pid_of row.pid rows) (row ∷ rows_behind pid_of row.pid rows))

closed-filtered : (p : PipeRow → Bool) → ((row : PipeRow) → p (as_opened false row) ≡ p row) → (rows : List PipeRow)
    → all_closed (filter p (all_closed rows)) ≡ all_closed (filter p rows)
closed-filtered p same rows = ap all_closed (closed-filter p same rows) ∙ closed_twice (filter p rows)

closed-with_opened : (rows : List PipeRow) (pid : ℕ) (opened : Bool) → all_closed (with_opened rows pid opened) ≡ all_closed rows
closed-with_opened [] pid opened = refl
closed-with_opened (row ∷ rows) pid opened = let h0 = closed-with_opened rows pid opened in grind arith

-- a state that is set is closed again
pub close-opened : (t : HciTables) (host pid : ℕ) (opened : Bool) → close (apply t (SetOpened host pid opened)) ≡ close t
close-opened t host pid opened = by_pipe (nat_lt pid 2)
  where
    by_pipe : (b : Bool)
        → close (cond b (record t { statics = with_static t.statics host pid opened }) (record t { rows = with_opened t.rows pid opened })) ≡ close t
    by_pipe true = refl
    by_pipe false = ap (λ l. record t { rows = l; statics = [] }) (closed-with_opened t.rows pid opened)

-- closing first changes nothing
pub close-apply : (t : HciTables) (c : Command) → close (apply (close t) c) ≡ close (apply t c)
close-apply t (Create row) = ap (λ l. record t { rows = l; statics = [] }) (closed-with_pipe t.rows (as_opened false row))
close-apply t (Delete pid) = ap (λ l. record t { rows = l; statics = [] }) (closed-filtered (λ r. not (r.pid == pid)) (λ r. refl) t.rows)
close-apply t (Clear host) =
    ap (λ l. record (apply t (Clear host)) { rows = l; statics = [] }) (closed-filtered (λ r. not (joins_host r host)) (λ r. refl) t.rows)
close-apply t (SetOpened host pid opened) = close-opened (close t) host pid opened ∙ close-close t ∙ sym (close-opened t host pid opened)
close-apply t (Set host gate param value) = ap (λ l. record (apply t (Set host gate param value)) { rows = l; statics = [] }) (closed_twice t.rows)
close-apply t (Sync host id) = ap (λ l. record (apply t (Sync host id)) { rows = l; statics = [] }) (closed_twice t.rows)

pub same_closed : (t u : HciTables) (c : Command) → close t ≡ close u → close (apply t c) ≡ close (apply u c)
same_closed t u c same = sym (close-apply t c) ∙ ap (λ x. close (apply x c)) same ∙ close-apply u c

-- ---- a snapshot makes the same tables again, all pipes closed

-- ---- a row behind all others

module _ {X : Type 0} (key : X → ℕ) (high : ℕ) where
  below : (low : ℕ) (front : List X) (row : X) (rest : List X) → AreRows key low high (front ++ row ∷ rest) → low ≤ key row
  below low [] row rest h = h.0
  below low (x ∷ front) row rest h = omega (arith, h.0, below (key x + 1) front row rest h.2)

  before_all : (low : ℕ) (front : List X) (row : X) (rest : List X) → AreRows key low high (front ++ row ∷ rest)
      → filter (λ r. nat_lt (key r) (key row)) front ≡ front
  before_all low [] row rest h = refl
  before_all low (x ∷ front) row rest h =
      ap (λ b. cond b (x ∷ filter (λ r. nat_lt (key r) (key row)) front) (filter (λ r. nat_lt (key r) (key row)) front))
      (lt-ltb (key x) (key row) (omega (arith, below (key x + 1) front row rest h.2)))
      ∙ ap (λ l. x ∷ l) (before_all (key x + 1) front row rest h.2)

  behind_none : (low : ℕ) (front : List X) (row : X) (rest : List X) → AreRows key low high (front ++ row ∷ rest)
      → filter (λ r. nat_lt (key row) (key r)) front ≡ []
  behind_none low [] row rest h = refl
  behind_none low (x ∷ front) row rest h =
      ap (λ b. cond b (x ∷ filter (λ r. nat_lt (key row) (key r)) front) (filter (λ r. nat_lt (key row) (key r)) front))
      (not_less (key row) (key x) (omega (arith, below (key x + 1) front row rest h.2)))
      ∙ behind_none (key x + 1) front row rest h.2
    where
      not_less : (a b : ℕ) → b ≤ a → nat_lt a b ≡ false
      not_less a b h = grind (arith, nat_tests)

  pub put_last : (low : ℕ) (front : List X) (row : X) (rest : List X) → AreRows key low high (front ++ row ∷ rest) → with_row key row front ≡ front ++ row ∷ []
  put_last low front row rest h = ap₂ (λ a b. a ++ row ∷ b) (before_all low front row rest h) (behind_none low front row rest h)

fold-append : (t : HciTables) (xs ys : List Command) → fold apply t (xs ++ ys) ≡ fold apply (fold apply t xs) ys
fold-append t [] ys = refl
fold-append t (x ∷ xs) ys = fold-append (apply t x) xs ys

-- ---- the parts

no_values : (b : Bool) (host : ℕ) → cond b [] (without_identity [] host) ≡ []
no_values x0 host = grind arith

syncs_again : (front rest : List (ℕ × ℕ)) → AreRows sync_host 1 8 (front ++ rest)
    → fold apply (record no_tables { syncs = front }) (map sync_command rest) ≡ record no_tables { syncs = front ++ rest }
syncs_again front [] h = ap (λ l. record no_tables { syncs = l }) (sym (append-nil front))
syncs_again front (s ∷ rest) h =
    let h0 = no_values (is_kept_sync front s.0 s.1) s.0 in let h1 = put_last sync_host 8 1 front s rest h in
    let h2 = syncs_again (front ++ s ∷ []) rest (subst (AreRows sync_host 1 8) (sym (append_assoc front (s ∷ []) rest)) h) in
    let h3 = append_assoc front (s ∷ []) rest in grind arith

values_again : (t : HciTables) (front rest : List RegValue) → AreRows place_of_value 2 16 (front ++ rest) → AllByRecursion IsPresent rest
    → fold apply (record t { values = front }) (map set_command rest) ≡ record t { values = front ++ rest }
values_again t front [] h p = ap (λ l. record t { values = l }) (sym (append-nil front))
values_again t front (v ∷ rest) h p =
    let h0 = put_last place_of_value 16 2 front v rest h in
    let h1 = values_again t (front ++ v ∷ []) rest (subst (AreRows place_of_value 2 16) (sym (append_assoc front (v ∷ []) rest)) h) p.1 in
    let h2 = append_assoc front (v ∷ []) rest in grind arith

rows_again : (t : HciTables) (front rest : List PipeRow) → ArePipeRows (all_closed front ++ all_closed rest)
    → fold apply (record t { rows = all_closed front }) (map create_command rest) ≡ record t { rows = all_closed front ++ all_closed rest }
rows_again t front [] h = ap (λ l. record t { rows = l }) (sym (append-nil (all_closed front)))
rows_again t front (row ∷ rest) h =
    let grown : all_closed front ++ as_opened false row ∷ [] ≡ all_closed (front ++ row ∷ []) = sym (closed-append front (row ∷ [])) in
    let again = append_assoc (all_closed front) (as_opened false row ∷ []) (all_closed rest) in
    ap (λ l. fold apply (record t { rows = l }) (map create_command rest))
    (put_last pid_of 112 2 (all_closed front) (as_opened false row) (all_closed rest) h ∙ grown)
    ∙ rows_again t (front ++ row ∷ []) rest (subst (λ l. ArePipeRows (l ++ all_closed rest)) grown (subst ArePipeRows (sym again) h))
    ∙ ap (λ l. record t { rows = l ++ all_closed rest }) (sym grown) ∙ ap (λ l. record t { rows = l }) again

opened_again : (t : HciTables) (rows : List PipeRow) → close (fold apply t (map open_command rows)) ≡ close t
opened_again t [] = refl
opened_again t (row ∷ rows) = opened_again (apply t (SetOpened row.creator row.pid true)) rows ∙ close-opened t row.creator row.pid true

statics_again : (t : HciTables) (statics : List (ℕ × ℕ)) → close (fold apply t (map static_command statics)) ≡ close t
statics_again t [] = refl
statics_again t (s ∷ statics) = statics_again (apply t (SetOpened s.0 s.1 true)) statics ∙ close-opened t s.0 s.1 true

pub snapshot_again : (t : HciTables) → AreTables t → close (fold apply no_tables (snapshot_of t)) ≡ close t
snapshot_again t are =
    let syncs = map sync_command t.syncs in
    let values = map set_command t.values in
    let rows = map create_command t.rows in
    let opened = map open_command (filter (λ row. row.opened) t.rows) in
    let statics = map static_command t.statics in
    let closed : fold apply no_tables (syncs ++ values ++ rows) ≡ close t =
    fold-append no_tables (syncs ++ values) rows
    ∙ ap (λ u. fold apply u rows) (fold-append no_tables syncs values ∙ ap (λ u. fold apply u values) (syncs_again [] t.syncs are.syncs)
    ∙ values_again (record no_tables { syncs = t.syncs }) [] t.values are.values.sorted are.values.present)
    ∙ rows_again (record no_tables { syncs = t.syncs; values = t.values }) [] t.rows
    (AreRows-map pid_of (as_opened false) 2 112 t.rows (λ row. refl) are.rows) in
    ap close (fold-append no_tables (syncs ++ values ++ rows ++ opened) statics)
    ∙ statics_again (fold apply no_tables (syncs ++ values ++ rows ++ opened)) t.statics
    ∙ ap close (fold-append no_tables (syncs ++ values ++ rows) opened)
    ∙ opened_again (fold apply no_tables (syncs ++ values ++ rows)) (filter (λ row. row.opened) t.rows)
    ∙ ap close closed ∙ close-close t

-- ---- the commands of the records of a memory, one after another

-- the first so many bodies are commands, and these tables are what they make
pub record AreApplied (bodies : List (List ℕ)) (many : ℕ) (tables : HciTables) : Type 0 where
  pub tables_are : tables ≡ fold applied no_tables (take many bodies)
  pub commands : are_commands (take many bodies) ≡ true

pub fold-push : (t : HciTables) (xs : List (List ℕ)) (x : List ℕ) → fold applied t (xs ++ x ∷ []) ≡ applied (fold applied t xs) x
fold-push t [] x = refl
fold-push t (y ∷ xs) x = fold-push (applied t y) xs x

pub are_commands-push : (xs : List (List ℕ)) (x : List ℕ) → are_commands xs ≡ true → is_some (command_of x) ≡ true → are_commands (xs ++ x ∷ []) ≡ true
are_commands-push [] x all one = and_from (is_some (command_of x)) true one refl
are_commands-push (y ∷ xs) x all one =
    let both = and_parts (is_some (command_of y)) (are_commands xs) all in
    and_from (is_some (command_of y)) (are_commands (xs ++ x ∷ [])) both.0 (are_commands-push xs x both.1 one)

take-push : (bodies : List (List ℕ)) (k : ℕ) (b : List ℕ) → slice_get bodies k ≡ Some b → take (suc k) bodies ≡ take k bodies ++ b ∷ []
take-push [] k b is = cc
take-push (x ∷ bodies) zero b is = grind arith
take-push (x ∷ bodies) (suc k) b is = ap (λ l. x ∷ l) (take-push bodies k b is)

take-whole : (bodies : List (List ℕ)) (k : ℕ) → k ≡ length bodies → take k bodies ≡ bodies
take-whole [] zero is = refl
take-whole [] (suc k) is = refl
take-whole (x ∷ bodies) zero is = absurd (omega arith)
take-whole (x ∷ bodies) (suc k) is = ap (λ l. x ∷ l) (take-whole bodies k (omega arith))

pub applied_none : (bodies : List (List ℕ)) (many : ℕ) (t : HciTables) → many ≡ 0 → t ≡ no_tables → AreApplied bodies many t
applied_none bodies many t none empty = subst (λ n. AreApplied bodies n t) (sym none) (record { tables_are = empty; commands = refl })

pub applied_more : (bodies : List (List ℕ)) (many : ℕ) (t : HciTables) (b : List ℕ) (c : Command) → AreApplied bodies many t → slice_get bodies many ≡ Some b
    → command_of b ≡ Some c → AreApplied bodies (many + 1) (apply t c)
applied_more bodies many t b c so_far there is =
    let grown = ap (λ n. take n bodies) (add-one many) ∙ take-push bodies many b there in
    record {
      tables_are = ap (λ o. option_map_or (apply t) o t) (sym is) ∙ ap (λ u. applied u b) so_far.tables_are ∙ sym (fold-push no_tables (take many bodies) b)
          ∙ ap (fold applied no_tables) (sym grown);
      commands = ap are_commands grown ∙ are_commands-push (take many bodies) b so_far.commands (ap is_some is);
    }

pub applied_all : (bodies : List (List ℕ)) (many : ℕ) (t : HciTables) → AreApplied bodies many t → many ≡ length bodies
    → (t ≡ fold applied no_tables bodies) × (are_commands bodies ≡ true)
applied_all bodies many t so_far last =
    let whole = take-whole bodies many last in
    (so_far.tables_are ∙ ap (fold applied no_tables) whole, sym (ap are_commands whole) ∙ so_far.commands)

none_other : (bodies : List (List ℕ)) (j : ℕ) → are_commands bodies ≡ true → first_other j bodies ≡ None
none_other [] j all = refl
none_other (b ∷ bodies) j all =
    let both = and_parts (is_some (command_of b)) (are_commands bodies) all in
    ap (λ o. cond o (first_other (j + 1) bodies) (Some j)) both.0 ∙ none_other bodies (j + 1) both.1

other_found : (bodies : List (List ℕ)) (j k : ℕ) (b : List ℕ) → are_commands (take k bodies) ≡ true → slice_get bodies k ≡ Some b → command_of b ≡ None
    → first_other j bodies ≡ Some (j + k)
other_found [] j k b all there none = cc
other_found (x ∷ bodies) j zero b all there none = grind arith
other_found (x ∷ bodies) j (suc k) b all there none =
    let both = and_parts (is_some (command_of x)) (are_commands (take k bodies)) all in
    ap (λ o. cond o (first_other (j + 1) bodies) (Some j)) both.0 ∙ other_found bodies (j + 1) k b both.1 there none ∙ ap Some (omega arith)

-- the first record that is no command is told
pub other_is_told : (content : List ℕ) (many : ℕ) (t : HciTables) (b : List ℕ) (at : ℕ) → AreApplied (records content) many t
    → slice_get (records content) many ≡ Some b
    → command_of b ≡ None → IsKnown (journal content).head.version → at ≡ gate_at content many → image_fault content ≡ Some (BadRecord at)
unfolding image_fault
other_is_told content many t b at so_far there none known at_is =
    ap (λ k. cond k (option_map_or (λ n. Some (BadRecord (gate_at content n))) (first_other 0 (records content)) (fault content)) (fault content)) known
    ∙ ap (λ o. option_map_or (λ n. Some (BadRecord (gate_at content n))) o (fault content)) (other_found (records content) 0 many b so_far.commands there none)
    ∙ ap (λ n. Some (BadRecord (gate_at content n))) (omega arith)
    ∙ ap (λ n. Some (BadRecord n)) (sym at_is)

-- and else what is wrong with the journal
pub fault_is_told : (content : List ℕ) → are_commands (records content) ≡ true → image_fault content ≡ fault content
unfolding image_fault
fault_is_told content all = by_version (is_known (journal content).head.version)
  where
    by_version : (k : Bool)
        → cond k (option_map_or (λ n. Some (BadRecord (gate_at content n))) (first_other 0 (records content)) (fault content)) (fault content) ≡ fault content
    by_version true = ap (λ o. option_map_or (λ n. Some (BadRecord (gate_at content n))) o (fault content)) (none_other (records content) 0 all)
    by_version false = refl

-- a sound journal whose records are commands has no fault
pub sound_has_no_fault : (content : List ℕ) → are_commands (records content) ≡ true → IsSound (journal content) → image_fault content ≡ None
sound_has_no_fault content all sound = let h0 = fault_is_told content all in grind arith

pub journal_fault_is_told : (content now : List ℕ) (many : ℕ) (t : HciTables) (f : JournalFault) → now ≡ content → AreApplied (records content) many t
    → IsFaulty now many f
    → image_fault content ≡ Some f
journal_fault_is_told content now many t f same so_far faulty =
    let last = sym faulty.last ∙ ap (λ c. length (records c)) same in
    fault_is_told content (applied_all (records content) many t so_far last).1 ∙ ap fault (sym same) ∙ faulty.fault_is

pub carried : {A B C T K D : Type 0} → A ⊎ (B × (T → C)) → (T → C → K → D) → A ⊎ (B × (T → K → D))
carried x0 step = grind arith

-- ---- what a commit leaves

-- one more command
pub holds_more : (content new body : List ℕ) (t : HciTables) (c : Command) → HoldsTables content t → records new ≡ records content ++ body ∷ []
    → body ≡ body_of c → IsCommand c
    → HoldsTables new (apply t c)
holds_more content new body t c holds more is may =
    let read = ap (λ b. command_of b) is ∙ read_again c may in
    record {
      commands = ap are_commands more ∙ are_commands-push (records content) body holds.commands (ap is_some read);
      tables_are = ap (λ l. close (fold applied no_tables l)) more ∙ ap close (fold-push no_tables (records content) body)
          ∙ ap (λ o. close (option_map_or (apply (tables_of content)) o (tables_of content))) read
          ∙ same_closed (tables_of content) t c holds.tables_are;
    }

-- a snapshot
all-mapped : {X : Type 0} (f : X → Command) (xs : List X) → AllByRecursion (λ x. IsCommand (f x)) xs → AllByRecursion IsCommand (map f xs)
all-mapped f [] all = tt
all-mapped f (x ∷ xs) all = (all.0, all-mapped f xs all.1)

may_open : (rows : List PipeRow) → AllByRecursion (λ r. IsCommand (create_command r)) rows → AllByRecursion (λ r. IsCommand (open_command r)) rows
may_open [] all = tt
may_open (r ∷ rows) all = let h0 = may_open rows all.1 in grind arith

pub all_recordable : (t : HciTables) → IsRecordable t → AreTables t → AllByRecursion IsCommand (snapshot_of t)
all_recordable t may are =
    let opened = filter (λ row. row.opened) t.rows in
    all-append IsCommand (map sync_command t.syncs ++ map set_command t.values ++ map create_command t.rows ++ map open_command opened)
    (map static_command t.statics)
    (all-append IsCommand (map sync_command t.syncs ++ map set_command t.values ++ map create_command t.rows) (map open_command opened)
    (all-append IsCommand (map sync_command t.syncs ++ map set_command t.values) (map create_command t.rows)
    (all-append IsCommand (map sync_command t.syncs) (map set_command t.values)
    (all-mapped sync_command t.syncs (syncs_by_rows 1 t.syncs (omega arith) are.syncs)) (all-mapped set_command t.values may.values))
    (all-mapped create_command t.rows may.rows))
    (all-mapped open_command opened (all-filter (λ r. IsCommand (open_command r)) (λ row. row.opened) t.rows (may_open t.rows may.rows))))
    (all-mapped static_command t.statics (statics_by_rows 0 t.statics are.statics))

pub holds_snapshot : (new : List ℕ) (t : HciTables) → IsRecordable t → AreTables t → records new ≡ map body_of (snapshot_of t) → HoldsTables new t
holds_snapshot new t may are is =
    let all = all_recordable t may are in
    record {
      commands = ap are_commands is ∙ commands_again (snapshot_of t) all;
      tables_are = ap (λ l. close (fold applied no_tables l)) is ∙ ap close (applied_commands no_tables (snapshot_of t) all) ∙ snapshot_again t are;
    }

-- after a compaction that went through, or was not begun, a live journal holds the tables
pub holds_by : {T : Type 0} (r : Result T JournalFault) (live : Bool) (P : Type 0) → OnOk r P → IfErr r (λ f. (f ≡ NvFault) ⊎ (f ≡ GenerationsSpent))
    → (r ≡ Err NvFault → live ≡ false) → (r ≡ Err GenerationsSpent → P) → IsTrue live → P
holds_by x0 live x2 ok fault dead spent is_live = grind arith

-- writes, and then more writes
pub made-append : {M : Type 0} (writes : M → ℕ → List ℕ → Bool → M → Type 0) (first then_these : List Write) (old between : M) (ok : Bool) (new : M)
    → AreMade writes first old true between → AreMade writes then_these between ok new → AreMade writes (first ++ then_these) old ok new
made-append writes [] then_these old between ok new a b = subst (λ m. AreMade writes then_these m ok new) a.1 b
made-append writes (w ∷ first) then_these old between ok new (inl a) b = absurd (true≢false a.0)
made-append writes (w ∷ first) then_these old between ok new (inr a) b = inr (a.0, a.1, made-append writes first then_these a.0 between ok new a.2 b)

-- writes that were cut, and then none of the others
pub made-cut : {M : Type 0} (writes : M → ℕ → List ℕ → Bool → M → Type 0) (first then_these : List Write) (old new : M)
    → AreMade writes first old false new → AreMade writes (first ++ then_these) old false new
made-cut writes [] then_these old new a = absurd (true≢false (sym a.0))
made-cut writes (w ∷ first) then_these old new (inl a) = inl a
made-cut writes (w ∷ first) then_these old new (inr a) = inr (a.0, a.1, made-cut writes first then_these a.0 new a.2)

module _ {M : Type 0} (writes : M → ℕ → List ℕ → Bool → M → Type 0) (s : State) (t : HciTables) where
  pub commit_made : (body first second : List ℕ) (middle : State) (old between : M) (ok : Bool) (new : M) → first ≡ body → second ≡ body
      → middle ≡ with_room s t first
      → AreMade writes (room_writes s t first) old true between → AreMade writes (append_writes middle second) between ok new
      → AreMade writes (commit_writes s t body) old ok new
  commit_made body first second middle old between ok new a b is made more =
      made-append writes (room_writes s t body) (append_writes (with_room s t body) body) old between ok new
      (subst (λ l. AreMade writes (room_writes s t l) old true between) a made)
      (grind arith)

  pub commit_cut : (body first : List ℕ) (old new : M) → first ≡ body → AreMade writes (room_writes s t first) old false new
      → AreMade writes (commit_writes s t body) old false new
  commit_cut body first old new is made = grind arith

-- ---- what a failed write of a commit leaves

-- the body of a command may be appended
pub is_body : (c : Command) → IsCommand c → IsBody (body_of c)
is_body x0 may = grind arith

pub are_bodies : (cs : List Command) → AllByRecursion IsCommand cs → AllByRecursion IsBody (map body_of cs)
are_bodies [] all = tt
are_bodies (c ∷ cs) all = (is_body c all.0, are_bodies cs all.1)

-- what was said before the writes, or behind all of them
pub journal_left : (writes : List Write) (content left : List ℕ) → LeftByCut writes content left
    → (journal left ≡ journal content) ⊎ (journal left ≡ journal (after_writes writes content))
journal_left writes content left cut = either (cut.whole + 1 == length writes && is_opened_gate (slice_index left (last_place writes))) cut.says
  where
    either : (b : Bool) → journal left ≡ journal (cond b (after_writes writes content) content)
        → (journal left ≡ journal content) ⊎ (journal left ≡ journal (after_writes writes content))
    either true is = inr is
    either false is = inl is

pub holds_still : (content new : List ℕ) (t : HciTables) → HoldsTables content t → records new ≡ records content → HoldsTables new t
holds_still content new t holds same = grind arith

-- a memory that says what another one says keeps what that keeps
pub keeps_still : (content new : List ℕ) (s : State) (t : HciTables) (many : ℕ) → Says content s
    → HoldsTables content t → count_of s ≡ many → journal new ≡ journal content
    → Keeps new t many
keeps_still content new s t many says holds is same = grind arith

module _ (content left : List ℕ) (s : State) (t : HciTables) (says : Says content s) (holds : HoldsTables content t) where
  -- a record that was cut
  pub append_left : (body : List ℕ) (c : Command) → HasRoomForBody s body → body ≡ body_of c → IsCommand c → LeftByCut (append_writes s body) content left
      → Keeps left t (count_of s) ⊎ Keeps left (apply t c) (count_of (appended s body))
  append_left body c room is may cut = either (journal_left (append_writes s body) content left cut)
    where
      either : (journal left ≡ journal content) ⊎ (journal left ≡ journal (after_writes (append_writes s body) content))
          → Keeps left t (count_of s) ⊎ Keeps left (apply t c) (count_of (appended s body))
      either (inl same) = inl (keeps_still content left s t (count_of s) says holds refl same)
      either (inr more) =
          inr (keeps_still (after_writes (append_writes s body) content) left (appended s body) (apply t c) (count_of (appended s body))
          (appending.says_after content body s says room)
          (holds_more content (after_writes (append_writes s body) content) body t c holds (appending.records_after content body s says room) is may) refl more)

  -- a snapshot that was cut
  pub compact_left : (bodies : List (List ℕ)) → IsSome s.in_use → s.generation + 1 < 2 ^ 32 → IsRecordable t → AreTables t
      → bodies ≡ map body_of (snapshot_of t)
      → used bodies ≤ 2560 → LeftByCut (compact_writes s bodies) content left → Keeps left t (count_of s)
  compact_left bodies in_use last may are is room cut = either (journal_left (compact_writes s bodies) content left cut)
    where
      can : CanCompact s bodies
      can = record {
        in_use = in_use;
        generation = last;
        short = rw is (are_bodies (snapshot_of t) (all_recordable t may are));
        room = room;
      }

      either : (journal left ≡ journal content) ⊎ (journal left ≡ journal (after_writes (compact_writes s bodies) content)) → Keeps left t (count_of s)
      either (inl same) = keeps_still content left s t (count_of s) says holds refl same
      either (inr whole) =
          keeps_still (after_writes (compact_writes s bodies) content) left (compacted s bodies) t (count_of s)
          (compacting.says_after content bodies s says can)
          (holds_snapshot (after_writes (compact_writes s bodies) content) t may are (compacting.records_after content bodies s says can ∙ is))
          (compact_count s bodies) whole

-- room for a record changes no count
pub room_count : (s : State) (t : HciTables) (body : List ℕ) → count_of (with_room s t body) ≡ count_of s
room_count s t body = grind arith

-- a record that was cut, behind the room for it
pub keeps_then : (left : List ℕ) (s : State) {m : State} (t : HciTables) (c : Command) {first second : List ℕ} → first ≡ body_of c → second ≡ body_of c
    → m ≡ with_room s t first → Keeps left t (count_of m) ⊎ Keeps left (apply t c) (count_of (appended m second))
    → Keeps left t (count_of s) ⊎ Keeps left (apply t c) (count_of (committed s t (body_of c)))
keeps_then left s t c {first} a b is (inl before) = inl (subst (Keeps left t) (ap count_of is ∙ room_count s t first) before)
keeps_then left s t c a b is (inr later) = grind arith
