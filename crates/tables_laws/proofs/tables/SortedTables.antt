-- Each part of the tables stays sorted, whatever commands come.
use Rattle.std.proofs.lemmas.Bool.{leb-true, ltb-true}
use Rattle.tables_laws.proofs.Words.{AllByRecursion, AreRows, AreTables, Bool, Clear, Command, Create, Delete, HciTables, IsCommand, IsTrue, List, RegValue}
use Rattle.tables_laws.proofs.Words.{Set, SetOpened, Sync, [], after_commands, and_from, and_parts, apply, arith, close, cond_both, eqb, false, is_dynamic}
use Rattle.tables_laws.proofs.Words.{is_host, leb, ltb, no_tables, not, not_from_false, static_place, with_row, with_static, without_row, ℕ, ◌&&◌, ◌<◌, ◌∷◌}
use Rattle.tables_laws.proofs.Words.{◌≤◌}
use Rattle.sorted_rows.proofs.RowLemmas.{AreRows-filter, AreRows-with_row}
use Rattle.pipe_table.specs.PipeRows as pipes
use Rattle.pipe_table.proofs.TableLemmas.{ArePipeRows-with_opened, ArePipeRows-all_closed}
use Rattle.registry.specs.Values as registry
use Rattle.registry.proofs.ValueLemmas.{AreValues-filter, AreValues-with_row}
use Rattle.hci_tables.specs.Tables.{sync_host}

pub AreValues-with_value : (values : List RegValue) (host gate param : ℕ) (value : List ℕ) → IsTrue (registry.is_kept host gate param)
    → registry.AreValues values → registry.AreValues (registry.with_value values host gate param value)
AreValues-with_value values host gate param value kept h =
    let v : RegValue = record { host = host; gate = gate; param = param; value = record { items = value } } in
    cond_both (registry.is_default param value) (without_row registry.place_of_value (registry.value_place host param) values)
    (with_row registry.place_of_value v values) registry.AreValues
    (λ default. AreValues-filter (λ r. not (eqb (registry.place_of_value r) (registry.value_place host param))) values h)
    (λ other. AreValues-with_row v values
    (and_from (registry.is_kept host gate param) (not (registry.is_default param value)) kept (not_from_false (registry.is_default param value) other)) h)

with_static-sorted : (statics : List (ℕ × ℕ)) (host pid : ℕ) (opened : Bool) → host ≤ 7 → pid < 2 → AreRows static_place 0 16 statics
    → AreRows static_place 0 16 (with_static statics host pid opened)
with_static-sorted statics host pid opened small low h =
    let Sorted : List (ℕ × ℕ) → Type 0 = AreRows static_place 0 16 in
    cond_both opened (with_row static_place (host, pid) statics) (without_row static_place (static_place (host, pid)) statics) Sorted
    (λ yes. AreRows-with_row static_place 0 16 (host, pid) statics h (omega arith) (omega arith))
    (λ no. AreRows-filter static_place 0 16 (λ s. not (eqb (static_place s) (static_place (host, pid)))) statics h)

pub AreTables-apply : (t : HciTables) (command : Command) → IsCommand command → AreTables t → AreTables (apply t command)
AreTables-apply t (Create row) may h =
    let closed = and_parts (is_dynamic row.pid && is_host row.creator && is_host row.dest && not (eqb row.creator row.dest)) (not row.opened) may in
    let apart = and_parts (is_dynamic row.pid && is_host row.creator && is_host row.dest) (not (eqb row.creator row.dest)) closed.0 in
    let hosts = and_parts (is_dynamic row.pid && is_host row.creator) (is_host row.dest) apart.0 in
    let pid = and_parts (leb 2 row.pid) (ltb row.pid 112) (and_parts (is_dynamic row.pid) (is_host row.creator) hosts.0).0 in
    record {
      rows = AreRows-with_row pipes.pid_of 2 112 (pipes.as_opened false row) t.rows h.rows (leb-true 2 row.pid pid.0) (ltb-true row.pid 112 pid.1);
      statics = h.statics;
      values = h.values;
      syncs = h.syncs;
    }
AreTables-apply t (Delete pid) may h = record {
  rows = AreRows-filter pipes.pid_of 2 112 (λ row. not (eqb row.pid pid)) t.rows h.rows;
  statics = h.statics;
  values = h.values;
  syncs = h.syncs;
}
AreTables-apply t (Clear host) may h = record {
  rows = AreRows-filter pipes.pid_of 2 112 (λ row. not (pipes.joins_host row host)) t.rows h.rows;
  statics = AreRows-filter static_place 0 16 (λ s. not (eqb s.0 host)) t.statics h.statics;
  values = AreValues-filter (λ v. not (eqb v.host host)) t.values h.values;
  syncs = h.syncs;
}
AreTables-apply t (SetOpened host pid opened) may h =
    let parts = and_parts (is_host host) (ltb pid 112) may in
    cond_both (ltb pid 2) (record t { statics = with_static t.statics host pid opened }) (record t { rows = pipes.with_opened t.rows pid opened }) AreTables
    (λ static. record {
      rows = h.rows;
      statics = with_static-sorted t.statics host pid opened (leb-true host 7 parts.0) (ltb-true pid 2 static) h.statics;
      values = h.values;
      syncs = h.syncs;
    })
    (λ dynamic. record {
      rows = ArePipeRows-with_opened t.rows pid opened h.rows;
      statics = h.statics;
      values = h.values;
      syncs = h.syncs;
    })
AreTables-apply t (Set host gate param value) may h =
    record {
      rows = h.rows;
      statics = h.statics;
      values = AreValues-with_value t.values host gate param value.items (and_parts (registry.is_kept host gate param) _ may).0 h.values;
      syncs = h.syncs;
    }
AreTables-apply t (Sync host id) may h =
    let parts = and_parts (leb 1 host) (leb host 7) may in
    let from = leb-true 1 host parts.0 in
    let upto = leb-true host 7 parts.1 in
    record {
      rows = h.rows;
      statics = h.statics;
      values = cond_both _ t.values (registry.with_value t.values host 0 1 (registry.default_of 1)) registry.AreValues (λ kept. h.values)
          (λ other. AreValues-filter (λ v. not (eqb (registry.place_of_value v) (registry.value_place host 1))) t.values h.values);
      syncs = AreRows-with_row sync_host 1 8 (host, id) t.syncs h.syncs (omega arith) (omega arith);
    }

pub AreTables-after : (t : HciTables) (commands : List Command) → AllByRecursion IsCommand commands → AreTables t → AreTables (after_commands t commands)
AreTables-after t [] may h = h
AreTables-after t (command ∷ commands) may h = AreTables-after (apply t command) commands may.1 (AreTables-apply t command may.0 h)

pub AreTables-close : (t : HciTables) → AreTables t → AreTables (close t)
AreTables-close t h = record { rows = ArePipeRows-all_closed t.rows h.rows; statics = tt; values = h.values; syncs = h.syncs }

pub AreTables-none : AreTables no_tables
AreTables-none = record { rows = tt; statics = tt; values = record { sorted = tt; present = tt }; syncs = tt }
