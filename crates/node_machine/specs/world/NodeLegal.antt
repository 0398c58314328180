-- What a history of a world of nodes must be. These facts speak of what was noted, and know no machine.
use Rattle.std.specs.Prelude.{◌≡◌, ◌⊎◌, ℕ, suc, ◌≤◌, ◌==◌, ◌||◌, if◌then◌else◌, IsTrue, List, [], ◌∷◌, ◌++◌, length}
use Rattle.std.specs.List.{filter_map, fold}
use Rattle.std.specs.Prelude.{Option, Some, None}
use Rattle.trace_model.specs.declared.entry.Entry.{Entry}
use Rattle.trace_model.specs.declared.entry.Entry.TheVariants as entry
use Rattle.trace_model.specs.declared.line.End.{End}
use Rattle.hcp_packet.specs.Packets.{IsFrontOf}
use Rattle.hci_tables.specs.declared.command.Command.{Command}
use Rattle.hci_tables.specs.declared.command.Command.TheVariants.{Create}
use Rattle.hci_tables.specs.Tables.{HciTables}
use Rattle.gate_admin.specs.Decide.{allows}
use Rattle.link_laws.specs.machine.Machine.{Message}
use Rattle.history.specs.Filters.{same_end}
use Rattle.node_machine.specs.world.Lines.LineOutcome.{ToldTables}
use Rattle.node_machine.specs.world.NodeHistories.{LineStep, NodeHistory, entries_in, occurrences_of, node_entries}
use Rattle.node_machine.specs.world.NodeFilters.{commands_in, tables_in}
use Rattle.std.specs.List.{flat_map}

-- ## Allowed

-- A command that makes a pipe between two hosts is allowed by tables: the whitelist of the destination holds the creator.
abbrev pub IsAllowedBy : HciTables → Command → Type 0
IsAllowedBy t (Create row) = IsTrue (row.dest == 0 || allows t row.dest row.creator)
IsAllowedBy t _ = Unit {0}

-- Every pipe was made as whitelists allow: each creation of the controller by its tables just before it.
abbrev pub Allowed : List Entry → Type 0
Allowed t = (front back : List Entry) (c : Command) → t ≡ front ++ (entry.Command 0 c ∷ back) → IsAllowedBy (tables_in front 0) c

-- ## Kept

-- the last entry of a node that tells of a command or of its power, where there is one
pub data Last : Type 0 where
  NothingYet : Last
  CommandLast : Last
  CutBehindCommand : Last
  OtherLast : Last

-- after an entry of the node
abbrev pub last_after : ℕ → Last → Entry → Last
last_after n last (entry.Command node c) = if node == n then CommandLast else last
last_after n last (entry.AnyOk node k) = if node == n then OtherLast else last
last_after n last (entry.Booted node k) = if node == n then OtherLast else last
last_after n last (entry.Cut node) = if node == n then behind last else last where
  behind : Last → Last
  behind CommandLast = CutBehindCommand
  behind NothingYet = OtherLast
  behind CutBehindCommand = OtherLast
  behind OtherLast = OtherLast
last_after n last _ = last

-- what was last noted of it
abbrev pub last_in : List Entry → ℕ → Last
last_in t n = fold (last_after n) NothingYet t

-- A boot finds all commands of a node, or all but the last one, where the power went in that one's writes.
abbrev pub FindsCommands : List Entry → ℕ → ℕ → Type 0
FindsCommands front n k = (k ≡ length (commands_in front n)) ⊎ ((suc k ≡ length (commands_in front n)) × (last_in front n ≡ CutBehindCommand))

-- each boot finds the commands so
abbrev pub AreFound : List Entry → Type 0
AreFound t = (front back : List Entry) (n k : ℕ) → t ≡ front ++ (entry.Booted n k ∷ back) → FindsCommands front n k

-- ANY_OK was sent for the last command of a node
abbrev pub AreAllAnswered : List Entry → Type 0
AreAllAnswered t = (front back : List Entry) (n k : ℕ) → t ≡ front ++ (entry.AnyOk n k ∷ back) → k ≡ length (commands_in front n)

-- no boot behind an answer finds fewer commands than were answered
abbrev pub AreAnswered : List Entry → Type 0
AreAnswered t =
    (front between back : List Entry) (n k found : ℕ)
    → t ≡ front ++ (entry.AnyOk n k ∷ between ++ (entry.Booted n found ∷ back)) → k ≤ found

-- tables that a line tells are those that are read off the entries before it
abbrev pub AreTold : NodeHistory → Type 0
AreTold h =
    (before behind : List LineStep) (step : LineStep) (n : ℕ) (tables : HciTables)
    → h.steps ≡ before ++ (step ∷ behind) → step.outcome ≡ ToldTables n tables
    → tables ≡ tables_in (entries_in (flat_map (λ (s : LineStep). occurrences_of s.outcome) before)) n

-- Commands are kept over power cuts.
pub record Kept (h : NodeHistory) : Type 0 where
  pub found : AreFound (node_entries h)
  pub counted : AreAllAnswered (node_entries h)
  pub answered : AreAnswered (node_entries h)
  pub told : AreTold h

-- ## Answered

-- what was noted of a node since it booted last
abbrev pub since_boot : ℕ → List Entry → List Entry → List Entry
since_boot n since [] = since
since_boot n since (entry.Booted node k ∷ t) = if node == n then since_boot n [] t else since_boot n (since ++ entry.Booted node k ∷ []) t
since_boot n since (x ∷ t) = since_boot n (since ++ x ∷ []) t

-- the message that came at an end
abbrev pub got_entry : End → Entry → Option Message
got_entry e (entry.Got f n pid message) = if same_end f e then Some (pid, message) else None
got_entry e _ = None

-- the message that had its turn there
abbrev pub turn_entry_at : End → Entry → Option Message
turn_entry_at e (entry.Turn f pid message) = if same_end f e then Some (pid, message) else None
turn_entry_at e _ = None

-- the node of an end
abbrev pub node_number : End → ℕ
node_number e = if e.at_host then e.link else 0

-- Messages have their turns in the order in which they came: since its node booted, those of an end that had one are a front of
-- those that it got.
abbrev pub AreInTurn : List Entry → Type 0
AreInTurn t =
    (front back : List Entry) (e : End) → t ≡ front ++ back
    → IsFrontOf (filter_map (turn_entry_at e) (since_boot (node_number e) [] front)) (filter_map (got_entry e) (since_boot (node_number e) [] front))
