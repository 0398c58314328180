-- What a controller keeps of its unanswered notices at a moment between events, by what was noted so far.
use Rattle.std.specs.Prelude.{◌≡◌, ◌⊎◌, ℕ, ◌==◌, Bool, false, is_some, List, ◌∷◌, Option, Some, None}
use Rattle.std.specs.List.{find}
use Rattle.std.specs.Option.{option_map_or, option_and_then}
use Rattle.trace_model.specs.declared.entry.Entry.{Entry}
use Rattle.pipe_table.specs.declared.row.PipeRow.{PipeRow}
use Rattle.hci_tables.specs.declared.command.Command.TheVariants.{Create}
use Rattle.gate_answers.specs.Answers.{instruction_in}
use Rattle.gate_admin.specs.Decide.{ends_of}
use Rattle.node_machine.specs.Parts.{Creation, About, Notice, Desk, Running, Port, Deed}
use Rattle.node_machine.specs.Parts.About.{Waits, Forgotten, Removed}
use Rattle.node_machine.specs.Parts.Deed.{Asks, Tells}
use Rattle.node_machine.specs.Carrying.{port_at}
use Rattle.node_machine.specs.world.World.{NodeWorld}
use Rattle.node_machine.specs.world.NodeFilters.{notice_in}

-- a message is the notice of this creation: it names the two ends and the number of the pipe that its asker asked for
pub record IsNoticeOf (c : Creation) (message : List ℕ) : Type 0 where
  pub row : PipeRow
  pub command : c.command ≡ Create row
  pub asker : row.creator ≡ c.asker
  pub message_is : message ≡ 18 ∷ ends_of row

-- a message is a notice about this
abbrev pub IsAbout : About → List ℕ → Type 0
IsAbout (Waits c) message = IsNoticeOf c message
IsAbout Forgotten message = instruction_in message ≡ 18
IsAbout Removed message = (instruction_in message ≡ 19) ⊎ (instruction_in message ≡ 21)

-- the message that is read is the notice that is kept, or there is neither
abbrev pub IsKeptNotice : Option (List ℕ) → Option Notice → Type 0
IsKeptNotice None None = Unit {0}
IsKeptNotice (Some message) (Some n) = IsAbout n.about message
IsKeptNotice _ _ = ⊥

-- the notice to this host that isn't answered
abbrev pub notice_at : List Desk → ℕ → Option Notice
notice_at desks h = option_and_then (λ (d : Desk). d.notice) (find (λ (d : Desk). d.host == h) desks)

-- a controller has none while it doesn't run
abbrev pub notice_of_running : Option Running → ℕ → Option Notice
notice_of_running None h = None
notice_of_running (Some r) h = notice_at r.desks h

-- the unanswered notice to each host is the one that is read
abbrev pub NoticesAreRead : List Entry → NodeWorld → Type 0
NoticesAreRead t w = (h : ℕ) → IsKeptNotice (notice_in t h) (notice_of_running w.controller h)

-- this host has a notice that isn't answered
abbrev pub has_notice : List Port → ℕ → Bool
has_notice ports h = option_map_or (λ (p : Port). is_some p.desk.notice) (port_at ports h) false

-- a host that is asked or told by a notice has none that isn't answered
abbrev pub GoesToFree : List Port → Deed → Type 0
GoesToFree ports (Asks to message creation) = has_notice ports to ≡ false
GoesToFree ports (Tells to message) = has_notice ports to ≡ false
GoesToFree ports _ = Unit {0}

-- a message that is read is the notice of a creation
abbrev pub is_of_creation : Option (List ℕ) → Bool
is_of_creation message = option_map_or (λ (m : List ℕ). instruction_in m == 18) message false
