-- What is read of a controller at a moment within a step of it, beside its tables, notices, creations and REC_ERROR.
use Rattle.std.specs.Prelude.{◌≡◌, ℕ, true, false, if◌then◌else◌, List, ◌++◌, Some, None}
use Rattle.trace_model.specs.declared.entry.Entry.{Entry}
use Rattle.link_laws.specs.sessions.Sessions.{is_up}
use Rattle.hci_tables.specs.declared.command.Command.{Command}
use Rattle.link_laws.specs.machine.Machine.{spare}
use Rattle.node_machine.specs.Parts.{Port, Work}
use Rattle.node_machine.specs.Carrying.{port_at, finds_room}
use Rattle.node_machine.specs.world.World.{end_c}
use Rattle.node_machine.specs.world.NodeFilters.{session_now, spare_at}
use Rattle.node_laws.specs.kept.Reckonings.{is_cut_of}
use Rattle.node_laws.specs.read_steps.Works.{ReadsInStep}
use Rattle.node_laws.specs.answers.Moments.{holds_in, unhandled_in}
use Rattle.node_laws.specs.answers.Order.{is_answer_of}

-- every command finds room in the journal of a node
abbrev pub HasRoomForAll : Work → Type 0
HasRoomForAll w = (c : Command) → finds_room w.core c ≡ true

-- The session of each end of a controller, while it is up, and the blocks that it has to spare are those that are read.
pub record EndsAreRead (t : List Entry) (ports : List Port) : Type 0 where
  pub sessions : (k : ℕ) (p : Port) → port_at ports k ≡ Some p → session_now t (end_c k) 0 ≡ (if is_up p.side.shdlc.phase then Some p.session else None)
  pub spares : (k : ℕ) (p : Port) → port_at ports k ≡ Some p → spare_at t (end_c k) ≡ spare p.side

-- What is known of a controller in a step beside: its ends are read, any command finds room, and its memory and the hosts of notices are read.
pub record KeepsBeside (hosts : List ℕ) (t : List Entry) (w : Work) : Type 0 where
  pub reads : ReadsInStep hosts t w
  pub ends : EndsAreRead (t ++ w.entries) w.ports
  pub room : HasRoomForAll w

-- the messages that wait at each end of a controller, and whether the first of them was noted as held, are what is read
pub record MessagesAreRead (t : List Entry) (ports : List Port) : Type 0 where
  pub waiting : (k : ℕ) (p : Port) → port_at ports k ≡ Some p → unhandled_in t (end_c k) ≡ p.side.got
  pub held : (k : ℕ) (p : Port) → port_at ports k ≡ Some p → holds_in t (end_c k) ≡ p.desk.holds

-- an entry is no answer of the controller, and no loss of its power
abbrev pub IsNoAnswer : Entry → Type 0
IsNoAnswer x = (is_answer_of 0 x ≡ false) × (is_cut_of 0 x ≡ false)
