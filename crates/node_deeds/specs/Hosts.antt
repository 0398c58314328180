-- A host as its code keeps it, and what it does with a message by that.
use Rattle.std.specs.Prelude.{◌≡◌, ℕ, ◌+◌, ◌==◌, ◌&&◌, Bool, if◌then◌else◌, List, [], ◌∷◌, ◌++◌, length, option_map, Option, Some, None, Result, Ok, Err}
use Rattle.hcp_packet.specs.declared.MessageKind.{MessageKind}
use Rattle.hcp_packet.specs.declared.MessageKind.TheVariants.{Command as IsCommand, Event as IsEvent, Response as IsResponse}
use Rattle.hcp_packet.specs.declared.MessageFault.{MessageFault}
use Rattle.trace_model.specs.declared.entry.Entry.TheVariants.{InitMade}
use Rattle.journal_laws.specs.declared.state.State.{State}
use Rattle.pipe_table.specs.PipeRows.{pipe_at}
use Rattle.hci_tables.specs.declared.command.Command.TheVariants.{Delete, Clear, Set}
use Rattle.hci_tables.specs.Tables.{HciTables}
use Rattle.hci_store.specs.Stored.{Stored}
use Rattle.gate_answers.specs.Answers.{body_in}
use Rattle.gate_loopback.specs.Loopback.{posts_back}
use Rattle.link_laws.specs.machine.Machine.{Message}
use Rattle.node_machine.specs.Parts.{Init, Core, Port, Deed}
use Rattle.node_machine.specs.Parts.Deed.{Sends, Orders, Hears, GoesOn, Ends}
use Rattle.node_machine.specs.Carrying.{end_of_node, own_view}
use Rattle.node_machine.specs.HostReplies.{learns, init_deeds, created_by, is_gate, ordered_deeds}
use Rattle.node_deeds.specs.declared.desks.Desk.{Desk as KeptDesk}
use Rattle.node_deeds.specs.declared.inits.Init.{Init as KeptInit}
use Rattle.node_deeds.specs.declared.inits.Ordered.{Ordered}
use Rattle.node_deeds.specs.declared.inits.Ordered.TheVariants.{Creation as ToCreate, Deletion as ToDelete, Clearing, Other}
use Rattle.node_deeds.specs.declared.host.Tasks.{Tasks}
use Rattle.node_deeds.specs.Shown.{Handling, desk_shown, seen_at, init_shown, ordered_by}
use Rattle.node_deeds.specs.Cores.{IsCoreOf}
use Rattle.node_deeds.specs.Pipes.{gate_in}

abbrev pub init_running : Option KeptInit → Option Init
init_running init = option_map init_shown init

-- the core of a host over this journal and these tables, while this init runs
abbrev pub host_core : ℕ → State → HciTables → Option Init → Core
host_core host journal tables init = record { node = host; journal = journal; tables = tables; command = None; init = init }

-- a message that is handled at a host
abbrev pub handled_by : ℕ → Option Init → ℕ → List ℕ → Handling
handled_by host init pipe message = record { node = host; init = init; message = (pipe, message) }

-- what a host keeps, and whether its link is up, is that of this core and this end
pub record IsHostAt {N : Type 0} (s : Stored N) (d : KeptDesk) (up : Bool) (tasks : Tasks) (core : Core) (p : Port) : Type 0 where
  pub node : core.node ≡ d.host
  pub kept : IsCoreOf s core
  pub command : option_map ordered_by core.command ≡ tasks.command
  pub init : core.init ≡ init_running tasks.init
  pub seen : seen_at p ≡ (desk_shown d, up)

-- what a host keeps of its own command, to which ANY_OK came with this value
abbrev pub learned_of : Core → Ordered → List ℕ → List Deed
learned_of core ToCreate value = created_by (own_view core) value
learned_of core (ToDelete pid) value = learns (own_view core) (Delete pid)
learned_of core Clearing value = learns (own_view core) (Clear core.node)
learned_of core Other value = []

-- a response on pipe 01 answers the last command
abbrev pub heard_deeds : Core → ℕ → List ℕ → Option Ordered → List Deed
heard_deeds core code value None = []
heard_deeds core code value (Some order) =
    Hears ∷ (if code == 0 then learned_of core order value else []) ++ init_deeds (own_view core) code value core.init

-- an init goes on with this command, or ends where there is none
abbrev pub next_deeds : Core → Init → Option (List ℕ) → List Deed
next_deeds core i None =
    learns (own_view core) (Set core.node 0 1 (record { items = i.identity })) ++ Ends (InitMade (end_of_node core core.node) (length i.pipes)) ∷ []
next_deeds core i (Some order) = GoesOn (record i { answered = i.answered + 1 }) ∷ Orders order ∷ []

-- a message with this header that comes to an end which is up
abbrev pub host_kind_deeds : Core → ℕ → Option Ordered → Message → Result (MessageKind × ℕ) MessageFault → List Deed
host_kind_deeds core errors order m (Ok (IsCommand, instruction)) = ordered_deeds (own_view core) errors m.0 instruction (body_in m.1)
host_kind_deeds core errors order m (Ok (IsEvent, instruction)) =
    if is_gate 4 (gate_in (pipe_at core.tables.rows m.0) core.node) && posts_back m.1 then Sends core.node m ∷ [] else []
host_kind_deeds core errors order m (Ok (IsResponse, code)) = if m.0 == 1 then heard_deeds core code (body_in m.1) order else []
host_kind_deeds core errors order m (Err fault) = []
