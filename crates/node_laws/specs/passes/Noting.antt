-- What deeds note: each in the node's own state as it is done, and, where nothing keeps messages from being sent and the power stays on,
-- a list that the deeds make with the node's number, the sessions of its ends and the count of its commands.
use Rattle.std.specs.Prelude.{◌≡◌, ℕ, ◌+◌, ◌-◌, ◌^◌, ◌==◌, min, Bool, true, false, if◌then◌else◌, List, [], ◌∷◌, ◌++◌, length, Option, Some, None}
use Rattle.std.specs.List.{AllByRecursion}
use Rattle.std.specs.Option.{option_map_or, option_and_then}
use Rattle.trace_model.specs.declared.entry.Entry.{Entry}
use Rattle.trace_model.specs.declared.entry.Entry.TheVariants as entry
use Rattle.shdlc_core.specs.declared.answers.LinkState.TheVariants.{Up}
use Rattle.journal_laws.specs.declared.state.State.{State}
use Rattle.journal_laws.specs.Journal.{count_of}
use Rattle.journal_laws.specs.Planned.{fails_within}
use Rattle.hci_tables.specs.declared.command.Command.{Command}
use Rattle.hci_tables.specs.Bodies.{body_of}
use Rattle.hci_tables.specs.Tables.{HciTables, apply}
use Rattle.hci_store.specs.Committing.{commit_writes, committed}
use Rattle.link_laws.specs.sessions.Sessions.{is_up}
use Rattle.link_laws.specs.machine.Machine.{Message, Turn, give_refusal}
use Rattle.link_laws.specs.machine.Machine.Turn.{Give, SetAside}
use Rattle.node_machine.specs.Parts.{Port, Work, Deed}
use Rattle.node_machine.specs.Parts.Deed.{Commits, Sends, SaysOk, Asks, Tells, Drops, Orders, Ends}
use Rattle.node_machine.specs.Carrying.{end_of_node, end_of_number, port_at, noted_of, turn_at, done}

-- ## As each deed is done

-- what is noted as a node does this to its end of the link with this host
abbrev pub noted_at : ℕ → Turn → Work → List Entry
noted_at h t w = option_map_or (noted_of w.core t) (port_at w.ports h) []

-- the power goes in the writes of this command
abbrev pub goes_in : Command → Work → Bool
goes_in c w = fails_within (length (commit_writes w.core.journal w.core.tables (body_of c))) w.plan

-- What one deed notes. A message that is sent is noted where the end takes it, and the loss of power behind the command in whose
-- writes it goes.
abbrev pub noted_by_deed : ℕ → Deed → Work → List Entry
noted_by_deed h (Commits c) w = entry.Command w.core.node c ∷ (if goes_in c w then entry.Cut w.core.node ∷ [] else [])
noted_by_deed h (Sends to m) w = noted_at to (Give m) w
noted_by_deed h SaysOk w = entry.AnyOk w.core.node (count_of w.core.journal) ∷ []
noted_by_deed h (Asks to message c) w = entry.Ask to message ∷ noted_at to (Give (1, message)) (turn_at c.asker SetAside w)
noted_by_deed h (Tells to message) w = noted_at to (Give (1, message)) w
noted_by_deed h (Drops pid) w = entry.Dropped (end_of_node w.core h) pid ∷ []
noted_by_deed h (Orders message) w = noted_at h (Give (1, message)) w
noted_by_deed h (Ends e) w = e ∷ []
noted_by_deed h _ w = []

-- What deeds note, one after another, until the power goes.
abbrev pub noted_by_deeds : ℕ → List Deed → Work → List Entry
noted_by_deeds h [] w = []
noted_by_deeds h (d ∷ deeds) w =
    noted_by_deed h d w ++ (if (done h d w).cut then [] else noted_by_deeds h deeds (done h d w))

-- ## Where the power stays on

-- the session of the end of the link with this host, where it is up
abbrev pub session_of_port : List Port → ℕ → Option ℕ
session_of_port ports h = option_and_then (λ (p : Port). if is_up p.side.shdlc.phase then Some p.session else None) (port_at ports h)

-- a message is sent in the session of this end, where it is up
abbrev pub sent_in_session : ℕ → (ℕ → Option ℕ) → ℕ → Message → List Entry
sent_in_session node sessions h m = option_map_or (λ n. entry.Sent (end_of_number node h) n m.0 m.1 ∷ []) (sessions h) []

-- one command more, at most 4,294,967,295
abbrev pub next_count : ℕ → ℕ
next_count count = min (count + 1) (2 ^ 32 - 1)

-- The entries of a reply to a message of the end with this host: its deeds are these, the node has this number, its ends that are up have
-- these sessions, and it has committed so many commands.
abbrev pub entries_of_reply : ℕ → (ℕ → Option ℕ) → ℕ → ℕ → List Deed → List Entry
entries_of_reply node sessions h count [] = []
entries_of_reply node sessions h count (Commits c ∷ deeds) = entry.Command node c ∷ entries_of_reply node sessions h (next_count count) deeds
entries_of_reply node sessions h count (Sends to m ∷ deeds) =
    sent_in_session node sessions to m ++ entries_of_reply node sessions h count deeds
entries_of_reply node sessions h count (SaysOk ∷ deeds) = entry.AnyOk node count ∷ entries_of_reply node sessions h count deeds
entries_of_reply node sessions h count (Asks to message c ∷ deeds) =
    entry.Ask to message ∷ sent_in_session node sessions to (1, message) ++ entries_of_reply node sessions h count deeds
entries_of_reply node sessions h count (Tells to message ∷ deeds) =
    sent_in_session node sessions to (1, message) ++ entries_of_reply node sessions h count deeds
entries_of_reply node sessions h count (Drops pid ∷ deeds) =
    entry.Dropped (end_of_number node h) pid ∷ entries_of_reply node sessions h count deeds
entries_of_reply node sessions h count (Orders message ∷ deeds) =
    sent_in_session node sessions h (1, message) ++ entries_of_reply node sessions h count deeds
entries_of_reply node sessions h count (Ends e ∷ deeds) = e ∷ entries_of_reply node sessions h count deeds
entries_of_reply node sessions h count (_ ∷ deeds) = entries_of_reply node sessions h count deeds

-- so many commands as those of these deeds are counted one by one: each commit makes one more, over this journal and these tables
abbrev pub CountsCommands : State → HciTables → List Deed → Type 0
CountsCommands s t [] = Unit {0}
CountsCommands s t (Commits c ∷ deeds) =
    (count_of (committed s t (body_of c)) ≡ next_count (count_of s)) × CountsCommands (committed s t (body_of c)) (apply t c) deeds
CountsCommands s t (_ ∷ deeds) = CountsCommands s t deeds

-- an end that is up takes this message
abbrev pub TakesMessage : List Port → ℕ → Message → Type 0
TakesMessage ports h m = (p : Port) → port_at ports h ≡ Some p → p.side.shdlc.phase ≡ Up → give_refusal p.side m ≡ None

-- so do the ends to which a deed sends
abbrev pub IsTaken : ℕ → Deed → Work → Type 0
IsTaken h (Sends to m) w = TakesMessage w.ports to m
IsTaken h (Asks to message c) w = TakesMessage (turn_at c.asker SetAside w).ports to (1, message)
IsTaken h (Tells to message) w = TakesMessage w.ports to (1, message)
IsTaken h (Orders message) w = TakesMessage w.ports h (1, message)
IsTaken h _ w = Unit {0}

-- and those to which deeds send, one after another
abbrev pub AreTaken : ℕ → List Deed → Work → Type 0
AreTaken h [] w = Unit {0}
AreTaken h (d ∷ deeds) w = IsTaken h d w × AreTaken h deeds (done h d w)

-- this number is none of these
abbrev pub IsNoneOf : ℕ → List ℕ → Type 0
IsNoneOf k numbers = AllByRecursion (λ j. (j == k) ≡ false) numbers

-- deeds give each end one message or one block at most, and none to the ends with these numbers
abbrev pub GiveOnce : ℕ → List ℕ → List Deed → Type 0
GiveOnce h given [] = Unit {0}
GiveOnce h given (Sends to m ∷ deeds) = IsNoneOf to given × GiveOnce h (to ∷ given) deeds
GiveOnce h given (Asks to message c ∷ deeds) = IsNoneOf c.asker given × IsNoneOf to (c.asker ∷ given) × GiveOnce h (to ∷ c.asker ∷ given) deeds
GiveOnce h given (Tells to message ∷ deeds) = IsNoneOf to given × GiveOnce h (to ∷ given) deeds
GiveOnce h given (Orders message ∷ deeds) = IsNoneOf h given × GiveOnce h (h ∷ given) deeds
GiveOnce h given (_ ∷ deeds) = GiveOnce h given deeds

-- What deeds of the node with this number noted is all of their reply, while the power is on; where it has gone, they noted the reply up to
-- the command in whose writes it went, and its loss.
abbrev pub IsReplyNoted : Bool → ℕ → List Entry → List Entry → Type 0
IsReplyNoted false node noted reply = noted ≡ reply
IsReplyNoted true node noted reply =
    (front : List Entry) × (c : Command) × (back : List Entry) × (reply ≡ front ++ (entry.Command node c ∷ back))
    × (noted ≡ front ++ (entry.Command node c ∷ entry.Cut node ∷ []))
