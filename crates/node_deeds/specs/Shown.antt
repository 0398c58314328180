-- What the values that a node's code keeps stand for.
use Rattle.std.specs.Prelude.{◌≡◌, ℕ, ◌==◌, Bool, false, if◌then◌else◌, List, [], ◌∷◌, ◌++◌, map, option_map, Option, Some, None}
use Rattle.std.specs.Option.{option_map_or}
use Rattle.link_laws.specs.sessions.Sessions.{is_up}
use Rattle.shdlc_core.specs.declared.answers.LinkState.TheVariants.{Down, Up}
use Rattle.shdlc_core.specs.Machine.{new_end}
use Rattle.trace_model.specs.declared.entry.Entry.{Entry}
use Rattle.trace_model.specs.declared.entry.Entry.TheVariants.{InitSame, InitMade, InitFailed}
use Rattle.trace_model.specs.declared.line.End.{End}
use Rattle.history.specs.Steps.{end_of}
use Rattle.link_laws.specs.entries.Entries.End.{Host}
use Rattle.pipe_table.specs.declared.row.PipeRow.{PipeRow}
use Rattle.hci_tables.specs.declared.command.Command.TheVariants.{Create}
use Rattle.gate_answers.specs.declared.response.Response.TheVariants as response
use Rattle.gate_answers.specs.Answers.{answer_of, instruction_in, body_in}
use Rattle.gate_admin.specs.View.{has}
use Rattle.gate_admin.specs.Decide.{ends_of}
use Rattle.link_laws.specs.machine.Machine.{Message, end_with}
use Rattle.link_laws.specs.machine.Machine.Role.{Bare}
use Rattle.node_machine.specs.Parts.{Creation, About, Notice, Desk, Init, Port, Deed}
use Rattle.node_machine.specs.Parts.About.{Waits, Forgotten, Removed}
use Rattle.node_machine.specs.Parts.Deed.{Commits, Sends, SaysOk, Asks, Releases, Tells, IsAnswered, Drops, SetsErrors, Orders, Hears, GoesOn, Ends}
use Rattle.node_deeds.specs.declared.desks.About.{About as KeptAbout}
use Rattle.node_deeds.specs.declared.desks.About.TheVariants as about
use Rattle.node_deeds.specs.declared.desks.Unanswered.{Unanswered}
use Rattle.node_deeds.specs.declared.desks.Desk.{Desk as KeptDesk}
use Rattle.node_deeds.specs.declared.deeds.InitEnd.{InitEnd}
use Rattle.node_deeds.specs.declared.deeds.InitEnd.TheVariants.{Same, Made, Failed}
use Rattle.node_deeds.specs.declared.deeds.Deed.{Deed as KeptDeed}
use Rattle.node_deeds.specs.declared.deeds.Deed.TheVariants as kept
use Rattle.node_deeds.specs.declared.inits.Init.{Init as KeptInit}
use Rattle.node_deeds.specs.declared.inits.Ordered.{Ordered}
use Rattle.node_deeds.specs.declared.inits.Ordered.TheVariants.{Creation as ToCreate, Deletion as ToDelete, Clearing, Other}

-- ## Desks

-- the creation that waits, of which a row is kept: its creator asked for it
abbrev pub creation_of_row : PipeRow → Creation
creation_of_row row = record { asker = row.creator; command = Create row; answer = answer_of response.Ok (ends_of row) }

abbrev pub about_shown : KeptAbout → About
about_shown (about.Waits row) = Waits (creation_of_row row)
about_shown about.Forgotten = Forgotten
about_shown about.Removed = Removed

abbrev pub notice_shown : Unanswered → Notice
notice_shown n = record { about = about_shown n.about; age = n.age }

abbrev pub desk_shown : KeptDesk → Desk
desk_shown d = record { host = d.host; notice = option_map notice_shown d.notice; holds = d.holds; errors = d.errors }

-- the pipe that a host is asked for, while the creation waits
abbrev pub row_about : KeptAbout → Option PipeRow
row_about (about.Waits row) = Some row
row_about about.Forgotten = None
row_about about.Removed = None

abbrev pub row_noticed : Option Unanswered → Option PipeRow
row_noticed None = None
row_noticed (Some n) = row_about n.about

-- the pipe that the host of a desk is asked for
abbrev pub awaited_row : KeptDesk → Option PipeRow
awaited_row d = row_noticed d.notice

-- the number of that pipe
abbrev pub awaited_pipe : KeptDesk → Option ℕ
awaited_pipe d = option_map (λ (row : PipeRow). row.pid) (awaited_row d)

-- a creation that this host asked for waits at this desk
abbrev pub row_waits_for : ℕ → KeptDesk → Bool
row_waits_for host d = option_map_or (λ (row : PipeRow). row.creator == host) (awaited_row d) false

-- ## Ends

-- what a node looks at of one of its ends as it handles a message: its desk, and whether its link is up
abbrev pub seen_at : Port → Desk × Bool
seen_at p = (p.desk, is_up p.side.shdlc.phase)

-- an end with this desk whose link is up or not, and that has done nothing yet
abbrev pub port_with : Desk → Bool → Port
port_with d up = record {
  desk = d;
  side = end_with Bare (record (new_end 4) { phase = if up then Up else Down });
  session = 0;
  late = false;
  ended = false;
  turns = [];
}

-- an end with the desk that is kept, where a mask says which links are up
abbrev pub port_shown : ℕ → KeptDesk → Port
port_shown up d = port_with (desk_shown d) (has up d.host)

abbrev pub ports_shown : ℕ → List KeptDesk → List Port
ports_shown up desks = map (port_shown up) desks

-- the desks that are kept, and the links of the mask that are up, are those of these ends
pub record AreSeen (up : ℕ) (desks : List KeptDesk) (ports : List Port) : Type 0 where
  pub same : map seen_at ports ≡ map seen_at (ports_shown up desks)

-- ## Inits and commands of a host

abbrev pub init_shown : KeptInit → Init
init_shown i = record { identity = i.identity; pipes = i.pipes.items; answered = i.answered }

-- the commands of an init behind the four with which each begins
abbrev pub own_orders : KeptInit → List (List ℕ)
own_orders i = map (λ pipe. 16 ∷ pipe) i.pipes.items ++ (1 ∷ 1 ∷ i.identity) ∷ []

-- the pipe to be deleted, where the body is its number
abbrev pub deletion_in : List ℕ → Ordered
deletion_in (pid ∷ []) = ToDelete pid
deletion_in _ = Other

-- what a command of a host asks for
abbrev pub ordered_by : List ℕ → Ordered
ordered_by command =
    if instruction_in command == 16 then ToCreate else
    (if instruction_in command == 17 then deletion_in (body_in command) else
    (if instruction_in command == 20 then Clearing else Other))

-- ## Deeds

-- what is handled: at which node, while which init runs there, and the message
pub record Handling : Type 0 where
  pub node : ℕ
  pub init : Option Init
  pub message : Message

-- the init with so many answers
abbrev pub goes_on_with : Option Init → ℕ → Deed
goes_on_with None answered = Hears
goes_on_with (Some i) answered = GoesOn (record i { answered = answered })

-- how an init ends at the end of a host
abbrev pub end_shown : End → InitEnd → Entry
end_shown at Same = InitSame at
end_shown at (Made pipes) = InitMade at pipes
end_shown at (Failed code) = InitFailed at code

-- the deed that one of the code is
abbrev pub deed_shown : Handling → KeptDeed → Deed
deed_shown a (kept.Commits c) = Commits c
deed_shown a (kept.PassesOn host) = Sends host a.message
deed_shown a (kept.Sends host pipe message) = Sends host (pipe, message.items)
deed_shown a kept.SaysOk = SaysOk
deed_shown a (kept.Asks row) = Asks row.dest (18 ∷ ends_of row) (creation_of_row row)
deed_shown a (kept.Releases asker) = Releases asker
deed_shown a (kept.Tells host message) = Tells host message.items
deed_shown a kept.IsAnswered = IsAnswered
deed_shown a (kept.Drops pipe) = Drops pipe
deed_shown a (kept.SetsErrors errors) = SetsErrors errors
deed_shown a (kept.Orders order) = Orders order.items
deed_shown a kept.Hears = Hears
deed_shown a (kept.GoesOn answered) = goes_on_with a.init answered
deed_shown a (kept.Ends e) = Ends (end_shown (end_of a.node Host) e)

abbrev pub deeds_shown : Handling → List KeptDeed → List Deed
deeds_shown a deeds = map (deed_shown a) deeds
