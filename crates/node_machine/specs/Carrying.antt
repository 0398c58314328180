-- How a node carries out what the handling of a message does, one thing after another, until its memory fails.
use Rattle.std.specs.Prelude.{ℕ, ◌==◌, nat_lt, Bool, true, false, if◌then◌else◌, List, [], ◌∷◌, ◌++◌, map, length, Option, Some, None}
use Rattle.std.specs.List.{find}
use Rattle.std.specs.Option.{option_map_or}
use Rattle.swp_base.specs.InMemory.{Plan, plan_after}
use Rattle.trace_model.specs.declared.entry.Entry.{Entry}
use Rattle.trace_model.specs.declared.entry.Entry.TheVariants as entry
use Rattle.trace_model.specs.declared.line.End.{End}
use Rattle.journal_laws.specs.declared.state.State.{State}
use Rattle.journal_laws.specs.Writes.{Write}
use Rattle.journal_laws.specs.Journal.{count_of}
use Rattle.journal_laws.specs.Planned.{fails_within}
use Rattle.hci_tables.specs.declared.command.Command.{Command}
use Rattle.hci_tables.specs.Bodies.{body_of}
use Rattle.hci_tables.specs.Tables.{apply}
use Rattle.hci_store.specs.Committing.{record_fits, commit_writes, committed}
use Rattle.link_laws.specs.sessions.Sessions.{is_up}
use Rattle.link_laws.specs.machine.Machine.{Turn, turn, need, spare}
use Rattle.link_laws.specs.machine.Machine.Turn.{Give, SetAside, Release}
use Rattle.link_laws.specs.entries.Entries.{End as Side, turn_entry}
use Rattle.link_laws.specs.entries.Entries.End.{Controller, Host}
use Rattle.history.specs.Steps.{end_of, entries_for}
use Rattle.node_machine.specs.Parts.{About, Desk, Core, Port, Work, Deed, OwnView, EndView}
use Rattle.node_machine.specs.Parts.About.{Waits, Removed}
use Rattle.node_machine.specs.Parts.Deed.{Commits, Sends, SaysOk, Asks, Releases, Tells, IsAnswered, Drops, SetsErrors, Orders, Hears, GoesOn, Ends}

-- which end of its links a node has
abbrev pub own_side : Core → Side
own_side core = if core.node == 0 then Controller else Host

-- the end of the node with this number on the link with this host
abbrev pub end_of_number : ℕ → ℕ → End
end_of_number node h = end_of h (if node == 0 then Controller else Host)

-- the end of the link with this host
abbrev pub end_of_node : Core → ℕ → End
end_of_node core h = end_of_number core.node h

-- these are noted
abbrev pub noting : List Entry → Work → Work
noting entries w = record w { entries = w.entries ++ entries }

-- it is done, unless the node has lost its power
abbrev pub unless_cut : (Work → Work) → Work → Work
unless_cut f w = by_power w.cut where
  by_power : Bool → Work
  by_power true = w
  by_power false = f w

-- ## Ends

-- the end of the link with this host
abbrev pub port_at : List Port → ℕ → Option Port
port_at ports h = find (λ p. p.desk.host == h) ports

-- it is changed, if so
abbrev pub changed_if : {X : Type 0} → Bool → (X → X) → X → X
changed_if {X} true f x = f x
changed_if {X} false f x = x

-- the ends, where the one of the link with this host is changed
abbrev pub with_port : ℕ → (Port → Port) → List Port → List Port
with_port h f ports = map (λ (p : Port). changed_if (p.desk.host == h) f p) ports

-- what is kept of this end is changed
abbrev pub with_desk : ℕ → (Desk → Desk) → Work → Work
with_desk h f w = record w { ports = with_port h (λ p. record p { desk = f p.desk }) w.ports }

-- an end after its node has done this to it
abbrev pub after_turn : Turn → Port → Port
after_turn t p = record p { side = turn p.side t; turns = p.turns ++ t ∷ [] }

-- what is noted of that
abbrev pub noted_of : Core → Turn → Port → List Entry
noted_of core t p = entries_for p.desk.host (turn_entry (own_side core) p.session p.side t)

-- the node does this to the end of the link with this host
abbrev pub turn_at : ℕ → Turn → Work → Work
turn_at h t w =
    noting (option_map_or (noted_of w.core t) (port_at w.ports h) []) (record w { ports = with_port h (after_turn t) w.ports })

-- a notice goes to this host, and isn't answered yet
abbrev pub notified : ℕ → About → List ℕ → Work → Work
notified h about message w =
    with_desk h (λ d. record d { notice = Some (record { about = about; age = 0 }) }) (turn_at h (Give (1, message)) w)

-- ## Commits

-- a journal has room for a command: its record fits, or one more generation is there for a snapshot
abbrev pub has_room_for : State → Command → Bool
has_room_for s c = if record_fits s (body_of c) then true else nat_lt s.generation 4294967295

-- a command finds room in the journal of its node
abbrev pub finds_room : Core → Command → Bool
finds_room core c = has_room_for core.journal c

-- what a node keeps that counts for a decision
abbrev pub own_view : Core → OwnView
own_view core = record { node = core.node; tables = core.tables; has_room = finds_room core; command = core.command; init = core.init }

-- what counts of an end of a host
abbrev pub end_view : Port → EndView
end_view p = record { up = is_up p.side.shdlc.phase; errors = p.desk.errors }

-- the plan behind so many writes that went through
abbrev pub plan_behind : List Write → Option Plan → Option Plan
plan_behind [] plan = plan
plan_behind (w ∷ writes) plan = plan_behind writes (plan_after plan)

-- these writes are made, and one of them fails
abbrev pub loses_power : List Write → Work → Work
loses_power writes w = noting (entry.Cut w.core.node ∷ []) (record w { writes = w.writes ++ writes; plan = None; cut = true })

-- they all go through, and the command is kept
abbrev pub keeps : Command → List Write → Work → Work
keeps c writes w = record w {
  core = record w.core { journal = committed w.core.journal w.core.tables (body_of c); tables = apply w.core.tables c };
  writes = w.writes ++ writes;
  plan = plan_behind writes w.plan;
}

-- A command is committed: it is noted, and then written.
abbrev pub commit : Command → Work → Work
commit c w = by_plan (fails_within (length writes) w.plan) where
  writes : List Write
  writes = commit_writes w.core.journal w.core.tables (body_of c)

  begun : Work
  begun = noting (entry.Command w.core.node c ∷ []) w

  by_plan : Bool → Work
  by_plan true = loses_power writes begun
  by_plan false = keeps c writes begun

-- ## Deeds

-- one deed, where a message of the end with this host is handled
abbrev pub done : ℕ → Deed → Work → Work
done h (Commits c) w = commit c w
done h (Sends to m) w = turn_at to (Give m) w
done h SaysOk w = noting (entry.AnyOk w.core.node (count_of w.core.journal) ∷ []) w
done h (Asks to message c) w = notified to (Waits c) message (noting (entry.Ask to message ∷ []) (turn_at c.asker SetAside w))
done h (Releases asker) w = turn_at asker Release w
done h (Tells to message) w = notified to Removed message w
done h IsAnswered w = with_desk h (λ d. record d { notice = None }) w
done h (Drops pid) w = noting (entry.Dropped (end_of_node w.core h) pid ∷ []) w
done h (SetsErrors errors) w = with_desk h (λ d. record d { errors = errors }) w
done h (Orders message) w = turn_at h (Give (1, message)) (record w { core = record w.core { command = Some message } })
done h Hears w = record w { core = record w.core { command = None } }
done h (GoesOn i) w = record w { core = record w.core { init = Some i } }
done h (Ends e) w = noting (e ∷ []) (record w { core = record w.core { init = None } })

-- deeds, one after another
abbrev pub all_done : ℕ → List Deed → Work → Work
all_done h [] w = w
all_done h (d ∷ deeds) w = unless_cut (all_done h deeds) (done h d w)

-- ## Room

-- how many blocks deeds need, and at the end of which link: for a creation that is asked for, one that is set aside first
abbrev pub needs : ℕ → List Deed → List (ℕ × ℕ)
needs h [] = []
needs h (Sends to m ∷ deeds) = (to, need m.1) ∷ needs h deeds
needs h (Asks to message c ∷ deeds) = (c.asker, 1) ∷ (to, need message) ∷ needs h deeds
needs h (Tells to message ∷ deeds) = (to, need message) ∷ needs h deeds
needs h (Orders message ∷ deeds) = (h, need message) ∷ needs h deeds
needs h (_ ∷ deeds) = needs h deeds

-- the first need that is above what is spare at its end, with what is
abbrev pub first_lack : (ℕ → ℕ) → List (ℕ × ℕ) → Option (ℕ × ℕ)
first_lack spare [] = None
first_lack spare (n ∷ later) = by_room (spare n.0) (first_lack spare later) where
  by_room : ℕ → Option (ℕ × ℕ) → Option (ℕ × ℕ)
  by_room blocks behind = if nat_lt blocks n.1 then Some (n.1, blocks) else behind

-- the blocks that the end of the link with this host has to spare: none where there is no such link
abbrev pub spare_with : List Port → ℕ → ℕ
spare_with ports h = option_map_or (λ (p : Port). spare p.side) (port_at ports h) 0

-- what these needs lack at these ends
abbrev pub lack : List Port → List (ℕ × ℕ) → Option (ℕ × ℕ)
lack ports needs = first_lack (spare_with ports) needs
