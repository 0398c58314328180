-- The steps of a node: what comes to its ends, what it owes to hosts whose creations end so, and its turns.
use Rattle.std.specs.Prelude.{ℕ, ◌+◌, ◌==◌, ◌&&◌, ◌||◌, Bool, true, false, not, nat_le, min, if◌then◌else◌, List, [], ◌∷◌, ◌++◌, map, is_some, Option, Some}
use Rattle.std.specs.Prelude.{None}
use Rattle.std.specs.List.{flat_map, filter, filter_map, list_any}
use Rattle.std.specs.Option.{option_map_or}
use Rattle.trace_model.specs.declared.entry.Entry.{Entry}
use Rattle.journal_laws.specs.Journal.{state_of}
use Rattle.journal_laws.specs.Operations.{start_writes, started_state}
use Rattle.journal_laws.specs.Writes.{Write}
use Rattle.hci_tables.specs.declared.command.Command.TheVariants.{Sync}
use Rattle.hci_tables.specs.Tables.{close, is_kept_sync}
use Rattle.hci_store.specs.Image.{tables_of}
use Rattle.gate_answers.specs.declared.response.Response.{Response}
use Rattle.gate_answers.specs.declared.response.Response.TheVariants as response
use Rattle.gate_answers.specs.Answers.{answer_of}
use Rattle.link_laws.specs.machine.Machine.{LinkInput, after_input, ended_by, report, whole_acked}
use Rattle.link_laws.specs.machine.Machine.LinkInput.{Tick, Reset}
use Rattle.link_laws.specs.entries.Entries.{told}
use Rattle.history.specs.Steps.{entries_for}
use Rattle.node_machine.specs.Parts.{Creation, Notice, Desk, Core, Running, Port, Work, Deed}
use Rattle.node_machine.specs.Parts.About.{Forgotten}
use Rattle.node_machine.specs.Parts.Deed.{Commits, Sends, Releases}
use Rattle.node_machine.specs.Carrying.{own_side, noting, unless_cut, changed_if, all_done, finds_room}
use Rattle.node_machine.specs.Controller.{asked_at}
use Rattle.node_machine.specs.Turns.{passes}

-- what begins a step of a node: something comes to the end of the link with this host, or time passes at all its ends
pub data NodeInput : Type 0 where
  AtEnd : ℕ → LinkInput → NodeInput
  TimePasses : NodeInput

-- ## What comes to its ends

-- what comes to an end
abbrev pub input_at : NodeInput → Port → Option LinkInput
input_at (AtEnd h i) p = if p.desk.host == h then Some i else None
input_at TimePasses p = Some Tick

-- an end after it has come
abbrev pub has_come : Port → Option LinkInput → Port
has_come p None = p
has_come p (Some i) = record p { side = after_input p.side i; ended = is_some (ended_by p.side i) }

-- what is noted of that
abbrev pub told_at : Core → Port → Option LinkInput → List Entry
told_at core p None = []
told_at core p (Some i) =
    entries_for p.desk.host (told (own_side core) p.session (report p.side i) (whole_acked (after_input p.side i)))

-- it comes to all ends
abbrev pub all_come : NodeInput → Work → Work
all_come input w =
    noting (flat_map (λ p. told_at w.core p (input_at input p)) w.ports) (record w { ports = map (λ p. has_come p (input_at input p)) w.ports })

-- ## Timeouts

-- a notice that is one tick older
abbrev pub older_notice : Notice → Notice
older_notice n = record n { age = n.age + 1 }

-- an end whose notice is one tick older
abbrev pub with_older : Port → Port
with_older p = record p { desk = record p.desk { notice = by_notice p.desk.notice } } where
  by_notice : Option Notice → Option Notice
  by_notice None = None
  by_notice (Some n) = Some (older_notice n)

-- the hundredth tick of an end's notice comes, and its session hasn't ended
abbrev pub is_late : Port → Bool
is_late p = option_map_or (λ (n : Notice). nat_le 100 n.age) p.desk.notice false && not p.ended

-- the link of a late notice is reset
abbrev pub reset_late : Port → Port
reset_late p = if is_late p then record p { side = after_input p.side (Reset None); late = true } else p

-- what is noted of that
abbrev pub told_late : Core → Port → List Entry
told_late core p = if is_late p then told_at core p (Some (Reset None)) else []

-- the notices of all ends are a tick older
abbrev pub times_out : NodeInput → Work → Work
times_out (AtEnd h i) w = w
times_out TimePasses w =
    let ports : List Port = map with_older w.ports in
    noting (flat_map (told_late w.core) ports) (record w { ports = map reset_late ports })

-- ## Sessions that ended

-- the session of an end has ended in this step
abbrev pub is_over : Port → Bool
is_over p = p.ended || p.late

-- the session of the end with this host has ended in this step
abbrev pub is_over_at : List Port → ℕ → Bool
is_over_at ports h = list_any (λ p. p.desk.host == h && is_over p) ports

-- this creation's asker has lost its session
abbrev pub is_forgotten : List Port → Option Creation → Bool
is_forgotten ports creation = option_map_or (λ (c : Creation). is_over_at ports c.asker) creation false

-- the askers whose creations are forgotten: their blocks are free
abbrev pub forgotten : List Port → List Deed
forgotten ports = map (λ (c : Creation). Releases c.asker) (filter (λ (c : Creation). is_over_at ports c.asker) (filter_map asked_at ports))

-- the notice of a forgotten creation stays unanswered
abbrev pub forgets : List Port → Port → Port
forgets ports p =
    if is_forgotten ports (asked_at p)
    then record p { desk = record p.desk { notice = option_map_or (λ (n : Notice). Some (record n { about = Forgotten })) p.desk.notice None } }
    else p

-- the asker of a creation that still waits gets this answer
abbrev pub owed : Response → Option Creation → List Deed
owed r creation = option_map_or (λ (c : Creation). Releases c.asker ∷ Sends c.asker (1, answer_of r []) ∷ []) creation []

-- What a node owes to askers: ANY_E_NOT_CONNECTED where the session of the asked host ended, and then ANY_E_TIMEOUT where the
-- hundredth tick came.
abbrev pub all_owed : List Port → List Deed
all_owed ports =
    flat_map (λ p. owed response.NotConnected (asked_at p)) (filter (λ p. p.ended) ports)
    ++ flat_map (λ p. owed response.Timeout (asked_at p)) (filter (λ p. p.late) ports)

-- with the session of its link a notice is answered no more
abbrev pub without_notice : Port → Port
without_notice p = if is_over p then record p { desk = record p.desk { notice = None } } else p

-- with the session of a host its command and its init are forgotten
abbrev pub after_sessions : Core → List Port → Core
after_sessions core ports = if list_any is_over ports then record core { command = None; init = None } else core

-- ## Sync

-- the identifiers that UICCs sent and that are other ones than those that are kept
abbrev pub synced : Core → NodeInput → Port → List Deed
synced core input p = by_input (input_at input p) where
  by_id : Option ℕ → List Deed
  by_id None = []
  by_id (Some id) =
      if not (is_kept_sync core.tables.syncs p.desk.host id) && finds_room core (Sync p.desk.host id)
      then Commits (Sync p.desk.host id) ∷ [] else []

  by_input : Option LinkInput → List Deed
  by_input None = []
  by_input (Some i) = by_id (report p.side i).sync

-- ## Steps

-- blocks are freed, identifiers are kept, what is owed is given, and then the node has its turns
abbrev pub answers_and_passes : List Deed → List Deed → List Deed → Work → Work
answers_and_passes freed syncs owing w = unless_cut passes (unless_cut (all_done 0 owing) (all_done 0 syncs (all_done 0 freed w)))

-- A step of a node: a frame is taken, time passes, a link is reset, or activation begins or ends there.
abbrev pub steps : NodeInput → Work → Work
steps input w =
    let came : Work = times_out input (all_come input w) in
    let syncs : List Deed = flat_map (synced w.core input) w.ports in
    let left : List Port = map (forgets came.ports) came.ports in
    answers_and_passes (forgotten came.ports) syncs (all_owed left)
    (record came { core = after_sessions came.core came.ports; ports = map without_notice left })

-- a host sends a message, or its init begins: this is done, and no turn comes of it
abbrev pub begins_with : ℕ → List Deed → Work → Work
begins_with h deeds w = all_done h deeds w

-- ## Power

-- what is kept of a new end
abbrev pub new_desk : ℕ → Desk
new_desk h = record { host = h; notice = None; holds = false; errors = 0 }

-- What a node finds in its memory as it boots, with links to these hosts: every pipe is closed.
abbrev pub found : ℕ → List ℕ → List ℕ → Running
found node hosts content = record {
  core = record {
    node = node;
    journal = started_state (state_of content);
    tables = close (tables_of content);
    command = None;
    init = None;
  };
  desks = map new_desk hosts;
}

-- the writes of a boot: a memory that says nothing is formatted
abbrev pub boot_writes : List ℕ → List Write
boot_writes content = start_writes (state_of content)

-- a frame on its way to an end was refused: one more for REC_ERROR, which stops at FFFF
abbrev pub with_error : ℕ → List Desk → List Desk
with_error h desks = map (λ (d : Desk). changed_if (d.host == h) (λ d. record d { errors = min 65535 (d.errors + 1) }) d) desks
