-- What the history of a node alone must be as to its answers, by what its boot found and what was noted since.
use Rattle.std.specs.Prelude.{◌≡◌, ℕ, ◌==◌, ◌&&◌, ◌||◌, Bool, true, false, not, if◌then◌else◌, List, [], ◌∷◌, ◌++◌, map, is_some, is_none, Option, Some, None}
use Rattle.std.specs.Prelude.{Result, Ok}
use Rattle.std.specs.List.{AllByRecursion, flat_map, filter_map, list_any}
use Rattle.swp_base.specs.declared.control_frames.Control.{Control}
use Rattle.swp_base.specs.declared.control_frames.Control.TheVariants.{Act as ActFrame}
use Rattle.swp_base.specs.declared.control_frames.Act.TheVariants.{SyncId}
use Rattle.swp_base.specs.declared.link_terms.Cause.TheVariants.{Asked}
use Rattle.swp_lpdu.specs.declared.LpduFault.{LpduFault}
use Rattle.swp_lpdu.specs.Controls.{control_of}
use Rattle.trace_model.specs.declared.entry.Entry.{Entry}
use Rattle.trace_model.specs.declared.entry.Entry.TheVariants as entry
use Rattle.trace_model.specs.declared.line.End.{End}
use Rattle.journal_laws.specs.Journal.{count_of}
use Rattle.hci_tables.specs.declared.command.Command.TheVariants.{Sync}
use Rattle.hci_tables.specs.Tables.{is_kept_sync}
use Rattle.link_laws.specs.machine.Machine.{oldest}
use Rattle.node_machine.specs.Parts.{Core, Deed}
use Rattle.node_machine.specs.Parts.Deed.{Commits}
use Rattle.node_machine.specs.Carrying.{finds_room}
use Rattle.node_machine.specs.world.NodeFilters.{session_now}
use Rattle.node_machine.specs.world.NodeLegal.{AreInTurn}
use Rattle.node_laws.specs.answers.Moments.{holds_in, is_up_read, unhandled_in}
use Rattle.node_laws.specs.passes.Noting.{entries_of_reply}
use Rattle.node_laws.specs.kept.Reckonings.{is_cut_of}
use Rattle.node_laws.specs.answers.Answered.{AnswersSo}
use Rattle.node_laws.specs.answers.Order.{IsAscending, hears, is_answer_of, turn_link}
use Rattle.lone_laws.specs.alone.Lone.{LoneCause, LoneEvent, end_of_node_alone}
use Rattle.lone_laws.specs.alone.Lone.LoneCause.{FrameComes, FrameIsRefused, ResetComes}
use Rattle.lone_laws.specs.alone.Known.{core_since, reply_since, lack_since, first_lack_since}

-- ## Where facts speak

-- all entries of events
abbrev pub entries_of_events_alone : List LoneEvent → List Entry
entries_of_events_alone events = flat_map (λ (o : LoneEvent). o.entries) events

-- So it is with each entry, the entries before it, and those of its event behind it.
abbrev pub AtEachNoted : List LoneEvent → (List Entry → Entry → List Entry → Type 0) → Type 0
AtEachNoted events P =
    (past back : List LoneEvent) (o : LoneEvent) (front behind : List Entry) (x : Entry)
    → events ≡ past ++ (o ∷ back) → o.entries ≡ front ++ (x ∷ behind) → P (entries_of_events_alone past ++ front) x behind

-- So it is with each event, and the entries before it.
abbrev pub AtEachLoneEvent : List LoneEvent → (List Entry → LoneEvent → Type 0) → Type 0
AtEachLoneEvent events P = (past back : List LoneEvent) (o : LoneEvent) → events ≡ past ++ (o ∷ back) → P (entries_of_events_alone past) o

-- ## Answers

-- ANY_OK tells how many commands the journal counts of a node that keeps this
abbrev pub telling_count : Core → Entry → Entry
telling_count core (entry.AnyOk n count) = entry.AnyOk n (count_of core.journal)
telling_count core x = x

-- What is noted of deeds of a node whose boot found this, behind these entries: the entries of a reply of such a node, its one end in the session
-- that is read. ANY_OK tells what the journal counts behind the commands of the reply: none, as long as its head names more records of a snapshot
-- than it has.
abbrev pub noted_since : Core → ℕ → List Entry → List Deed → List Entry
noted_since found h t deeds =
    let core : Core = core_since found t in
    let session : Option ℕ = session_now t (end_of_node_alone found.node h) found.node in
    let entries : List Entry = entries_of_reply found.node (λ k. if k == h then session else None) h (count_of core.journal) deeds in
    map (telling_count (core_since core entries)) entries

-- ## Turns

-- A message that has its turn lacks no room, and until the next turn stand the answers of the reply to it.
abbrev pub IsRepliedAlone : Core → ℕ → List Entry → Entry → List Entry → Type 0
IsRepliedAlone found h t (entry.Turn e pid message) behind =
    (lack_since found h t (pid, message) ≡ None)
    × AnswersSo found.node behind (noted_since found h t (reply_since found h t (pid, message)))
IsRepliedAlone found h t _ behind = Unit {0}

-- Where a message is noted as held, it wasn't noted so before, and lacks just these blocks.
abbrev pub IsHeldAlone : Core → ℕ → List Entry → Entry → List Entry → Type 0
IsHeldAlone found h t (entry.Held e need spare) behind = (holds_in t e ≡ false) × (first_lack_since found h t ≡ Some (need, spare))
IsHeldAlone found h t _ behind = Unit {0}

-- the node runs behind an event that began while it ran
abbrev pub runs_behind : ℕ → LoneEvent → Bool
runs_behind n o = not (list_any (is_cut_of n) o.entries)

-- all messages that came had their turns, or all before one that is held
abbrev pub is_at_rest : End → List Entry → Bool
is_at_rest e t = is_none (oldest (unhandled_in t e)) || holds_in t e

-- So it is behind each event.
abbrev pub is_done_alone : Core → ℕ → List Entry → LoneEvent → Bool
is_done_alone found h t o = if runs_behind found.node o then is_at_rest (end_of_node_alone found.node h) (t ++ o.entries) else true

-- the node goes through its end in an event: each but one in which a frame was refused
abbrev pub goes_through_end : LoneCause → Bool
goes_through_end (FrameIsRefused fault) = false
goes_through_end _ = true

-- the first message that is left lacks room
abbrev pub is_left_lacking : Core → ℕ → List Entry → Bool
is_left_lacking found h t = is_none (oldest (unhandled_in t (end_of_node_alone found.node h))) || is_some (first_lack_since found h t)

-- so it is where the node has gone through its end
abbrev pub is_short_alone : Core → ℕ → List Entry → LoneEvent → Bool
is_short_alone found h t o = if goes_through_end o.cause && runs_behind found.node o then is_left_lacking found h (t ++ o.entries) else true

-- ## Outside turns

-- a controller takes ACT_SYNC_ID, which doesn't ask for the last frame again, with an identifier that isn't the kept one and finds room
abbrev pub sync_due : Core → ℕ → LoneCause → List Deed
sync_due core h (FrameComes bytes) = if core.node == 0 then by_frame (control_of bytes) else [] where
  by_frame : Result Control LpduFault → List Deed
  by_frame (Ok (ActFrame (SyncId id) false)) =
      if not (is_kept_sync core.tables.syncs h id) && finds_room core (Sync h id) then Commits (Sync h id) ∷ [] else []
  by_frame _ = []
sync_due core h _ = []

-- The answers before the first turn in an event are exactly those that are due.
abbrev pub IsDueAlone : Core → ℕ → List Entry → LoneEvent → Type 0
IsDueAlone found h t o = AnswersSo found.node o.entries (noted_since found h t (sync_due (core_since found t) h o.cause))

-- the session ends by a reset of the end itself
abbrev pub is_asked_down : Entry → Bool
is_asked_down (entry.Down e Asked) = true
is_asked_down _ = false

-- a reset is asked for at an end that is up
abbrev pub is_reset_alone : Core → ℕ → List Entry → LoneCause → Bool
is_reset_alone found h t (ResetComes window) = is_up_read t found.node h
is_reset_alone found h t _ = false

-- Sessions end by resets exactly where they are asked for.
abbrev pub IsResetAlone : Core → ℕ → List Entry → LoneEvent → Type 0
IsResetAlone found h t o = list_any is_asked_down o.entries ≡ is_reset_alone found h t o.cause

-- ## Order

-- In each event the turns stand in the order of their links.
abbrev pub TurnsAscendAlone : List Entry → LoneEvent → Type 0
TurnsAscendAlone t o = (n : ℕ) → IsAscending (filter_map (turn_link n) o.entries)

-- Behind an answer of a node nothing in the event comes to it.
abbrev pub HearsFirstAlone : Entry → List Entry → Type 0
HearsFirstAlone x behind = (n : ℕ) → is_answer_of n x ≡ true → AllByRecursion (λ y. hears n y ≡ false) behind

-- ## Answered

-- Every message that comes to a node alone is answered, and nothing else is: its boot found this, and its link is that with the host h.
pub record AnsweredAlone (found : Core) (h : ℕ) (events : List LoneEvent) : Type 0 where
  pub in_turn : AreInTurn (entries_of_events_alone events)
  pub replied : AtEachNoted events (IsRepliedAlone found h)
  pub held : AtEachNoted events (IsHeldAlone found h)
  pub done : AtEachLoneEvent events (λ t o. is_done_alone found h t o ≡ true)
  pub short : AtEachLoneEvent events (λ t o. is_short_alone found h t o ≡ true)
  pub due : AtEachLoneEvent events (IsDueAlone found h)
  pub reset : AtEachLoneEvent events (IsResetAlone found h)
  pub ascending : AtEachLoneEvent events TurnsAscendAlone
  pub heard : AtEachNoted events (λ t x behind. HearsFirstAlone x behind)
