-- What a history of a world of nodes must be as to its answers. These facts speak of what was noted and of what is read off that.
use Rattle.std.specs.Prelude.{◌≡◌, ℕ, ◌==◌, ◌&&◌, ◌||◌, nat_lt, Bool, true, false, not, if◌then◌else◌, List, [], ◌∷◌, ◌++◌, is_some, is_none, Some}
use Rattle.std.specs.Prelude.{None}
use Rattle.std.specs.List.{AllByRecursion, flat_map, filter, list_any, take_while}
use Rattle.trace_model.specs.declared.entry.Entry.{Entry}
use Rattle.trace_model.specs.declared.entry.Entry.TheVariants as entry
use Rattle.trace_model.specs.declared.line.End.{End}
use Rattle.link_laws.specs.machine.Machine.{oldest}
use Rattle.node_machine.specs.world.World.{Happening, node_of, end_c, end_h}
use Rattle.node_machine.specs.world.World.Happening.{Takes, Ticks, Resets, Activates}
use Rattle.node_machine.specs.world.Lines.{Occurrence}
use Rattle.node_machine.specs.world.NodeHistories.{NodeHistory, entries_in, node_entries}
use Rattle.node_machine.specs.world.NodeLegal.{AreInTurn}
use Rattle.node_laws.specs.kept.Reckonings.{is_cut_of}
use Rattle.node_laws.specs.answers.Moments.{AtEachEntry, AtEachOccurrence, Moment, until, unhandled_in, holds_in, runs_in, reply, lack_of, lack_at}
use Rattle.node_laws.specs.answers.Moments.{noted_of_deeds}
use Rattle.node_laws.specs.answers.Order.{NodesHearFirst, TurnsAscend, is_answer_of}
use Rattle.node_laws.specs.answers.Unasked.{down_in, due, is_reset_due, is_reset_down}

-- all ends of a world with these hosts
abbrev pub ends_in : List ℕ → List End
ends_in hosts = flat_map (λ h. end_c h ∷ end_h h ∷ []) hosts

-- all entries until the end of an event
abbrev pub through : List Occurrence → Occurrence → List Entry
through past o = entries_in past ++ o.entries

-- ## Answers

-- a message has its turn at an end of this node
abbrev pub is_turn_of : ℕ → Entry → Bool
is_turn_of n (entry.Turn e pid message) = node_of e == n
is_turn_of n _ = false

-- these entries up to the next turn of a node
abbrev pub before_turn : ℕ → List Entry → List Entry
before_turn n entries = take_while (λ x. not (is_turn_of n x)) entries

-- up to the first command, and with it
abbrev pub to_command : List Entry → List Entry
to_command [] = []
to_command (entry.Command n c ∷ entries) = entry.Command n c ∷ []
to_command (x ∷ entries) = x ∷ to_command entries

-- A node answers so until its next turn; where its power goes there, up to and with the command that is written.
abbrev pub AnswersSo : ℕ → List Entry → List Entry → Type 0
AnswersSo n entries answers =
    filter (is_answer_of n) (before_turn n entries)
    ≡ (if list_any (is_cut_of n) (before_turn n entries) then to_command answers else answers)

-- ## Turns

-- A message that has its turn lacks no room, and until the next turn of its node stand the answers of the reply to it.
abbrev pub IsReplied : List ℕ → Moment → Entry → List Entry → Type 0
IsReplied hosts m (entry.Turn e pid message) behind =
    (lack_of hosts m e (pid, message) ≡ None)
    × AnswersSo (node_of e) behind (noted_of_deeds (until m) (node_of e) e.link (reply hosts m e (pid, message)))
IsReplied hosts m _ behind = Unit {0}

-- ## Held messages

-- Where a message is noted as held, it is the first one that came and had no turn, and wasn't noted so before; and it lacks just these
-- blocks.
abbrev pub IsHeldFor : List ℕ → Moment → Entry → List Entry → Type 0
IsHeldFor hosts m (entry.Held e need spare) behind = (holds_in (until m) e ≡ false) × (lack_at hosts m e ≡ Some (need, spare))
IsHeldFor hosts m _ behind = Unit {0}

-- all messages that came at an end whose node runs had their turns, or all before one that is held
abbrev pub is_done : List Entry → End → Bool
is_done t e = not (runs_in t (node_of e)) || is_none (oldest (unhandled_in t e)) || holds_in t e

abbrev pub AreDone : List ℕ → List Occurrence → Occurrence → Type 0
AreDone hosts past o = AllByRecursion (λ e. is_done (through past o) e ≡ true) (ends_in hosts)

-- as this happens a node makes a step, in which it goes through its ends: it takes a frame, time passes, a link of it is reset, or
-- activation begins there
abbrev pub makes_step : ℕ → Happening → Bool
makes_step n (Takes e) = node_of e == n
makes_step n Ticks = true
makes_step n (Resets e window) = node_of e == n
makes_step n (Activates h sync power) = n == 0 || n == h
makes_step n _ = false

-- a message has its turn, or is noted as held, at a later end of the same node: only a controller has others
abbrev pub is_later : End → Entry → Bool
is_later e x = not e.at_host && by_entry x where
  is_later_end : End → Bool
  is_later_end f = not f.at_host && nat_lt e.link f.link

  by_entry : Entry → Bool
  by_entry (entry.Turn f pid message) = is_later_end f
  by_entry (entry.Held f need spare) = is_later_end f
  by_entry _ = false

-- the moment at which a node leaves its end as it goes through its ends
abbrev pub as_left : List Occurrence → Occurrence → End → Moment
as_left past o e = record { past = past; cause = o.cause; so_far = take_while (λ x. not (is_later e x)) o.entries }

-- where a node has made a step and runs on, the first message that is left at an end lacks room, as the node leaves that end
abbrev pub is_left_short : List ℕ → List Occurrence → Occurrence → End → Bool
is_left_short hosts past o e =
    not (makes_step (node_of e) o.cause && runs_in (through past o) (node_of e))
    || is_none (oldest (unhandled_in (through past o) e)) || is_some (lack_at hosts (as_left past o e) e)

abbrev pub AreLeftShort : List ℕ → List Occurrence → Occurrence → Type 0
AreLeftShort hosts past o = AllByRecursion (λ e. is_left_short hosts past o e ≡ true) (ends_in hosts)

-- ## Outside turns

-- The answers of a node before its first turn in an event are exactly those that are due.
abbrev pub IsDueAt : List ℕ → List Occurrence → Occurrence → ℕ → Type 0
IsDueAt hosts past o n = AnswersSo n o.entries (noted_of_deeds (entries_in past ++ down_in o) n n (due hosts past o n))

abbrev pub AreDue : List ℕ → List Occurrence → Occurrence → Type 0
AreDue hosts past o = AllByRecursion (IsDueAt hosts past o) (0 ∷ hosts)

-- The session of each end ends by a reset of its own exactly where that is due.
abbrev pub AreReset : List ℕ → List Occurrence → Occurrence → Type 0
AreReset hosts past o = AllByRecursion (λ e. list_any (is_reset_down e) o.entries ≡ is_reset_due past o e) (ends_in hosts)

-- ## Answered

-- Every message is answered, and nothing else is: messages have their turns in the order in which they came, all but those behind one
-- that is held for room; each gets its reply at its turn; and what a node does outside turns is what is due. In each event a node goes
-- through its ends in the order of their links, and what comes to it stands before what it answers.
pub record Answered (t : NodeHistory) : Type 0 where
  pub in_turn : AreInTurn (node_entries t)
  pub done : AtEachOccurrence t (AreDone t.header.hosts.items)
  pub replied : AtEachEntry t (IsReplied t.header.hosts.items)
  pub held : AtEachEntry t (IsHeldFor t.header.hosts.items)
  pub short : AtEachOccurrence t (AreLeftShort t.header.hosts.items)
  pub due : AtEachOccurrence t (AreDue t.header.hosts.items)
  pub reset : AtEachOccurrence t (AreReset t.header.hosts.items)
  pub ascending : TurnsAscend t
  pub heard : NodesHearFirst t
