-- In which order a node notes in an event what comes to it, what it answers, and the frames that it puts on wires.
use Rattle.std.specs.Prelude.{◌≡◌, ℕ, ◌≤◌, ◌==◌, ◌&&◌, Bool, true, false, not, if◌then◌else◌, List, [], ◌∷◌, Option, Some, None}
use Rattle.std.specs.List.{AllByRecursion, filter_map}
use Rattle.std.specs.Option.{option_map_or}
use Rattle.trace_model.specs.declared.entry.Entry.{Entry}
use Rattle.trace_model.specs.declared.entry.Entry.TheVariants as entry
use Rattle.node_machine.specs.world.World.{node_of}
use Rattle.node_machine.specs.world.NodeHistories.{NodeHistory}
use Rattle.node_laws.specs.power.Powers.{is_of_node}
use Rattle.node_laws.specs.answers.Moments.{AtEachEntry, AtEachOccurrence, Moment}

-- ## Answers

-- the node whose answer an entry is
abbrev pub answerer : Entry → Option ℕ
answerer (entry.Command n command) = Some n
answerer (entry.Sent e n pid message) = Some (node_of e)
answerer (entry.AnyOk n count) = Some n
answerer (entry.Ask host message) = Some 0
answerer (entry.Dropped e pid) = Some (node_of e)
answerer (entry.InitSame e) = Some (node_of e)
answerer (entry.InitMade e count) = Some (node_of e)
answerer (entry.InitFailed e code) = Some (node_of e)
answerer _ = None

abbrev pub is_answer_of : ℕ → Entry → Bool
is_answer_of n x = option_map_or (λ k. k == n) (answerer x) false

-- ## Their order

-- A session of an end of this node begins or ends, messages came there, or are acknowledged.
abbrev pub hears : ℕ → Entry → Bool
hears n (entry.Up e k) = node_of e == n
hears n (entry.Down e cause) = node_of e == n
hears n (entry.Acked e k count) = node_of e == n
hears n (entry.Got e k pid message) = node_of e == n
hears n _ = false

-- Behind an answer of a node nothing in the event comes to it.
abbrev pub HearsFirst : Moment → Entry → List Entry → Type 0
HearsFirst m x behind = (n : ℕ) → is_answer_of n x ≡ true → AllByRecursion (λ y. hears n y ≡ false) behind

-- What comes to a node in an event is noted before what it answers.
abbrev pub NodesHearFirst : NodeHistory → Type 0
NodesHearFirst t = AtEachEntry t HearsFirst

-- ## Frames

-- the node that puts a frame on a wire
abbrev pub emitter : Entry → Option ℕ
emitter (entry.Emit e lpdu) = Some (node_of e)
emitter _ = None

abbrev pub emits : ℕ → Entry → Bool
emits n x = option_map_or (λ k. k == n) (emitter x) false

-- Behind a frame that a node puts on a wire nothing in the event tells of that node but further frames that it puts there: so no command is
-- written and nothing answered behind a frame that has gone out.
abbrev pub EmitsLast : Moment → Entry → List Entry → Type 0
EmitsLast m x behind = (n : ℕ) → emits n x ≡ true → AllByRecursion (λ y. (is_of_node n y && not (emits n y)) ≡ false) behind

-- All that a node does in an event is noted before the frames that go out of it.
abbrev pub NodesEmitLast : NodeHistory → Type 0
NodesEmitLast t = AtEachEntry t EmitsLast

-- ## The order of ends

-- the link at whose end of this node a message has its turn, or is held
abbrev pub turn_link : ℕ → Entry → Option ℕ
turn_link n (entry.Turn e pid message) = if node_of e == n then Some e.link else None
turn_link n (entry.Held e need spare) = if node_of e == n then Some e.link else None
turn_link n _ = None

-- each of these numbers is none above those behind it
abbrev pub IsAscending : List ℕ → Type 0
IsAscending [] = Unit {0}
IsAscending (x ∷ xs) = AllByRecursion (λ y. x ≤ y) xs × IsAscending xs

-- A node goes through its ends in an event in the order of their links.
abbrev pub TurnsAscend : NodeHistory → Type 0
TurnsAscend t = AtEachOccurrence t (λ past o. (n : ℕ) → IsAscending (filter_map (turn_link n) o.entries))
