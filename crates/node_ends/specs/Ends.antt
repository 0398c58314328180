-- What is kept of the ends of a node, and for which ports of its machine it stands.
use Rattle.std.specs.Prelude.{◌≡◌, ◌≢◌, ℕ, zero, suc, ◌+◌, ◌*◌, ◌==◌, Bool, true, false, if◌then◌else◌, List, [], ◌∷◌, length, take, ◌≤◌, is_none, Option}
use Rattle.std.specs.Prelude.{◌&&◌, not, Some, None, option_map, Result, Err}
use Rattle.std.specs.List.{AllByRecursion, list_all}
use Rattle.std.specs.Option.{option_map_or}
use Rattle.block_pool.specs.Pool.{PoolState}
use Rattle.link_laws.specs.machine.Machine.{LinkEnd as Machine, Message, is_held, give_refusal, whole_acked, next_frame, frame_fetched, frames_out, sent_all}
use Rattle.link_laws.specs.machine.AtRest.{end_rests}
use Rattle.swp_lpdu.specs.Controls.{lpdu_of}
use Rattle.swp_act.specs.declared.ActEvent.TheVariants.{Start as ActStart}
use Rattle.link_end.specs.Roles.{MayStart}
use Rattle.link_end.specs.declared.report.LinkReport.{LinkReport}
use Rattle.link_end.specs.declared.report.SendRefused.{SendRefused}
use Rattle.link_end.specs.declared.report.SendRefused.TheVariants.{NotUp, TooLong, Full}
use Rattle.link_end.specs.Reports.{give_told, reset_told}
use Rattle.node_machine.specs.Parts.{Port}
use Rattle.node_machine.specs.Carrying.{port_at}
use Rattle.node_machine.specs.Node.{is_late, is_over}
use Rattle.node_deeds.specs.Cores.{IsSoundDesk}
use Rattle.node_ends.specs.declared.seat.Seat.{Seat}
use Rattle.node_deeds.specs.Shown.{desk_shown}
use Rattle.node_ends.specs.Holding.{HoldsSeat, Moves, IsReached, kept_number, where_done}

-- one end with what is kept of it
pub record SeatStandsFor (pool : PoolState) (s : Seat) (p : Port) : Type 0 where
  pub holds : HoldsSeat pool s p.side
  pub desk : desk_shown s.desk ≡ p.desk
  pub late : s.late ≡ p.late
  pub ended : s.ended ≡ p.ended
  pub reached : IsReached p.side
  pub acked : s.acked ≡ kept_number (whole_acked p.side)
  pub aside : s.aside ≡ p.side.aside
  pub sound : IsSoundDesk s.desk

-- What is kept of an end becomes this, with its pool: it stands for the changed port, and the ends beside it stay.
pub record SeatBecomes (old new : PoolState) (s t : Seat) (f : Port → Port) : Type 0 where
  pub host : t.desk.host ≡ s.desk.host
  pub moves : Moves old new s.side t.side
  pub stands : (p : Port) → SeatStandsFor old s p → SeatStandsFor new t (f p)

-- all of them, one by one
abbrev pub SeatsStandFor : PoolState → List Seat → List Port → Type 0
SeatsStandFor pool [] [] = Unit {0}
SeatsStandFor pool [] (p ∷ ports) = ⊥
SeatsStandFor pool (s ∷ seats) [] = ⊥
SeatsStandFor pool (s ∷ seats) (p ∷ ports) = SeatStandsFor pool s p × SeatsStandFor pool seats ports

-- the owners of the ends from the place k on: two for each, by its place
abbrev pub HaveOwnersFrom : ℕ → List Seat → Type 0
HaveOwnersFrom k [] = Unit {0}
HaveOwnersFrom k (s ∷ seats) =
    (s.side.outbox.owner ≡ 2 * k) × (s.side.inbox.joiner.owner ≡ 2 * k + 1) × HaveOwnersFrom (k + 1) seats

-- no two ends are those of links with one host
abbrev pub HaveOwnHosts : List Seat → Type 0
HaveOwnHosts [] = Unit {0}
HaveOwnHosts (s ∷ seats) = AllByRecursion (λ (t : Seat). t.desk.host ≢ s.desk.host) seats × HaveOwnHosts seats

-- What is kept of the ends of a node stands for these ports.
pub record AreEnds (pool : PoolState) (seats : List Seat) (ports : List Port) : Type 0 where
  pub each : SeatsStandFor pool seats ports
  pub owners : HaveOwnersFrom 0 seats
  pub hosts : HaveOwnHosts seats
  pub few : length seats ≤ 7

-- the place of the end of the link with this host
abbrev pub place_in : ℕ → List Seat → Option ℕ
place_in h [] = None
place_in h (s ∷ seats) = if s.desk.host == h then Some 0 else option_map suc (place_in h seats)

-- an end, where there is one, takes a message for sending
abbrev pub takes_at : Message → Option Port → Bool
takes_at m port = option_map_or (λ (p : Port). is_none (give_refusal p.side m)) port false

-- what is told of a message that is given for sending to an end, where there is one: one that isn't there isn't up
abbrev pub given_at : Message → Option Port → Result (Unit {0}) SendRefused
given_at m None = Err NotUp
given_at m (Some p) = give_told p.side m

-- a length that is told is this one; 4,294,967,295 stands for any greater number
abbrev pub TellsLengthOf : ℕ → SendRefused → Type 0
TellsLengthOf len NotUp = Unit {0}
TellsLengthOf len (TooLong told) = told ≡ kept_number len
TellsLengthOf len (Full need spare) = Unit {0}

-- at most six control frames wait to be sent at an end, where there is one
abbrev pub FewAreDue : Option Port → Type 0
FewAreDue None = Unit {0}
FewAreDue (Some p) = length p.side.acts + length p.side.shdlc.due ≤ 6

-- while a message waits at an end, where there is one, it is held
abbrev pub IsHeldWhileOneWaits : Option Port → Type 0
IsHeldWhileOneWaits None = Unit {0}
IsHeldWhileOneWaits (Some p) = (p.side.got ≡ [] → ⊥) → is_held p.side ≡ true

-- what is kept of all ends of a node, with their pool
pub record KeptEnds : Type 0 where
  pub pool : PoolState
  pub seats : List Seat

-- that stands for these ports
abbrev pub EndsStandFor : KeptEnds → List Port → Type 0
EndsStandFor e ports = AreEnds e.pool e.seats ports

-- all are links with hosts 01 to 07
abbrev pub AreOfHosts : List Port → Type 0
AreOfHosts ports = AllByRecursion (λ (p : Port). (1 ≤ p.desk.host) × (p.desk.host ≤ 7)) ports

-- the messages that came at the end of the link with this host and had no turn
abbrev pub got_at : List Port → ℕ → List Message
got_at ports h = option_map_or (λ (p : Port). p.side.got) (port_at ports h) []

-- a message that was read, with its pipe and how many bytes of the buffer it has
abbrev pub message_read : Option (ℕ × ℕ) → List ℕ → List Message
message_read None buffer = []
message_read (Some x) buffer = (x.0, take x.1 buffer) ∷ []

-- the end of the link with this host is held
abbrev pub held_at : List Port → ℕ → Bool
held_at ports h = option_map_or (λ (p : Port). is_held p.side) (port_at ports h) false

-- nothing is left to do at an end: no message waits there, and it isn't held
abbrev pub rests : Port → Bool
rests p = (length p.side.got == 0) && not (is_held p.side)

-- nothing is left to do at an end behind what came in a step: its session hasn't ended, and it rests
abbrev pub is_idle : Port → Bool
is_idle p = not (is_over p) && rests p

-- nothing is left to do at any end
abbrev pub are_idle : List Port → Bool
are_idle ports = list_all is_idle ports

-- all ends are at rest
abbrev pub are_at_rest : List Port → Bool
are_at_rest ports = list_all (λ (p : Port). end_rests p.side) ports

-- the ends, where the one at this place is changed
abbrev pub at_place : ℕ → (Port → Port) → List Port → List Port
at_place i f [] = []
at_place zero f (p ∷ ports) = f p ∷ ports
at_place (suc i) f (p ∷ ports) = p ∷ at_place i f ports

-- an end, where there is one, may be activated with this value
abbrev pub MayStartAt : ℕ → Option Port → Type 0
MayStartAt value None = Unit {0}
MayStartAt value (Some p) = MayStart p.side.role (ActStart value)

-- what is told of the reset of an end whose notice is late, where it is and the reset isn't refused
abbrev pub late_told : Option Port → Option LinkReport
late_told None = None
late_told (Some p) = if is_late p then where_done (reset_told p.side None) else None

-- an end whose next frame was fetched
abbrev pub has_sent : Port → Port
has_sent p = record p { side = frame_fetched p.side }

-- the frame that goes out next at an end, where there is one
abbrev pub frame_at : Option Port → Option (List ℕ)
frame_at None = None
frame_at (Some p) = option_map lpdu_of (next_frame p.side)

-- an end at which no frame is due
pub record HasNoneDue (m : Machine) : Type 0 where
  pub frames : frames_out m ≡ []
  pub sent : sent_all m ≡ m
