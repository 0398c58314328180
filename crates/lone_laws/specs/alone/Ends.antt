-- A node alone at the end of a recorded line, or of a byte link: what comes to it byte by byte, and what is written.
use Rattle.std.specs.Prelude.{ℕ, ◌%◌, ◌==◌, ◌&&◌, Bool, true, false, not, if◌then◌else◌, List, [], ◌∷◌, ◌++◌, map, length, is_some, Option, Some, None}
use Rattle.std.specs.List.{flat_map, filter, filter_map}
use Rattle.std.specs.Option.{option_map_or}
use Rattle.swp_base.specs.InMemory.{Memory}
use Rattle.swp_line.specs.declared.period.Period.{Period}
use Rattle.swp_line.specs.declared.period.Period.TheVariants.{Bits, Deactivated}
use Rattle.swp_line.specs.Periods.{period_at, byte_of_period}
use Rattle.swp_frame.specs.declared.fed.Fed.{Fed}
use Rattle.swp_frame.specs.declared.fed.Fed.TheVariants as fed
use Rattle.swp_frame.specs.Signal.{Symbol}
use Rattle.swp_frame.specs.Verdicts.{verdict}
use Rattle.swp_frame.specs.Stuffing.{frame_of}
use Rattle.byte_link.specs.declared.unit.Unit as unit
use Rattle.byte_link.specs.declared.unit.Unit.TheVariants as units
use Rattle.byte_link.specs.Units.{unit_of}
use Rattle.byte_link.specs.Reading.{unit_given}
use Rattle.swp_decode.specs.declared.line.Wire.{Wire}
use Rattle.swp_decode.specs.declared.line.Wire.TheVariants.{S1, S2}
use Rattle.swp_decode.specs.Readings.{symbol_on}
use Rattle.trace_model.specs.declared.entry.Entry.{Entry}
use Rattle.trace_model.specs.declared.entry.Entry.TheVariants as entry
use Rattle.link_laws.specs.machine.Machine.{report}
use Rattle.lone_laws.specs.alone.Lone.{Lone, LoneCause, LoneEvent, lone_input, lone_step, lone_events, lone_booted}
use Rattle.lone_laws.specs.alone.Lone.LoneCause.{FrameComes, FrameIsRefused, TickComes, ResetComes, StartComes, StopComes}

-- what the bytes are: the record of a line, or a byte link
pub data EndForm : Type 0 where
  OnLine : EndForm
  OnBytes : EndForm

-- ## What a byte brings

-- a unit of a byte link
abbrev pub unit_brings : unit.Unit → List LoneCause
unit_brings units.Nothing = []
unit_brings units.Tick = TickComes ∷ []
unit_brings (units.Frame lpdu) = FrameComes lpdu ∷ []
unit_brings (units.Refused fault) = FrameIsRefused fault ∷ []

-- a verdict on a wire
abbrev pub verdict_brings : Fed → List LoneCause
verdict_brings fed.Nothing = []
verdict_brings (fed.Frame lpdu) = FrameComes lpdu ∷ []
verdict_brings (fed.Refused fault) = FrameIsRefused fault ∷ []

-- the wire that a node reads: the controller what the UICC sends, on S2, and a host what the CLF sends, on S1
abbrev pub wire_read : ℕ → Wire
wire_read number = if number == 0 then S2 else S1

-- what was read on a wire, the newest first
abbrev pub symbols_read : Wire → List ℕ → List Symbol
symbols_read wire bytes = filter_map (λ byte. symbol_on wire (period_at byte)) bytes

-- a reading that is new on it
abbrev pub reading_brings : Option Symbol → List Symbol → List LoneCause
reading_brings None older = []
reading_brings (Some symbol) older = verdict_brings (verdict (symbol ∷ older))

-- a period has bits
abbrev pub has_bits : Option Period → Bool
has_bits (Some (Bits s1 s2)) = true
has_bits _ = false

abbrev pub is_deactivation : Option Period → Bool
is_deactivation (Some Deactivated) = true
is_deactivation _ = false

-- no period with bits came since the line began, or since it was deactivated, by the bytes, the newest first
abbrev pub is_unstarted : List ℕ → Bool
is_unstarted [] = true
is_unstarted (byte ∷ older) =
    if has_bits (period_at byte) then false else (if is_deactivation (period_at byte) then true else is_unstarted older)

-- this comes, if so
abbrev pub comes_if : Bool → LoneCause → List LoneCause
comes_if true c = c ∷ []
comes_if false c = []

-- how many of these bytes are periods
abbrev pub periods_among : List ℕ → ℕ
periods_among bytes = length (filter (λ byte. is_some (period_at byte)) bytes)

-- every 512th period is a tick
abbrev pub is_tick_period : ℕ → List ℕ → Bool
is_tick_period byte older = is_some (period_at byte) && periods_among (byte ∷ older) % 512 == 0

-- A byte of a line: the start of a UICC, the frame or the refusal that the byte gives, the deactivation, and the tick.
abbrev pub line_brings : ℕ → ℕ → List ℕ → List LoneCause
line_brings number byte older =
    comes_if (not (number == 0) && has_bits (period_at byte) && is_unstarted older) (StartComes 1)
    ++ reading_brings (symbol_on (wire_read number) (period_at byte)) (symbols_read (wire_read number) older)
    ++ comes_if (is_deactivation (period_at byte)) StopComes
    ++ comes_if (is_tick_period byte older) TickComes

-- a byte, with those before it, the newest first
abbrev pub byte_brings : EndForm → ℕ → ℕ → List ℕ → List LoneCause
byte_brings OnLine number byte older = line_brings number byte older
byte_brings OnBytes number byte older = unit_brings (unit_given (byte ∷ older))

-- bytes, the oldest first, behind those, the newest first
abbrev pub bytes_bring : EndForm → ℕ → List ℕ → List ℕ → List LoneCause
bytes_bring form number older [] = []
bytes_bring form number older (byte ∷ bytes) = byte_brings form number byte older ++ bytes_bring form number (byte ∷ older) bytes

-- a UICC on a byte link starts before any byte
abbrev pub first_comes : EndForm → ℕ → List LoneCause
first_comes OnLine number = []
first_comes OnBytes number = comes_if (not (number == 0)) (StartComes 1)

-- ## Resets

-- a CLF becomes active by this
abbrev pub asks_reset : Lone → LoneCause → Bool
asks_reset l c = l.number == 0 && is_some l.node && option_map_or (λ i. (report l.side i).became_active) (lone_input c) false

-- and asks for a reset at once
abbrev pub with_resets : Lone → List LoneCause → List LoneCause
with_resets l [] = []
with_resets l (c ∷ causes) =
    let next : Lone = (lone_step l c).0 in
    if asks_reset l c then c ∷ ResetComes None ∷ with_resets (lone_step next (ResetComes None)).0 causes else c ∷ with_resets next causes

-- ## A whole run

-- All that comes to a node alone, over these bytes.
abbrev pub end_causes : EndForm → Lone → List ℕ → List LoneCause
end_causes form l bytes = with_resets l (first_comes form l.number ++ bytes_bring form l.number [] bytes)

-- its history
abbrev pub end_history : EndForm → Lone → List ℕ → List LoneEvent
end_history form l bytes = lone_events l (end_causes form l bytes)

-- a bit that a node writes: the CLF's as S1, the UICC's as S2
abbrev pub bit_written : ℕ → Bool → ℕ
bit_written number bit = if number == 0 then byte_of_period (Bits bit false) else byte_of_period (Bits false bit)

abbrev pub frame_written : EndForm → ℕ → List ℕ → List ℕ
frame_written OnLine number lpdu = map (bit_written number) (frame_of lpdu)
frame_written OnBytes number lpdu = unit_of lpdu

-- the frames among entries
abbrev pub entry_written : EndForm → ℕ → Entry → List ℕ
entry_written form number (entry.Emit e lpdu) = frame_written form number lpdu
entry_written form number _ = []

-- what is written for an event, and in all
abbrev pub event_written : EndForm → ℕ → LoneEvent → List ℕ
event_written form number o = flat_map (entry_written form number) o.entries

abbrev pub end_written : EndForm → Lone → List ℕ → List ℕ
end_written form l bytes = flat_map (event_written form l.number) (end_history form l bytes)

-- the node of a run over a memory: the controller or the host 02, on the link with the host 02
abbrev pub end_node : Bool → Memory → Lone
end_node is_clf m = lone_booted (if is_clf then 0 else 2) 2 m
