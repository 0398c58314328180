-- What is kept of the bytes that came to a node alone, and what the last one of them brought.
use Rattle.std.specs.Prelude.{◌≡◌, ℕ, ◌+◌, ◌%◌, ◌==◌, ◌&&◌, not, Bool, true, false, List, ◌∷◌, ◌++◌, Option, Some, None}
use Rattle.swp_line.specs.declared.period.Period.{Period}
use Rattle.swp_line.specs.declared.period.Period.TheVariants.{Bits, Deactivated}
use Rattle.swp_frame.specs.Signal.{Symbol}
use Rattle.swp_frame.specs.declared.fed.Fed.{Fed}
use Rattle.swp_frame.specs.declared.fed.Fed.TheVariants as fed
use Rattle.swp_frame.specs.Kept.{DeframerStandsFor}
use Rattle.swp_decode.specs.declared.line.Wire.{Wire}
use Rattle.swp_decode.specs.declared.line.Wire.TheVariants.{S1, S2}
use Rattle.byte_link.specs.Kept.{ByteLinkStandsFor}
use Rattle.lone_laws.specs.alone.Lone.{LoneCause}
use Rattle.lone_laws.specs.alone.Lone.LoneCause.{TickComes, StartComes, StopComes}
use Rattle.lone_laws.specs.alone.Ends.{EndForm, comes_if, verdict_brings, symbols_read, wire_read, is_unstarted, periods_among}
use Rattle.lone_laws.specs.alone.Ends.EndForm.{OnLine, OnBytes}
use Rattle.one_end.specs.declared.line.LineReader.{LineReader}
use Rattle.one_end.specs.declared.reading.Brought.{Brought}
use Rattle.one_end.specs.declared.reading.Reader.{Reader}
use Rattle.one_end.specs.declared.reading.Reader.TheVariants as reader

-- what comes to the node, one after another
abbrev pub causes_brought : Brought → List LoneCause
causes_brought b = comes_if b.starts (StartComes 1) ++ verdict_brings b.fed ++ comes_if b.stops StopComes ++ comes_if b.ticks TickComes

-- where no frame came and none was refused, this is so
abbrev pub unless_fed : Fed → Bool → Bool
unless_fed fed.Nothing so = so
unless_fed (fed.Frame lpdu) so = false
unless_fed (fed.Refused fault) so = false

-- a byte brought nothing
abbrev pub is_nothing_brought : Brought → Bool
is_nothing_brought b = unless_fed b.fed (not b.starts && not b.stops && not b.ticks)

-- the wire that a node reads
abbrev pub wire_of : Bool → Wire
wire_of true = S2
wire_of false = S1

-- with a further symbol, if there is one, the newest first
abbrev pub symbols_with : Option Symbol → List Symbol → List Symbol
symbols_with None seen = seen
symbols_with (Some symbol) seen = symbol ∷ seen

-- whether no period with bits came, with a further period
abbrev pub unstarted_with : Option Period → Bool → Bool
unstarted_with (Some (Bits s1 s2)) old = false
unstarted_with (Some Deactivated) old = true
unstarted_with _ old = old

-- the periods since the last tick, with a further one
abbrev pub periods_with : Option Period → ℕ → ℕ
periods_with None old = old
periods_with (Some period) old = (old + 1) % 512

-- a reader of a line stands for the bytes that came to the node with this number, the newest first
pub record LineStandsFor (line : LineReader) (number : ℕ) (older : List ℕ) : Type 0 where
  pub role : (number == 0) ≡ line.is_clf
  pub deframer : DeframerStandsFor line.deframer (symbols_read (wire_read number) older)
  pub unstarted : line.is_unstarted ≡ is_unstarted older
  pub counted : line.periods ≡ periods_among older % 512

-- the form of the link that is read
abbrev pub form_read : Reader → EndForm
form_read (reader.Line line) = OnLine
form_read (reader.Bytes link) = OnBytes

-- a reader stands for the bytes that came, the newest first
abbrev pub ReaderStandsFor : Reader → ℕ → List ℕ → Type 0
ReaderStandsFor (reader.Line line) number older = LineStandsFor line number older
ReaderStandsFor (reader.Bytes link) number older = ByteLinkStandsFor link older
