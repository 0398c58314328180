-- The frames of a line record, each with whether it is the CLF's: S1 has those of the CLF, S2 those of the UICC.
use Rattle.std.specs.Prelude.{ℕ, Bool, true, false, List, [], ◌∷◌, ◌++◌, reverse, Option, Some, None}
use Rattle.swp_line.specs.Periods.{period_at}
use Rattle.swp_frame.specs.Signal.{Symbol}
use Rattle.swp_frame.specs.Verdicts.{verdict}
use Rattle.swp_frame.specs.declared.fed.Fed.{Fed}
use Rattle.swp_frame.specs.declared.fed.Fed.TheVariants.{Nothing, Frame, Refused}
use Rattle.swp_decode.specs.declared.line.Wire.{Wire}
use Rattle.swp_decode.specs.declared.line.Wire.TheVariants.{S1, S2}
use Rattle.swp_decode.specs.Readings.{ReadSymbol, symbol_on, signal, symbols}

abbrev pub is_of_clf : Wire → Bool
is_of_clf S1 = true
is_of_clf S2 = false

-- the frame that a verdict on a wire gives; one that is refused gives none
abbrev pub frame_in : Wire → Fed → List (Bool × List ℕ)
frame_in wire Nothing = []
frame_in wire (Frame lpdu) = (is_of_clf wire, lpdu) ∷ []
frame_in wire (Refused fault) = []

-- the frame that comes with a new reading on a wire, after the older ones
abbrev pub frame_with : Wire → Option Symbol → List ReadSymbol → List (Bool × List ℕ)
frame_with wire None older = []
frame_with wire (Some symbol) older = frame_in wire (verdict (symbol ∷ symbols older))

-- the frame that the newest byte of a record, the newest first, gives on a wire, if it gives one
abbrev pub frame_given : Wire → List ℕ → List (Bool × List ℕ)
frame_given wire [] = []
frame_given wire (byte ∷ older) = frame_with wire (symbol_on wire (period_at byte)) (signal wire older)

-- the frames of a record, the newest byte first: in the order of the byte that ended them, S1 before S2
abbrev pub frames_told : List ℕ → List (Bool × List ℕ)
frames_told [] = []
frames_told (byte ∷ older) = frames_told older ++ frame_given S1 (byte ∷ older) ++ frame_given S2 (byte ∷ older)

-- the frames that come with further bytes, the oldest first, after the older ones, the newest first
abbrev pub frames_with : List ℕ → List ℕ → List (Bool × List ℕ)
frames_with older [] = []
frames_with older (byte ∷ bytes) = frame_given S1 (byte ∷ older) ++ frame_given S2 (byte ∷ older) ++ frames_with (byte ∷ older) bytes

-- the frames of a record, its oldest byte first
abbrev pub record_frames : List ℕ → List (Bool × List ℕ)
record_frames bytes = frames_told (reverse bytes)
