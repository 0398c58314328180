-- What becomes of a frame whose bits are changed on its way.
use Rattle.std.specs.Prelude.{ℕ, zero, suc, ◌==◌, Bool, true, false, not, if◌then◌else◌, List, [], ◌∷◌, ◌++◌, map, replicate}
use Rattle.swp_frame.specs.declared.fed.Fed.{Fed}
use Rattle.swp_frame.specs.declared.fed.Fed.TheVariants.{Nothing, Frame, Refused}
use Rattle.swp_frame.specs.Signal.{symbol_of}
use Rattle.swp_frame.specs.Stuffing.{frame_of}
use Rattle.swp_frame.specs.Verdicts.{verdicts}
use Rattle.link_laws.specs.messages.Links.{Loss}
use Rattle.link_laws.specs.messages.Links.Loss.{Broken, Unread}

-- the bits with the one at this place changed
abbrev pub flipped : ℕ → List Bool → List Bool
flipped n [] = []
flipped zero (b ∷ bits) = not b ∷ bits
flipped (suc n) (b ∷ bits) = b ∷ flipped n bits

-- the bits with those at these places changed
abbrev pub flipped_at : List ℕ → List Bool → List Bool
flipped_at [] bits = bits
flipped_at (place ∷ places) bits = flipped_at places (flipped place bits)

-- what a reader makes of a damaged frame
pub data Verdict : Type 0 where
  -- the frame is read as it was
  Same : Verdict
  -- none is read, and this is why it is lost
  LostFor : Loss → Verdict
  -- another frame is read
  Undetected : List ℕ → Verdict

abbrev pub same_bytes : List ℕ → List ℕ → Bool
same_bytes [] [] = true
same_bytes (a ∷ first) (b ∷ second) = if a == b then same_bytes first second else false
same_bytes [] (b ∷ second) = false
same_bytes (a ∷ first) [] = false

-- why no frame was read: the first refusal, where one was
abbrev pub first_refusal : List Fed → Loss
first_refusal [] = Unread
first_refusal (Nothing ∷ later) = first_refusal later
first_refusal (Frame lpdu ∷ later) = first_refusal later
first_refusal (Refused fault ∷ later) = Broken fault

-- the frame that was read in place of this one
abbrev pub read_as : List ℕ → List ℕ → Verdict
read_as lpdu read = if same_bytes read lpdu then Same else Undetected read

-- the first frame that is read decides; where there is none, this is the cause
abbrev pub first_frame : List ℕ → Loss → List Fed → Verdict
first_frame lpdu why [] = LostFor why
first_frame lpdu why (Nothing ∷ later) = first_frame lpdu why later
first_frame lpdu why (Frame read ∷ later) = read_as lpdu read
first_frame lpdu why (Refused fault ∷ later) = first_frame lpdu why later

-- the first frame that is read decides; where there is none, the first refusal is the cause
abbrev pub judged_by_first : List ℕ → List Fed → Verdict
judged_by_first lpdu feds = first_frame lpdu (first_refusal feds) feds

-- What is read of a frame whose bits at these places are changed, with eight 0 bits behind it.
abbrev pub verdict_on : List ℕ → List ℕ → Verdict
verdict_on lpdu places =
    judged_by_first lpdu (verdicts (map symbol_of (flipped_at places (frame_of lpdu) ++ replicate 8 false)))
