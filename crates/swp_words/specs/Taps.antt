-- What a tap has read and written.
use Rattle.std.specs.Prelude.{◌≡◌, ℕ, ◌*◌, ◌≤◌, Bool, true, false, IsTrue, List, ◌∷◌, [], ◌++◌, length, reverse, codes, decimal}
use Rattle.std.specs.List.{flat_map}
use Rattle.swp_decode.specs.Decoded.{last_line}
use Rattle.swp_decode.specs.Texts.{hex_of, line_feed}
pub use Rattle.swp_decode.specs.Frames.{record_frames}
use Rattle.swp_decode.specs.Kept.{DecoderStandsFor}
use Rattle.tap_reading.specs.Tap.{TapReport}
use Rattle.tap_reading.specs.Lpdus.{tapped_lpdus}
use Rattle.swp_tap.specs.declared.tap.TapHead.{TapHead}
use Rattle.swp_tap.specs.Hearing.{TapValue, StandsFor}
use Rattle.swp_words.specs.declared.tapping.Tapping.{Tapping}
use Rattle.swp_words.specs.declared.status.Status.{Status}
use Rattle.swp_words.specs.declared.status.Status.TheVariants as status
use Rattle.swp_words.specs.Records.{IsGathered, RecordedBy}

abbrev pub end_word : Bool → List ℕ
end_word true = codes "c "
end_word false = codes "h "

-- what stands before the bytes of a message that an end got: the end, the number of its session, and the pipe
abbrev pub report_head : TapHead → List ℕ
report_head h = codes "got " ++ end_word h.to_clf ++ decimal h.session ++ codes " " ++ hex_of (h.pipe ∷ []) ++ codes " "

-- the head of what is reported
abbrev pub tap_head_of : TapReport → TapHead
tap_head_of r = record { to_clf = r.to_clf; session = r.session; pipe = r.pipe }

abbrev pub report_line : TapReport → List ℕ
report_line r = report_head (tap_head_of r) ++ hex_of r.body ++ line_feed

-- what a tap on a link, bare or not, reports of these frames, each with whether it is the CLF's
abbrev pub report_lines : Bool → List (Bool × List ℕ) → List ℕ
report_lines bare frames = flat_map report_line (tapped_lpdus bare frames)

-- what it reports of the frames of a record
abbrev pub tap_lines : Bool → List ℕ → List ℕ
tap_lines bare bytes = report_lines bare (record_frames bytes)

-- what is written where these messages were got, of a record of so many bytes
abbrev pub gots_written : List TapReport → ℕ → List ℕ
gots_written gots count = flat_map report_line gots ++ last_line count

-- A tap has heard these frames: what was written and what is gathered is what it reports of them.
pub record HasHeard (bare tells : Bool) (tap : TapValue) (gathered : List ℕ) (least : ℕ) (frames : List (Bool × List ℕ)) (before after : List ℕ)
    : Type 0 where
  pub bare_is : tap.bare ≡ bare
  pub stands : StandsFor tap frames
  pub lines : IsGathered tells gathered least (report_lines bare frames) before after

-- A tap has read these bytes. All lines of the earlier bytes, those before the piece in hand, were written.
pub record IsTapping (bare tells : Bool) (t : Tapping) (earlier bytes before after : List ℕ) : Type 0 where
  pub decoder : DecoderStandsFor t.decoder (reverse bytes)
  pub heard : HasHeard bare tells t.tap t.text.items (length (tap_lines bare earlier)) (record_frames bytes) before after

-- a byte gives at most two frames
abbrev pub HasHeardFew : Tapping → Type 0
HasHeardFew t = t.tap.taken ≤ 2 * t.decoder.count

-- How a tap on this input ended. Where there was no memory for it, nothing was read or written.
abbrev pub TappedBy : Bool → Bool → ℕ → Status → List ℕ → List ℕ → List ℕ → List ℕ → Type 0
TappedBy bare tells given status.NoMemory input left before after = (left ≡ input) × (IsTrue tells → after ≡ before)
TappedBy bare tells given status.Done input left before after = RecordedBy (tap_lines bare) tells given status.Done input left before after
TappedBy bare tells given (status.TooMany count) input left before after =
    RecordedBy (tap_lines bare) tells given (status.TooMany count) input left before after
TappedBy bare tells given status.ReadFault input left before after = RecordedBy (tap_lines bare) tells given status.ReadFault input left before after
TappedBy bare tells given status.WriteFault input left before after = RecordedBy (tap_lines bare) tells given status.WriteFault input left before after
TappedBy bare tells given status.BadWords input left before after = ⊥
TappedBy bare tells given (status.BadSchedule line why) input left before after = ⊥
TappedBy bare tells given (status.Undetected line) input left before after = ⊥
TappedBy bare tells given status.NvFault input left before after = ⊥
TappedBy bare tells given (status.BadImage why) input left before after = ⊥

-- how a tap can end, whatever it reads
abbrev pub IsOfTap : Status → Type 0
IsOfTap status.NoMemory = Unit {0}
IsOfTap status.Done = Unit {0}
IsOfTap status.ReadFault = Unit {0}
IsOfTap status.WriteFault = Unit {0}
IsOfTap (status.TooMany count) = count ≡ 16777217
IsOfTap status.BadWords = ⊥
IsOfTap (status.BadSchedule line why) = ⊥
IsOfTap (status.Undetected line) = ⊥
IsOfTap status.NvFault = ⊥
IsOfTap (status.BadImage why) = ⊥
