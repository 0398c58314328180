-- What a tap has heard and told.
use Rattle.std.specs.List.{flat_map}
use Rattle.std.proofs.lemmas.List.Concat.{flat_map-append}
use Rattle.swp_words.proofs.Words.{Bool, HasHeard, IsFront, List, S1, S2, TapReport, [], ap, append-nil, append_assoc, arith, frame_given, length}
use Rattle.swp_words.proofs.Words.{length-append, length-reverse, record_frames, refl, report_line, report_lines, reverse, subst, sym, tapped_lpdus, ℕ, ◌++◌}
use Rattle.swp_words.proofs.Words.{◌∙◌, ◌∷◌, ◌≡◌, ◌≤◌}
use Rattle.swp_lpdu.specs.Controls.{control_of}
use Rattle.swp_decode.specs.Frames.{frames_told}
use Rattle.tap_reading.specs.Tap.{new_tap, tap_after, tapped, tapped_from}
use Rattle.tap_reading.specs.Lpdus.{frame_read, frames_read}
use Rattle.swp_tap.specs.Hearing.{TapValue}
use Rattle.swp_tap.proofs.Hearing.{tapped-append}
use Rattle.swp_words.specs.declared.tapping.Tapping.{Tapping}
use Rattle.swp_words.specs.Taps.{IsTapping}
use Rattle.swp_words.proofs.Recording.{newest, front_further}

-- how many bytes were read
pub count_heard : {bare tells : Bool} {t : Tapping} {earlier bytes before after : List ℕ} → IsTapping bare tells t earlier bytes before after
    → t.decoder.count ≡ length bytes
count_heard {bytes} h = h.decoder.count ∙ length-reverse bytes

-- ## What is reported over more frames

frames_read-append : (fs gs : List (Bool × List ℕ)) → frames_read (fs ++ gs) ≡ frames_read fs ++ frames_read gs
frames_read-append [] gs = refl
frames_read-append (f ∷ fs) gs =
    ap (λ z. frame_read f.0 (control_of f.1) ++ z) (frames_read-append fs gs)
    ∙ sym (append_assoc (frame_read f.0 (control_of f.1)) (frames_read fs) (frames_read gs))

-- what more frames add
abbrev further_reports : Bool → List (Bool × List ℕ) → List (Bool × List ℕ) → List TapReport
further_reports bare fs gs = tapped_from bare (tap_after bare new_tap (frames_read fs)) (frames_read gs)

further_lines : (bare : Bool) (fs gs : List (Bool × List ℕ))
    → report_lines bare (fs ++ gs) ≡ report_lines bare fs ++ flat_map report_line (further_reports bare fs gs)
further_lines bare fs gs =
    ap (flat_map report_line) (ap (tapped bare) (frames_read-append fs gs) ∙ tapped-append bare new_tap (frames_read fs) (frames_read gs))
    ∙ flat_map-append report_line (tapped_lpdus bare fs) (further_reports bare fs gs)

-- a frame that reports these messages adds their lines
reported_lines : (bare : Bool) (frames more : List (Bool × List ℕ)) (reports : List TapReport)
    → tapped_lpdus bare (frames ++ more) ≡ tapped_lpdus bare frames ++ reports
    → report_lines bare (frames ++ more) ≡ report_lines bare frames ++ flat_map report_line reports
reported_lines bare frames more reports is = ap (flat_map report_line) is ∙ flat_map-append report_line (tapped_lpdus bare frames) reports

-- a frame that reports one message adds its line
pub one_line : (bare : Bool) (tap : TapValue) (frames more : List (Bool × List ℕ)) (report : TapReport) → tap.bare ≡ bare
    → tapped_lpdus tap.bare (frames ++ more) ≡ tapped_lpdus tap.bare frames ++ report ∷ []
    → report_lines bare (frames ++ more) ≡ report_lines bare frames ++ report_line report
one_line bare tap frames more report same is =
    reported_lines bare frames more (report ∷ [])
    (subst (λ b. tapped_lpdus b (frames ++ more) ≡ tapped_lpdus b frames ++ report ∷ []) same is)
    ∙ ap (λ l. report_lines bare frames ++ l) (append-nil (report_line report))

-- a front of what is reported over some frames is one of what is reported over more
front_of_more : {tells : Bool} {least : ℕ} {before after : List ℕ} (bare : Bool) (frames more : List (Bool × List ℕ))
    → IsFront tells least (report_lines bare frames) before after → least ≤ length (report_lines bare frames)
    → IsFront tells least (report_lines bare (frames ++ more)) before after
front_of_more {tells} {least} {before} {after} bare frames more front enough =
    subst (λ l. IsFront tells least l before after) (sym (further_lines bare frames more))
    (front_further (flat_map report_line (further_reports bare frames more)) enough front)

-- so is one over these frames and one more
pub front_of_frames : {tells : Bool} {least : ℕ} {before after : List ℕ} (bare : Bool) (frames more rest all : List (Bool × List ℕ))
    → IsFront tells least (report_lines bare (frames ++ more)) before after → least ≤ length (report_lines bare frames)
    → (frames ++ more) ++ rest ≡ all → IsFront tells least (report_lines bare all) before after
front_of_frames {tells} {least} {before} {after} bare frames more rest all front enough is =
    let sum = length-append (report_lines bare frames) (flat_map report_line (further_reports bare frames more)) in
    let longer : least ≤ length (report_lines bare (frames ++ more)) = omega (arith, enough, ap length (further_lines bare frames more), sum) in
    subst (λ l. IsFront tells least (report_lines bare l) before after) is (front_of_more bare (frames ++ more) rest front longer)

-- ## A tap

-- what was heard and what was written are told of the same frames, said otherwise
pub heard_as : {bare tells : Bool} {tap : TapValue} {gathered : List ℕ} {least : ℕ} {frames others : List (Bool × List ℕ)} {before after : List ℕ}
    → frames ≡ others → HasHeard bare tells tap gathered least frames before after → HasHeard bare tells tap gathered least others before after
heard_as is h = grind arith

pub front_as : {tells : Bool} {least : ℕ} {before after : List ℕ} (bare : Bool) (frames others : List (Bool × List ℕ)) → frames ≡ others
    → IsFront tells least (report_lines bare frames) before after → IsFront tells least (report_lines bare others) before after
front_as {tells} {least} {before} {after} bare frames others is h = subst (λ l. IsFront tells least (report_lines bare l) before after) is h

-- the frames of a record with one byte more
pub byte_frames : (read : List ℕ) (byte : ℕ)
    → record_frames (read ++ byte ∷ []) ≡ record_frames read ++ (frame_given S1 (byte ∷ reverse read) ++ frame_given S2 (byte ∷ reverse read))
byte_frames read byte =
    ap frames_told (newest read byte)
    ∙ append_assoc (record_frames read) (frame_given S1 (byte ∷ reverse read)) (frame_given S2 (byte ∷ reverse read))
