-- What is written of a record, where it is known which messages a tap tells of its frames.
use Rattle.swp_words.proofs.Words.{Bool, List, TapReport, arith, length, record_frames, tap_lines, tapped_lpdus, whole_record, ℕ, ◌≡◌}
use Rattle.swp_words.specs.Taps.{gots_written}

pub known_reports : (bare : Bool) (input : List ℕ) (frames : List (Bool × List ℕ)) (gots : List TapReport) → record_frames input ≡ frames
    → tapped_lpdus bare frames ≡ gots → whole_record (tap_lines bare) input ≡ gots_written gots (length input)
known_reports bare input frames gots are told = grind arith
