-- How many RSETs what happens to a bare world may have its link make: two in a tick, one where a reset is asked for.
use Rattle.std.specs.Prelude.{ℕ, ◌+◌, ◌*◌, List, [], ◌∷◌}
use Rattle.history.specs.Histories.{Cause}
use Rattle.history.specs.Histories.Cause.{Given, Taken, WasLost, Ticked, WasReset, Readied}

abbrev pub bare_ticks_among : List Cause → ℕ
bare_ticks_among [] = 0
bare_ticks_among (Ticked ∷ causes) = 1 + bare_ticks_among causes
bare_ticks_among (_ ∷ causes) = bare_ticks_among causes

abbrev pub bare_resets_among : List Cause → ℕ
bare_resets_among [] = 0
bare_resets_among (WasReset e window ∷ causes) = 1 + bare_resets_among causes
bare_resets_among (_ ∷ causes) = bare_resets_among causes

-- the RSETs that a cause may have the link make, and that all these may
abbrev pub rsets_by_bare : Cause → ℕ
rsets_by_bare (Given e m) = 0
rsets_by_bare (Taken e) = 0
rsets_by_bare (WasLost e why) = 0
rsets_by_bare Ticked = 2
rsets_by_bare (WasReset e window) = 1
rsets_by_bare (Readied e ready) = 0

abbrev pub rsets_by_all_bare : List Cause → ℕ
rsets_by_all_bare causes = 2 * bare_ticks_among causes + bare_resets_among causes
