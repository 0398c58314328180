-- The verdicts on frames, found by the places of marks.
use Rattle.std.specs.Prelude.{Bool, true, false, List, [], ◌∷◌, reverse, drop, filter, Option, Some, None}
use Rattle.swp_base.specs.declared.link_terms.FrameFault.TheVariants.{Broken}
use Rattle.swp_frame.specs.declared.fed.Fed.{Fed}
use Rattle.swp_frame.specs.declared.fed.Fed.TheVariants.{Nothing, Frame, Refused}
use Rattle.swp_frame.specs.Signal.{Symbol, Mark, no_mark, start_mark, end_mark, break_mark, mark_of, since_start, unstuffed}
use Rattle.swp_frame.specs.Content.{judged}

-- The bits between a start of frame and the end of frame whose last 1 bit comes next. The end's first seven bits are not
-- content; its first 0 may be the start's last.
abbrev pub content_of : List Symbol → List Bool
content_of since = reverse (unstuffed (drop 7 since))

-- what a mark says of the frame that is open
abbrev pub verdict_at : Mark → List Symbol → Fed
verdict_at no_mark since = Nothing
verdict_at start_mark since = Refused Broken
verdict_at break_mark since = Refused Broken
verdict_at end_mark since = judged (content_of since)

-- what a mark says after the last one: nothing where no frame is open
abbrev pub verdict_after : Mark → Option (List Symbol) → Fed
verdict_after mark None = Nothing
verdict_after mark (Some since) = verdict_at mark since

-- the verdict that comes at the newest place of a list, the newest first
abbrev pub verdict : List Symbol → Fed
verdict [] = Nothing
verdict (newest ∷ older) = verdict_after (mark_of (newest ∷ older)) (since_start older)

-- what is said at each place of a list, its oldest first, after what was read before
abbrev pub answers_after : List Symbol → List Symbol → List Fed
answers_after seen [] = []
answers_after seen (next ∷ later) = verdict (next ∷ seen) ∷ answers_after (next ∷ seen) later

abbrev pub is_verdict : Fed → Bool
is_verdict Nothing = false
is_verdict (Frame lpdu) = true
is_verdict (Refused fault) = true

-- the verdicts of a list, its oldest first
abbrev pub verdicts : List Symbol → List Fed
verdicts signal = filter is_verdict (answers_after [] signal)
