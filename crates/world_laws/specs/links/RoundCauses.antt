-- The causes of the rounds of a bare link.
use Rattle.std.specs.Prelude.{◌≡◌, ℕ, zero, suc, ◌<◌, List, [], ◌∷◌, length}
use Rattle.link_laws.specs.messages.Links.{Link}
use Rattle.history.specs.Histories.{Cause}
use Rattle.history.specs.Histories.Cause.{Taken, Ticked}
use Rattle.history.specs.Steps.{link_after}
use Rattle.history.specs.Follows.{frames_to}

-- a cause in a round of the link with the host h: an end takes a frame that stands on the wire to it, or time passes
abbrev pub IsRoundCause : ℕ → Link → Cause → Type 0
IsRoundCause h l (Taken e) = (e.link ≡ h) × (0 < length (frames_to l e))
IsRoundCause h l Ticked = Unit {0}
IsRoundCause h l _ = ⊥

-- each of these is one behind those before it
abbrev pub AreRoundCauses : ℕ → Link → List Cause → Type 0
AreRoundCauses h l [] = Unit {0}
AreRoundCauses h l (c ∷ cs) = IsRoundCause h l c × AreRoundCauses h (link_after l c) cs

-- how often time passes among these
abbrev pub times_ticked : List Cause → ℕ
times_ticked [] = zero
times_ticked (Ticked ∷ cs) = suc (times_ticked cs)
times_ticked (_ ∷ cs) = times_ticked cs
