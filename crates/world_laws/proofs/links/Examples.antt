-- Worked examples of bare worlds that settle, computed from their definitions: the rounds, and what is noted of them.
use Rattle.world_laws.proofs.Words.{Busy, Controller, Deliver, Emit, End, Entry, Host, Line, Link, List, None, Send, Took, [], bare_link, end_of, entries_of}
use Rattle.world_laws.proofs.Words.{events_at, link_after_lines, refl, rounds_to_settle, settling_causes, ℕ, ◌∷◌, ◌≡◌}
use Rattle.trace_model.specs.declared.entry.Entry.TheVariants.{Acked}
use Rattle.trace_model.specs.declared.line.Line.TheVariants.{Lose}

abbrev end_c : End
end_c = end_of 2 Controller

abbrev end_h : End
end_h = end_of 2 Host

-- how many rounds the link with the host 02 goes through behind these lines, and what is noted of them, where it settles with n at most
abbrev settled_behind : List Line → ℕ → ℕ × List Entry
settled_behind lines n = from (link_after_lines 2 bare_link lines) where
  from : Link → ℕ × List Entry
  from l = (rounds_to_settle n 2 l, entries_of (events_at 2 l (settling_causes n 2 l)))

-- a link on which nothing happened is at rest
nothing_to_settle : settled_behind [] 5 ≡ (0, [])
nothing_to_settle = refl

-- an end that isn't ready doesn't accept what comes, and the link comes to no rest
busy_end_settles_nothing : settled_behind (Busy end_c ∷ Send end_h 1 (3 ∷ []) ∷ []) 5 ≡
    (5, Took end_c (128 ∷ 129 ∷ 3 ∷ []) ∷ Emit end_c (208 ∷ []) ∷ Took end_h (208 ∷ []) ∷ [])
busy_end_settles_nothing = refl

-- an acknowledgement is lost: the frame is sent again after ten ticks, and acknowledged in the round behind them
lost_acknowledgement_settles : settled_behind (Send end_h 1 (3 ∷ []) ∷ Deliver end_c None ∷ Lose end_h ∷ []) 48 ≡ (
  11,
  Emit end_h (128 ∷ 129 ∷ 3 ∷ []) ∷
      Took end_c (128 ∷ 129 ∷ 3 ∷ []) ∷
      Emit end_c (193 ∷ []) ∷
      Took end_h (193 ∷ []) ∷
      Acked end_h 0 1 ∷ [],
)
lost_acknowledgement_settles = refl
