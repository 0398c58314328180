use Rattle.node_deeds.proofs.Words.{Handling, deeds_shown, drop, lack_by, length, needs, slice_index, ℕ, ◌≡◌}
use Rattle.node_deeds.proofs.room.lack.Given as goal

abbrev pub invariant-loop-deed : goal.invariant-loop-deed
invariant-loop-deed l =
    (a : Handling) → length a.message.1 ≡ l.len
    → lack_by (λ (h : ℕ). slice_index l.spares h) (needs l.host (deeds_shown a l.deeds))
    ≡ lack_by (λ (h : ℕ). slice_index l.spares h) (needs l.host (deeds_shown a (drop l.deed-index l.deeds)))
