use Rattle.schedule_text.proofs.Names.{bit_places, length, option_map, words, ◌++◌, ◌+◌, ◌≡◌, ◌≤◌}
use Rattle.schedule_text.proofs.read.places_in.Given as goal

abbrev pub invariant-words : goal.invariant-words
invariant-words l =
    (bit_places (words l.rest) ≡ option_map (λ more. l.places.items ++ more) (bit_places (words l.left)))
    × (length l.places.items + length (words l.left) ≤ 16)

abbrev pub decreases-words : goal.decreases-words
decreases-words l = length l.left
