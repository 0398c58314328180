use Rattle.schedule_text.proofs.Names.{each_word, length, option_map, sized_value, words, ◌++◌, ◌+◌, ◌≡◌, ◌≤◌}
use Rattle.schedule_text.proofs.read.pipes_in.Given as goal

abbrev pub invariant-words : goal.invariant-words
invariant-words l =
    (each_word (sized_value 3) (words l.rest) ≡ option_map (λ more. l.pipes.items ++ more) (each_word (sized_value 3) (words l.left)))
    × (length l.pipes.items + length (words l.left) ≤ 8)

abbrev pub decreases-words : goal.decreases-words
decreases-words l = length l.left
