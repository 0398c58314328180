use Rattle.schedule_text.proofs.Names.{length, words, ◌+◌, ◌≡◌, ◌≤◌}
use Rattle.schedule_text.proofs.rules.count_words.Given as goal

abbrev pub invariant-words : goal.invariant-words
invariant-words l = (length (words l.rest) ≡ l.count + length (words l.left)) × (l.count + length l.left ≤ length l.rest)

abbrev pub decreases-words : goal.decreases-words
decreases-words l = length l.left
