use Rattle.schedule_text.proofs.Names.{byte_value, each_word, length, option_map, words, ◌++◌, ◌+◌, ◌≡◌, ◌≤◌}
use Rattle.schedule_text.proofs.read.hosts_in.Given as goal

abbrev pub invariant-words : goal.invariant-words
invariant-words l =
    (each_word byte_value (words l.rest) ≡ option_map (λ more. l.hosts.items ++ more) (each_word byte_value (words l.left)))
    × (length l.hosts.items + length (words l.left) ≤ 7)

abbrev pub decreases-words : goal.decreases-words
decreases-words l = length l.left
