use Rattle.std.proofs.Common.{◌≡◌, ◌++◌}
use Rattle.std.specs.Vec.Iter.{into_iter_items, into_iter_len}
use Rattle.swp_os.proofs.start.words.Given as goal

-- the words that are taken and those that are left are those behind the name
abbrev pub invariant-words : goal.invariant-words
invariant-words l = l.words.items ++ into_iter_items l.left ≡ into_iter_items l.initial.left

abbrev pub decreases-words : goal.decreases-words
decreases-words l = into_iter_len l.left
