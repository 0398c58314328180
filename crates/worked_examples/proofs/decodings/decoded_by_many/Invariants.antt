use Rattle.std.proofs.Common.{length}
use Rattle.worked_examples.proofs.decodings.decoded_by_many.Given as goal

abbrev pub decreases-many : goal.decreases-many
decreases-many g l = length l.left
