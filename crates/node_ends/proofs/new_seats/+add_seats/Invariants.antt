use Rattle.std.proofs.Common.{length}
use Rattle.node_ends.proofs.new_seats.+add_seats.Given as goal

abbrev pub decreases-add_seats : goal.decreases-add_seats
decreases-add_seats l = length l.hosts.now
