use Rattle.node_core.proofs.Words.{has, hosts_below, length, ◌+◌, ◌≡◌, ◌≤◌}
use Rattle.node_core.proofs.hosts.hosts_of.Given as goal

abbrev pub invariant-loop-host : goal.invariant-loop-host
invariant-loop-host l = (l.hosts.items ≡ hosts_below (has l.mask) l.host) × (length l.hosts.items + 1 ≤ l.host)
