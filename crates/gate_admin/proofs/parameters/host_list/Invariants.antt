use Rattle.std.proofs.Common.{◌≡◌, ◌≤◌, ◌∷◌, length}
use Rattle.gate_admin.specs.View.{is_configured}
use Rattle.gate_admin.proofs.ViewLemmas.{hosts_below}
use Rattle.gate_admin.proofs.parameters.host_list.Given as goal

abbrev pub invariant-loop-host : goal.invariant-loop-host
invariant-loop-host l = (l.hosts.items ≡ 0 ∷ hosts_below (is_configured l.view) l.host) × (length l.hosts.items ≤ l.host)
