use Rattle.std.proofs.Common.{◌≡◌}
use Rattle.std.specs.List.{filter, list_any}
use Rattle.gate_admin.specs.View.{is_noticed, hosts_where}
use Rattle.gate_admin.specs.Decide.{shares}
use Rattle.gate_admin.proofs.ViewLemmas.{hosts_from}
use Rattle.gate_admin.proofs.pipes.is_one_noticed.Given as goal

abbrev pub invariant-loop-other : goal.invariant-loop-other
invariant-loop-other l =
    let test = shares l.tables l.view l.host in
    list_any (is_noticed l.view) (hosts_where test) ≡ list_any (is_noticed l.view) (filter test (hosts_from l.other))
