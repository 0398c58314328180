use Rattle.std.proofs.Common.{◌≡◌, ◌<◌, ◌^◌}
use Rattle.gate_admin.specs.View.{mask_of}
use Rattle.gate_admin.specs.Decide.{shares}
use Rattle.gate_admin.proofs.ViewLemmas.{hosts_below}
use Rattle.gate_admin.proofs.pipes.sharing_mask.Given as goal

abbrev pub invariant-loop-other : goal.invariant-loop-other
invariant-loop-other l = (l.mask ≡ mask_of (hosts_below (shares l.tables l.view l.host) l.other)) × (l.mask < 2 ^ l.other)
