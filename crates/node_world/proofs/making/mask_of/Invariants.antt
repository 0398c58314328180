use Rattle.node_world.proofs.Words.{hosts_below, list_any, mask_of, ℕ, ◌<◌, ◌==◌, ◌^◌, ◌≡◌}
use Rattle.node_world.proofs.making.mask_of.Given as goal

abbrev pub invariant-loop-host : goal.invariant-loop-host
invariant-loop-host l =
    (l.mask ≡ mask_of (hosts_below (λ (host : ℕ). list_any (λ (k : ℕ). k == host) l.hosts) l.host-counter)) × (l.mask < 2 ^ l.host-counter)
