use Rattle.node_deeds.proofs.Words.{AreDoable, Handling, Tells, deeds_shown, has, hosts_below, length, map, ℕ, ◌++◌, ◌+◌, ◌≡◌}
use Rattle.node_deeds.proofs.replies.tell_hosts.Given as goal

abbrev pub invariant-loop-host : goal.invariant-loop-host
invariant-loop-host l = record {
  told : (a : Handling) → deeds_shown a l.deeds.items
      ≡ deeds_shown a l.initial.deeds.items ++ map (λ (host : ℕ). Tells host l.notice.items) (hosts_below (has l.tell) l.host);
  many : length l.deeds.items ≡ 3 + length (hosts_below (has l.tell) l.host);
  doable : AreDoable l.deeds.items;
}
