use Rattle.link_end.proofs.Words.{kept_nearer, map, take, ◌≡◌}
use Rattle.link_end.proofs.acts.bring_nearer.Given as goal

abbrev pub invariant-loop-act : goal.invariant-loop-act
invariant-loop-act l = l.moved.items ≡ map kept_nearer (take l.act-index l.act-items)
