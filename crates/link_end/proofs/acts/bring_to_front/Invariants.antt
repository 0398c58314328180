use Rattle.link_end.proofs.Words.{kept_in_front, map, take, ◌≡◌}
use Rattle.link_end.proofs.acts.bring_to_front.Given as goal

abbrev pub invariant-loop-act : goal.invariant-loop-act
invariant-loop-act l = l.moved.items ≡ map kept_in_front (take l.act-index l.act-items)
