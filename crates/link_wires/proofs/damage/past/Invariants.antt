use Rattle.link_wires.proofs.Words.{drop, if_beyond, ◌≡◌}
use Rattle.link_wires.proofs.damage.past.Given as goal

abbrev pub invariant-loop-place : goal.invariant-loop-place
invariant-loop-place l = if_beyond l.bits l.places ≡ if_beyond l.bits (drop l.place-index l.places)
