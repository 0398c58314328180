use Rattle.std.proofs.Common.{◌≡◌, drop}
use Rattle.history.specs.Damage.{flipped_at}
use Rattle.link_wires.proofs.damage.flip_all.Given as goal

abbrev pub invariant-loop-place : goal.invariant-loop-place
invariant-loop-place l = flipped_at l.places l.initial.bits ≡ flipped_at (drop l.place-index l.places) l.bits
