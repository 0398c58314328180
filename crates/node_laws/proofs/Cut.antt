-- What is done unless a node has lost its power: what holds where it has, and where it hasn't, holds of both. What it is then.
use Rattle.std.proofs.Common.{arith, ◌≡◌, true, false, map, Some, None, refl}
use Rattle.node_machine.specs.Parts.{Port, Running, Work}
use Rattle.node_machine.specs.Carrying.{unless_cut}
use Rattle.node_machine.specs.world.World.{runs_on}

pub unless_on : (f : Work → Work) (w : Work) → w.cut ≡ false → unless_cut f w ≡ f w
unless_on f w e = rw e refl

pub unless_off : (f : Work → Work) (w : Work) → w.cut ≡ true → unless_cut f w ≡ w
unless_off f w e = rw e refl

pub by_cut : (P : Work → Type 0) (f : Work → Work) (w : Work) → (w.cut ≡ true → P w) → (w.cut ≡ false → P (f w)) → P (unless_cut f w)
by_cut P f w off on = grind arith

-- a node that still runs, as its work leaves it
abbrev pub left_running : Work → Running
left_running w = record { core = w.core; desks = map (λ (p : Port). p.desk) w.ports }

pub runs_left : (w : Work) → w.cut ≡ false → runs_on w ≡ Some (left_running w)
runs_left w e = rw e refl

pub runs_none : (w : Work) → w.cut ≡ true → runs_on w ≡ None
runs_none w e = rw e refl
