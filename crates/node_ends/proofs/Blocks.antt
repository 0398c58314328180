-- How many blocks are set aside at an end, from input to input: only what its node does to it changes that.
use Rattle.node_ends.proofs.Words.{Bool, EndState, Give, LinkInput, Machine, Message, after_input, arith, frame_fetched, moved, true, turn, ◌≡◌}
use Rattle.node_ends.proofs.Apart.{is_outside}

moved_aside : (e : Machine) (b : Bool) (s : EndState) → (moved e b s).aside ≡ e.aside
moved_aside e b s = grind arith

-- what comes from outside
pub outside_aside : (e : Machine) (i : LinkInput) → is_outside i ≡ true → (after_input e i).aside ≡ e.aside
outside_aside e i out = grind arith

pub fetched_aside : (e : Machine) → (frame_fetched e).aside ≡ e.aside
fetched_aside e = grind arith

pub give_aside : (e : Machine) (m : Message) → (turn e (Give m)).aside ≡ e.aside
give_aside e m = grind arith
