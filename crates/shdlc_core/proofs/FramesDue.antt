-- What the frame that is sent now carries.
use Rattle.shdlc_core.proofs.Words.{CarriesNr, Control, EndState, Fragment, I, Some, arith, fragment_due, frame_due, ℕ, ◌%◌, ◌≡◌}
use Rattle.shdlc_core.specs.Machine.{expected}

-- each N(R) is the number expected
pub frame-nr : (e : EndState) (c : Control) → frame_due e ≡ Some c → CarriesNr (expected e.session) c
frame-nr e c f = grind arith

-- the fragment sent next, and its number
abbrev IsFragment : EndState → ℕ → Fragment → Type 0
IsFragment e ns info = (fragment_due e.session ≡ Some info) × (ns ≡ e.session.next % 8)

pub frame-fragment : (e : EndState) (ns nr : ℕ) (info : Fragment) → frame_due e ≡ Some (I ns nr info) → IsFragment e ns info
frame-fragment e ns nr info f = grind arith
