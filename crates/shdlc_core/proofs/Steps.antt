-- What the machine does with a frame whose number is valid.
use Rattle.shdlc_core.proofs.Words.{EndState, Fragment, I, LinkState, None, Option, Rej, Rnr, Rr, S, Some, Taken, Up, Waiting, acknowledged, arith, false}
use Rattle.shdlc_core.proofs.Words.{fragment_accepted, is_waiting, made_busy, place_of, ready_again, received, rejected, reset_with, take_answer, taken}
use Rattle.shdlc_core.proofs.Words.{waiting_from, ℕ, ◌-◌, ◌≡◌}
use denote.Enum.Bare.{sameb}
use Rattle.shdlc_core.specs.contracts.answers.LinkState.{the_type}
use Rattle.shdlc_core.specs.Machine.{nothing_taken}

pub taken-fragment : (e : EndState) (ns nr : ℕ) (info : Fragment) (x : ℕ) → e.phase ≡ Up → place_of e.session nr ≡ Some x →
    taken e (I ns nr info) ≡ received (acknowledged e x) ns info
taken-fragment e ns nr info x up at = rw (up, at)

pub take_answer-fragment : (e : EndState) (ns nr : ℕ) (info : Fragment) (x : ℕ) → e.phase ≡ Up → place_of e.session nr ≡ Some x →
    take_answer e (I ns nr info) ≡ record nothing_taken { acked = x - e.session.acked; accepted = fragment_accepted e ns info }
take_answer-fragment e ns nr info x up at = rw (up, at)

pub taken-rr : (e : EndState) (nr x : ℕ) → e.phase ≡ Up → place_of e.session nr ≡ Some x → taken e (S Rr nr) ≡ ready_again e x
taken-rr e nr x up at = rw (up, at)

pub taken-rej : (e : EndState) (nr x : ℕ) → e.phase ≡ Up → place_of e.session nr ≡ Some x → taken e (S Rej nr) ≡ rejected e x
taken-rej e nr x up at = rw (up, at)

pub taken-rnr : (e : EndState) (nr x : ℕ) → e.phase ≡ Up → place_of e.session nr ≡ Some x → taken e (S Rnr nr) ≡ made_busy e x
taken-rnr e nr x up at = rw (up, at)

-- the answer to a frame that acknowledges so many fragments and brings this one
pub answer-acked : (t : Taken) (count more : ℕ) (found info : Option Fragment) →
    t ≡ record { ended = None; began = false; acked = 0; accepted = None } → count ≡ more → found ≡ info →
    record t { acked = count; accepted = found } ≡ record nothing_taken { acked = more; accepted = info }
answer-acked t count more found info p q r = rw (p, q, r)

is_waiting-other : (e : EndState) (p : LinkState) → p ≡ e.phase → sameb the_type p Waiting ≡ false → is_waiting e ≡ false
is_waiting-other e p q h = grind arith

-- a reset in another state than Waiting
pub reset_with-other : (e : EndState) (p : LinkState) (w : ℕ) → p ≡ e.phase → sameb the_type p Waiting ≡ false →
    reset_with e w ≡ waiting_from (record e { own_window = w })
reset_with-other e p w q h = let other = is_waiting-other e p q h in rw other
