-- An end at which nothing is under way: a tick is nothing to it, and it sends no frame.
use Rattle.std.proofs.lemmas.Option.{slice_get_past}
use Rattle.shdlc_core.proofs.Words.{Bool, EndState, KeptEnd, None, Session, ShdlcStandsFor, Up, [], ap, arith, fetched, fragment_due, frame_due, if◌then◌else◌}
use Rattle.shdlc_core.proofs.Words.{length, nat_lt, not, refl, slice_get, suc, tick_answer, ticked, zero, ℕ, ◌&&◌, ◌+◌, ◌||◌, ◌∙◌, ◌≡◌}
use Rattle.shdlc_core.specs.Machine.{after_frames, frames_of, nothing_ticked}

-- it is Up, and all that was offered is acknowledged
pub record IsIdle (e : EndState) : Type 0 where
  pub up : e.phase ≡ Up
  pub due : e.due ≡ []
  pub next : e.session.next ≡ e.session.acked
  pub all : length e.session.out ≡ e.session.acked

pub idle_of : (k : KeptEnd) (e : EndState) → ShdlcStandsFor k e → k.phase ≡ Up → k.due ≡ [] → k.sender.queue ≡ [] → k.sender.sent ≡ 0 → IsIdle e
idle_of k e h up none empty unsent = grind arith

-- a tick is nothing
pub idle_ticked : (e : EndState) → IsIdle e → (ticked e ≡ e) × (tick_answer e ≡ nothing_ticked)
idle_ticked e h = grind arith

-- no fragment is to be sent
no_fragment : (s : Session) → s.next ≡ s.acked → length s.out ≡ s.acked → fragment_due s ≡ None
no_fragment s next all = go ((not s.peer_busy || s.probe) && nat_lt s.next (s.acked + s.window)) (slice_get_past s.out s.next (omega (arith, next, all)))
  where
    go : (b : Bool) → slice_get s.out s.next ≡ None → (if b then slice_get s.out s.next else None) ≡ None
    go b p = grind arith

no_frame : (e : EndState) → IsIdle e → (frame_due e ≡ None) × (fetched e ≡ e)
no_frame e h =
    let due = h.due in
    let none = no_fragment e.session h.next h.all in
    (rw (due, none) refl, rw (due, none) refl)

none_of : (n : ℕ) (e : EndState) → frame_due e ≡ None → frames_of n e ≡ []
none_of n e h = grind arith

same_after : (n : ℕ) (e : EndState) → fetched e ≡ e → after_frames n e ≡ e
same_after zero e h = refl
same_after (suc n) e h = ap (after_frames n) h ∙ same_after n e h

pub idle_frames : (n : ℕ) (e : EndState) → IsIdle e → (frames_of n e ≡ []) × (after_frames n e ≡ e)
idle_frames n e h = let f = no_frame e h in (none_of n e f.0, same_after n e f.1)
