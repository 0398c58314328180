-- An end at which nothing is under way.
use Rattle.link_end.proofs.Words.{End, EndStandsFor, EndState, Fragment, KeptEnd, List, Machine, PoolState, ShdlcStandsFor, StandsBefore, [], ap, append-nil}
use Rattle.link_end.proofs.Words.{arith, inl, inr, is_open, length, subst, sym, tick_answer, ticked, true, with_out, ◌++◌, ◌+◌, ◌∙◌, ◌≡◌, ◌⊎◌}
use Rattle.shdlc_core.specs.Machine.{all_fetched, all_frames, nothing_ticked}
use Rattle.link_end.specs.Idle.{IsIdle}

-- where all that was offered is acknowledged no fragment waits, and what is kept stands for the machine itself
pub stands_whole : (k : KeptEnd) (waiting : List Fragment) (e : EndState) (h : StandsBefore k waiting e)
    → (waiting ≡ []) ⊎ (length h.offered ≡ e.session.acked + 4) → k.sender.queue ≡ [] → ShdlcStandsFor k e
stands_whole k waiting e h full empty =
    elim full [
      | inl none ↦
          subst (λ (o : List Fragment). ShdlcStandsFor k (with_out e o)) (sym (h.out ∙ (ap (λ w. h.offered ++ w) none ∙ append-nil h.offered))) h.kept
      | inr four ↦ absurd (omega (arith, four, h.kept.sender.offered, ap length empty))
    ]

pub idle_end : (k : End) (pool : PoolState) (m : Machine) → EndStandsFor k pool m → is_open m.role ≡ true → k.acts.items ≡ []
    → ticked m.shdlc ≡ m.shdlc → tick_answer m.shdlc ≡ nothing_ticked → all_frames m.shdlc ≡ [] → all_fetched m.shdlc ≡ m.shdlc → IsIdle m
idle_end k pool m h open_is none same answer frames fetched = grind arith
