use Rattle.shdlc_core.proofs.Words.{ShdlcStandsFor, refl, subst, sym, waiting_from}
use Rattle.shdlc_core.proofs.shdlc.Shdlc.wait.Goals as goal

pub returns-clause-stands : goal.returns-clause-stands
returns-clause-stands c = λ e h.
    let entered = c.enter.ensures.stands _ (c.make.ensures.stands _ (c.drop_frames.ensures.stands e h)) in
    let waits = subst (λ k. ShdlcStandsFor k (record (waiting_from e) { tries = 0; peer_window = e.peer_window })) (sym c.self.view_is) entered in
    record {
      phase = waits.phase;
      own_window = waits.own_window;
      ready = waits.ready;
      due = waits.due;
      timer = waits.timer;
      tries = refl;
      peer_window = refl;
      sender = waits.sender;
      receiver = waits.receiver;
    }
