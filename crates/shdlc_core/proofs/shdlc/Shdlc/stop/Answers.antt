use Rattle.shdlc_core.proofs.Words.{ShdlcStandsFor, [], subst, sym}
use Rattle.shdlc_core.proofs.shdlc.Shdlc.stop.Goals as goal

pub returns-clause-stands : goal.returns-clause-stands
returns-clause-stands c = λ e h.
    let stood = subst (λ k. ShdlcStandsFor k e) (sym c.self.view_is) h in
    c.enter.ensures.stands (record e { due = [] }) (record {
      phase = stood.phase;
      own_window = stood.own_window;
      ready = stood.ready;
      due = c.clear.ensures;
      timer = stood.timer;
      tries = stood.tries;
      peer_window = stood.peer_window;
      sender = stood.sender;
      receiver = stood.receiver;
    })
