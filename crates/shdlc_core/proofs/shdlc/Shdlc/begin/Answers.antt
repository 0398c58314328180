use Rattle.shdlc_core.proofs.Words.{ShdlcStandsFor, [], subst, sym, up_with}
use Rattle.shdlc_core.proofs.shdlc.Shdlc.begin.Goals as goal

pub returns : goal.returns
returns c = λ e h.
    let stood = subst (λ k. ShdlcStandsFor k e) (sym c.self.view_is) h in
    let cleared = record e { due = [] } in
    subst (λ w. ShdlcStandsFor c.start.new.self (up_with cleared w)) stood.own_window
    (c.start.ensures.stands cleared (record {
      phase = stood.phase;
      own_window = stood.own_window;
      ready = stood.ready;
      due = c.clear.ensures;
      timer = stood.timer;
      tries = stood.tries;
      peer_window = stood.peer_window;
      sender = stood.sender;
      receiver = stood.receiver;
    }))
