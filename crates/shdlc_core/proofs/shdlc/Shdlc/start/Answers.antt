use Rattle.shdlc_core.proofs.Words.{ShdlcStandsFor, refl, subst, sym}
use Rattle.shdlc_core.proofs.shdlc.Shdlc.start.Goals as goal

pub returns-clause-stands : goal.returns-clause-stands
returns-clause-stands c = λ e h.
    let stood = subst (λ k. ShdlcStandsFor k e) (sym c.self.view_is) h in
    record {
      phase = refl;
      own_window = stood.own_window;
      ready = stood.ready;
      due = stood.due;
      timer = refl;
      tries = refl;
      peer_window = stood.peer_window;
      sender = c.restart.ensures;
      receiver = c.new-self-inside.ensures c.args.window;
    }
