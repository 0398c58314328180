use Rattle.shdlc_core.proofs.Words.{ShdlcStandsFor, refl, subst, sym, ◌∙◌}
use Rattle.shdlc_core.proofs.Steps.{reset_with-other}
use Rattle.shdlc_core.proofs.shdlc.Shdlc.reset.Goals as goal

pub returns-clause-stands : goal.returns-clause-stands
returns-clause-stands c = λ e h.
    let stood = subst (λ k. ShdlcStandsFor k e) (sym c.self.view_is) h in
    subst (ShdlcStandsFor c.wait.new.self) (sym (reset_with-other e c.self.inside.phase c.args.window stood.phase (sym c.eq.ensures ∙ c.if-eq.false)))
    (c.wait.ensures.stands (record e { own_window = c.args.window }) (record {
      phase = stood.phase;
      own_window = refl;
      ready = stood.ready;
      due = stood.due;
      timer = stood.timer;
      tries = stood.tries;
      peer_window = stood.peer_window;
      sender = stood.sender;
      receiver = stood.receiver;
    }))
