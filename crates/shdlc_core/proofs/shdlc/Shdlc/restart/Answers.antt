use Rattle.shdlc_core.proofs.Words.{ShdlcStandsFor, [], ap, min, subst, sym, up_with, ◌++◌, ◌∙◌, ◌∷◌}
use Rattle.shdlc_core.specs.declared.answers.Due.TheVariants.{Ua}
use Rattle.shdlc_core.specs.Machine.{due_left}
use Rattle.shdlc_core.proofs.shdlc.Shdlc.restart.Goals as goal

pub returns-clause-stands : goal.returns-clause-stands
returns-clause-stands c = λ e h.
    let answered = record e { due = due_left e.phase e.due ++ Ua ∷ [] } in
    let window = c.min-window.ensures ∙ ap (λ w. min w c.args.peer_window) (subst (λ k. ShdlcStandsFor k e) (sym c.self.view_is) h).own_window in
    subst (λ w. ShdlcStandsFor c.start.new.self (up_with answered w)) window
    (c.start.ensures.stands answered (c.make.ensures.stands _ (c.drop_frames.ensures.stands e h)))
