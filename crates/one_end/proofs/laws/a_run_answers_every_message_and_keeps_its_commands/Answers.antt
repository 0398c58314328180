-- A run answers every message and keeps its commands.
use Rattle.one_end.proofs.Ran.{ran_answered}
use Rattle.one_end.proofs.laws.a_run_answers_every_message_and_keeps_its_commands.Goals as goal

pub returns : goal.returns
returns g c tells old first new stopped form is_clf bytes written taken boot run =
    ran_answered g.N.Nv.writes g.N.Nv.content (λ m at sent ok n step. g.met.N.Nv.told m at sent ok n tells step) g.N.Nv.reads old first new stopped form is_clf
    bytes written taken boot run
