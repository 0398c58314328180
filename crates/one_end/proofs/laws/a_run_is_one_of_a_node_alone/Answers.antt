-- A run is one of a node alone.
use Rattle.one_end.proofs.Ran.{ran_alone}
use Rattle.one_end.proofs.laws.a_run_is_one_of_a_node_alone.Goals as goal

pub returns : goal.returns
returns g c tells old first new stopped form is_clf bytes written taken boot run =
    ran_alone g.N.Nv.writes g.N.Nv.content (λ m at sent ok n step. g.met.N.Nv.told m at sent ok n tells step) g.N.Nv.reads old first new stopped form is_clf
    bytes written taken boot run
