-- A run is that of its bytes.
use Rattle.one_end.proofs.Running.{is_run_of}
use Rattle.one_end.proofs.laws.a_run_is_that_of_its_bytes.Goals as goal

pub returns : goal.returns
returns g c is_clf content first stopped bytes written is b = is_run_of g.N.Nv.writes is_clf content first c.args.end.now stopped bytes written is b
