use Rattle.swp_base.specs.declared.link_terms.Role.TheVariants.{Clf}
use Rattle.worked_nodes.proofs.Fetching.{new_sent}
use Rattle.worked_nodes.proofs.library.FrontEnd.boot.Goals as goal

pub invariant_of-result : goal.invariant_of-result
invariant_of-result g c live = record { core = _; ports = _; runs = c.in-Ok.ensures.runs; sent = new_sent Clf _ }
