use Rattle.node_laws.proofs.Words.{hosts_in}
use Rattle.node_laws.proofs.telling.Events.{controller_tells, node_is}
use Rattle.node_laws.proofs.links_told.steps_of_the_controller_tell_of_each_link.Goals as goal

pub returns : goal.returns
returns c = λ w r k comes i h s orderly q input found.
    rw q (controller_tells w r k comes h s orderly (node_is 0 (hosts_in w.sites) w.controller r orderly.controller q) found i input)
