use Rattle.node_laws.proofs.telling.Events.{host_does_step}
use Rattle.node_laws.proofs.links_told.steps_of_a_host_tell_of_its_link.Goals as goal

pub returns : goal.returns
returns c = record {
  own = λ w s r k comes i orderly found runs q. (host_does_step w s r k orderly found runs comes i q).own;
  others = λ w s r k comes i orderly found runs q. (host_does_step w s r k orderly found runs comes i q).others;
}
