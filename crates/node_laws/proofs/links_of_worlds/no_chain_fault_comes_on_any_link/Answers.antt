use Rattle.node_laws.proofs.links.Blocks.{none_at_controller, none_at_host}
use Rattle.node_laws.proofs.links_of_worlds.no_chain_fault_comes_on_any_link.Goals as goal

pub returns : goal.returns
returns c = record { controller = none_at_controller; host = none_at_host }
