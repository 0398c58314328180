use Rattle.node_laws.proofs.links.Blocks.{to_controller, to_host}
use Rattle.node_laws.proofs.links_of_worlds.messages_come_in_order_on_each_link.Goals as goal

pub returns : goal.returns
returns c = record { to_host = to_host; to_controller = to_controller }
