use Rattle.node_laws.proofs.links.Blocks.{delivered_to_controller, delivered_to_host}
use Rattle.node_laws.proofs.links_of_worlds.quiet_links_have_delivered_all.Goals as goal

pub returns : goal.returns
returns c = record { to_host = delivered_to_host; to_controller = delivered_to_controller }
