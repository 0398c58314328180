use Rattle.link_laws.proofs.entries.Disturbing.{no_chain_noted}
use Rattle.link_laws.proofs.entry_order.no_chain_fault_is_noted.Goals as goal

pub returns : goal.returns
returns c = no_chain_noted
