use Rattle.link_laws.proofs.messages.Runs.{no_chain_here, no_chain_there}
use Rattle.link_laws.proofs.message_order.no_chain_fault_comes.Goals as goal

pub returns-clause-controller : goal.returns-clause-controller
returns-clause-controller c = no_chain_here

pub returns-clause-host : goal.returns-clause-host
returns-clause-host c = no_chain_there
