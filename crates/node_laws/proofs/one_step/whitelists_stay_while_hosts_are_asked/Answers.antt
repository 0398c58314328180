use Rattle.node_laws.proofs.steps.StepWalks.{whitelist_left, whitelists_stay}
use Rattle.node_laws.proofs.one_step.whitelists_stay_while_hosts_are_asked.Goals as goal

pub returns : goal.returns
returns c = record { left = whitelist_left; committed = whitelists_stay }
