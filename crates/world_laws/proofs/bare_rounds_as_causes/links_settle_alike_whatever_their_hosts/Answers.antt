use Rattle.world_laws.proofs.links.RoundCauses.{same_count, same_settling}
use Rattle.world_laws.proofs.bare_rounds_as_causes.links_settle_alike_whatever_their_hosts.Goals as goal

pub returns-clause-rounds : goal.returns-clause-rounds
returns-clause-rounds c = same_count

pub returns-clause-events : goal.returns-clause-events
returns-clause-events c = same_settling
