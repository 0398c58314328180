use Rattle.node_laws.proofs.schedules.Ranges.{hosts_are, playable, sent_by_hosts, inits_of_hosts}
use Rattle.node_laws.proofs.histories_of_schedules.lines_in_their_ranges_can_be_played.Goals as goal

pub returns-clause-hosts : goal.returns-clause-hosts
returns-clause-hosts c = hosts_are

pub returns-clause-playable : goal.returns-clause-playable
returns-clause-playable c = playable

pub returns-clause-sent : goal.returns-clause-sent
returns-clause-sent c = sent_by_hosts

pub returns-clause-inits : goal.returns-clause-inits
returns-clause-inits c = inits_of_hosts
