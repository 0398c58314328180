use Rattle.node_laws.proofs.worlds.Schedules.{schedule_replies}
use Rattle.node_laws.proofs.replies_of_hosts.hosts_reply_as_is_read.Goals as goal

pub returns : goal.returns
returns c = record { replied = schedule_replies }
