use Rattle.node_laws.proofs.Words.{◌++◌}
use Rattle.node_laws.proofs.replies.Passes.{known_so, reply_so, up_by_links}
use Rattle.node_laws.proofs.replies_of_histories.what_is_read_is_known.Goals as goal

pub returns : goal.returns
returns c = record {
  knows = λ hosts are t w a links room names m same h.
      known_so hosts are t w a (up_by_links hosts (t ++ w.entries) w.ports a.hosts_are links) room names m same h;
  replies = λ hosts are t w a links room names m same h message.
      reply_so hosts are t w a (up_by_links hosts (t ++ w.entries) w.ports a.hosts_are links) room names m same h message;
}
