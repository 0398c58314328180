use Rattle.node_laws.proofs.replies.Passes.{lack_so, noted_read}
use Rattle.node_laws.proofs.replies_of_histories.what_is_lacked_and_noted_is_read.Goals as goal

pub returns : goal.returns
returns c = record {
  lacks = λ hosts are t w a ends room names m same h message. lack_so hosts are t w a ends room names m same h message;
  notes = λ hosts are t w k m same h host message. noted_read hosts are t w k h host message m same;
}
