use Rattle.node_laws.proofs.replies.Waiting.{comes_replied, tick_replied}
use Rattle.node_laws.proofs.replies_of_histories.passes_of_histories_reply_as_is_read.Goals as goal

pub returns : goal.returns
returns c = record {
  comes = λ header lines t follows are playable sent few front back parts w is r runs h comes i input on begins.
      comes_replied header lines t follows are playable sent few front back parts w is r runs h comes i input on begins;
  ticks = λ header lines t follows are playable sent few front back parts w is r runs on begins.
      tick_replied header lines t follows are playable sent few front back parts w is r runs on begins;
}
