use Rattle.node_laws.proofs.reply_passes.Roomy.{comes_are_replied, comes_begins, tick_begins, ticks_are_replied}
use Rattle.node_laws.proofs.passes_of_worlds.each_pass_of_the_controller_replies_as_is_read.Goals as goal

pub returns : goal.returns
returns c = record {
  comes = λ header lines t follows are seven sent few playable front back parts asked w is r runs h comes i input.
      comes_begins header lines t follows are seven sent few front back parts asked playable w is r runs h comes i input;
  ticks = λ header lines t follows are seven sent few playable front back parts asked w is r runs.
      tick_begins header lines t follows are seven sent few front back parts asked playable w is r runs;
  comes_replied = λ header lines t follows are seven sent few playable front back parts asked w is r runs h comes i input on.
      comes_are_replied header lines t follows are seven sent few front back parts asked playable w is r runs h comes i input on;
  ticks_replied = λ header lines t follows are seven sent few playable front back parts asked w is r runs on.
      ticks_are_replied header lines t follows are seven sent few front back parts asked playable w is r runs on;
}
