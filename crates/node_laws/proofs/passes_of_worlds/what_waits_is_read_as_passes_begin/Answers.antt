use Rattle.node_laws.proofs.reply_passes.Roomy.{comes_wait, tick_waits}
use Rattle.node_laws.proofs.passes_of_worlds.what_waits_is_read_as_passes_begin.Goals as goal

pub returns : goal.returns
returns c = record {
  comes = λ header lines t follows are front back parts w is r runs h comes i input.
      comes_wait header lines t follows are front back parts w is r runs h comes i input;
  ticks = λ header lines t follows are front back parts w is r runs. tick_waits header lines t follows are front back parts w is r runs;
}
