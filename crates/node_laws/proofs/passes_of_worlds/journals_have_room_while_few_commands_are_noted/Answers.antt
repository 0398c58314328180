use Rattle.node_laws.proofs.reply_passes.Roomy.{comes_room, history_grown, tick_room}
use Rattle.node_laws.proofs.passes_of_worlds.journals_have_room_while_few_commands_are_noted.Goals as goal

pub returns : goal.returns
returns c = record {
  memory = λ header lines t follows are sent few front back parts. history_grown header lines t follows are sent few front back parts;
  comes = λ header lines t follows are sent few front back parts w is r runs h comes i v reached most.
      comes_room header lines t follows are front back parts w is r runs sent few h comes i v reached most;
  ticks = λ header lines t follows are sent few front back parts w is r runs v reached most.
      tick_room header lines t follows are front back parts w is r runs sent few v reached most;
}
