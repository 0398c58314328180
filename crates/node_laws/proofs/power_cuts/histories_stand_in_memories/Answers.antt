use Rattle.node_laws.proofs.cuts.Histories.{stands_in_memories, memories_hold}
use Rattle.node_laws.proofs.power_cuts.histories_stand_in_memories.Goals as goal

pub returns : goal.returns
returns c = record { stands = stands_in_memories; holds = memories_hold }
