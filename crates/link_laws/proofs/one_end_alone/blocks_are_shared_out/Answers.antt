use Rattle.link_laws.proofs.machine.Runs.{blocks}
use Rattle.link_laws.proofs.one_end_alone.blocks_are_shared_out.Goals as goal

pub returns : goal.returns
returns c = blocks
