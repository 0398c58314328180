use Rattle.node_laws.proofs.cuts.Histories.{boots_write_so, commands_write_so, snapshot_writes, two_writes}
use Rattle.node_laws.proofs.power_cuts.commands_and_boots_make_so_many_writes.Goals as goal

pub returns : goal.returns
returns c = record { fits = two_writes; snapshot = snapshot_writes; boots = boots_write_so; commands = commands_write_so }
