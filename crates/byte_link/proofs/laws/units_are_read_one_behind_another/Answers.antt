use Rattle.byte_link.proofs.ReadAgain.{all_are_read, lpdus_are_read}
use Rattle.byte_link.proofs.laws.units_are_read_one_behind_another.Goals as goal

pub returns-clause-each : goal.returns-clause-each
returns-clause-each c = all_are_read

pub returns-clause-lpdus : goal.returns-clause-lpdus
returns-clause-lpdus c = lpdus_are_read
