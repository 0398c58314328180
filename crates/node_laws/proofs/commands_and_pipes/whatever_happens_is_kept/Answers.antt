use Rattle.node_laws.proofs.kept.Ticking.{all_begin, world_goes}
use Rattle.node_laws.proofs.commands_and_pipes.whatever_happens_is_kept.Goals as goal

pub returns : goal.returns
returns c = record { begin = all_begin; event = λ hosts t w happening are keep may few. (world_goes hosts are t w happening keep may few).keep }
