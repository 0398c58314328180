use Rattle.link_laws.proofs.entries.Seeing.{read_off}
use Rattle.link_laws.proofs.entry_order.wires_and_numbers_are_read_off.Goals as goal

pub returns : goal.returns
returns c = read_off
