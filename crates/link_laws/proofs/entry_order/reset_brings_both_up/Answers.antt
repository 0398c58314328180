use Rattle.link_laws.proofs.entries.Hearing.{settled}
use Rattle.link_laws.proofs.entry_order.reset_brings_both_up.Goals as goal

pub returns : goal.returns
returns c = settled
