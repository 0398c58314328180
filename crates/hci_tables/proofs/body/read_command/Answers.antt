use Rattle.std.proofs.Common.{arith}
use Rattle.hci_tables.specs.Bodies.{spelled_by}
use Rattle.hci_tables.proofs.BodyLemmas.{recordable_if, written_if}
use Rattle.hci_tables.proofs.body.read_command.Goals as goal

pub returns-clause-recordable : goal.returns-clause-recordable
returns-clause-recordable c = recordable_if (spelled_by c.args.body.now) c.command_of.result c.command_of.ensures

pub returns-clause-written_again : goal.returns-clause-written_again
returns-clause-written_again c =
    written_if c.args.body.now c.command_of.result (λ k. let fits = c.type_inv.body k in omega arith) c.command_of.ensures
