use Rattle.node_laws.proofs.passes.Waiting.{waiting_read}
use Rattle.node_laws.proofs.passes_of_steps.waiting_messages_are_read_at_turns.Goals as goal

pub returns : goal.returns
returns c = record { waits = λ w v h comes. waiting_read h w v comes }
