use Rattle.node_laws.proofs.creations.Events.{begin_keeps, event_keeps, history_keeps}
use Rattle.node_laws.proofs.waiting_creations.the_controller_keeps_the_creations_that_are_read.Goals as goal

pub returns : goal.returns
returns c = record { begin = begin_keeps; event = event_keeps; read = λ hosts t w a. a.read; histories = history_keeps }
