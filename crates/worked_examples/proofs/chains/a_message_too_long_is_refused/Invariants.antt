use Rattle.hcp_chain.specs.Holding.{IsJoinerReady}
use Rattle.worked_examples.proofs.chains.a_message_too_long_is_refused.Given as goal

abbrev pub invariant-loop-packet : goal.invariant-loop-packet
invariant-loop-packet g l = IsJoinerReady l.pool l.joiner
