use Rattle.lone_laws.proofs.Words.{entries_of_events_alone}
use Rattle.node_laws.proofs.answers.Rules.{first_read}
use Rattle.lone_laws.proofs.answers_alone.messages_that_have_turns_are_the_first.Goals as goal

pub returns : goal.returns
returns c found h events answered front back e pid message at =
    first_read e (entries_of_events_alone events) front back pid message answered.in_turn at
