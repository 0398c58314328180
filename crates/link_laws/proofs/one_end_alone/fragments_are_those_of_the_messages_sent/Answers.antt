use Rattle.link_laws.proofs.machine.Runs.{fragments_are}
use Rattle.link_laws.proofs.one_end_alone.fragments_are_those_of_the_messages_sent.Goals as goal

pub returns : goal.returns
returns c = fragments_are
