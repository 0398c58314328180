use Rattle.link_laws.proofs.machine.Runs.{inactive_sends, inactive_takes}
use Rattle.link_laws.proofs.one_end_alone.inactive_end_has_activation_alone.Goals as goal

pub returns-clause-takes : goal.returns-clause-takes
returns-clause-takes c = inactive_takes

pub returns-clause-sends : goal.returns-clause-sends
returns-clause-sends c = inactive_sends
