use Rattle.link_laws.proofs.messages.RsetNumbers.{made_by_event, numbers_of_run, resets_of_run}
use Rattle.link_laws.proofs.resets_of_links.rsets_of_a_link_come_of_ticks_and_resets.Goals as goal

pub returns-clause-made : goal.returns-clause-made
returns-clause-made c = made_by_event

pub returns-clause-put : goal.returns-clause-put
returns-clause-put c = resets_of_run

pub returns-clause-numbers : goal.returns-clause-numbers
returns-clause-numbers c = numbers_of_run
