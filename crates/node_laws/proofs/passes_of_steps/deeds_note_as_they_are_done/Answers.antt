use Rattle.node_laws.proofs.passes.InSteps.{deeds_note_of_notes as deeds_note}
use Rattle.node_laws.proofs.passes_of_steps.deeds_note_as_they_are_done.Goals as goal

pub returns : goal.returns
returns c = record { noted = deeds_note }
