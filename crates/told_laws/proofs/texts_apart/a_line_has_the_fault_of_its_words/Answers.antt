use Rattle.told_laws.proofs.texts.ShownLemmas.{fault_iff}
use Rattle.told_laws.proofs.texts_apart.a_line_has_the_fault_of_its_words.Goals as goal

pub returns : goal.returns
returns c = fault_iff
