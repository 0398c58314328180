use Rattle.told_laws.proofs.texts.ShownLemmas.{read_in}
use Rattle.told_laws.proofs.texts_apart.a_read_line_is_in_its_range.Goals as goal

pub returns : goal.returns
returns c = read_in
