use Rattle.told_laws.proofs.texts.ShownLemmas.{host_is_unknown}
use Rattle.told_laws.proofs.texts_apart.a_refused_host_is_unknown.Goals as goal

pub returns : goal.returns
returns c = host_is_unknown
