use Rattle.told_laws.proofs.Words.{IsEntry, entries_told}
use Rattle.told_laws.proofs.told.BarePlays.{bare_told_in, each_all}
use Rattle.told_laws.proofs.told_in_range.what_is_told_is_in_its_range.Goals as goal

pub returns : goal.returns
returns c = λ header plays t is may most follows. each_all IsEntry (entries_told t) (bare_told_in header is plays t may most follows)
