use Rattle.journal_laws.proofs.Planned.{made_whole, made_in_part}
use Rattle.journal_laws.proofs.made_writes_are_told.Goals as goal

pub returns : goal.returns
returns g c = record {
  whole = λ writes old new tells made. made_whole g.N.Nv.writes g.N.Nv.content
      (λ m at bytes ok n step. g.met.N.Nv.told m at bytes ok n tells step) writes old new made;
  cut = λ writes old new tells made. made_in_part g.N.Nv.writes g.N.Nv.content
      (λ m at bytes ok n step. g.met.N.Nv.told m at bytes ok n tells step) writes old new made;
}
