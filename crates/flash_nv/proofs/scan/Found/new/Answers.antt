use Rattle.flash_nv.proofs.Words.{Map, ap}
use Rattle.flash_nv.proofs.ScanLemmas.{found_none}
use Rattle.flash_nv.proofs.scan.Found.new.Goals as goal

pub returns-clause-found : goal.returns-clause-found
returns-clause-found c = λ cells. found_none cells _ _ (ap (λ (m : Map). m.pages) c.new.ensures)
