use Rattle.link_laws.proofs.places.Joined.{ahead_other, place_found}
use Rattle.link_laws.proofs.numbers.numbers_name_places.Goals as goal

pub returns-clause-acknowledged : goal.returns-clause-acknowledged
returns-clause-acknowledged c = place_found

pub returns-clause-expected : goal.returns-clause-expected
returns-clause-expected c = ahead_other
