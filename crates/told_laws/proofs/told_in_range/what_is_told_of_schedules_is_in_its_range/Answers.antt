use Rattle.told_laws.proofs.told.Whole.{schedule_told_in}
use Rattle.told_laws.proofs.told_in_range.what_is_told_of_schedules_is_in_its_range.Goals as goal

pub returns : goal.returns
returns c = λ header lines begin may few none. schedule_told_in header begin lines may few none
