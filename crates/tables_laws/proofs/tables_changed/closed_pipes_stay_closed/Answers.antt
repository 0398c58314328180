use Rattle.tables_laws.proofs.tables.Opened.{opened-after_close}
use Rattle.tables_laws.proofs.tables_changed.closed_pipes_stay_closed.Goals as goal

pub returns : goal.returns
returns c = opened-after_close
