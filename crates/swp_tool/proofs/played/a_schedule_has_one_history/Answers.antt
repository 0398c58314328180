use Rattle.lines_told.proofs.lines.Told.{played_alone}
use Rattle.swp_tool.specs.Schedules.{schedule_in}
use Rattle.swp_tool.proofs.Fitting.{history_played, only_history, whole_fits}
use Rattle.swp_tool.proofs.played.a_schedule_has_one_history.Goals as goal

pub returns-clause-played : goal.returns-clause-played
returns-clause-played c bytes header is = history_played (schedule_in bytes) header is (whole_fits bytes)

pub returns-clause-alone : goal.returns-clause-alone
returns-clause-alone c = only_history

pub returns-clause-themselves : goal.returns-clause-themselves
returns-clause-themselves c = played_alone
