use Rattle.node_laws.proofs.Words.{◌++◌}
use Rattle.node_laws.proofs.read_steps.Knowing.{notice_is, creations_known, aside_known, errors_known, view_known}
use Rattle.node_laws.proofs.read_steps.Reading.{names_read}
use Rattle.node_laws.proofs.readings_in_steps.what_decides_a_turn_is_read.Goals as goal

pub returns : goal.returns
returns c = record {
  tables = λ hosts t w a. a.tables;
  notices = notice_is;
  creations = creations_known;
  asides = aside_known;
  errors = errors_known;
  view = view_known;
  count = λ hosts t w a. a.kept.count_is;
  names = λ hosts t w a. names_read (t ++ w.entries) a.named;
}
