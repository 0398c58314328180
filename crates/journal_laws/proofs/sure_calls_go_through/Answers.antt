use Rattle.journal_laws.proofs.ReadFirst.{sure_calls}
use Rattle.journal_laws.proofs.sure_calls_go_through.Goals as goal

pub returns : goal.returns
returns c = record {
  answer = λ most writes old ok new called. (sure_calls most writes old ok new called).0;
  content = λ most writes old ok new called. (sure_calls most writes old ok new called).1;
}
