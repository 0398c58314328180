use Rattle.journal_laws.proofs.ReadFirst.{reads_content, reads_plan, reads_surely}
use Rattle.journal_laws.proofs.planned_reads_are_known.Goals as goal

pub returns : goal.returns
returns c = record {
  content = reads_content;
  plan = reads_plan;
  answer = λ most old ok new r none. (reads_surely most old ok new r none).0;
  memory = λ most old ok new r none. (reads_surely most old ok new r none).1;
}
