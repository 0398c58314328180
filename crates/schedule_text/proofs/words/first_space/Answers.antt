use Rattle.std.proofs.Common.{eqb}
use Rattle.schedule_text.proofs.Finding.{first_position}
use Rattle.schedule_text.proofs.words.first_space.Goals as goal

pub returns-else-line-lt-LONG : goal.returns-else-line-lt-LONG
returns-else-line-lt-LONG c = first_position (λ b. eqb b 32) c.args.line.now c.memchr.result c.memchr.ensures
