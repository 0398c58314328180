use Rattle.std.proofs.Common.{refl}
use Rattle.nv_journal.proofs.Refusing.{read_all}
use Rattle.nv_journal.proofs.journal.Journal.peek.Goals as goal

pub returns-clause-read : goal.returns-clause-read
returns-clause-read g c = rw c.peek.ensures.journal (refl, read_all g.N.Nv.reads c.args.nv c.in_ok-scan.scan c.in_ok-scan.ensures.read)
