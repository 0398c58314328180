use Rattle.std.proofs.Common.{Err, ap}
use Rattle.nv_journal.proofs.Refusing.{not_of_memory, read_all, refused_by}
use Rattle.nv_journal.proofs.scan.Scan.whole.Goals as goal

pub returns-in-Err-clause-refused : goal.returns-in-Err-clause-refused
returns-in-Err-clause-refused g c =
    let scan = c.in_ok-scan.scan in
    let opened = c.in_ok-scan.ensures in
    let passed = c.in-Err.ensures in
    rw c.into_nv.ensures
    (refused_by g.N.Nv.reads c.args.nv g.N.Nv.faults g.N.Nv.tells g.N.Nv.content scan.nv c.pass_all.new.self.nv c.in-Err.fault passed.fault
    (λ memory. passed.unread c.args.nv opened.read (ap Err memory))
    (λ image. read_all g.N.Nv.reads c.args.nv c.pass_all.new.self (passed.read c.args.nv opened.read (not_of_memory c.in-Err.fault image)))
    opened.count (λ memory. passed.rose (ap Err memory)) opened.kept passed.kept)
