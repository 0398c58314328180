use Rattle.std.proofs.Common.{inr}
use Rattle.nv_journal.proofs.Refusing.{opened_by, unformattable_by}
use Rattle.nv_journal.proofs.journal.Journal.start.Goals as goal

pub returns-in-Ok-clause-opened : goal.returns-in-Ok-clause-opened
returns-in-Ok-clause-opened g c =
    let scan = c.in_ok-scan.scan in
    let read = c.in_ok-scan.ensures in
    let made = c.in-Ok.ensures in
    let j = c.in-Ok.journal in (
      made.state.1,
      opened_by g.N.Nv.reads c.args.nv g.N.Nv.writes g.N.Nv.tells g.N.Nv.content scan j.nv j.state read.read made.made made.state.0 read.kept made.said,
    )

pub returns-in-Err-clause-refused : goal.returns-in-Err-clause-refused
returns-in-Err-clause-refused g c =
    let scan = c.in_ok-scan.scan in
    let read = c.in_ok-scan.ensures in
    let made = c.in-Err.ensures in
    let e = c.in-Err.refused in
    inr
    (unformattable_by g.N.Nv.reads c.args.nv g.N.Nv.writes g.N.Nv.faults g.N.Nv.tells g.N.Nv.content scan e.nv e.fault read.read made.made made.none.0
    made.none.1
    read.count made.count read.kept made.said made.cut)
