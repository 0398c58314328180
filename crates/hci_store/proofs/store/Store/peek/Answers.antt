use Rattle.hci_store.proofs.Words.{Err, IsSound, ap, close, image_fault, journal, not_of_memory, read_all, refl, subst, sym, ◌∙◌}
use Rattle.nv_journal.specs.Kept.{KeptMemory}
use Rattle.hci_store.proofs.Committed.{sound_has_no_fault, close-close, recordable-close}
use Rattle.hci_store.proofs.Refusing.{heads_refused, records_refused}
use Rattle.hci_store.proofs.store.Store.peek.Goals as goal

pub returns-in-Err-clause-refused : goal.returns-in-Err-clause-refused
returns-in-Err-clause-refused g c =
    let opened = c.in-Err.ensures in
    heads_refused g.N.Nv.reads g.N.Nv.faults g.N.Nv.tells g.N.Nv.content c.args.nv c.in-Err.refused.nv c.in-Err.refused.fault opened.refused opened.unknown

pub returns-in-Ok-apply_all-clause-read : goal.returns-in-Ok-apply_all-clause-read
returns-in-Ok-apply_all-clause-read g c =
    let passed = c.in-Ok-apply_all.ensures in
    rw c.peek.ensures.journal
    (refl, read_all g.N.Nv.reads c.args.nv c.apply_all.new.scan (passed.read c.args.nv c.in-Ok.ensures.read (λ e. cc)))

pub invariant_of-result : goal.invariant_of-result
invariant_of-result g c =
    let passed = c.in-Ok-apply_all.ensures in
    let content = g.N.Nv.content in
    record {
      recordable = rw c.close.ensures (recordable-close c.apply_all.new.tables passed.recordable);
      holds = λ live tells.
          let same = ap (λ (j : KeptMemory g.row.N.Denot). content j.nv) c.peek.ensures.journal ∙ passed.kept tells in
          rw (same, c.close.ensures)
          (record {
            commands = passed.commands tells;
            tables_are = ap close (sym (passed.tables tells)) ∙ sym (close-close c.apply_all.new.tables);
          });
    }

pub returns-in-Err-apply_all-clause-refused : goal.returns-in-Err-apply_all-clause-refused
returns-in-Err-apply_all-clause-refused g c =
    let scan = c.in-Ok.scan in
    let opened = c.in-Ok.ensures in
    let passed = c.in-Err-apply_all.ensures in
    let f = c.in-Err-apply_all.fault in
    rw c.into_nv.ensures
    (records_refused g.N.Nv.reads g.N.Nv.faults g.N.Nv.tells g.N.Nv.content c.args.nv c.apply_all.new.scan.nv scan.nv f passed.fault
    (λ memory. passed.unread c.args.nv opened.read (ap Err memory))
    (λ image. read_all g.N.Nv.reads c.args.nv c.apply_all.new.scan (passed.read c.args.nv opened.read (not_of_memory f image)))
    opened.count (λ memory. passed.rose (ap Err memory)) opened.kept passed.kept opened.known)

pub returns-in-Ok-apply_all-clause-sound : goal.returns-in-Ok-apply_all-clause-sound
returns-in-Ok-apply_all-clause-sound g c tells =
    let passed = c.in-Ok-apply_all.ensures in
    let same = passed.kept tells in
    sym (ap image_fault (c.in-Ok.ensures.kept tells))
    ∙ sound_has_no_fault (g.N.Nv.content c.in-Ok.scan.nv) (passed.commands tells)
    (subst (λ content. IsSound (journal content)) same (c.peek.ensures.said tells).sound)
