use Rattle.hci_store.proofs.Words.{Some, State, ap, arith, command_of, gate_at, inr, records, slice_get, subst, sym, ◌+◌, ◌∙◌, ◌≡◌}
use Rattle.hci_store.proofs.Committed.{recordable-apply, AreApplied, applied_more, other_is_told, journal_fault_is_told, carried}
use Rattle.hci_store.proofs.records.apply_all.Goals as goal

pub returns-in-Err-clause-fault : goal.returns-in-Err-clause-fault
returns-in-Err-clause-fault g c =
    let inv = c.records.invariant in
    let content = g.N.Nv.content in
    carried c.in-Err.ensures.fault (λ tells faulty known.
    journal_fault_is_told (content c.args.scan.now.nv) (content c.records.scan.nv) c.records.scan.state.many c.records.tables c.in-Err.fault (inv.kept tells)
    (inv.so_far tells) faulty)

pub returns-in-None-clause-fault : goal.returns-in-None-clause-fault
returns-in-None-clause-fault g c =
    let inv = c.records.invariant in
    let content = g.N.Nv.content in
    let next = rw c.in-Ok-Some.field-0-is at c.in-Ok-Some.ensures in
    let scan = c.records.scan in
    let b = c.in-Ok-Some.body.items in
    inr (
      tt,
      λ tells known.
          other_is_told (content c.args.scan.now.nv) scan.state.many c.records.tables b c.place-at.result (inv.so_far tells)
          (subst (λ l. slice_get (records l) scan.state.many ≡ Some b) (inv.kept tells) (next.body tells))
          (ap command_of (sym c.as_slice.ensures.value) ∙ sym c.in-None.ensures.command) known
          (c.place-at.ensures.gate tells ∙ ap (λ l. gate_at l scan.state.many) (inv.kept tells)),
    )

pub records-preserved : goal.records-preserved
records-preserved g c =
    let inv = c.records.invariant in
    let next = rw c.in-Ok-Some.field-0-is at c.in-Ok-Some.ensures in
    let content = g.N.Nv.content in
    let scan = c.records.scan in
    let b = c.in-Ok-Some.body.items in
    record {
      count = omega (arith, inv.count, next.count);
      kept = λ tells. next.kept tells ∙ inv.kept tells;
      read = λ first r. next.read first (inv.read first r) (λ e. cc);
      recordable = rw c.apply.ensures (recordable-apply c.records.tables c.in-Some.command inv.recordable c.in-Some.ensures.recordable);
      so_far = λ tells.
          let there = subst (λ l. slice_get (records l) scan.state.many ≡ Some b) (inv.kept tells) (next.body tells) in
          let more = applied_more (records (content c.args.scan.now.nv)) scan.state.many c.records.tables b c.in-Some.command (inv.so_far tells) there
          (ap command_of (sym c.as_slice.ensures.value) ∙ sym c.in-Some.ensures.command) in
          subst (λ n. AreApplied (records (content c.args.scan.now.nv)) n c.apply.new.self) (sym (ap (λ (s : State). s.many) next.state))
          (subst (λ t. AreApplied (records (content c.args.scan.now.nv)) (scan.state.many + 1) t) (sym c.apply.ensures) more);
    }
