use Rattle.nv_journal.proofs.Words.{ap, bank_bytes, bank_place, ◌+◌, ◌∙◌}
use Rattle.nv_journal.proofs.Compacting.{not_ok, made_at}
use Rattle.nv_journal.proofs.banks.write_snapshot.Goals as goal

pub returns-in_err-replace_bank-clause-made : goal.returns-in_err-replace_bank-clause-made
returns-in_err-replace_bank-clause-made g c =
    let s = c.args.state.now in
    let bodies = c.args.snapshot.now in
    rw (not_ok c.from_residual.result c.from_residual.ensures.0)
    (made_at g.N.Nv.writes s bodies c.args.nv.now _ c.replace_bank.new.nv c.in-Some.is
    (c.place.ensures ∙ ap bank_place c.other-bank.ensures)
    (c.as_slice.ensures.value ∙ c.bank_bytes-bytes.ensures.bytes ∙ ap (λ b. bank_bytes (s.generation + 1) b bodies) c.count-base.ensures)
    c.in_err-replace_bank.ensures.made)

pub returns-clause-made : goal.returns-clause-made
returns-clause-made g c =
    let s = c.args.state.now in
    let bodies = c.args.snapshot.now in
    made_at g.N.Nv.writes s bodies c.args.nv.now _ c.replace_bank.new.nv c.in-Some.is
    (c.place.ensures ∙ ap bank_place c.other-bank.ensures)
    (c.as_slice.ensures.value ∙ c.bank_bytes-bytes.ensures.bytes ∙ ap (λ b. bank_bytes (s.generation + 1) b bodies) c.count-base.ensures)
    c.in_ok-replace_bank.ensures.made
