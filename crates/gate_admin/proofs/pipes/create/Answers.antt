use Rattle.std.proofs.Common.{◌≡◌, ℕ, not, eqb, ◌&&◌, true, sym, subst}
use Rattle.std.specs.Prelude.{IsTrue, unwrap_or}
use Rattle.hci_tables.specs.Commands.{is_dynamic, is_host}
use Rattle.pipe_table.specs.PipeRows.{lowest_free}
use Rattle.gate_admin.proofs.CreationLemmas.{creation-recordable}
use Rattle.gate_admin.proofs.pipes.create.Goals as goal

pub returns-in-None-clause-recordable : goal.returns-in-None-clause-recordable
returns-in-None-clause-recordable c =
    let host = c.args.host in
    let free = lowest_free c.args.tables.now.rows c.args.view.now.waiting.items in
    let pid : c.unwrap_or.result ≡ unwrap_or free 0 = cc in
    let dest = c.byte_at-in-None.ensures in
    let May : ℕ → ℕ → Type 0 = λ p d. IsTrue (is_dynamic p && is_host host && is_host d && not (eqb host d) && true) in
    let passed = creation-recordable c.args.tables.now c.args.view.now host c.args.body.now c.requires.host (sym c.in-None.ensures) in
    c.creation.ensures.recordable (subst (λ (p : ℕ). May p c.byte_at-in-None.result) (sym pid) (subst (λ (d : ℕ). May (unwrap_or free 0) d) (sym dest) passed))
