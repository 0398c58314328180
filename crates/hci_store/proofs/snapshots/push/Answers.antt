use Rattle.hci_store.proofs.Words.{List, [], ap, arith, body_of, length, used, ℕ, ◌++◌, ◌+◌, ◌∙◌, ◌∷◌, ◌≡◌}
use Rattle.nv_journal.proofs.Snapshotting.{size_in-append}
use Rattle.hci_store.proofs.snapshots.push.Goals as goal

one_used : (bodies : List (List ℕ)) (body : List ℕ) → used (bodies ++ body ∷ []) ≡ used bodies + 4 + length body
one_used bodies body = omega (arith, size_in-append 2 bodies (body ∷ []))

pub returns-clause-used : goal.returns-clause-used
returns-clause-used c =
    let body_is = c.as_slice.ensures.value ∙ c.write_command-body.ensures.body in
    ap used c.push.ensures ∙ ap (λ b. used (c.args.snapshot.now ++ b ∷ [])) body_is ∙ one_used c.args.snapshot.now (body_of c.args.command.now)
