use Rattle.std.proofs.Common.{◌≡◌, ◌≤◌, ℕ, List, length, slice_set, length-set, subst, ap, ◌∙◌, arith, lit<}
use Rattle.std.specs.Prelude.{Ok, Err}
use Rattle.arrayvec.proofs.ArrayVecLemmas.{items-with_items}
use Rattle.sorted_rows.specs.Rows.{IsPlace}
use Rattle.sorted_rows.proofs.PlaceLemmas.{set-is_put, insert-is_put, room-at_gap}
use Rattle.hci_tables.specs.Tables.{sync_host}
use Rattle.hci_tables.proofs.syncs.keep.Goals as goal

pub insert-requires : goal.insert-requires
insert-requires c =
    let items = c.args.syncs.now.items in
    let pair : ℕ × ℕ = (c.args.host, c.args.id) in
    let P : List (ℕ × ℕ) → Type 0 = λ pairs. IsPlace sync_host c.args.host pairs (Err c.in-Err.at) in
    let place = subst P c.as_slice.ensures.value c.in-Err.ensures in
    let within : c.in-Err.at ≤ length items = place.0 in
    let room = room-at_gap sync_host 1 8 pair items c.in-Err.at c.requires.sorted (omega arith) (omega arith) place in
    (lit< tt, (omega arith, omega arith))

pub returns-in-Ok : goal.returns-in-Ok
returns-in-Ok c =
    let items = c.args.syncs.now.items in
    let pair : ℕ × ℕ = (c.args.host, c.args.id) in
    let P : List (ℕ × ℕ) → Type 0 = λ pairs. IsPlace sync_host c.args.host pairs (Ok c.in-Ok.at) in
    let place = subst P c.as_slice.ensures.value c.in-Ok.ensures in
    let written = slice_set c.as_mut_slice.result.now c.in-Ok.at pair in
    let same : length written ≡ length items = length-set c.as_mut_slice.result.now c.in-Ok.at pair ∙ ap length c.as_mut_slice.ensures.value in
    items-with_items c.args.syncs.now written same
    ∙ ap (λ (pairs : List (ℕ × ℕ)). slice_set pairs c.in-Ok.at pair) c.as_mut_slice.ensures.value
    ∙ set-is_put sync_host 1 8 pair items c.in-Ok.at c.requires.sorted place

pub returns-in-Err : goal.returns-in-Err
returns-in-Err c =
    let items = c.args.syncs.now.items in
    let pair : ℕ × ℕ = (c.args.host, c.args.id) in
    let P : List (ℕ × ℕ) → Type 0 = λ pairs. IsPlace sync_host c.args.host pairs (Err c.in-Err.at) in
    let place = subst P c.as_slice.ensures.value c.in-Err.ensures in
    c.insert.ensures.items ∙ insert-is_put sync_host 1 8 pair items c.in-Err.at c.requires.sorted place
