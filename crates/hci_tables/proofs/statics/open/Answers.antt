use Rattle.std.proofs.Common.{ℕ, ltb, length, ap, ◌∙◌, arith, lit<}
use Rattle.std.specs.List.{prefix_len}
use Rattle.std.proofs.lemmas.List.Sums.{prefix_len-le-length}
use Rattle.sorted_rows.specs.Rows.{without_row}
use Rattle.sorted_rows.proofs.RowLemmas.{put_by_insert, length-without_row}
use Rattle.hci_tables.specs.Tables.{static_place}
use Rattle.hci_tables.proofs.statics.open.Goals as goal

pub insert-requires : goal.insert-requires
insert-requires c =
    let pair : ℕ × ℕ = (c.args.host, c.args.pid) in
    let items = c.args.statics.now.items in
    let taken = ap length (c.take_out.ensures ∙ ap (λ (k : ℕ). without_row static_place k items) c.place_of-place.ensures) in
    let seen = ap length c.as_slice.ensures.value in
    let placed = c.place_in-at.ensures in
    let within = prefix_len-le-length (λ (p : ℕ × ℕ). ltb (static_place p) c.place_of-place.result) c.as_slice.result.now in
    let room = length-without_row static_place 0 16 pair items c.requires.sorted (omega arith) (omega arith) in
    (lit< tt, (omega arith, omega arith))

pub returns : goal.returns
returns c =
    let items = c.args.statics.now.items in
    let taken = c.take_out.ensures ∙ ap (λ (k : ℕ). without_row static_place k items) c.place_of-place.ensures in
    let placed = c.place_in-at.ensures ∙ ap (λ (k : ℕ). prefix_len (λ (p : ℕ × ℕ). ltb (static_place p) k) c.as_slice.result.now) c.place_of-place.ensures in
    put_by_insert static_place 0 16 (c.args.host, c.args.pid) items c.requires.sorted taken c.as_slice.ensures.value placed c.insert.ensures.items
