use Rattle.std.proofs.Common.{◌≤◌, ℕ, List, length, slice_set, length-set, subst, ap, ◌∙◌, arith, lit<}
use Rattle.std.specs.Prelude.{Ok, Err}
use Rattle.arrayvec.proofs.ArrayVecLemmas.{items-with_items}
use Rattle.sorted_rows.specs.Rows.{IsPlace}
use Rattle.sorted_rows.proofs.PlaceLemmas.{set-is_put, insert-is_put, room-at_gap}
use Rattle.registry.specs.declared.value.RegValue.{RegValue}
use Rattle.registry.specs.Values.{place_of_value}
use Rattle.registry.proofs.ValueLemmas.{place_of-within}
use Rattle.registry.proofs.registry.put_in.Goals as goal

pub insert-requires : goal.insert-requires
insert-requires c =
    let items = c.args.values.now.items in
    let P : ℕ → List RegValue → Type 0 = λ k values. IsPlace place_of_value k values (Err c.in-Err.at) in
    let place = subst (λ k. P k items) c.place.ensures (subst (P c.place.result) c.as_slice.ensures.value c.in-Err.ensures) in
    let within : c.in-Err.at ≤ length items = place.0 in
    let places = place_of-within c.args.value c.requires.present in
    let room = room-at_gap place_of_value 2 16 c.args.value items c.in-Err.at c.requires.sorted places.0 places.1 place in
    (lit< tt, (omega arith, omega arith))

pub returns-in-Ok : goal.returns-in-Ok
returns-in-Ok c =
    let items = c.args.values.now.items in
    let P : ℕ → List RegValue → Type 0 = λ k values. IsPlace place_of_value k values (Ok c.in-Ok.at) in
    let place = subst (λ k. P k items) c.place.ensures (subst (P c.place.result) c.as_slice.ensures.value c.in-Ok.ensures) in
    let written = slice_set c.as_mut_slice.result.now c.in-Ok.at c.args.value in
    items-with_items c.args.values.now written (length-set c.as_mut_slice.result.now c.in-Ok.at c.args.value ∙ ap length c.as_mut_slice.ensures.value)
    ∙ ap (λ (values : List RegValue). slice_set values c.in-Ok.at c.args.value) c.as_mut_slice.ensures.value
    ∙ set-is_put place_of_value 2 16 c.args.value items c.in-Ok.at c.requires.sorted place

pub returns-in-Err : goal.returns-in-Err
returns-in-Err c =
    let items = c.args.values.now.items in
    let P : ℕ → List RegValue → Type 0 = λ k values. IsPlace place_of_value k values (Err c.in-Err.at) in
    let place = subst (λ k. P k items) c.place.ensures (subst (P c.place.result) c.as_slice.ensures.value c.in-Err.ensures) in
    c.insert.ensures.items ∙ insert-is_put place_of_value 2 16 c.args.value items c.in-Err.at c.requires.sorted place
