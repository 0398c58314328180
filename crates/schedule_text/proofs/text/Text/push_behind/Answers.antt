-- What waited stands in the vector, and the bytes behind it.
use Rattle.schedule_text.proofs.Names.{List, [], all_text, ap, append-nil, ap₂, refl, sym, ℕ, ◌++◌, ◌∙◌, ◌≡◌}
use Rattle.schedule_text.proofs.GrowthLemmas.{holds_more}
use Rattle.schedule_text.proofs.text.Text.push_behind.Goals as goal

pub returns-in-Ok : goal.returns-in-Ok
returns-in-Ok c start text h =
    let t = c.make_room.new.self in
    let bytes : List ℕ = c.args.bytes.now in
    let front : List ℕ = t.bytes.items in
    let none : t.waiting.items ≡ [] = c.make_room.ensures.none c.if-self.false in
    let grown : c.extend_from_slice.new.self.items ++ t.waiting.items ≡ all_text t ++ bytes =
    ap₂ (λ xs ys. xs ++ ys) c.in-Ok.ensures.items none
    ∙ (append-nil (front ++ bytes) ∙ ap (λ xs. xs ++ bytes) (sym (ap (λ ys. front ++ ys) none ∙ append-nil front))) in
    holds_more start text bytes t _ (c.make_room.ensures.same start text h) refl grown (λ s. s)
