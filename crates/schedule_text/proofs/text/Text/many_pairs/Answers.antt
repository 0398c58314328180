use Rattle.schedule_text.proofs.Names.{HoldsText, [], ap, append-nil, append_assoc, ap₂, encode_upper, refl, subst, sym, take-append-drop, ◌++◌, ◌∙◌}
use Rattle.schedule_text.proofs.GrowthLemmas.{encode-nil, holds_digits}
use Rattle.schedule_text.proofs.text.Text.many_pairs.Goals as goal

pub pieces-init : goal.pieces-init
pieces-init c = (
  [],
  (
    refl,
    λ start text h.
        subst (λ t. HoldsText start t c.args.self.now) (sym (ap (λ t. text ++ t) encode-nil ∙ append-nil text)) h,
  ),
)

pub pieces-preserved : goal.pieces-preserved
pieces-preserved c =
    let left = c.pieces.left.now in
    let piece = c.in-Some.piece.now in
    let front = c.pieces.invariant.0 in
    let cases = c.in-Some.ensures.cases in (
      front ++ piece,
      (
        append_assoc front piece c.in-Some.more.now ∙ ap (λ xs. front ++ xs) (ap₂ (λ xs ys. xs ++ ys) cases.0 cases.1 ∙ take-append-drop 32 left)
            ∙ c.pieces.invariant.1.0,
        λ start text h.
            holds_digits start text front piece _ _ c.write_digits.ensures (c.push_few.ensures start _ (c.pieces.invariant.1.1 start text h)),
      ),
    )

pub returns : goal.returns
returns c =
    λ start text h.
    subst (λ bs. HoldsText start (text ++ encode_upper bs) c.few_pairs.new.self) c.pieces.invariant.1.0
    (holds_digits start text c.pieces.invariant.0 c.pieces.left.now _ _ refl (c.few_pairs.ensures start _ (c.pieces.invariant.1.1 start text h)))
