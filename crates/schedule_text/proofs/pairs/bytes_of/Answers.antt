-- The digits that were read are a front of all.
use Rattle.schedule_text.proofs.Names.{IsPairs, ap, append_assoc, ap₂, eqb-true, length, subst, sym, take-append-drop, ◌++◌, ◌∙◌, ◌≡◌}
use Rattle.schedule_text.proofs.PairsLemmas.{pairs_append, pairs_next, pairs_all}
use Rattle.schedule_text.proofs.pairs.bytes_of.Goals as goal

pub pieces-preserved : goal.pieces-preserved
pieces-preserved c =
    let left = c.pieces.left.now in
    let piece = c.in-Some.piece.now in
    let front = c.pieces.invariant.0 in
    let cases = c.in-Some.ensures.cases in (
      front ++ piece,
      (
        append_assoc front piece c.in-Some.more.now ∙ ap (λ xs. front ++ xs) (ap₂ (λ xs ys. xs ++ ys) cases.0 cases.1 ∙ take-append-drop 32 left)
            ∙ c.pieces.invariant.1.0,
        subst (λ bytes. IsPairs (front ++ piece) bytes) (sym c.in-Ok.ensures.items)
            (pairs_append front c.pieces.bytes.items piece c.many_bytes.result c.pieces.invariant.1.1 c.many_bytes.ensures),
      ),
    )

pub pairs-preserved : goal.pairs-preserved
pairs-preserved c =
    let next =
    pairs_next c.pairs.invariant.0 c.pairs.left.now c.args.digits.now c.pairs.bytes.items c.in_ok-byte.byte c.pairs.invariant.1.0 c.pairs.invariant.1.1
    c.in-len2-up.len_at_least (sym c.pair_of.ensures ∙ c.in_ok-byte.was) in
    (next.0, (next.1.0, subst (λ bytes. IsPairs next.0 bytes) (sym c.in-Ok-push.ensures.items) next.1.1))

pub returns-then-is_empty : goal.returns-then-is_empty
returns-then-is_empty c =
    let none : length c.pairs.left.now ≡ 0 = eqb-true (length c.pairs.left.now) 0 (sym c.is_empty.ensures ∙ c.if-is_empty.true) in
    pairs_all c.pairs.invariant.0 c.pairs.left.now c.args.digits.now c.pairs.bytes.items c.pairs.invariant.1.0 none c.pairs.invariant.1.1
