use Rattle.swp_tool.proofs.Words.{AreCountsOf, List, Told, [], ap, append-nil, append_assoc, subst, sym, take, take_all, take_more, ◌++◌, ◌+◌, ◌∙◌, ◌∷◌, ◌≡◌}
use Rattle.swp_tool.proofs.counts.Counts.count_all.Goals as goal

pub loop-entry-init : goal.loop-entry-init
loop-entry-init c = λ before a. subst (AreCountsOf c.args.self.now) (sym (append-nil before)) a

pub loop-entry-preserved : goal.loop-entry-preserved
loop-entry-preserved c =
    λ before a.
    let i = c.loop-entry.entry-index in
    let es : List Told = c.args.entries.now in
    let e : Told = c.entry-item.result in
    let more : take i es ++ e ∷ [] ≡ take (i + 1) es =
    ap (λ x. take i es ++ x ∷ []) c.entry-item.is ∙ sym (take_more es i e c.loop-entry-test.true) in
    subst (AreCountsOf c.count.new.self) (append_assoc before (take i es) (e ∷ []) ∙ ap (λ l. before ++ l) more)
    (c.count.ensures (before ++ take i es) (c.loop-entry.invariant before a))

pub returns : goal.returns
returns c =
    λ before a.
    subst (λ l. AreCountsOf c.loop-entry.self (before ++ l)) (take_all c.loop-entry.entry-index c.args.entries.now c.loop-entry-test.false)
    (c.loop-entry.invariant before a)
