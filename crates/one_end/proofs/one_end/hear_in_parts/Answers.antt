-- Bytes come, of which the last may bring something.
use Rattle.one_end.proofs.Words.{List, [], ap, bytes_bring, cause_of, form_named, map, refl, sym, take, ℕ, ◌∙◌, ◌≡◌}
use Rattle.one_end.proofs.Running.{none_came, heard_so}
use Rattle.one_end.proofs.Bringing.{nothing_brought}
use Rattle.one_end.proofs.one_end.hear_in_parts.Goals as goal

pub returns-clause-heard : goal.returns-clause-heard
returns-clause-heard g c l older s =
    let d = c.args.end.now in
    let came : List ℕ = take c.hear_stretch-count.result.count c.args.bytes.now in
    let form = form_named d.form in
    let number = d.node.number in
    let given : map cause_of c.as_slice.result.now ≡ bytes_bring form number older came =
    ap (map cause_of) c.as_slice.ensures.value ∙ (c.comings_of-comings.ensures.causes ∙ (c.hear_stretch-count.ensures.brings number older s.reads
    ∙ ap (λ f. bytes_bring f number older came) s.form_is)) in
    heard_so g.N.Nv.writes d (record d { reader = c.hear_stretch-count.new.self; node = c.answer_all-stopped.new.node }) came l older s
    (c.hear_stretch-count.ensures.form ∙ s.form_is) c.answer_all-stopped.ensures.number (c.hear_stretch-count.ensures.stands number older s.reads) given
    (c.answer_all-stopped.ensures.done l s.runs)

-- none of them brings anything
pub returns-then-is_nothing-clause-heard : goal.returns-then-is_nothing-clause-heard
returns-then-is_nothing-clause-heard g c l older s =
    let d = c.args.end.now in
    let came : List ℕ = take c.hear_stretch-count.result.count c.args.bytes.now in
    let form = form_named d.form in
    let number = d.node.number in
    let given : [] ≡ bytes_bring form number older came =
    sym (nothing_brought c.hear_stretch-count.result.brought (sym c.is_nothing.ensures ∙ c.if-is_nothing.true))
    ∙ (c.hear_stretch-count.ensures.brings number older s.reads ∙ ap (λ f. bytes_bring f number older came) s.form_is) in
    heard_so g.N.Nv.writes d (record d { reader = c.hear_stretch-count.new.self }) came l older s (c.hear_stretch-count.ensures.form ∙ s.form_is) refl
    (c.hear_stretch-count.ensures.stands number older s.reads) given (none_came g.N.Nv.writes form d.node l c.args.out.now.items s.runs)
