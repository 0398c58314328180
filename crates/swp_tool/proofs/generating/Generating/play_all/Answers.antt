use Rattle.swp_tool.proofs.Words.{HasCounted, Line, List, [], ap, subst, sym, take, take_more, ◌++◌, ◌+◌, ◌∙◌, ◌∷◌, ◌≡◌}
use Rattle.swp_tool.proofs.Summing.{few_run, harmless_at, all_run}
use Rattle.swp_tool.proofs.generating.Generating.play_all.Goals as goal

pub play-requires-clause-room : goal.play-requires-clause-room
play-requires-clause-room c =
    (take c.loop-line.line-index c.args.lines.now, c.loop-line.invariant, few_run c.loop-line.line-index c.args.lines.now c.requires.few)

pub play-requires-clause-line : goal.play-requires-clause-line
play-requires-clause-line c =
    harmless_at c.loop-line.line-index c.args.lines.now c.line-item.result c.requires.harmless c.loop-line-test.true c.line-item.is

pub loop-line-preserved : goal.loop-line-preserved
loop-line-preserved c =
    let items : List Line = c.args.lines.now in
    let i = c.loop-line.line-index in
    let line : Line = c.line-item.result in
    let more : take i items ++ line ∷ [] ≡ take (i + 1) items =
    ap (λ (x : Line). take i items ++ x ∷ []) c.line-item.is ∙ sym (take_more items i line c.loop-line-test.true) in
    subst (HasCounted c.play.new.self) more (c.in_ok-play.ensures (take i items) c.loop-line.invariant)

pub returns : goal.returns
returns c = all_run c.loop-line.self c.loop-line.line-index c.args.lines.now c.loop-line-test.false c.loop-line.invariant
