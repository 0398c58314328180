use Rattle.swp_tool.proofs.Words.{AreCountsOf, Line, List, nodes_history, nodes_told, subst, the_header, ◌∙◌}
use Rattle.swp_tool.proofs.Summing.{counts_are_summary, few_drawn, harmless_drawn}
use Rattle.swp_tool.proofs.generating.summary.Goals as goal

pub play_all-requires-clause-few : goal.play_all-requires-clause-few
play_all-requires-clause-few c = few_drawn c.args.n c.as_slice.result.now (c.as_slice.ensures.value ∙ c.in_ok-lines.ensures)

pub play_all-requires-clause-harmless : goal.play_all-requires-clause-harmless
play_all-requires-clause-harmless c = harmless_drawn c.args.n c.as_slice.result.now (c.as_slice.ensures.value ∙ c.in_ok-lines.ensures)

pub returns : goal.returns
returns c =
    let P : List Line → Type 0 = λ lines. AreCountsOf c.in_ok-counts.counts (nodes_told (nodes_history the_header lines)) in
    counts_are_summary c.args.n c.in_ok-counts.counts c.in_ok-text.text.items
    (subst P (c.as_slice.ensures.value ∙ c.in_ok-lines.ensures) c.in_ok-counts.ensures) c.in_ok-text.ensures
