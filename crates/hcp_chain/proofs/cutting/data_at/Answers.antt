use Rattle.std.specs.Prelude.{replicate}
use Rattle.hcp_chain.proofs.Words.{ap, arith, chain_bytes, common_steps, drop, take, ◌∙◌, ◌≡◌}
use Rattle.hcp_chain.proofs.CutLemmas.{data_is}
use Rattle.hcp_chain.proofs.cutting.data_at.Goals as goal

pub returns : goal.returns
returns c =
    let count = c.copy_out-count.result in
    let bytes = chain_bytes c.args.pool.now c.args.chain.now in
    let copied : take count c.copy_out-count.new.out ≡ take 28 (drop c.args.from bytes) =
    ap (take count) c.copy_out-count.ensures.copied ∙ data_is bytes (drop count (replicate 28 0)) c.args.from count c.copy_out-count.ensures.count in
    grind (arith, common_steps, copied)
