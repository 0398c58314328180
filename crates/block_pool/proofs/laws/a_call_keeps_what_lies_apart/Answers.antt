use Rattle.block_pool.specs.declared.chain.Chain.{Chain}
use Rattle.block_pool.proofs.HoldingLemmas.{OwnsAllApart, kept_all}
use Rattle.block_pool.proofs.laws.a_call_keeps_what_lies_apart.Goals as goal

pub returns : goal.returns
returns c old new owner before after chains keeps own apart =
    let all : OwnsAllApart Chain (λ x. x) old owner chains before = record { own = own; apart = apart } in
    kept_all new after keeps all
