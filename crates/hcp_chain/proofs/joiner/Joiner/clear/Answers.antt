use Rattle.hcp_chain.proofs.Words.{[], subst, ◌++◌, ◌∷◌}
use Rattle.hcp_chain.specs.Holding.{HoldsChains, IsOwnOpen}
use Rattle.hcp_chain.proofs.HoldingLemmas.{all_front}
use Rattle.hcp_chain.proofs.ClearLemmas.{Clears, clears_none, clears_more}
use Rattle.hcp_chain.proofs.joiner.Joiner.clear.Goals as goal

pub loop-open-init : goal.loop-open-init
loop-open-init c = clears_none c.args.pool.now c.args.self.now.owner c.args.self.now.open.items c.requires.quota c.requires.holds

pub give-requires : goal.give-requires
give-requires c =
    let holds : HoldsChains c.loop-open.pool c.args.self.now.owner (c.pop.new.self.items ++ c.in-Some.open ∷ []) =
    subst (HoldsChains c.loop-open.pool c.args.self.now.owner) c.in-Some.ensures.items c.loop-open.invariant.holds in
    (all_front (IsOwnOpen c.loop-open.pool c.args.self.now.owner) c.pop.new.self.items c.in-Some.open holds.own).1.live

pub loop-open-preserved : goal.loop-open-preserved
loop-open-preserved c =
    clears_more c.in-Some.open
    (subst
    (Clears c.args.pool.now c.loop-open.pool c.args.self.now.owner c.loop-open.self.owner c.args.self.now.open.items) c.in-Some.ensures.items
    c.loop-open.invariant)
    c.give.ensures.given c.give.ensures.others
