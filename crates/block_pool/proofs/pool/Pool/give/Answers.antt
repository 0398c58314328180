use Rattle.block_pool.proofs.Words.{IsLive, Owner, PoolState, ap, arith, blocks_for, get_or_read, length, named_bytes, subst, sym, ◌∙◌, ◌≡◌}
use Rattle.block_pool.proofs.LayoutLemmas.{blocks_is, blocks_fit}
use Rattle.block_pool.proofs.CountLemmas.{chain_low, used_low, free_low, IsCountedChain, given_counted}
use Rattle.block_pool.proofs.pool.Pool.give.Goals as goal

pub overflow_cast-need : goal.overflow_cast-need
overflow_cast-need c =
    let s = c.self.inside in
    let pool : PoolState = record { slots = s.blocks.slots; owners = s.owners.items; places = s.blocks.places } in
    let live = subst (λ (v : PoolState). IsLive v c.args.chain) (sym c.self.view_is) c.requires in
    let len : c.len.result ≡ length (named_bytes pool.slots c.args.chain.first) = c.len.ensures
    ∙ ap (λ (v : PoolState). length (named_bytes v.slots c.args.chain.first)) (sym c.self.view_is) in
    let low = chain_low pool c.self.invariant.0 c.args.chain.owner live.0 c.args.chain.first live.1 in
    let few = used_low pool c.self.invariant.0 c.args.chain.owner live.0 in
    (blocks_fit c.div_ceil-need.result 0 c.len.result c.div_ceil-need.ensures (omega (arith, low, few, len))).0

pub overflow_sub-old : goal.overflow_sub-old
overflow_sub-old c =
    let s = c.self.inside in
    let pool : PoolState = record { slots = s.blocks.slots; owners = s.owners.items; places = s.blocks.places } in
    let live = subst (λ (v : PoolState). IsLive v c.args.chain) (sym c.self.view_is) c.requires in
    let len : c.len.result ≡ length (named_bytes pool.slots c.args.chain.first) = c.len.ensures
    ∙ ap (λ (v : PoolState). length (named_bytes v.slots c.args.chain.first)) (sym c.self.view_is) in
    let low = chain_low pool c.self.invariant.0 c.args.chain.owner live.0 c.args.chain.first live.1 in
    let old_is = get_or_read s.owners.items c.args.chain.owner c.index-old.result.now live.0 c.index-old.ensures (record { quota = 0; used = 0; aside = 0 }) in
    omega (arith, low, len, blocks_is c.div_ceil-need.result c.len.result c.div_ceil-need.ensures, ap (λ (x : Owner). x.used) old_is)

pub free_all-requires-clause-fits : goal.free_all-requires-clause-fits
free_all-requires-clause-fits c =
    let s = c.self.inside in
    let pool : PoolState = record { slots = s.blocks.slots; owners = s.owners.items; places = s.blocks.places } in
    let live = subst (λ (v : PoolState). IsLive v c.args.chain) (sym c.self.view_is) c.requires in
    omega (
      arith,
      chain_low pool c.self.invariant.0 c.args.chain.owner live.0 c.args.chain.first live.1,
      used_low pool c.self.invariant.0 c.args.chain.owner live.0,
      free_low pool c.self.invariant.0 s.blocks.free c.self.invariant.1,
    )

pub invariant_of-self : goal.invariant_of-self
invariant_of-self c =
    let s = c.self.inside in
    let pool : PoolState = record { slots = s.blocks.slots; owners = s.owners.items; places = s.blocks.places } in
    let live = subst (λ (v : PoolState). IsLive v c.args.chain) (sym c.self.view_is) c.requires in
    let len : c.len.result ≡ length (named_bytes pool.slots c.args.chain.first) = c.len.ensures
    ∙ ap (λ (v : PoolState). length (named_bytes v.slots c.args.chain.first)) (sym c.self.view_is) in
    let chain : IsCountedChain pool c.args.chain.owner c.args.chain.first c.div_ceil-need.result c.index-old.result.now = record {
      has = live.0;
      live = live.1;
      blocks = blocks_is c.div_ceil-need.result c.len.result c.div_ceil-need.ensures ∙ ap blocks_for len;
      counts = get_or_read s.owners.items c.args.chain.owner c.index-old.result.now live.0 c.index-old.ensures (record { quota = 0; used = 0; aside = 0 });
    } in
    given_counted c.self.invariant.0 s.blocks.free c.self.invariant.1 chain c.free_all.ensures.slots c.free_all.ensures.free
