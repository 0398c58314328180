use Rattle.block_pool.proofs.Words.{AreCounted, AreFree, IsLive, Owner, PoolState, ap, arith, blocks_for, get_or_read, length, length-set, named_bytes, set}
use Rattle.block_pool.proofs.Words.{spare_of, subst, sym, ℕ, ◌<◌, ◌∙◌, ◌≡◌}
use Rattle.block_pool.proofs.LayoutLemmas.{blocks_is, blocks_fit}
use Rattle.block_pool.proofs.CountLemmas.{chain_low, used_low, less, more, IsCountedChain, HasRoomFor, passed_counted}
use Rattle.block_pool.proofs.pool.Pool.pass.Goals as goal

pub overflow_cast-need : goal.overflow_cast-need
overflow_cast-need c =
    let s = c.self.inside in
    let pool : PoolState = record { slots = s.blocks.slots; owners = s.owners.items; places = s.blocks.places } in
    let live = subst (λ (v : PoolState). IsLive v c.args.chain.now) (sym c.self.view_is) c.requires.live in
    let len : c.len.result ≡ length (named_bytes pool.slots c.args.chain.now.first) = c.len.ensures
    ∙ ap (λ (v : PoolState). length (named_bytes v.slots c.args.chain.now.first)) (sym c.self.view_is) in
    let low = chain_low pool c.self.invariant.0 c.args.chain.now.owner live.0 c.args.chain.now.first live.1 in
    let few = used_low pool c.self.invariant.0 c.args.chain.now.owner live.0 in
    (blocks_fit c.div_ceil-need.result 0 c.len.result c.div_ceil-need.ensures (omega (arith, low, few, len))).0

pub overflow_sub-before : goal.overflow_sub-before
overflow_sub-before c =
    let s = c.self.inside in
    let pool : PoolState = record { slots = s.blocks.slots; owners = s.owners.items; places = s.blocks.places } in
    let live = subst (λ (v : PoolState). IsLive v c.args.chain.now) (sym c.self.view_is) c.requires.live in
    let len : c.len.result ≡ length (named_bytes pool.slots c.args.chain.now.first) = c.len.ensures
    ∙ ap (λ (v : PoolState). length (named_bytes v.slots c.args.chain.now.first)) (sym c.self.view_is) in
    let low = chain_low pool c.self.invariant.0 c.args.chain.now.owner live.0 c.args.chain.now.first live.1 in
    let old_is =
    get_or_read s.owners.items c.args.chain.now.owner c.index-before.result.now live.0 c.index-before.ensures (record { quota = 0; used = 0; aside = 0 }) in
    omega (arith, low, len, blocks_is c.div_ceil-need.result c.len.result c.div_ceil-need.ensures, ap (λ (x : Owner). x.used) old_is)

pub invariant_of-self : goal.invariant_of-self
invariant_of-self c =
    let s = c.self.inside in
    let pool : PoolState = record { slots = s.blocks.slots; owners = s.owners.items; places = s.blocks.places } in
    let chain = c.args.chain.now in
    let q = c.args.owner in
    let live = subst (λ (v : PoolState). IsLive v chain) (sym c.self.view_is) c.requires.live in
    let other : q < length s.owners.items = subst (λ (v : PoolState). q < length v.owners) (sym c.self.view_is) c.requires.quota in
    let len : c.len.result ≡ length (named_bytes pool.slots chain.first) = c.len.ensures
    ∙ ap (λ (v : PoolState). length (named_bytes v.slots chain.first)) (sym c.self.view_is) in
    let old = c.index-before.result.now in
    let n = c.div_ceil-need.result in
    let has : IsCountedChain pool chain.owner chain.first n old = record {
      has = live.0;
      live = live.1;
      blocks = blocks_is n c.len.result c.div_ceil-need.ensures ∙ ap blocks_for len;
      counts = get_or_read s.owners.items chain.owner old live.0 c.index-before.ensures (record { quota = 0; used = 0; aside = 0 });
    } in
    let taker : HasRoomFor pool chain.owner q n old c.index-after.result.now = record {
      has = other;
      room = omega (arith, (c.spare-spare.ensures.spare ∙ ap (λ (v : PoolState). spare_of v q) (sym c.self.view_is)), c.if-need-spare.false);
      counts = get_or_read (set s.owners.items chain.owner (less old n)) q c.index-after.result.now
          (omega (arith, other, length-set s.owners.items chain.owner (less old n))) c.index-after.ensures (record { quota = 0; used = 0; aside = 0 });
    } in
    let owners = set (set s.owners.items chain.owner (less old n)) q (more c.index-after.result.now n) in
    subst (λ (left : ℕ). AreCounted c.hand_over.new.blocks.slots owners × AreFree owners left) (sym c.hand_over.ensures.free)
    (passed_counted c.self.invariant.0 s.blocks.free c.self.invariant.1 has taker c.hand_over.ensures.slots)
