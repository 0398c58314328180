use Rattle.block_pool.proofs.Words.{IsLive, PoolState, ap, arith, blocks_for, get_or_read, length, named_bytes, spare_of, subst, sym, ◌+◌, ◌-◌, ◌∙◌, ◌≡◌, ◌≤◌}
use Rattle.block_pool.proofs.LayoutLemmas.{blocks_is}
use Rattle.block_pool.proofs.CountLemmas.{enough_free, IsCountedChain, taken_counted}
use Rattle.block_pool.proofs.pool.Pool.take.Goals as goal

pub append-requires-clause-room : goal.append-requires-clause-room
append-requires-clause-room c =
    let s = c.self.inside in
    let pool : PoolState = record { slots = s.blocks.slots; owners = s.owners.items; places = s.blocks.places } in
    let chain = c.args.chain.now in
    let live = subst (λ (v : PoolState). IsLive v chain) (sym c.self.view_is) c.requires in
    let len : c.len-len.result ≡ length (named_bytes pool.slots chain.first) = c.len-len.ensures
    ∙ ap (λ (v : PoolState). length (named_bytes v.slots chain.first)) (sym c.self.view_is) in
    let spare : c.spare-spare.result ≡ spare_of pool chain.owner = c.spare-spare.ensures.spare
    ∙ ap (λ (v : PoolState). spare_of v chain.owner) (sym c.self.view_is) in
    let all = blocks_is c.div_ceil.result (c.len-len.result + length c.args.bytes.now) c.div_ceil.ensures in
    let enough = enough_free pool c.self.invariant.0 chain.owner live.0 s.blocks.free c.self.invariant.1 in
    subst (λ n. blocks_for (n + length c.args.bytes.now) ≤ blocks_for n + s.blocks.free) len
    (omega (arith, all, blocks_is c.div_ceil-2.result c.len-len.result c.div_ceil-2.ensures, spare, enough, c.if-need-spare.false))

pub invariant_of-self : goal.invariant_of-self
invariant_of-self c =
    let s = c.self.inside in
    let pool : PoolState = record { slots = s.blocks.slots; owners = s.owners.items; places = s.blocks.places } in
    let chain = c.args.chain.now in
    let live = subst (λ (v : PoolState). IsLive v chain) (sym c.self.view_is) c.requires in
    let len : c.len-len.result ≡ length (named_bytes pool.slots chain.first) = c.len-len.ensures
    ∙ ap (λ (v : PoolState). length (named_bytes v.slots chain.first)) (sym c.self.view_is) in
    let spare : c.spare-spare.result ≡ spare_of pool chain.owner = c.spare-spare.ensures.spare
    ∙ ap (λ (v : PoolState). spare_of v chain.owner) (sym c.self.view_is) in
    let all = blocks_is c.div_ceil.result (c.len-len.result + length c.args.bytes.now) c.div_ceil.ensures in
    let had = blocks_is c.div_ceil-2.result c.len-len.result c.div_ceil-2.ensures in
    let has : IsCountedChain pool chain.owner chain.first c.div_ceil-2.result c.index-old.result.now = record {
      has = live.0;
      live = live.1;
      blocks = had ∙ ap blocks_for len;
      counts = get_or_read s.owners.items chain.owner c.index-old.result.now live.0 c.index-old.ensures (record { quota = 0; used = 0; aside = 0 });
    } in
    taken_counted c.self.invariant.0 s.blocks.free c.self.invariant.1 c.append.new.chain.first has (record {
      left_is = c.append.ensures.free;
      more_is = subst (λ n. c.div_ceil.result - c.div_ceil-2.result ≡ blocks_for (n + length c.args.bytes.now) - blocks_for n) len (omega (arith, all, had));
      room = omega (arith, spare, c.if-need-spare.false);
    }) c.append.ensures.name c.append.ensures.slots
