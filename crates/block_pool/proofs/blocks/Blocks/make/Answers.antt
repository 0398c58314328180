use Rattle.block_pool.proofs.Words.{None, ap, arith, replicate, ◌++◌}
use Rattle.block_pool.proofs.LayoutLemmas.{make_sound, make_slots}
use Rattle.block_pool.proofs.blocks.Blocks.make.Goals as goal

pub invariant_of-result : goal.invariant_of-result
invariant_of-result c =
    let region = c.in_ok-region in
    let next = c.in_ok-next in
    let heads = c.in_ok-heads in (
      make_sound region.region.items next.next.items heads.heads.items region.ensures.items next.ensures.items heads.ensures.items,
      record {
        few = omega (arith, c.requires, next.ensures.len);
        bytes = omega (arith, region.ensures.exact, next.ensures.len);
        links = omega (arith, next.ensures.exact, next.ensures.len);
        heads = omega (arith, heads.ensures.exact, next.ensures.len);
      },
    )

pub returns : goal.returns
returns c = (
  ap (λ slots. slots ++ replicate c.args.count None)
      (make_slots c.in_ok-region.region.items c.in_ok-next.next.items c.in_ok-heads.heads.items c.in_ok-heads.ensures.items),
  omega arith,
)
