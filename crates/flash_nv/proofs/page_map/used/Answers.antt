use Rattle.flash_nv.proofs.Words.{arith, false, length-replicate, refl}
use Rattle.flash_nv.proofs.MapLemmas.{none_used, none_counted, mark_used, mark_marked, mark_counted}
use Rattle.flash_nv.proofs.page_map.used.Goals as goal

pub loop-sector-init : goal.loop-sector-init
loop-sector-init c = record {
  used = λ p small holds. none_used 272 p small holds;
  marked = λ s p small at. absurd (omega arith);
  len = length-replicate 272 false;
  few = none_counted 272;
}

pub loop-sector-preserved : goal.loop-sector-preserved
loop-sector-preserved c =
    let i = c.loop-sector.invariant in
    let pages = c.args.pages.now in
    let s = c.loop-sector.sector in
    let used = c.loop-sector.used in
    rw c.mark.ensures (record {
      used = mark_used pages used s _ c.loop-sector-test.true refl i.used;
      marked = mark_marked pages used s _ refl i.marked;
      len = rw (← c.mark.ensures) c.mark.array_long;
      few = mark_counted used _ s (λ p e. omega (arith, i.len, c.requires s p e)) i.few;
    })
