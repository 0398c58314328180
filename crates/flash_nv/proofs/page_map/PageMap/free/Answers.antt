use Rattle.std.proofs.Common.{refl}
use Rattle.flash_nv.proofs.MapLemmas.{all_used}
use Rattle.flash_nv.proofs.page_map.PageMap.free.Goals as goal

pub unreachable-requires : goal.unreachable-requires
unreachable-requires c =
    all_used c.used-used.result c.self.inside.next c.used-used.ensures.len (λ q z small. c.in_default-first_free.ensures.none refl q z small)
    (λ q low small. c.in_default.ensures.none refl q low small) c.used-used.ensures.few
