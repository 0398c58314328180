use Rattle.block_pool.proofs.Words.{AreCounted, AreFree, Owner, PoolState, arith, get_or, get_or_read, length, refl, set, subst, sym, ◌+◌, ◌<◌, ◌≡◌, ◌≢◌}
use Rattle.block_pool.proofs.CountLemmas.{counted_after, free_after}
use Rattle.block_pool.proofs.pool.Pool.set_aside.Goals as goal

pub invariant_of-self : goal.invariant_of-self
invariant_of-self c =
    let s = c.self.inside in
    let pool : PoolState = record { slots = s.blocks.slots; owners = s.owners.items; places = s.blocks.places } in
    let o = c.args.owner in
    let has : o < length s.owners.items = subst (λ (v : PoolState). o < length v.owners) (sym c.self.view_is) c.requires in
    let old : Owner = get_or s.owners.items o (record { quota = 0; used = 0; aside = 0 }) in
    let old_is : c.index-old.result.now ≡ old =
    get_or_read s.owners.items o c.index-old.result.now has c.index-old.ensures (record { quota = 0; used = 0; aside = 0 }) in
    subst (λ (x : Owner). AreCounted s.blocks.slots (set s.owners.items o (record { quota = x.quota; used = x.used + 1; aside = x.aside + 1 }))
    × AreFree (set s.owners.items o (record { quota = x.quota; used = x.used + 1; aside = x.aside + 1 })) s.blocks.free)
    (sym old_is) (
      counted_after pool c.self.invariant.0 o has s.blocks.slots (old.used + 1) (old.aside + 1) (omega (arith, c.self.invariant.0.used o has))
          (omega (arith, c.self.invariant.0.within o, (subst (λ (x : Owner). x.used ≢ x.quota) old_is c.if-old.false))) (λ p apart. refl),
      free_after pool c.self.invariant.0 o has s.blocks.slots s.blocks.free (old.used + 1) (old.aside + 1) s.blocks.free c.self.invariant.1 (omega arith),
    )
