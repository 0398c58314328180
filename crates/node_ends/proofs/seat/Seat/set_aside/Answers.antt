use Rattle.node_ends.proofs.Words.{HoldsEnd, Machine, Moves, PoolState, SetAside, ap, arith, aside_of, length, refl, spare_of, subst, sym, true≢false, used_of}
use Rattle.node_ends.proofs.Words.{without_got, ℕ, ◌+◌, ◌<◌, ◌∙◌}
use Rattle.node_ends.proofs.Moving.{stays_beside}
use Rattle.node_ends.proofs.Setting.{Counts, set_holds, set_refused, set_counts, few_aside, counted_moves}
use Rattle.node_ends.proofs.Changing.{turned}
use Rattle.node_ends.proofs.seat.Seat.set_aside.Goals as goal

pub set_aside-requires : goal.set_aside-requires
set_aside-requires c = subst (λ n. n < length c.args.pool.now.owners) c.requires.owner c.requires.stands.1.stands.halfway.sends.lies.kept.has_quota

pub overflow_add-self : goal.overflow_add-self
overflow_add-self c =
    omega (arith, few_aside c.args.pool.now c.args.self.now.side c.requires.stands.0 c.requires.stands.1.stands, c.requires.stands.2)

pub returns-in-Ok : goal.returns-in-Ok
returns-in-Ok c =
    turned {x = SetAside} (record {
      sendable = tt;
      moves = (let old = c.args.pool.now in
          let new = c.set_aside.new.self in
          let o = c.args.self.now.side.outbox.owner in
          let Q : ℕ → Type 0 = λ n. Counts old new n (used_of old n + 1) (aside_of old n + 1) in
          counted_moves old new c.args.self.now.side (without_got c.requires.stands.0) (used_of old o + 1) (aside_of old o + 1)
          c.requires.stands.1.stands (subst Q (sym c.requires.owner) (record { slots = c.in-Ok.ensures.ok.0; owners = c.in-Ok.ensures.ok.1 })));
      desk = refl;
      late = refl;
      ended = refl;
      acked = refl;
      stands = λ m h same. (
        (let old = c.args.pool.now in
            let new = c.set_aside.new.self in
            let P : ℕ → Type 0 = λ n. 0 < spare_of old n in
            let Q : ℕ → Type 0 = λ n. Counts old new n (used_of old n + 1) (aside_of old n + 1) in
            set_holds old new c.args.self.now.side c.args.self.now.waiting m h (subst P (sym c.requires.owner) (c.in-Ok.ensures.room.0 refl))
            (subst Q (sym c.requires.owner) (record { slots = c.in-Ok.ensures.ok.0; owners = c.in-Ok.ensures.ok.1 }))),
        (let old = c.args.pool.now in
            let P : ℕ → Type 0 = λ n. 0 < spare_of old n in
            ap (λ n. n + 1) same
            ∙ sym (set_counts old c.args.self.now.side m h.stands (subst P (sym c.requires.owner) (c.in-Ok.ensures.room.0 refl)))),
      );
    })

pub returns-in-Err : goal.returns-in-Err
returns-in-Err c =
    turned {x = SetAside} (record {
      sendable = tt;
      moves = (let k = c.args.self.now.side in
          let A : PoolState → Type 0 = λ p. Moves c.args.pool.now p k k in
          subst A (sym c.in-Err.ensures.err) (stays_beside c.args.pool.now k k refl refl));
      desk = refl;
      late = refl;
      ended = refl;
      acked = refl;
      stands = λ m h same. (
        (let k = c.args.self.now.side in
            let waiting = c.args.self.now.waiting in
            let P : ℕ → Type 0 = λ n. 0 < spare_of c.args.pool.now n in
            let same = set_refused c.args.pool.now k m h.stands
            (λ s. true≢false (sym (c.in-Err.ensures.room.1 (subst P c.requires.owner s)))) in
            let A : PoolState → Type 0 = λ p. HoldsEnd p k waiting m in
            subst (λ n. HoldsEnd c.set_aside.new.self k waiting n) (sym same) (subst A (sym c.in-Err.ensures.err) h)),
        (let k = c.args.self.now.side in
            let P : ℕ → Type 0 = λ n. 0 < spare_of c.args.pool.now n in
            same ∙ sym (ap (λ (x : Machine). x.aside) (set_refused c.args.pool.now k m h.stands
            (λ s. true≢false (sym (c.in-Err.ensures.room.1 (subst P c.requires.owner s))))))),
      );
    })
