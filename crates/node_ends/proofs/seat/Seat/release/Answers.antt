use Rattle.node_ends.proofs.Words.{Release, ap, arith, aside_of, length, refl, subst, sym, used_of, without_got, ℕ, ◌-◌, ◌<◌, ◌∙◌}
use Rattle.node_ends.proofs.Moving.{stays_beside}
use Rattle.node_ends.proofs.Setting.{Counts, released_holds, none_released, counted_moves}
use Rattle.node_ends.proofs.Changing.{turned}
use Rattle.node_ends.proofs.seat.Seat.release.Goals as goal

pub release-requires-clause-quota : goal.release-requires-clause-quota
release-requires-clause-quota c =
    subst (λ n. n < length c.args.pool.now.owners) c.requires.owner c.requires.stands.1.stands.halfway.sends.lies.kept.has_quota

pub release-requires-clause-aside : goal.release-requires-clause-aside
release-requires-clause-aside c =
    let some = c.if-self-eq0.false in
    subst (λ n. 0 < aside_of c.args.pool.now n) c.requires.owner (omega (arith, c.requires.stands.1.stands.halfway.aside, c.requires.stands.2, some))

pub returns : goal.returns
returns c =
    turned {x = Release} (record {
      sendable = tt;
      moves = (let old = c.args.pool.now in
          let new = c.release.new.self in
          let o = c.args.self.now.side.outbox.owner in
          let Q : ℕ → Type 0 = λ n. Counts old new n (used_of old n - 1) (aside_of old n - 1) in
          counted_moves old new c.args.self.now.side (without_got c.requires.stands.0) (used_of old o - 1) (aside_of old o - 1)
          c.requires.stands.1.stands (subst Q (sym c.requires.owner) (record { slots = c.release.ensures.slots; owners = c.release.ensures.owners })));
      desk = refl;
      late = refl;
      ended = refl;
      acked = refl;
      stands = λ m h same. (
        (let old = c.args.pool.now in
            let new = c.release.new.self in
            let Q : ℕ → Type 0 = λ n. Counts old new n (used_of old n - 1) (aside_of old n - 1) in
            released_holds old new c.args.self.now.side c.args.self.now.waiting m h (omega (arith, h.stands.halfway.aside, same, c.if-self-eq0.false))
            (subst Q (sym c.requires.owner) (record { slots = c.release.ensures.slots; owners = c.release.ensures.owners }))),
        (ap (λ n. n - 1) same),
      );
    })

pub returns-then-self-eq0 : goal.returns-then-self-eq0
returns-then-self-eq0 c =
    turned {x = Release} (record {
      sendable = tt;
      moves = (let k = c.args.self.now.side in
          stays_beside c.args.pool.now k k refl refl);
      desk = refl;
      late = refl;
      ended = refl;
      acked = refl;
      stands = λ m h same. (
        (none_released c.args.pool.now c.args.self.now.side c.args.self.now.waiting m (sym same ∙ c.if-self-eq0.true) h),
        (let none = c.if-self-eq0.true in omega (arith, same, none)),
      );
    })
