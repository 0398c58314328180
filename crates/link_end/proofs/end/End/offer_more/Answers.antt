use Rattle.link_end.proofs.Words.{Halfway, PoolState, refl, subst, sym, ◌∙◌}
use Rattle.link_end.proofs.EndLemmas.{Refills, refills_more, refilled}
use Rattle.link_end.proofs.«end».End.offer_more.Goals as goal

pub loop-self-preserved : goal.loop-self-preserved
loop-self-preserved c =
    let room = c.loop-self-test.ensures.value.0 refl in
    let e = c.in-Some.ensures in
    let same = e.unchanged in
    let box = c.next_fragment.new.self in
    let P : PoolState → Type 0 = λ p. Refills p c.args.self.now (record c.loop-self.self { shdlc = c.offer_owned-taken.new.self; outbox = box }) in (
      subst P (sym same)
          (refills_more (record {
            waits = e.fragment;
            cut = e.kept;
            lies = e.lies;
            up = room.0;
            room = room.1;
            stands = c.offer_owned-taken.ensures.stands;
          }) c.loop-self.invariant.0),
      same ∙ c.loop-self.invariant.1,
    )

pub returns-clause-stands : goal.returns-clause-stands
returns-clause-stands c m h =
    let P : PoolState → Type 0 = λ p. Halfway c.args.self.now p m in
    refilled c.loop-self.pool c.loop-self.self m c.loop-self-test.ensures.full (c.loop-self.invariant.0.stands m (subst P (sym c.loop-self.invariant.1) h))
