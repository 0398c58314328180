use Rattle.node_ends.proofs.Words.{HoldsEnd, LinkReport, Machine, Seat, Some, Tick, ap, is_some, kept_number, refl, subst, sym, whole_acked, without_got, ◌∙◌}
use Rattle.node_ends.proofs.Moving.{stays_beside}
use Rattle.node_ends.proofs.Coming.{same_apart, tick_told_apart}
use Rattle.node_ends.proofs.Counting.{reached_outside}
use Rattle.node_ends.proofs.Blocks.{outside_aside}
use Rattle.node_ends.proofs.Keeping.{takes, side_takes}
use Rattle.node_ends.proofs.seat.Seat.tick.Goals as goal

pub returns-clause-becomes : goal.returns-clause-becomes
returns-clause-becomes c =
    let r = c.requires.may in
    let t = c.tick in
    takes {i = Tick} {told = t.result} {kept = c.insert-report.result.now}
    (side_takes t.new.self Tick refl (λ m. refl) (r.0.side, r.1.holds) t.ensures.elsewhere t.ensures.stands)
    (λ p g. t.ensures.answer (without_got p.side) g.holds.stands ∙ tick_told_apart p.side) c.insert-report.ensures.value c.count.ensures

pub returns-clause-told : goal.returns-clause-told
returns-clause-told c p g =
    ap (λ (r : LinkReport). Some r)
    (c.insert-report.ensures.value ∙ (c.tick.ensures.answer (without_got p.side) g.holds.stands ∙ tick_told_apart p.side))

-- where nothing is under way only the mark of an ended session is taken away
pub returns-then-is_idle-clause-becomes : goal.returns-then-is_idle-clause-becomes
returns-then-is_idle-clause-becomes c =
    let pool = c.args.pool.now in
    let s : Seat = c.args.self.now in
    record {
      host = refl;
      moves = stays_beside pool s.side s.side refl refl;
      stands = λ p g.
          let idle = c.is_idle.ensures pool (without_got p.side) g.holds.stands c.if-is_idle.true in
          let same = same_apart p.side idle.same in
          record {
            holds = subst (λ (m : Machine). HoldsEnd pool s.side s.waiting m) (sym same) g.holds;
            desk = g.desk;
            late = g.late;
            ended = ap (λ (r : LinkReport). is_some r.ended) (sym idle.told ∙ tick_told_apart p.side);
            reached = reached_outside p.side Tick refl g.reached;
            acked = g.acked ∙ ap (λ (m : Machine). kept_number (whole_acked m)) (sym same);
            aside = g.aside ∙ sym (outside_aside p.side Tick refl);
            sound = g.sound;
          };
    }

pub returns-then-is_idle-clause-told : goal.returns-then-is_idle-clause-told
returns-then-is_idle-clause-told c p g =
    let idle = c.is_idle.ensures c.args.pool.now (without_got p.side) g.holds.stands c.if-is_idle.true in
    ap (λ (r : LinkReport). Some r) (c.nothing.ensures ∙ (sym idle.told ∙ tick_told_apart p.side))
