use Rattle.node_ends.proofs.Words.{IsSoundDesk, None, Port, Reset, Seat, SeatStandsFor, acked_by_reset, ap, desk_shown, false, if◌then◌else◌, is_late, refl}
use Rattle.node_ends.proofs.Words.{reset_told, subst, sym, true, where_done, ◌∙◌, ◌≡◌}
use Rattle.node_ends.proofs.Moving.{stays_beside}
use Rattle.node_ends.proofs.Counting.{reached_outside, reset_acked}
use Rattle.node_ends.proofs.Noticing.{late_is, not_late, now_late}
use Rattle.node_ends.proofs.Blocks.{outside_aside}
use Rattle.node_ends.proofs.seat.Seat.reset_late.Goals as goal

pub returns-clause-becomes : goal.returns-clause-becomes
returns-clause-becomes c =
    let t = c.reset_unanswered in
    record {
      host = ap (λ (s : Seat). s.desk.host) t.ensures.rest;
      moves = t.ensures.moves;
      stands = λ p g.
          let late : is_late p ≡ true = sym (late_is _ p _ g.desk g.ended) ∙ (sym c.is_late.ensures ∙ c.if-not-is_late.false) in
          subst (λ q. SeatStandsFor t.new.pool t.new.self q) (now_late p late) (record {
            holds = t.ensures.stands p.side g.holds;
            desk = ap (λ (s : Seat). desk_shown s.desk) t.ensures.rest ∙ g.desk;
            late = ap (λ (s : Seat). s.late) t.ensures.rest;
            ended = ap (λ (s : Seat). s.ended) t.ensures.rest ∙ g.ended;
            reached = reached_outside p.side (Reset None) refl g.reached;
            acked = t.ensures.acked p.side g.holds ∙ (ap (λ n. acked_by_reset n (reset_told p.side None)) g.acked ∙ reset_acked p.side None g.reached);
            aside = ap (λ (s : Seat). s.aside) t.ensures.rest ∙ (g.aside ∙ sym (outside_aside p.side (Reset None) refl));
            sound = subst IsSoundDesk (sym (ap (λ (s : Seat). s.desk) t.ensures.rest)) g.sound;
          });
    }

pub returns-clause-answer : goal.returns-clause-answer
returns-clause-answer c p g =
    let late : is_late p ≡ true = sym (late_is _ p _ g.desk g.ended) ∙ (sym c.is_late.ensures ∙ c.if-not-is_late.false) in
    c.reset_unanswered.ensures.answer p.side g.holds ∙ ap (λ b. if b then where_done (reset_told p.side None) else None) (sym late)

pub returns-then-not-is_late-clause-becomes : goal.returns-then-not-is_late-clause-becomes
returns-then-not-is_late-clause-becomes c =
    let s : Seat = c.args.self.now in
    record {
      host = refl;
      moves = stays_beside c.args.pool.now s.side s.side refl refl;
      stands = λ p g.
          let P : Port → Type 0 = λ q. SeatStandsFor c.args.pool.now s q in
          subst P (not_late p (sym (late_is _ p _ g.desk g.ended) ∙ (sym c.is_late.ensures ∙ c.if-not-is_late.true))) g;
    }

pub returns-then-not-is_late-clause-answer : goal.returns-then-not-is_late-clause-answer
returns-then-not-is_late-clause-answer c p g =
    let late : is_late p ≡ false = sym (late_is _ p _ g.desk g.ended) ∙ (sym c.is_late.ensures ∙ c.if-not-is_late.true) in
    ap (λ b. if b then where_done (reset_told p.side None) else None) (sym late)
