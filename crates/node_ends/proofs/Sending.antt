-- The next frame of an end is fetched.
use Rattle.node_ends.proofs.Words.{End, EndStandsFor, EndState, Fetch, Machine, PoolState, Seat, SeatBecomes, after_input, ap, arith, frame_fetched}
use Rattle.node_ends.proofs.Words.{has_sent, kept_number, next_frame, refl, subst, sym, whole_acked, without_got, ◌∙◌, ◌≡◌}
use Rattle.shdlc_core.specs.Machine.{fetched}
use Rattle.node_ends.proofs.Blocks.{fetched_aside}
use Rattle.node_ends.proofs.Counting.{reached_on}
use Rattle.node_ends.proofs.Moving.{boxes_hold, stays_beside}

-- it has nothing to do with the messages that came
pub sent_without : (m : Machine) → frame_fetched (without_got m) ≡ without_got (frame_fetched m)
sent_without m = grind arith

pub next_without : (m : Machine) → next_frame (without_got m) ≡ next_frame m
next_without m = grind arith

one_fetched_acked : (s : EndState) → (fetched s).session.acked ≡ s.session.acked
one_fetched_acked s = grind arith

pub sent_same : (m : Machine) → ((frame_fetched m).got ≡ m.got) × (whole_acked (frame_fetched m) ≡ whole_acked m)
sent_same m = grind arith

-- what is kept of an end stands for its port behind that
pub sent_on : (pool : PoolState) (s : Seat) (side : End) → (side.outbox ≡ s.side.outbox) × (side.inbox ≡ s.side.inbox)
    → ((m : Machine) → EndStandsFor s.side pool m → EndStandsFor side pool (after_input m Fetch))
    → SeatBecomes pool pool s (record s { side = side }) has_sent
sent_on pool s side boxes stands = record {
  host = refl;
  moves = stays_beside pool s.side side boxes.0 boxes.1;
  stands = λ p g. record {
    holds = boxes_hold pool s.side side s.waiting p.side (frame_fetched p.side) g.holds boxes.1
        (subst (λ n. EndStandsFor side pool n) (sent_without p.side) (stands (without_got p.side) g.holds.stands)) (sent_same p.side).0;
    desk = g.desk;
    late = g.late;
    ended = g.ended;
    reached = reached_on p.side Fetch tt g.reached;
    acked = g.acked ∙ ap kept_number (sym (sent_same p.side).1);
    aside = g.aside ∙ sym (fetched_aside p.side);
    sound = g.sound;
  };
}
