use Rattle.node_ends.proofs.Words.{HoldsSeat, Moves, None, Reset, Seat, acked_by_reset, after_input, ap, refl, subst, sym, true, where_done, without_got, ◌∙◌}
use Rattle.node_ends.proofs.Words.{◌≡◌}
use Rattle.node_ends.proofs.Coming.{reset_so, still_holds}
use Rattle.node_ends.proofs.Moving.{call_moves}
use Rattle.node_ends.proofs.seat.Seat.reset_unanswered.Goals as goal

pub returns-in-Ok-clause-stands : goal.returns-in-Ok-clause-stands
returns-in-Ok-clause-stands c m h =
    let t = c.reset in
    let P : Seat → Type 0 = λ s. HoldsSeat t.new.pool s (after_input m (Reset None)) in
    subst P (sym c.count.ensures) (still_holds c.args.pool.now t.new.pool c.args.self.now.side t.new.self c.args.self.now.waiting m (Reset None) h refl refl
    t.ensures.elsewhere (t.ensures.stands (without_got m) h.stands))

pub returns-in-Ok-clause-answer : goal.returns-in-Ok-clause-answer
returns-in-Ok-clause-answer c m h = ap where_done (sym c.in-Ok.is ∙ reset_so None c.reset.ensures.answer m h)

pub returns-in-Ok-clause-acked : goal.returns-in-Ok-clause-acked
returns-in-Ok-clause-acked c m h =
    ap (λ (s : Seat). s.acked) c.count.ensures ∙ ap (acked_by_reset c.args.self.now.acked) (sym c.in-Ok.is ∙ reset_so None c.reset.ensures.answer m h)

pub returns-in-Ok-clause-moves : goal.returns-in-Ok-clause-moves
returns-in-Ok-clause-moves c =
    let t = c.reset in
    let r = c.requires.stands in
    subst (λ s. Moves c.args.pool.now t.new.pool c.args.self.now.side s.side) (sym c.count.ensures)
    (call_moves c.args.pool.now t.new.pool c.args.self.now.side t.new.self (without_got r.0) r.1.stands t.ensures.elsewhere)

pub returns-in-Ok-clause-rest : goal.returns-in-Ok-clause-rest
returns-in-Ok-clause-rest c =
    let was : Seat = c.args.self.now in
    subst (λ s. record s { ended = was.ended } ≡ record was { side = s.side; late = true; acked = s.acked }) (sym c.count.ensures) refl

pub returns-in-Err-clause-stands : goal.returns-in-Err-clause-stands
returns-in-Err-clause-stands c m h =
    let t = c.reset in
    still_holds c.args.pool.now t.new.pool c.args.self.now.side t.new.self c.args.self.now.waiting m (Reset None) h refl refl
    t.ensures.elsewhere (t.ensures.stands (without_got m) h.stands)

pub returns-in-Err-clause-answer : goal.returns-in-Err-clause-answer
returns-in-Err-clause-answer c m h = ap where_done (sym c.in-Err.is ∙ reset_so None c.reset.ensures.answer m h)

pub returns-in-Err-clause-acked : goal.returns-in-Err-clause-acked
returns-in-Err-clause-acked c m h = ap (acked_by_reset c.args.self.now.acked) (sym c.in-Err.is ∙ reset_so None c.reset.ensures.answer m h)

pub returns-in-Err-clause-moves : goal.returns-in-Err-clause-moves
returns-in-Err-clause-moves c =
    let t = c.reset in
    let r = c.requires.stands in
    call_moves c.args.pool.now t.new.pool c.args.self.now.side t.new.self (without_got r.0) r.1.stands t.ensures.elsewhere
