use Rattle.link_end.proofs.Words.{Down, EndStandsFor, LinkEnd, Up, ap, false, is_open, subst, sym, true, ◌∙◌, ◌≡◌}
use Rattle.link_end.proofs.NodeLemmas.{reset_closed, reset_up, reset_down, reset_ends, reset_begins}
use Rattle.link_end.proofs.«end».End.reset.Goals as goal

pub returns-then-not-is_open-clause-stands : goal.returns-then-not-is_open-clause-stands
returns-then-not-is_open-clause-stands c m h =
    let P : LinkEnd → Type 0 = λ x. EndStandsFor c.args.self.now c.args.pool.now x in
    subst P (sym (reset_closed m c.args.window (sym (ap is_open h.halfway.role) ∙ (sym c.is_open.ensures ∙ c.if-not-is_open.true)))) h

pub returns-in-Up-clause-stands : goal.returns-in-Up-clause-stands
returns-in-Up-clause-stands c m h =
    let up : m.shdlc.phase ≡ Up = sym h.halfway.link.kept.phase ∙ sym c.in-Up.ensures.value in
    let P : LinkEnd → Type 0 = λ x. EndStandsFor c.forget.new.self c.forget.new.pool x in
    subst P (sym (reset_up m c.args.window (sym (ap is_open h.halfway.role) ∙ (sym c.is_open.ensures ∙ c.if-not-is_open.false)) up))
    (reset_ends (record { before = h; small = c.requires.window; stands = c.ask.ensures }) up c.forget.ensures)

pub returns-in-Down-clause-stands : goal.returns-in-Down-clause-stands
returns-in-Down-clause-stands c m h =
    let down : m.shdlc.phase ≡ Down = sym h.halfway.link.kept.phase ∙ sym c.in-Down.ensures.value in
    let P : LinkEnd → Type 0 = λ x. EndStandsFor c.offer_more.new.self c.offer_more.new.pool x in
    subst P (sym (reset_down m c.args.window (sym (ap is_open h.halfway.role) ∙ (sym c.is_open.ensures ∙ c.if-not-is_open.false)) down))
    (c.offer_more.ensures.stands _
    (reset_begins (record { before = h; small = c.requires.window; stands = c.ask-in-Down.ensures }) down))
