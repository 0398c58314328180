use Rattle.link_end.proofs.Words.{EndStandsFor, LinkEnd, ap, false, is_open, subst, sym, true, ◌∙◌, ◌≡◌}
use Rattle.link_end.proofs.StepLemmas.{tick_after}
use Rattle.link_end.proofs.«end».End.tick.Goals as goal

pub returns-clause-stands : goal.returns-clause-stands
returns-clause-stands c m h =
    let o : is_open m.role ≡ true = sym (ap is_open h.halfway.role) ∙ (sym c.is_open.ensures ∙ c.if-not-is_open.false) in
    subst (λ x. EndStandsFor c.tick_link.new.self c.tick_link.new.pool x) (sym (tick_after m true o)) (c.tick_link.ensures.stands m h)

pub returns-then-not-is_open-clause-stands : goal.returns-then-not-is_open-clause-stands
returns-then-not-is_open-clause-stands c m h =
    let o : is_open m.role ≡ false = sym (ap is_open h.halfway.role) ∙ (sym c.is_open.ensures ∙ c.if-not-is_open.true) in
    let P : LinkEnd → Type 0 = λ x. EndStandsFor c.tick_activation-report.new.self c.tick_activation-report.new.pool x in
    subst P (sym (tick_after m false o)) (c.tick_activation-report.ensures.stands m h)
