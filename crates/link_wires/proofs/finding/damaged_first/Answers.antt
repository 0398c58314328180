use Rattle.link_wires.proofs.Words.{ap, if_beyond, length, sym, ◌∙◌}
use Rattle.link_wires.proofs.FirstFrames.{finds_lost}
use Rattle.link_wires.proofs.finding.damaged_first.Goals as goal

pub returns-in-Lost : goal.returns-in-Lost
returns-in-Lost c wire w =
    let frame = c.write_frame-frame.ensures.frame in
    finds_lost wire c.args.places.now c.in-Some.sent c.in-Lost.cause (sym (c.first_frame.ensures wire w) ∙ c.in-Some.is)
    (ap (λ n. if_beyond n c.args.places.now) (ap length (sym frame) ∙ sym c.len.ensures.value) ∙ sym c.past.ensures ∙ c.in_default-past.is)
    c.in-Lost.ensures
