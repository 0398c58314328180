use Rattle.link_end.proofs.Words.{EndStandsFor, Fed, after_some, fed_input, subst, sym}
use Rattle.link_end.proofs.link.LinkEnd.take_fed.Goals as goal

pub returns-in-Frame-clause-stands : goal.returns-in-Frame-clause-stands
returns-in-Frame-clause-stands c m h =
    let P : Fed → Type 0 = λ f. EndStandsFor c.take_lpdu.new.self.link c.take_lpdu.new.pool (after_some m (fed_input f)) in
    subst P (sym c.in-Frame.is) (c.take_lpdu.ensures.stands m h)
