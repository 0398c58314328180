use Rattle.link_end.proofs.AccountLemmas.{rests, rests_may_take, may_take_held}
use Rattle.link_end.proofs.laws.an_end_at_rest_may_take.Goals as goal

pub returns-clause-rests : goal.returns-clause-rests
returns-clause-rests c = rests

pub returns-clause-free : goal.returns-clause-free
returns-clause-free c = rests_may_take

pub returns-clause-held : goal.returns-clause-held
returns-clause-held c = may_take_held
