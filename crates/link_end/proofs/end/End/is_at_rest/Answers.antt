use Rattle.std.proofs.Common.{sym, ◌∙◌}
use Rattle.link_end.proofs.RestLemmas.{rests_up}
use Rattle.link_end.proofs.«end».End.is_at_rest.Goals as goal

pub returns-in-Up : goal.returns-in-Up
returns-in-Up c pool m h =
    rests_up c.args.self.now pool m c.is_empty.result (sym (c.state.ensures.stands _ h.halfway.link.kept) ∙ c.in-Up.is) c.is_empty.ensures h
