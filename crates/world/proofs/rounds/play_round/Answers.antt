use Rattle.world.proofs.Words.{DoesAll, End, Entry, Link, List, SidesStandFor, link_after_lines, on_ok, other_end, subst, sym, taking_on}
use Rattle.world.proofs.RoundLemmas.{does_both, does_tick, other_sees, other_did, sent_taking}
use Rattle.world.proofs.rounds.play_round.Goals as goal

pub take_all-requires-2-clause-state : goal.take_all-requires-2-clause-state
take_all-requires-2-clause-state c =
    let s = c.requires.state in
    let at : End = c.args.at in
    let l : Link = s.0 in
    let m : Link = link_after_lines at.link l (taking_on l at) in
    let near = c.in_ok-take_all.ensures.stands l s.1 s.2 in
    let P : End → Type 0 = λ e. SidesStandFor c.take_all.new.far c.take_all.new.near c.take_all.new.resets e m in (
      m,
      subst P (sym c.other.ensures) (other_sees at m c.requires.controller near.stands),
      sent_taking 320000 at.link l at s.2,
    )

pub tick-requires-clause-state : goal.tick-requires-clause-state
tick-requires-clause-state c =
    let s = c.requires.state in
    let at : End = c.args.at in
    let there : End = other_end at in
    let l : Link = s.0 in
    let m : Link = link_after_lines at.link l (taking_on l at) in
    let near = c.in_ok-take_all.ensures.stands l s.1 s.2 in
    let P : End → Type 0 = λ e. SidesStandFor c.take_all.new.far c.take_all.new.near c.take_all.new.resets e m in
    let sent = sent_taking 320000 at.link l at s.2 in
    let far = c.in_ok-take_all-2.ensures.stands m (subst P (sym c.other.ensures) (other_sees at m c.requires.controller near.stands)) sent in
    let Q : End → Type 0 = λ e.
    DoesAll c.take_all-2.new.near c.take_all-2.new.far c.take_all-2.new.resets e m (taking_on m e) c.take_all.new.entries.items
    c.take_all-2.new.entries.items in
    let both = other_did at c.requires.controller (subst Q c.other.ensures far) in (
      link_after_lines at.link m (taking_on m there),
      both.stands,
      sent_taking 320000 at.link m there sent,
    )

pub returns : goal.returns
returns c l h few =
    let at : End = c.args.at in
    let there : End = other_end at in
    let m : Link = link_after_lines at.link l (taking_on l at) in
    let near = c.in_ok-take_all.ensures.stands l h few in
    let P : End → Type 0 = λ e. SidesStandFor c.take_all.new.far c.take_all.new.near c.take_all.new.resets e m in
    let sent = sent_taking 320000 at.link l at few in
    let far = c.in_ok-take_all-2.ensures.stands m (subst P (sym c.other.ensures) (other_sees at m c.requires.controller near.stands)) sent in
    let Q : End → Type 0 = λ e.
    DoesAll c.take_all-2.new.near c.take_all-2.new.far c.take_all-2.new.resets e m (taking_on m e) c.take_all.new.entries.items
    c.take_all-2.new.entries.items in
    let both = other_did at c.requires.controller (subst Q c.other.ensures far) in
    let R : List Entry → Type 0 = λ before.
    DoesAll c.take_all.new.near c.take_all.new.far c.take_all.new.resets at l (taking_on l at) before c.take_all.new.entries.items in
    on_ok c.tick.result
    (c.tick.ensures.stands (link_after_lines at.link m (taking_on m there)) both.stands (sent_taking 320000 at.link m there sent))
    (λ last. does_both (subst R c.requires.nothing near) (does_both both (does_tick last)))
