use Rattle.world.proofs.Words.{AreNoted, End, GoesOut, HaveSent, Link, [], aged, aged_entries, aged_wire, exchanged, idle, on_ok, side_of, subst, tick_entries}
use Rattle.world.proofs.Words.{ticks_at_controller}
use Rattle.world.proofs.RoundLemmas.{seen_here, seen_at_controller, tick_noted, turned_round, few_short}
use Rattle.world.proofs.Given.{sent_ticked}
use Rattle.world.proofs.Sending.{aged_is}
use Rattle.world.proofs.repeats.tick.Goals as goal

pub tick_end-requires-clause-state : goal.tick_end-requires-clause-state
tick_end-requires-clause-state c =
    let l : Link = c.requires.state.0 in
    let m : Link = record l { to_controller = aged_wire l.to_controller } in
    let h = seen_here c.args.at c.requires.controller c.requires.state.1 in
    let a = c.in_ok-grow_older.ensures l.to_controller h.here.has.wire_is in
    let turned = turned_round (aged_is h a.0) in
    let b = c.in_ok-grow_older-2.ensures (exchanged m).to_controller turned.here.has.wire_is in
    let sent = c.requires.state.2.here in (
      aged l,
      turned_round (aged_is turned b.0),
      few_short sent,
    )

pub tick_end-requires-2-clause-state : goal.tick_end-requires-2-clause-state
tick_end-requires-2-clause-state c =
    let l : Link = c.requires.state.0 in
    let m : Link = record l { to_controller = aged_wire l.to_controller } in
    let h = seen_here c.args.at c.requires.controller c.requires.state.1 in
    let a = c.in_ok-grow_older.ensures l.to_controller h.here.has.wire_is in
    let turned = turned_round (aged_is h a.0) in
    let b = c.in_ok-grow_older-2.ensures (exchanged m).to_controller turned.here.has.wire_is in
    let both = turned_round (aged_is turned b.0) in
    let t = c.in_ok-tick_end.ensures.stands (aged l) both (few_short c.requires.state.2.here) in
    let near : Link = ticks_at_controller (aged l) [] GoesOut in
    let sent : HaveSent near 320000 = sent_ticked 320000 (aged l) (record { here = c.requires.state.2.here; there = c.requires.state.2.there }) in (
      exchanged near,
      turned_round t.0,
      few_short sent.there,
    )

pub returns-clause-stands : goal.returns-clause-stands
returns-clause-stands c l stands few =
    let m : Link = record l { to_controller = aged_wire l.to_controller } in
    let h = seen_here c.args.at c.requires.controller stands in
    let a = c.in_ok-grow_older.ensures l.to_controller h.here.has.wire_is in
    let turned = turned_round (aged_is h a.0) in
    let b = c.in_ok-grow_older-2.ensures (exchanged m).to_controller turned.here.has.wire_is in
    let both = turned_round (aged_is turned b.0) in
    let t = c.in_ok-tick_end.ensures.stands (aged l) both (few_short few.here) in
    let near : Link = ticks_at_controller (aged l) [] GoesOut in
    let sent : HaveSent near 320000 = sent_ticked 320000 (aged l) (record { here = few.here; there = few.there }) in
    on_ok c.tick_end-2.result
    (c.tick_end-2.ensures.stands (exchanged near) (turned_round t.0)
    (few_short sent.there))
    (λ last.
    let P : End → Type 0 = λ e.
    AreNoted e c.grow_older.new.entries.items c.grow_older-2.new.entries.items (aged_entries (side_of e) l.to_host) in
    let Q : End → Type 0 = λ e.
    AreNoted e c.tick_end.new.entries.items c.tick_end-2.new.entries.items (tick_entries (side_of e) (exchanged near) idle) in
    record {
      stands = seen_at_controller c.args.at c.requires.controller (turned_round last.0);
      noted_are = tick_noted c.args.at l c.args.entries.now.items c.requires.controller a.1 (subst P c.other.ensures b.1) t.1
          (subst Q c.other-2.ensures last.1);
    })
