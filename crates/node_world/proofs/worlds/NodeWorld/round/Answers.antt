use Rattle.node_world.proofs.Words.{arith, length, lines_played, nodes_behind, refl, with_items, with_items_is, ◌+◌, ◌≡◌}
use Rattle.node_world.specs.declared.worlds.NodeWorld.{NodeWorld}
use Rattle.node_world.proofs.WorldsStepped.{may_be_gone, round_answered, round_told_so, rounds_few}
use Rattle.node_world.proofs.worlds.NodeWorld.round.Goals as goal

pub go_round-requires-clause-state : goal.go_round-requires-clause-state
go_round-requires-clause-state c =
    let r = c.requires.room in (
      nodes_behind r.header (lines_played r.header r.plays),
      rw (← c.as_mut_slice.ensures.value) at r.stands.stands,
      may_be_gone c.args.self.now r.header r.plays r.stands,
    )

pub returns-clause-stands : goal.returns-clause-stands
returns-clause-stands c header plays s =
    let old = c.args.self.now in
    let new : NodeWorld = record old {
      controller = c.go_round.new.controller;
      sites = with_items old.sites c.go_round.new.sites;
      rounds = old.rounds + 1;
      noted = c.go_round.new.noted;
    } in
    let w = nodes_behind header (lines_played header plays) in
    let world = rw (← c.as_mut_slice.ensures.value) at s.stands in
    let many : length c.go_round.new.sites ≡ old.sites.len = omega (arith, c.go_round.auto.sites, c.as_mut_slice.ensures.len) in
    let gone = rw (← with_items_is old.sites c.go_round.new.sites many) at (c.go_round.ensures.stands w world (may_be_gone old header plays s)) in
    round_answered c.go_round.result old new header plays s c.forget.new.self.entries.items (rounds_few old c.requires.room header plays s) gone
    c.go_round.ensures.memory refl refl refl

pub returns-clause-entries : goal.returns-clause-entries
returns-clause-entries c header plays s =
    let old = c.args.self.now in
    let new : NodeWorld = record old {
      controller = c.go_round.new.controller;
      sites = with_items old.sites c.go_round.new.sites;
      rounds = old.rounds + 1;
      noted = c.go_round.new.noted;
    } in
    let w = nodes_behind header (lines_played header plays) in
    let world = rw (← c.as_mut_slice.ensures.value) at s.stands in
    let many : length c.go_round.new.sites ≡ old.sites.len = omega (arith, c.go_round.auto.sites, c.as_mut_slice.ensures.len) in
    let gone = rw (← with_items_is old.sites c.go_round.new.sites many) at (c.go_round.ensures.stands w world (may_be_gone old header plays s)) in
    round_told_so c.go_round.result old new header plays s c.forget.new.self.entries.items c.forget.ensures.entries gone
