use Rattle.world.proofs.Words.{Bare, Nodes, Round, World, [], few_with_round, on_ok_weaker, refl, ◌++◌, ◌∷◌}
use Rattle.world.proofs.Below.{bare_goes, bare_room_to_settle, bare_told, stands_nodes}
use Rattle.world.proofs.Playing.{world_legal, round_fits, stands_with_round}
use Rattle.world.proofs.world_steps.World.round.Goals as goal

pub round-requires : goal.round-requires
round-requires c =
    let old = c.args.self.now in
    bare_room_to_settle old.below c.in-Bare.world c.in-Bare.is old.header c.requires.plays c.requires.stands.stands c.requires.few

pub round-requires-in-Nodes : goal.round-requires-in-Nodes
round-requires-in-Nodes c =
    let old = c.args.self.now in
    let room = c.requires in
    record {
      room = record {
        header = old.header;
        plays = room.plays;
        stands = stands_nodes old.below c.in-Nodes.world old.header room.plays c.in-Nodes.is room.stands.stands;
        few = room.few;
      };
    }

pub returns-in-Bare-clause-stands : goal.returns-in-Bare-clause-stands
returns-in-Bare-clause-stands c plays at =
    let old = c.args.self.now in
    stands_with_round c.round.result old (record old { below = Bare c.round.new.self }) old.header plays at c.requires refl refl
    (bare_goes old.below c.in-Bare.world c.in-Bare.is old.header plays at.stands c.round.new.self c.round.result c.round.ensures.stands)

pub returns-in-Bare-clause-entries : goal.returns-in-Bare-clause-entries
returns-in-Bare-clause-entries c plays at =
    let old = c.args.self.now in
    bare_told old.below c.in-Bare.world c.in-Bare.is old.header plays at.stands c.round.new.self c.round.result c.round.ensures.entries

pub returns-in-Bare-clause-legal : goal.returns-in-Bare-clause-legal
returns-in-Bare-clause-legal c plays at =
    let old = c.args.self.now in
    let new : World = record old { below = Bare c.round.new.self } in
    on_ok_weaker c.round.result (world_legal old.header new (plays ++ Round ∷ [])) (returns-in-Bare-clause-stands c plays at)

pub returns-in-Ok-clause-stands : goal.returns-in-Ok-clause-stands
returns-in-Ok-clause-stands c plays at =
    let old = c.args.self.now in
    record {
      header_is = at.header_is;
      closed = at.closed;
      few = few_with_round plays at.few (round_fits old old.header plays c.requires at.stands);
      stands = c.in-Ok.ensures.stands old.header plays (stands_nodes old.below c.in-Nodes.world old.header plays c.in-Nodes.is at.stands);
    }

pub returns-in-Ok-clause-legal : goal.returns-in-Ok-clause-legal
returns-in-Ok-clause-legal c plays at =
    let old = c.args.self.now in
    let new : World = record old { below = Nodes c.round-in-Nodes.new.self } in
    world_legal old.header new (plays ++ Round ∷ []) (returns-in-Ok-clause-stands c plays at)
