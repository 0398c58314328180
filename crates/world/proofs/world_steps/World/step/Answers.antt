use Rattle.world.proofs.Words.{Bare, Nodes, Said, World, [], arith, few_with_said, on_ok_weaker, refl, ◌++◌, ◌∷◌}
use Rattle.world.proofs.Below.{bare_faults, bare_may, bare_room, bare_stands, bare_sure, bare_tells, stands_nodes}
use Rattle.world.proofs.Playing.{world_legal, line_fits, stands_with_line}
use Rattle.world.proofs.world_steps.World.step.Goals as goal

pub step-requires-clause-room : goal.step-requires-clause-room
step-requires-clause-room c =
    let old = c.args.self.now in
    let room = c.requires.room in
    let few = room.few in
    bare_room old.below c.in-Bare.world c.in-Bare.is old.header room.plays room.stands.stands (omega (arith, few))

pub step-requires-clause-line : goal.step-requires-clause-line
step-requires-clause-line c =
    let old = c.args.self.now in
    let room = c.requires.room in
    bare_may old.below c.in-Bare.world c.in-Bare.is old.header room.plays room.stands.stands c.args.line.now c.requires.line

pub step-requires-in-Nodes : goal.step-requires-in-Nodes
step-requires-in-Nodes c =
    let old = c.args.self.now in
    let room = c.requires.room in
    let few = room.few in
    record {
      room = record {
        header = old.header;
        plays = room.plays;
        stands = stands_nodes old.below c.in-Nodes.world old.header room.plays c.in-Nodes.is room.stands.stands;
        few = omega (arith, few);
        may = c.requires.line;
      };
    }

pub returns-in-Bare-clause-stands : goal.returns-in-Bare-clause-stands
returns-in-Bare-clause-stands c plays at =
    let old = c.args.self.now in
    stands_with_line c.step.result old (record old { below = Bare c.step.new.self }) old.header plays c.args.line.now at c.requires.room refl refl
    (bare_stands old.below c.in-Bare.world c.in-Bare.is old.header plays at.stands c.step.new.self c.args.line.now c.step.result c.step.ensures.stands)

pub returns-in-Bare-clause-entries : goal.returns-in-Bare-clause-entries
returns-in-Bare-clause-entries c plays at =
    let old = c.args.self.now in
    bare_tells old.below c.in-Bare.world c.in-Bare.is old.header plays at.stands c.step.new.self c.args.line.now c.step.result c.step.ensures.entries

pub returns-in-Bare-clause-fault : goal.returns-in-Bare-clause-fault
returns-in-Bare-clause-fault c plays at =
    let old = c.args.self.now in
    bare_faults old.below c.in-Bare.world c.in-Bare.is old.header plays at.stands c.args.line.now c.step.result c.step.ensures.fault

pub returns-in-Bare-clause-told : goal.returns-in-Bare-clause-told
returns-in-Bare-clause-told c plays at =
    let old = c.args.self.now in
    bare_sure old.below c.in-Bare.world c.in-Bare.is old.header plays at.stands c.args.line.now c.step.result c.step.ensures.told

pub returns-in-Bare-clause-legal : goal.returns-in-Bare-clause-legal
returns-in-Bare-clause-legal c plays at =
    let old = c.args.self.now in
    let new : World = record old { below = Bare c.step.new.self } in
    on_ok_weaker c.step.result (world_legal old.header new (plays ++ Said c.args.line.now ∷ [])) (returns-in-Bare-clause-stands c plays at)

pub returns-in-Ok-None-clause-stands : goal.returns-in-Ok-None-clause-stands
returns-in-Ok-None-clause-stands c plays at =
    let old = c.args.self.now in
    let behind = stands_nodes old.below c.in-Nodes.world old.header plays c.in-Nodes.is at.stands in
    record {
      header_is = at.header_is;
      closed = at.closed;
      few = few_with_said plays c.args.line.now at.few (line_fits old old.header plays c.requires.room at.stands);
      stands = c.in-Ok-None.ensures.stands old.header plays behind c.requires.line c.in-Ok-None.field-0-is;
    }

pub returns-in-Ok-None-clause-legal : goal.returns-in-Ok-None-clause-legal
returns-in-Ok-None-clause-legal c plays at =
    let old = c.args.self.now in
    let new : World = record old { below = Nodes c.step-in-Nodes.new.self } in
    world_legal old.header new (plays ++ Said c.args.line.now ∷ []) (returns-in-Ok-None-clause-stands c plays at)
