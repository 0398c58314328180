use Rattle.world.proofs.Words.{Bare, IfErr-weaker, IsFaultThere, Line, List, Nodes, Ok, OnOk, OpenLine, Play, Said, Some, World, [], ap, arith, bare_entries}
use Rattle.world.proofs.Words.{length, lines_played, map, on_ok_weaker, refl, subst, sym, told_below, ℕ, ◌++◌, ◌+◌, ◌∙◌, ◌∷◌, ◌≡◌}
use Rattle.world.specs.declared.fault.WorldFault.TheVariants as fault
use Rattle.node_world.specs.Worlds.{nodes_entries}
use Rattle.world.proofs.Below.{bare_faults, bare_may, bare_room, bare_stands, bare_tells, stands_nodes}
use Rattle.world.proofs.Playing.{parts_with, within_legal, played_parts, said_within, part_sure, stands_with_part, never_undetected}
use Rattle.world.proofs.world_steps.World.part.Goals as goal

pub step-requires-clause-room : goal.step-requires-clause-room
step-requires-clause-room c =
    let old = c.args.self.now in
    let room = c.requires.room in
    let said = said_within room.plays room.parts in
    let lines = room.stands.few.said in
    let few = room.few in
    bare_room old.below c.in-Bare.world c.in-Bare.is old.header (room.plays ++ map Said room.parts) room.stands.stands (omega (arith, said, lines, few))

pub step-requires-clause-line : goal.step-requires-clause-line
step-requires-clause-line c =
    let old = c.args.self.now in
    let room = c.requires.room in
    bare_may old.below c.in-Bare.world c.in-Bare.is old.header (room.plays ++ map Said room.parts) room.stands.stands c.args.line.now
    c.requires.line.played

pub step-requires-in-Nodes : goal.step-requires-in-Nodes
step-requires-in-Nodes c =
    let old = c.args.self.now in
    let room = c.requires.room in
    let said = said_within room.plays room.parts in
    let lines = room.stands.few.said in
    let few = room.few in
    record {
      room = record {
        header = old.header;
        plays = room.plays ++ map Said room.parts;
        stands = stands_nodes old.below c.in-Nodes.world old.header (room.plays ++ map Said room.parts) c.in-Nodes.is room.stands.stands;
        few = omega (arith, said, lines, few);
        may = c.requires.line.played;
      };
    }

pub returns-in-Bare-clause-stands : goal.returns-in-Bare-clause-stands
returns-in-Bare-clause-stands c plays most parts within =
    let old : World = c.args.self.now in
    let was = c.in-Some.opened in
    let new : World = record old { below = Bare c.step.new.self; opened = Some (record { most = was.most; parts = was.parts + 1 }) } in
    let before : Some was ≡ Some (record { most = most; parts = length parts }) = sym c.in-Some.is ∙ within.opened in
    let same : was ≡ record { most = most; parts = length parts } = cc in
    stands_with_part c.step.result old new old.header plays most parts c.args.line.now within c.requires.room refl
    (ap (λ (l : OpenLine). Some (record { most = l.most; parts = l.parts + 1 })) same)
    (bare_stands old.below c.in-Bare.world c.in-Bare.is old.header (plays ++ map Said parts) within.stands c.step.new.self c.args.line.now c.step.result
    c.step.ensures.stands)

pub returns-in-Bare-clause-entries : goal.returns-in-Bare-clause-entries
returns-in-Bare-clause-entries c plays most parts within =
    let old : World = c.args.self.now in
    let told : List Line → Type 0 = λ lines. OnOk c.step.result (bare_entries c.step.new.self ≡ told_below old.header lines c.args.line.now) in
    subst told (played_parts old.header parts plays)
    (bare_tells old.below c.in-Bare.world c.in-Bare.is old.header (plays ++ map Said parts) within.stands c.step.new.self c.args.line.now c.step.result
    c.step.ensures.entries)

pub returns-in-Bare-clause-fault : goal.returns-in-Bare-clause-fault
returns-in-Bare-clause-fault c =
    let old : World = c.args.self.now in
    let room = c.requires.room in
    let before : List Play = room.plays ++ map Said room.parts in
    let lines : List Line = lines_played old.header before in
    let said : Line = c.args.line.now in
    IfErr-weaker c.step.result (IsFaultThere old.header lines said) (λ why. why ≡ fault.NoMemory)
    (λ why there. never_undetected old.header lines said why (part_sure old.header lines said c.requires.line.part) there)
    (bare_faults old.below c.in-Bare.world c.in-Bare.is old.header before room.stands.stands said c.step.result c.step.ensures.fault)

pub returns-in-Bare-clause-legal : goal.returns-in-Bare-clause-legal
returns-in-Bare-clause-legal c plays most parts within are =
    let old : World = c.args.self.now in
    let was = c.in-Some.opened in
    let new : World = record old { below = Bare c.step.new.self; opened = Some (record { most = was.most; parts = was.parts + 1 }) } in
    let next : List Line = parts ++ c.args.line.now ∷ [] in
    on_ok_weaker c.step.result (λ w. within_legal old.header new plays most next w (parts_with old.header parts c.args.line.now are c.requires.line))
    (returns-in-Bare-clause-stands c plays most parts within)

pub returns-in-Ok-None-clause-stands : goal.returns-in-Ok-None-clause-stands
returns-in-Ok-None-clause-stands c plays most parts within =
    let old : World = c.args.self.now in
    let was = c.in-Some.opened in
    let new : World = record old { below = Nodes c.step-in-Nodes.new.self; opened = Some (record { most = was.most; parts = was.parts + 1 }) } in
    let before : Some was ≡ Some (record { most = most; parts = length parts }) = sym c.in-Some.is ∙ within.opened in
    let same : was ≡ record { most = most; parts = length parts } = cc in
    let behind = stands_nodes old.below c.in-Nodes.world old.header (plays ++ map Said parts) c.in-Nodes.is within.stands in
    stands_with_part {T = ℕ} {E = ℕ} (Ok 0) old new old.header plays most parts c.args.line.now within c.requires.room refl
    (ap (λ (l : OpenLine). Some (record { most = l.most; parts = l.parts + 1 })) same)
    (c.in-Ok-None.ensures.stands old.header (plays ++ map Said parts) behind c.requires.line.played c.in-Ok-None.field-0-is)

pub returns-in-Ok-None-clause-entries : goal.returns-in-Ok-None-clause-entries
returns-in-Ok-None-clause-entries c plays most parts within =
    let old : World = c.args.self.now in
    let behind = stands_nodes old.below c.in-Nodes.world old.header (plays ++ map Said parts) c.in-Nodes.is within.stands in
    let told : List Line → Type 0 = λ lines. nodes_entries c.step-in-Nodes.new.self ≡ told_below old.header lines c.args.line.now in
    subst told (played_parts old.header parts plays)
    (c.in-Ok-None.ensures.entries old.header (plays ++ map Said parts) behind c.requires.line.played c.in-Ok-None.field-0-is)

pub returns-in-Ok-None-clause-legal : goal.returns-in-Ok-None-clause-legal
returns-in-Ok-None-clause-legal c plays most parts within are =
    let old : World = c.args.self.now in
    let was = c.in-Some.opened in
    let new : World = record old { below = Nodes c.step-in-Nodes.new.self; opened = Some (record { most = was.most; parts = was.parts + 1 }) } in
    let next : List Line = parts ++ c.args.line.now ∷ [] in
    within_legal old.header new plays most next (returns-in-Ok-None-clause-stands c plays most parts within)
    (parts_with old.header parts c.args.line.now are c.requires.line)
