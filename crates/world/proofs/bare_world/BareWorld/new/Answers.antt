use Rattle.world.proofs.Words.{BareWorld, refl}
use Rattle.world.proofs.BareWorlds.{Law, new_stands}
use Rattle.world.proofs.bare_world.BareWorld.new.Goals as goal

pub returns-clause-stands : goal.returns-clause-stands
returns-clause-stands c =
    let e = c.every_history_is_legal.ensures in
    let law : Law = record { in_order = e.in_order; joined = e.joined; complete = e.complete; settled = e.settled } in
    let w : BareWorld = record {
      header = c.in_ok-clone.field-0;
      controller = c.in_ok-make.field-0;
      host = c.in_ok-make-2.field-0;
      resets = 0;
      stepped = 0;
      rounds = 0;
      entries = c.in_ok-opening.field-0;
      spare = c.new.result;
    } in
    new_stands law w c.args.header.now c.requires c.in_ok-clone.ensures.cases c.in_ok-make.ensures c.in_ok-make-2.ensures refl refl refl
