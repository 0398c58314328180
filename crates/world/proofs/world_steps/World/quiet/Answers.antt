use Rattle.world.proofs.Words.{BareWorld, Header, sym, ◌∙◌}
use Rattle.world.proofs.Below.{stands_bare, of_its_header, rests_bare}
use Rattle.world.proofs.world_steps.World.quiet.Goals as goal

pub returns-in-Bare : goal.returns-in-Bare
returns-in-Bare c plays at =
    let w : BareWorld = c.in-Bare.world in
    let header : Header = c.args.self.now.header in
    let z = stands_bare c.args.self.now.below w header plays c.in-Bare.is at in
    c.rests.ensures plays z.0 (of_its_header w header plays z.0 z.1) ∙ sym (rests_bare w header plays z.0 z.1)
