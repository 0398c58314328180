use Rattle.world.proofs.Words.{BareWorld, End, Header, List, OnWire, ap, length, sym, ◌∙◌}
use Rattle.world.proofs.Below.{stands_bare, of_its_header, frames_bare}
use Rattle.world.proofs.world_steps.World.standing.Goals as goal

pub returns-in-Bare : goal.returns-in-Bare
returns-in-Bare c plays at =
    let w : BareWorld = c.in-Bare.world in
    let header : Header = c.args.self.now.header in
    let e : End = record { link = c.args.link; at_host = c.args.at_host } in
    let z = stands_bare c.args.self.now.below w header plays c.in-Bare.is at in
    c.standing.ensures plays z.0 (of_its_header w header plays z.0 z.1)
    ∙ ap (λ (xs : List OnWire). length xs) (sym (frames_bare w header plays z.0 z.1 e))
