use Rattle.std.proofs.Common.{◌+◌, ◌-◌, refl, sym, ap, ◌∙◌}
use Rattle.node_world.specs.declared.worlds.NodeWorld.{NodeWorld}
use Rattle.node_world.proofs.WorldsStepped.{stands_alike}
use Rattle.node_world.proofs.worlds.NodeWorld.count_as_rounds.Goals as goal

pub returns-clause-stands : goal.returns-clause-stands
returns-clause-stands c header plays others s same are few said rounds =
    let old = c.args.self.now in
    let new : NodeWorld = record old { stepped = old.stepped - c.args.lines; rounds = old.rounds + c.args.rounds } in
    stands_alike old new header plays others s same are few refl refl refl refl (ap (λ n. n - c.args.lines) s.stepped ∙ sym said)
    (ap (λ n. n + c.args.rounds) s.rounds ∙ sym rounds)
