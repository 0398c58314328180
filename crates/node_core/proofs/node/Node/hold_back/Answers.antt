use Rattle.node_core.proofs.Words.{Hold, IsInStep, Work, is_noted_held, refl, subst, true}
use Rattle.node_core.proofs.Steps.{silent_turn}
use Rattle.node_core.proofs.Holding.{held_so, few_held}
use Rattle.node_core.proofs.node.Node.hold_back.Goals as goal

pub hold-requires : goal.hold-requires
hold-requires g c =
    let r = c.requires.few in
    let u = c.note_held.ensures.carried r.0 r.1 r.2 in
    ((is_noted_held c.args.host (c.args.need, c.args.spare) r.1).ports, u.ends, few_held c.args.host (c.args.need, c.args.spare) r.1 r.3)

pub returns-clause-carried : goal.returns-clause-carried
returns-clause-carried g c start w u =
    let v : Work = is_noted_held c.args.host (c.args.need, c.args.spare) w in
    let n = c.note_held.ensures.carried start w u in
    let P : Work → Type 0 = λ x. IsInStep (record c.note_held.new.self { ends = c.hold.new.self }) (g.W.Watch.noted c.note_held.new.watch)
    (g.W.Watch.is_short c.note_held.new.watch) start x in
    subst P (held_so c.args.host (c.args.need, c.args.spare) w)
    (silent_turn {ends = c.hold.new.self} c.args.host (Hold true) (λ p. refl) n (c.hold.ensures v.ports n.ends))
