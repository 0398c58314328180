use Rattle.node_core.proofs.Words.{End, EndsStandFor, Give, List, Message, Port, Work, [], after_turn, ap, end_of_node, noting, port_at, refl, subst, sym}
use Rattle.node_core.proofs.Words.{takes_at, with_port, ◌++◌, ◌∙◌, ◌∷◌}
use Rattle.trace_model.specs.declared.entry.Entry.TheVariants as entry
use Rattle.node_core.proofs.Steps.{plain_noted}
use Rattle.node_core.proofs.Relays.{not_held, either_first, got_still, relayed_sent, relayed_nowhere}
use Rattle.node_core.proofs.node.Node.relay.Goals as goal

pub pass_on-requires : goal.pass_on-requires
pass_on-requires g c =
    let r = c.requires.waits in
    let h = c.args.host in
    (with_port h not_held r.1.ports, (c.args.pipe, c.args.message.now), c.set_holds.ensures r.1.ports r.2.ends, got_still h r.1.ports ∙ r.3)

pub returns-then-pass_on-clause-carried : goal.returns-then-pass_on-clause-carried
returns-then-pass_on-clause-carried g c start w u got =
    let h = c.args.host in
    let to = c.args.to in
    let m : Message = (c.args.pipe, c.args.message.now) in
    let at = c.end_at.ensures w.core u.node in
    let first : Work = noting (entry.Turn (end_of_node w.core h) c.args.pipe c.args.message.now ∷ []) w in
    let noted = plain_noted (entry.Turn (end_of_node w.core h) c.args.pipe c.args.message.now) refl u c.note.ensures.stays
    (λ kept. c.note.ensures.noted kept ∙ ap (λ (e : End). g.W.Watch.noted c.args.watch.now ++ entry.Turn e c.args.pipe c.args.message.now ∷ []) at) in
    let e = c.set_holds.ensures w.ports u.ends in
    let come = got_still h w.ports ∙ got in
    let swap = either_first h w.ports in
    let P : List Port → Type 0 = λ l. EndsStandFor c.pass_on.new.self (with_port to (after_turn (Give m)) l) in
    let stands = subst P swap (c.pass_on.ensures.stands (with_port h not_held w.ports) m e come) in
    let takes = sym c.if-pass_on.true ∙ (c.pass_on.ensures.answer (with_port h not_held w.ports) m e come
    ∙ ap (λ (l : List Port). takes_at m (port_at l to)) swap) in
    relayed_sent m h to noted stands takes c.note-then-pass_on.ensures.stays (λ kept. c.note-then-pass_on.ensures.noted kept)
    (c.end_at-then-pass_on.ensures w.core u.node)

pub returns-else-pass_on-clause-carried : goal.returns-else-pass_on-clause-carried
returns-else-pass_on-clause-carried g c start w u got =
    let h = c.args.host in
    let to = c.args.to in
    let m : Message = (c.args.pipe, c.args.message.now) in
    let at = c.end_at.ensures w.core u.node in
    let first : Work = noting (entry.Turn (end_of_node w.core h) c.args.pipe c.args.message.now ∷ []) w in
    let noted = plain_noted (entry.Turn (end_of_node w.core h) c.args.pipe c.args.message.now) refl u c.note.ensures.stays
    (λ kept. c.note.ensures.noted kept ∙ ap (λ (e : End). g.W.Watch.noted c.args.watch.now ++ entry.Turn e c.args.pipe c.args.message.now ∷ []) at) in
    let e = c.set_holds.ensures w.ports u.ends in
    let come = got_still h w.ports ∙ got in
    let swap = either_first h w.ports in
    let P : List Port → Type 0 = λ l. EndsStandFor c.pass_on.new.self (with_port to (after_turn (Give m)) l) in
    let refuses = sym c.if-pass_on.false ∙ (c.pass_on.ensures.answer (with_port h not_held w.ports) m e come
    ∙ ap (λ (l : List Port). takes_at m (port_at l to)) swap) in
    relayed_nowhere m h to noted (subst P swap (c.pass_on.ensures.stands (with_port h not_held w.ports) m e come)) refuses
