use Rattle.node_core.proofs.Words.{KeptEnds, Message, TellsLengthOf, ap, length, port_at, refl, sym, ◌∙◌}
use Rattle.node_core.proofs.Doing.{sent_under_way, refused_under_way, told_taken, told_refused}
use Rattle.node_core.proofs.Sendings.{where_err, of_err}
use Rattle.node_core.proofs.node.Node.send.Goals as goal

pub returns-in-Ok-clause-carried : goal.returns-in-Ok-clause-carried
returns-in-Ok-clause-carried g c start w u =
    let m : Message = (c.args.pipe, c.args.message.now) in
    sent_under_way m c.args.host u (c.send.ensures.stands w.ports u.ends)
    (told_taken m (port_at w.ports c.args.host) (sym c.in-Ok.is ∙ c.send.ensures.answer w.ports u.ends))
    c.note.ensures.stays (λ kept. c.note.ensures.noted kept) (c.end_at.ensures w.core u.node)

pub returns-in-Ok-clause-answer : goal.returns-in-Ok-clause-answer
returns-in-Ok-clause-answer g c ports e = sym c.in-Ok.is ∙ c.send.ensures.answer ports e

pub returns-in-Err-clause-carried : goal.returns-in-Err-clause-carried
returns-in-Err-clause-carried g c start w u =
    let m : Message = (c.args.pipe, c.args.message.now) in
    refused_under_way m c.args.host u (c.send.ensures.stands w.ports u.ends)
    (told_refused m (port_at w.ports c.args.host) c.in-Err.why (sym c.in-Err.is ∙ c.send.ensures.answer w.ports u.ends))

pub returns-in-Err-clause-answer : goal.returns-in-Err-clause-answer
returns-in-Err-clause-answer g c ports e = sym c.in-Err.is ∙ c.send.ensures.answer ports e

pub returns-in-Err-clause-long : goal.returns-in-Err-clause-long
returns-in-Err-clause-long g c = of_err (TellsLengthOf (length c.args.message.now)) c.in-Err.is c.send.ensures.long

pub returns-in-Err-clause-unchanged : goal.returns-in-Err-clause-unchanged
returns-in-Err-clause-unchanged g c =
    (ap (λ (e : KeptEnds). record c.args.self.now { ends = e }) (where_err c.in-Err.is c.send.ensures.unchanged), refl)
