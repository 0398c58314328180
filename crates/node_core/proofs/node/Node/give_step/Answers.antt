use Rattle.node_core.proofs.Words.{Bool, Err, Give, HostRefused, IsInStep, Message, Ordered, Some, TellsLength, TellsLengthOf, Work, ap, false, give_refusal}
use Rattle.node_core.proofs.Words.{if_waiting, is_command_message, is_some, length, ordered_if, port_at, refl, refused_as, subst, sym, true, turn_at, ◌&&◌}
use Rattle.node_core.proofs.Words.{◌==◌, ◌∙◌, ◌≡◌}
use Rattle.node_core.proofs.Sendings.{down_refuses, given_so, linked, of_err, told_length, told_refusal, waiting_refuses, waits_same, was_ok, where_err}
use Rattle.node_core.proofs.Tasks.{command_changed}
use Rattle.node_core.proofs.node.Node.give_step.Goals as goal

pub returns-then-has_link-clause-refusal : goal.returns-then-has_link-clause-refusal
returns-then-has_link-clause-refusal g c noted short start w p u at =
    let m : Message = (c.args.pipe, c.args.message.now) in
    let waits : ((m.0 == 1 && is_command_message m.1) && is_some w.core.command) ≡ true =
    ap (λ (b : Bool). b && is_some w.core.command) (sym c.is_order-is_order.ensures)
    ∙ (ap (λ (b : Bool). c.is_order-is_order.result && b) (sym (waits_same u c.requires.live))
    ∙ (sym c.has_to_wait.ensures ∙ c.if-has_to_wait.true)) in
    sym (waiting_refuses p m (sym (linked w.ports c.args.self.now.number p at) ∙ (sym (c.has_link.ensures w.ports u.ends) ∙ c.if-has_link.true)))
    ∙ ap (λ (b : Bool). if_waiting b (give_refusal p.side m)) (sym waits)

pub returns-then-has_to_wait-clause-refusal : goal.returns-then-has_to_wait-clause-refusal
returns-then-has_to_wait-clause-refusal g c noted short start w p u at =
    let m : Message = (c.args.pipe, c.args.message.now) in
    sym (down_refuses p m ((m.0 == 1 && is_command_message m.1) && is_some w.core.command)
    (sym (linked w.ports c.args.self.now.number p at) ∙ (sym (c.has_link.ensures w.ports u.ends) ∙ c.if-has_link.false)))

pub returns-in-Err-clause-refusal : goal.returns-in-Err-clause-refusal
returns-in-Err-clause-refusal g c noted short start w p u at =
    let m : Message = (c.args.pipe, c.args.message.now) in
    let free : ((m.0 == 1 && is_command_message m.1) && is_some w.core.command) ≡ false =
    ap (λ (b : Bool). b && is_some w.core.command) (sym c.is_order-is_order.ensures)
    ∙ (ap (λ (b : Bool). c.is_order-is_order.result && b) (sym (waits_same u c.requires.live))
    ∙ (sym c.has_to_wait.ensures ∙ c.if-has_to_wait.false)) in
    ap (λ (why : HostRefused). refused_as (Err why)) c.refused_by.ensures
    ∙ (told_refusal m (port_at w.ports c.args.self.now.number) p (sym c.in-Err.is ∙ c.send.ensures.answer w.ports u.ends) at
    ∙ ap (λ (b : Bool). if_waiting b (give_refusal p.side m)) (sym free))

pub returns-in-Err-clause-long : goal.returns-in-Err-clause-long
returns-in-Err-clause-long g c =
    let len = length c.args.message.now in
    let P : HostRefused → Type 0 = λ why. TellsLength len (Some why) in
    subst P (sym c.refused_by.ensures) (told_length len c.in-Err.why (of_err (TellsLengthOf len) c.in-Err.is c.send.ensures.long))

pub returns-in-Err-clause-unchanged : goal.returns-in-Err-clause-unchanged
returns-in-Err-clause-unchanged g c = where_err c.in-Err.is c.send.ensures.unchanged

pub returns-then-not-is_order-clause-refusal : goal.returns-then-not-is_order-clause-refusal
returns-then-not-is_order-clause-refusal g c noted short start w p u at =
    let m : Message = (c.args.pipe, c.args.message.now) in
    let free : ((m.0 == 1 && is_command_message m.1) && is_some w.core.command) ≡ false =
    ap (λ (b : Bool). b && is_some w.core.command) (sym c.is_order-is_order.ensures)
    ∙ (ap (λ (b : Bool). c.is_order-is_order.result && b) (sym (waits_same u c.requires.live))
    ∙ (sym c.has_to_wait.ensures ∙ c.if-has_to_wait.false)) in
    told_refusal m (port_at w.ports c.args.self.now.number) p (sym (was_ok c.send.result c.in_default.not-Err) ∙ c.send.ensures.answer w.ports u.ends) at
    ∙ ap (λ (b : Bool). if_waiting b (give_refusal p.side m)) (sym free)

pub returns-then-not-is_order-clause-given : goal.returns-then-not-is_order-clause-given
returns-then-not-is_order-clause-given g c start w u =
    let h = c.args.self.now.number in
    let t = c.send in
    let order = c.is_order-is_order in
    let P : Work → Type 0 = λ v. IsInStep t.new.self (g.W.Watch.noted t.new.watch) (g.W.Watch.is_short t.new.watch) start v in
    let Q : Bool → Type 0 = λ b. P (ordered_if b c.args.message.now (turn_at h (Give (c.args.pipe, c.args.message.now)) w)) in
    subst P (given_so h c.args.pipe c.args.message.now w order.result order.ensures) (subst Q (sym c.if-not-is_order.true) (t.ensures.carried start w u))

pub returns-clause-refusal : goal.returns-clause-refusal
returns-clause-refusal g c noted short start w p u at =
    let m : Message = (c.args.pipe, c.args.message.now) in
    let free : ((m.0 == 1 && is_command_message m.1) && is_some w.core.command) ≡ false =
    ap (λ (b : Bool). b && is_some w.core.command) (sym c.is_order-is_order.ensures)
    ∙ (ap (λ (b : Bool). c.is_order-is_order.result && b) (sym (waits_same u c.requires.live))
    ∙ (sym c.has_to_wait.ensures ∙ c.if-has_to_wait.false)) in
    told_refusal m (port_at w.ports c.args.self.now.number) p (sym (was_ok c.send.result c.in_default.not-Err) ∙ c.send.ensures.answer w.ports u.ends) at
    ∙ ap (λ (b : Bool). if_waiting b (give_refusal p.side m)) (sym free)

pub returns-clause-given : goal.returns-clause-given
returns-clause-given g c start w u =
    let h = c.args.self.now.number in
    let t = c.send in
    let order = c.is_order-is_order in
    let P : Work → Type 0 = λ v. IsInStep (record t.new.self { tasks = record t.new.self.tasks { command = Some c.ordered_by.result } })
    (g.W.Watch.noted t.new.watch) (g.W.Watch.is_short t.new.watch) start v in
    let Q : Bool → Type 0 = λ b. P (ordered_if b c.args.message.now (turn_at h (Give (c.args.pipe, c.args.message.now)) w)) in
    subst P (given_so h c.args.pipe c.args.message.now w order.result order.ensures) (subst Q (sym c.if-not-is_order.false)
    (command_changed _ (Some c.args.message.now) (t.ensures.carried start w u) (ap (λ (o : Ordered). Some o) (sym c.ordered_by.ensures)) refl))
