use Rattle.node_deeds.proofs.Words.{Some, ap, deeds_shown, handled_by, init_shown, orders_of, slice_get, ◌+◌, ◌∙◌}
use Rattle.node_deeds.proofs.HostWalks.{init_made}
use Rattle.node_deeds.proofs.responses.send_next.Goals as goal

pub returns-in-None-clause-deeds : goal.returns-in-None-clause-deeds
returns-in-None-clause-deeds g c = λ pipe message.
    let s = c.args.store.now in
    let host = c.args.host in
    let i = c.args.init.now in
    let a = handled_by host (Some (init_shown i)) pipe message in
    let none = c.in-None.ensures.order ∙ ap (λ n. slice_get (orders_of (init_shown i)) (n + 1)) c.from-place.ensures in
    init_made host s.journal.state s.tables i pipe message (deeds_shown a c.args.deeds.now.items) c.learn_command.new.deeds.items
    c.push-in-None.new.self.items c.setting_of.result c.len.result (slice_get (orders_of (init_shown i)) (i.answered + 1)) c.requires.some
    (c.learn_command.ensures.deeds a host (Some (init_shown i))) c.setting_of.ensures c.len.ensures.value c.push-in-None.ensures.items none
