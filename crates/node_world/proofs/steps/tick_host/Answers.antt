use Rattle.node_world.proofs.Words.{IfOk-at_ok, NoInput, ap, none_noted, refl, replicate}
use Rattle.node_world.proofs.HostsHear.{done_always, done_so, is_on, is_off, begins_at_end, ticked, is_done}
use Rattle.node_world.proofs.HostsDo.{tick_off}
use Rattle.node_world.proofs.steps.tick_host.Goals as goal

pub step-stepped-requires : goal.step-stepped-requires
step-stepped-requires c =
    let r = c.requires.state in
    let here = is_on r.1 c.in-On.is in
    let b = begins_at_end c.args.site.now r.0 c.in-On.node here.running NoInput r.1 c.in-On.is here.runs in
    (_, _, b.runs, b.sent, tt)

pub unwrap-requires : goal.unwrap-requires
unwrap-requires c =
    let r = c.requires.state in
    let here = is_on r.1 c.in-On.is in
    let b = begins_at_end c.args.site.now r.0 c.in-On.node here.running NoInput r.1 c.in-On.is here.runs in
    done_always c.step-stepped.result (c.step-stepped.ensures.refusal _ _ b.runs)

pub finish_host-requires-clause-state : goal.finish_host-requires-clause-state
finish_host-requires-clause-state c =
    let r = c.requires.state in
    let before = c.args.noted.now.entries.items in
    let d = ticked c.args.site.now _ r.0 c.in-On.node c.step-stepped.new.node
    c.unwrap.result before _ c.step-stepped.new.noted _ (ap (replicate 8) c.session-noted.ensures) r.1 r.2 c.in-On.is refl
    refl r.3 (λ w b. IfOk-at_ok _ c.unwrap.ensures (c.step-stepped.ensures.stepped w b))
    (λ w b n. done_so c.unwrap.ensures (c.step-stepped.ensures.noted _ before w b n)) (none_noted _) r.1.wires in
    (r.0, d.step, d.l, d.w, before, d.midway)

pub returns-clause-stands : goal.returns-clause-stands
returns-clause-stands c s is host may =
    let before = c.args.noted.now.entries.items in
    let d = ticked c.args.site.now _ s c.in-On.node c.step-stepped.new.node
    c.unwrap.result before _ c.step-stepped.new.noted _ (ap (replicate 8) c.session-noted.ensures) is host c.in-On.is refl
    refl may (λ w b. IfOk-at_ok _ c.unwrap.ensures (c.step-stepped.ensures.stepped w b))
    (λ w b n. done_so c.unwrap.ensures (c.step-stepped.ensures.noted _ before w b n)) (none_noted _) is.wires in
    is_done c.finish_host.result c.finish_host.new.site c.finish_host.new.noted.entries.items d
    (c.finish_host.ensures.stands s d.step d.l d.w before d.midway)

pub returns-in_default-clause-stands : goal.returns-in_default-clause-stands
returns-in_default-clause-stands c s is host may = tick_off c.args.site.now s c.args.noted.now.entries.items is (is_off is c.in_default.not-On) may
