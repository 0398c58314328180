use Rattle.node_world.proofs.Words.{HostSite, Link, None, Ok, On, Some, ap, arith, as_comes, exchanged, input_of_end, refl, replicate, session_at}
use Rattle.node_world.proofs.Words.{sym, true, ◌∙◌}
use Rattle.node_world.proofs.HostsHear.{as_none, as_some, may_arrive, off_refuses_none, none_refused, wires_as_were, arrived_noted, is_on, is_off}
use Rattle.node_world.proofs.HostsHear.{unchanged_as, hears_off, hears_none, begins_at_end, heard, is_done, refused_here, still_stands, may_start}
use Rattle.node_world.proofs.ControllersHear.{come_resets}
use Rattle.node_world.proofs.steps.comes_to_host.Goals as goal

pub returns-in_default-clause-refusal : goal.returns-in_default-clause-refusal
returns-in_default-clause-refusal c s is host = off_refuses_none c.args.what s.node s.link.host.side (is_off is c.in_default.not-On)

pub returns-in_default-clause-stands : goal.returns-in_default-clause-stands
returns-in_default-clause-stands c s is host counts =
    unchanged_as c.args.noted.now.entries.items is (hears_off s (as_comes c.args.what) (is_off is c.in_default.not-On))

pub step-requires : goal.step-requires
step-requires c =
    let q = c.requires.state in
    let s = q.0 in
    let k = c.args.site.now in
    let arrived = as_some c.in-Some.is (c.in_ok-arrived.ensures (exchanged s.link) q.1.wires) in
    let here = is_on q.1 c.in-On.is in
    let b = begins_at_end k s c.in-On.node here.running (as_comes c.args.what) q.1 c.in-On.is here.runs in (
      _,
      _,
      b.runs,
      b.sent,
      c.as_input.ensures.may _ (may_arrive true c.args.what c.in-Some.arrived _ arrived.is c.requires.may
          (λ value at_host. may_start k s c.in-On.node q.1 q.2 c.in-On.is value _ _ b.runs)),
    )

pub finish_host-requires-clause-state : goal.finish_host-requires-clause-state
finish_host-requires-clause-state c =
    let q = c.requires.state in
    let s = q.0 in
    let before = c.args.noted.now.entries.items in
    let arrived = as_some c.in-Some.is (c.in_ok-arrived.ensures (exchanged s.link) q.1.wires) in
    let sessions = replicate 8 c.session-noted.result in
    let d = heard c.args.site.now _ s c.in-On.node c.step.new.node c.in-Ok.live before _ c.step.new.noted sessions
    (ap (replicate 8) c.session-noted.ensures) q.1 q.2 c.in-On.is refl refl (as_comes c.args.what) (input_of_end c.as_input.result) q.3
    (arrived.input ∙ ap Some (sym c.as_input.ensures.input))
    c.in-Ok.ensures.stepped (c.in-Ok.ensures.noted sessions before)
    (record { are = λ long. (refl, rw q.1.host at (arrived_noted (session_at sessions) arrived)) }) arrived.wires in
    (s, d.step, d.l, d.w, before, d.midway)

pub finish_host-requires-clause-room : goal.finish_host-requires-clause-room
finish_host-requires-clause-room c =
    let q = c.requires.state in
    let l : Link = exchanged q.0.link in
    let now = (as_some c.in-Some.is (c.in_ok-arrived.ensures l q.1.wires)).wires.count ∙ come_resets l (as_comes c.args.what) in
    omega (arith, c.requires.room, q.1.wires.count, now)

pub returns-in_ok-finish_host-in-Ok-clause-refusal : goal.returns-in_ok-finish_host-in-Ok-clause-refusal
returns-in_ok-finish_host-in-Ok-clause-refusal c s is host =
    let arrived = as_some c.in-Some.is (c.in_ok-arrived.ensures (exchanged s.link) is.wires) in
    refused_here c.args.site.now s c.in-On.node is host c.in-On.is c.args.what c.in-Some.arrived None arrived.is
    (λ core ports r. sym (c.as_input.ensures.refusal _) ∙ c.in-Ok.ensures.refusal core ports r)

pub returns-in_ok-finish_host-in-Ok-clause-stands : goal.returns-in_ok-finish_host-in-Ok-clause-stands
returns-in_ok-finish_host-in-Ok-clause-stands c s is host counts =
    let before = c.args.noted.now.entries.items in
    let arrived = as_some c.in-Some.is (c.in_ok-arrived.ensures (exchanged s.link) is.wires) in
    let sessions = replicate 8 c.session-noted.result in
    let d = heard c.args.site.now _ s c.in-On.node c.step.new.node c.in-Ok.live before _ c.step.new.noted sessions
    (ap (replicate 8) c.session-noted.ensures) is host c.in-On.is refl refl (as_comes c.args.what) (input_of_end c.as_input.result) counts
    (arrived.input ∙ ap Some (sym c.as_input.ensures.input))
    c.in-Ok.ensures.stepped (c.in-Ok.ensures.noted sessions before)
    (record { are = λ long. (refl, rw is.host at (arrived_noted (session_at sessions) arrived)) }) arrived.wires in
    is_done (Ok c.in_ok-finish_host-in-Ok.field-0) c.finish_host.new.site c.finish_host.new.noted.entries.items d
    (c.in_ok-finish_host-in-Ok.ensures.stands s d.step d.l d.w before d.midway)

pub returns-in-Err-clause-refusal : goal.returns-in-Err-clause-refusal
returns-in-Err-clause-refusal c s is host =
    let arrived = as_some c.in-Some.is (c.in_ok-arrived.ensures (exchanged s.link) is.wires) in
    refused_here c.args.site.now s c.in-On.node is host c.in-On.is c.args.what c.in-Some.arrived (Some c.in-Err.why) arrived.is
    (λ core ports r. sym (c.as_input.ensures.refusal _) ∙ c.in-Err.ensures.refusal core ports r)

pub returns-in-Err-clause-stands : goal.returns-in-Err-clause-stands
returns-in-Err-clause-stands c s is host counts =
    let arrived = as_some c.in-Some.is (c.in_ok-arrived.ensures (exchanged s.link) is.wires) in
    let here = is_on is c.in-On.is in
    let b = begins_at_end c.args.site.now s c.in-On.node here.running (as_comes c.args.what) is c.in-On.is here.runs in
    let left = wires_as_were c.args.what c.in-Some.arrived _ arrived (sym (c.as_input.ensures.refusal _) ∙ c.in-Err.ensures.refusal _ _ b.runs) in
    still_stands c.args.site.now s c.in-On.node c.step.new.node c.comes.new.self is c.in-On.is left.0
    c.in-Err.ensures.unchanged c.in-Err.ensures.quiet.1 c.args.noted.now.entries.items c.step.new.noted.entries.items
    (ap (λ n. n.entries.items) c.in-Err.ensures.quiet.0 ∙ left.1)

pub returns-in_default-2-clause-refusal : goal.returns-in_default-2-clause-refusal
returns-in_default-2-clause-refusal c s is host =
    none_refused c.args.what (exchanged s.link) s.node s.link.host.side (as_none c.in_default-2.is (c.in_ok-arrived.ensures (exchanged s.link) is.wires)).input

pub returns-in_default-2-clause-stands : goal.returns-in_default-2-clause-stands
returns-in_default-2-clause-stands c s is host counts =
    let none = as_none c.in_default-2.is (c.in_ok-arrived.ensures (exchanged s.link) is.wires) in
    let before = c.args.noted.now.entries.items in
    let new : HostSite = record { host = c.args.site.now.host; wires = c.comes.new.self; power = On c.in-On.node } in
    rw (hears_none s (as_comes c.args.what) none.input)
    (still_stands c.args.site.now s c.in-On.node c.in-On.node c.comes.new.self is c.in-On.is none.wires (λ core ports r. r) refl before
    c.comes.new.entries.items none.noted)
