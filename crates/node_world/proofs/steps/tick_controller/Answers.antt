use Rattle.node_world.proofs.Words.{IfOk-at_ok, link_to, none_noted, noted_behind}
use Rattle.node_world.proofs.HostsHear.{done_always, done_so}
use Rattle.node_world.proofs.ControllersHear.{place_is_on, place_is_off}
use Rattle.node_world.proofs.WorldsTick.{ticks_off, Ticked, mid_sites, tick_begins, numbered, tick_midway, tick_ends}
use Rattle.node_world.proofs.steps.tick_controller.Goals as goal

pub returns-in_default-clause-stands : goal.returns-in_default-clause-stands
returns-in_default-clause-stands c w world may timely few =
    let off = place_is_off c.args.controller.now w.memory w.controller (λ h. (link_to w.sites h).controller) c.in_default.not-On world.controller in
    ticks_off c.args.controller.now c.args.sites.now w c.args.noted.now.entries.items off timely may world

pub step-stepped-requires : goal.step-stepped-requires
step-stepped-requires c =
    let q = c.requires.state in
    let here = place_is_on c.args.controller.now q.0.memory q.0.controller (λ h. (link_to q.0.sites h).controller) c.in-On.node c.in-On.is q.1.controller in
    let b = tick_begins q.0 here.running q.2 q.3 here.runs c.in-On.node here.place in
    (_, _, b.runs, b.sent, tt)

pub unwrap-requires : goal.unwrap-requires
unwrap-requires c =
    let q = c.requires.state in
    let here = place_is_on c.args.controller.now q.0.memory q.0.controller (λ h. (link_to q.0.sites h).controller) c.in-On.node c.in-On.is q.1.controller in
    let b = tick_begins q.0 here.running q.2 q.3 here.runs c.in-On.node here.place in
    done_always c.step-stepped.result (c.step-stepped.ensures.refusal _ _ b.runs)

pub finish_controller-requires-clause-state : goal.finish_controller-requires-clause-state
finish_controller-requires-clause-state c =
    let q = c.requires.state in
    let here = place_is_on c.args.controller.now q.0.memory q.0.controller (λ h. (link_to q.0.sites h).controller) c.in-On.node c.in-On.is q.1.controller in
    let b = tick_begins q.0 here.running q.2 q.3 here.runs
    c.in-On.node here.place in (
      c.step-stepped.new.node,
      Ticked q.0 here.running q.2 q.3 here.runs,
      mid_sites q.0 here.running q.2 q.3 here.runs,
      tick_midway q.0 here.running q.2 q.3 here.runs c.in-On.node c.step-stepped.new.node c.args.sites.now c.unwrap.result
          (IfOk-at_ok _ c.unwrap.ensures (c.step-stepped.ensures.stepped _ b))
          q.1.sites,
    )

pub returns-clause-stands : goal.returns-clause-stands
returns-clause-stands c w world may timely few =
    let here = place_is_on c.args.controller.now w.memory w.controller (λ h. (link_to w.sites h).controller) c.in-On.node c.in-On.is world.controller in
    let b = tick_begins w here.running may timely here.runs
    c.in-On.node here.place in
    let gone = IfOk-at_ok _ c.unwrap.ensures (c.step-stepped.ensures.stepped _ b) in
    let midway = tick_midway w here.running may timely here.runs c.in-On.node c.step-stepped.new.node c.args.sites.now c.unwrap.result gone world.sites in
    let before = c.args.noted.now.entries.items in
    let noted = done_so c.unwrap.ensures (c.step-stepped.ensures.noted _ before _ b (none_noted _)) in
    let sessions = c.sessions_of-noted.ensures w.sites world.sites may.orderly.different may.hosts in
    let counted = numbered w here.running may timely here.runs c.sessions_of-noted.result sessions few in
    tick_ends w here.running may timely here.runs
    c.finish_controller.result c.unwrap.result c.finish_controller.new.controller c.finish_controller.new.sites c.in-On.node
    c.step-stepped.new.node before c.finish_controller.new.noted.entries.items here.place gone
    (λ live. c.finish_controller.ensures.goes_on c.step-stepped.new.node _ _ before midway (noted_behind noted counted) live)
    (λ cut. c.finish_controller.ensures.cut c.step-stepped.new.node _ _ before midway (noted_behind noted counted) cut)
