use Rattle.std.proofs.lemmas.Result.{IfOk-weaker}
use Rattle.node_world.proofs.Words.{AllByRecursion, AreDifferent, Arrived, BecomesUnless, Comes, ComesToEnd, End, Entry, HostSite, Incoming, IsHost}
use Rattle.node_world.proofs.Words.{IsNodePlace, Link, LinkInput, List, MayArrive, NodeWorld, None, Ok, On, Option, Power, ResetRefused, Running, Some}
use Rattle.node_world.proofs.Words.{StandsAt, Wires, WiresStandFor, WorldBecomes, ap, append-nil, as_comes, as_it_comes_to, comes_at, end_c, end_h, false}
use Rattle.node_world.proofs.Words.{host_hears, if_accepted, input_of_end, link_to, machine_in, node_at, node_of, noted_behind, refl, refusal_coming, seen_from}
use Rattle.node_world.proofs.Words.{session_at, slice_index_or, slice_set, subst, sym, ℕ, ◌==◌, ◌∙◌, ◌≡◌}
use Rattle.node_world.proofs.HostsHear.{as_none, as_some, may_arrive, off_refuses_none, none_refused, wires_as_were, arrived_noted}
use Rattle.node_world.proofs.ControllersHear.{place_is_on, place_is_off, comes_off, comes_none, hosts_as_it_comes, room_kept, resets_as_it_comes, wires_there}
use Rattle.node_world.proofs.ControllersHear.{sites_with, sites_still}
use Rattle.node_world.proofs.ControllersStep.{Then, mid_sites, begins_there, numbered, refused_there, step_midway, step_ends}
use Rattle.node_world.proofs.HostsInWorlds.{at_place, controller_end_is, counts_coming, end_is, nowhere, room_there, site_stands, refusal_there}
use Rattle.node_world.proofs.HostsInWorlds.{hears_in_world, counted_at, found_becomes_unless, hears_leaves, room_for_all}
use Rattle.node_world.proofs.steps.comes_to.Goals as goal

-- what comes to the controller's end of a link, so named
near_comes : {old : Wires} (at : End) (new : Wires) (what : Incoming) (before now : List Entry) (o : Option Arrived) → at.at_host ≡ false
    → ((l : Link) → WiresStandFor old (seen_from at l) → ComesToEnd new at l what before now o)
    → (l : Link) → WiresStandFor old l → ComesToEnd new (end_c at.link) l what before now o
near_comes {old} at new what before now o near comes l wires =
    let is = controller_end_is at near in
    subst (λ e. ComesToEnd new e l what before now o) (sym is) (comes l (subst (λ e. WiresStandFor old (seen_from e l)) is wires))

near_refused : (at : End) (w : NodeWorld) (comes : Comes) (why : Option ResetRefused) → at.at_host ≡ false
    → why ≡ refusal_coming w.controller (link_to w.sites at.link).controller.side comes → why ≡ refusal_coming (node_at w (node_of at)) (machine_in w at) comes
near_refused at w comes why near is = rw (← controller_end_is at near) is

near_becomes : {k : Power} {ks : List HostSite} {before now : List Entry} (at : End) (w : NodeWorld) (comes : Comes) → at.at_host ≡ false
    → WorldBecomes k ks before now (comes_at w (end_c at.link) comes) → WorldBecomes k ks before now (comes_at w at comes)
near_becomes {k} {ks} {before} {now} at w comes near b = rw (← controller_end_is at near) b

pub returns-in_default-clause-refusal : goal.returns-in_default-clause-refusal
returns-in_default-clause-refusal c w world ready there = nowhere w.sites c.args.at.link there (c.in_default.ensures.place w.sites world.sites)

pub returns-in_default-clause-stands : goal.returns-in_default-clause-stands
returns-in_default-clause-stands c w world ready there = nowhere w.sites c.args.at.link there (c.in_default.ensures.place w.sites world.sites)

pub comes_to_host-requires-clause-state : goal.comes_to_host-requires-clause-state
comes_to_host-requires-clause-state c =
    let w = c.requires.state.0 in
    let all = c.requires.state.1.sites in
    let a : StandsAt c.in-Some.place c.args.at.link w.sites = c.in-Some.ensures.place w.sites all in
    let t = at_place c.args.sites.now w c.in-Some.place c.args.at.link a c.index-sites-place.result
    all c.index-sites-place.is c.requires.state.2 in (
      a.site,
      t.is,
      t.host,
      counts_coming _ a.site (as_comes c.args.what) t.is t.host t.few,
    )

pub comes_to_host-requires-clause-room : goal.comes_to_host-requires-clause-room
comes_to_host-requires-clause-room c =
    let w = c.requires.state.0 in
    let all = c.requires.state.1.sites in
    let a : StandsAt c.in-Some.place c.args.at.link w.sites = c.in-Some.ensures.place w.sites all in
    let t = at_place c.args.sites.now w c.in-Some.place c.args.at.link a c.index-sites-place.result all c.index-sites-place.is c.requires.state.2 in
    room_there _ a.site t.is t.few

pub comes_to_host-requires-clause-may : goal.comes_to_host-requires-clause-may
comes_to_host-requires-clause-may c = rw c.if-at.true at c.requires.may

pub returns-then-at-clause-refusal : goal.returns-then-at-clause-refusal
returns-then-at-clause-refusal c w world ready there =
    let h = c.args.at.link in
    let a : StandsAt c.in-Some.place h w.sites = c.in-Some.ensures.place w.sites world.sites in
    let t = at_place c.args.sites.now w c.in-Some.place h a c.index-sites-place.result world.sites c.index-sites-place.is ready in
    let off = sym (ap (λ n. n == 0) a.host) ∙ t.host.number in
    let R : End → Option ResetRefused = λ e. refusal_coming (node_at w (node_of e)) (machine_in w e) (as_comes c.args.what) in
    let same = sym (refusal_there w h a.site off (site_stands w c.in-Some.place h a ready.goes_on.orderly) (as_comes c.args.what))
    ∙ ap R (end_is c.args.at c.if-at.true) in
    IfOk-weaker c.comes_to_host.result (λ why. why ≡ refusal_coming a.site.node a.site.link.host.side (as_comes c.args.what)) (λ why. why ≡ R c.args.at)
    (λ why e. e ∙ same)
    (c.comes_to_host.ensures.refusal a.site t.is t.host)

pub returns-then-at-clause-stands : goal.returns-then-at-clause-stands
returns-then-at-clause-stands c w world ready there =
    let h = c.args.at.link in
    let o = ready.goes_on.orderly in
    let a : StandsAt c.in-Some.place h w.sites = c.in-Some.ensures.place w.sites world.sites in
    let t = at_place c.args.sites.now w c.in-Some.place h a c.index-sites-place.result world.sites c.index-sites-place.is ready in
    let W : Option ResetRefused → End → Type 0 = λ cause e. WorldBecomes
    c.args.controller.now (slice_set c.args.sites.now c.in-Some.place c.comes_to_host.new.site) c.args.noted.now.entries.items
    c.comes_to_host.new.noted.entries.items (if_accepted cause w (comes_at w e (as_comes c.args.what))) in
    IfOk-weaker c.comes_to_host.result (BecomesUnless c.comes_to_host.new.site c.args.noted.now.entries.items c.comes_to_host.new.noted.entries.items a.site
    (host_hears a.site (as_comes c.args.what)))
    (λ cause. W cause c.args.at)
    (λ cause b. subst (W cause) (end_is c.args.at c.if-at.true)
    (found_becomes_unless w c.in-Some.place h a o (host_hears a.site (as_comes c.args.what)) (comes_at w (end_h h) (as_comes c.args.what))
    (hears_in_world w h a.site (site_stands w c.in-Some.place h a o) (as_comes c.args.what)) (hears_leaves a.site (as_comes c.args.what))
    c.args.controller.now c.args.sites.now c.comes_to_host.new.site c.args.noted.now.entries.items c.comes_to_host.new.noted.entries.items
    world cause b))
    (c.comes_to_host.ensures.stands a.site t.is t.host (counts_coming _ a.site (as_comes c.args.what) t.is t.host t.few))

pub returns-in_default-controller-clause-refusal : goal.returns-in_default-controller-clause-refusal
returns-in_default-controller-clause-refusal c w world ready there =
    near_refused c.args.at w (as_comes c.args.what) None c.if-at.false
    (off_refuses_none c.args.what w.controller (link_to w.sites c.args.at.link).controller.side
    (place_is_off c.args.controller.now w.memory w.controller (λ h. (link_to w.sites h).controller) c.in_default-controller.not-On world.controller))

pub returns-in_default-controller-clause-stands : goal.returns-in_default-controller-clause-stands
returns-in_default-controller-clause-stands c w world ready there =
    let off = place_is_off c.args.controller.now w.memory w.controller (λ h. (link_to w.sites h).controller) c.in_default-controller.not-On world.controller in
    near_becomes c.args.at w (as_comes c.args.what) c.if-at.false
    (rw (comes_off w c.args.at.link (as_comes c.args.what) off) (record { world = world; noted = sym (append-nil c.args.noted.now.entries.items) }))

pub returns-in_default-2-clause-refusal : goal.returns-in_default-2-clause-refusal
returns-in_default-2-clause-refusal c w world ready there =
    let ks = c.args.sites.now in
    let k = slice_index_or ks c.in-Some.place c.index-sites-place-2.result in
    let read = ap (slice_index_or ks c.in-Some.place) c.index-sites-place-2.is in
    let none = as_none c.in_default-2.is (near_comes c.args.at c.comes.new.self c.args.what _ _ _ c.if-at.false c.in_ok-arrived.ensures
    (link_to w.sites c.args.at.link)
    (wires_there w c.args.at.link ready.goes_on there c.in-Some.place ks k (c.in-Some.ensures.place w.sites world.sites) world.sites read)) in
    near_refused c.args.at w (as_comes c.args.what) None c.if-at.false
    (none_refused c.args.what (link_to w.sites c.args.at.link) w.controller (link_to w.sites c.args.at.link).controller.side none.input)

pub returns-in_default-2-clause-stands : goal.returns-in_default-2-clause-stands
returns-in_default-2-clause-stands c w world ready there =
    let h : ℕ = c.args.at.link in
    let ks = c.args.sites.now in
    let k = slice_index_or ks c.in-Some.place c.index-sites-place-2.result in
    let st = c.in-Some.ensures.place w.sites world.sites in
    let read = ap (slice_index_or ks c.in-Some.place) c.index-sites-place-2.is in
    let none = as_none c.in_default-2.is (near_comes c.args.at c.comes.new.self c.args.what _ _ _ c.if-at.false c.in_ok-arrived.ensures
    (link_to w.sites h) (wires_there w h ready.goes_on there c.in-Some.place ks k st world.sites read)) in
    near_becomes c.args.at w (as_comes c.args.what) c.if-at.false
    (rw (comes_none w h (as_comes c.args.what) none.input) (record {
      world = record {
        controller = rw c.in-On.is at world.controller;
        sites = sites_still w h ready.goes_on there c.in-Some.place ks k st world.sites read c.comes.new.self none.wires;
      };
      noted = none.noted ∙ sym (append-nil c.args.noted.now.entries.items);
    }))

pub step-requires : goal.step-requires
step-requires c =
    let q = c.requires.state in
    let h : ℕ = c.args.at.link in
    let comes : Comes = as_comes c.args.what in
    let ks = c.args.sites.now in
    let k = slice_index_or ks c.in-Some.place c.index-sites-place-2.result in
    let st = c.in-Some.ensures.place q.0.sites q.1.sites in
    let read = ap (slice_index_or ks c.in-Some.place) c.index-sites-place-2.is in
    let here = place_is_on c.args.controller.now q.0.memory q.0.controller (λ h. (link_to q.0.sites h).controller) c.in-On.node c.in-On.is q.1.controller in
    let arrived = as_some c.in-Some-2.is (near_comes c.args.at c.comes.new.self c.args.what _ _ _ c.if-at.false c.in_ok-arrived.ensures
    (link_to q.0.sites h) (wires_there q.0 h q.2.goes_on q.3 c.in-Some.place ks k st q.1.sites read)) in
    let sites = sites_with q.0 h q.2.goes_on q.3 c.in-Some.place ks k st q.1.sites read comes c.comes.new.self arrived.wires in
    let input = arrived.input ∙ ap Some (sym c.as_input.ensures.input) in
    let b = begins_there q.0 here.running h comes (input_of_end c.as_input.result) q.3.0 q.2.goes_on here.runs q.3.1 input c.in-On.node here.place in
    let may = may_arrive false c.args.what c.in-Some-2.arrived _ arrived.is (subst (λ b. MayArrive b c.args.what) c.if-at.false c.requires.may)
    (λ value at_host. absurd (cc at_host)) in
    (_, _, b.runs, b.sent, c.as_input.ensures.may _ may)

pub finish_controller-requires-clause-state : goal.finish_controller-requires-clause-state
finish_controller-requires-clause-state c =
    let q = c.requires.state in
    let h : ℕ = c.args.at.link in
    let comes : Comes = as_comes c.args.what in
    let ks = c.args.sites.now in
    let k = slice_index_or ks c.in-Some.place c.index-sites-place-2.result in
    let st = c.in-Some.ensures.place q.0.sites q.1.sites in
    let read = ap (slice_index_or ks c.in-Some.place) c.index-sites-place-2.is in
    let here = place_is_on c.args.controller.now q.0.memory q.0.controller (λ h. (link_to q.0.sites h).controller) c.in-On.node c.in-On.is q.1.controller in
    let arrived = as_some c.in-Some-2.is (near_comes c.args.at c.comes.new.self c.args.what _ _ _ c.if-at.false c.in_ok-arrived.ensures
    (link_to q.0.sites h) (wires_there q.0 h q.2.goes_on q.3 c.in-Some.place ks k st q.1.sites read)) in
    let sites = sites_with q.0 h q.2.goes_on q.3 c.in-Some.place ks k st q.1.sites read comes c.comes.new.self arrived.wires in
    let i : LinkInput = input_of_end c.as_input.result in
    let input = arrived.input ∙ ap Some (sym c.as_input.ensures.input) in
    let b = begins_there q.0 here.running h comes i q.3.0 q.2.goes_on here.runs q.3.1 input c.in-On.node here.place in (
      c.step.new.node,
      Then q.0 here.running h comes i q.3.0 q.2.goes_on here.runs q.3.1 input,
      mid_sites q.0 here.running h comes i q.3.0 q.2.goes_on here.runs q.3.1 input,
      step_midway q.0 here.running h comes i q.3.0 q.2.goes_on here.runs q.3.1 input c.in-On.node c.step.new.node _ c.in-Ok.live
          (c.in-Ok.ensures.stepped _ b) sites,
    )

pub finish_controller-requires-clause-room : goal.finish_controller-requires-clause-room
finish_controller-requires-clause-room c =
    let q = c.requires.state in
    let h : ℕ = c.args.at.link in
    let comes : Comes = as_comes c.args.what in
    let ks = c.args.sites.now in
    let k = slice_index_or ks c.in-Some.place c.index-sites-place-2.result in
    let st = c.in-Some.ensures.place q.0.sites q.1.sites in
    let read = ap (slice_index_or ks c.in-Some.place) c.index-sites-place-2.is in
    let here = place_is_on c.args.controller.now q.0.memory q.0.controller (λ h. (link_to q.0.sites h).controller) c.in-On.node c.in-On.is q.1.controller in
    let arrived = as_some c.in-Some-2.is (near_comes c.args.at c.comes.new.self c.args.what _ _ _ c.if-at.false c.in_ok-arrived.ensures
    (link_to q.0.sites h) (wires_there q.0 h q.2.goes_on q.3 c.in-Some.place ks k st q.1.sites read)) in
    let sites = sites_with q.0 h q.2.goes_on q.3 c.in-Some.place ks k st q.1.sites read comes c.comes.new.self arrived.wires in
    let input = arrived.input ∙ ap Some (sym c.as_input.ensures.input) in
    let b = begins_there q.0 here.running h comes (input_of_end c.as_input.result) q.3.0 q.2.goes_on here.runs q.3.1 input c.in-On.node here.place in
    room_kept ks _ q.0.sites (as_it_comes_to h comes q.0.sites) q.1.sites sites (resets_as_it_comes h comes q.0.sites)
    (room_for_all c.args.sites.now c.requires.state.0 c.requires.state.1.sites c.requires.state.2.few)

pub returns-in_ok-finish_controller-in-Ok-clause-refusal : goal.returns-in_ok-finish_controller-in-Ok-clause-refusal
returns-in_ok-finish_controller-in-Ok-clause-refusal c w world ready there =
    let h : ℕ = c.args.at.link in
    let comes : Comes = as_comes c.args.what in
    let ks = c.args.sites.now in
    let k = slice_index_or ks c.in-Some.place c.index-sites-place-2.result in
    let st = c.in-Some.ensures.place w.sites world.sites in
    let read = ap (slice_index_or ks c.in-Some.place) c.index-sites-place-2.is in
    let here = place_is_on c.args.controller.now w.memory w.controller (λ h. (link_to w.sites h).controller) c.in-On.node c.in-On.is world.controller in
    let arrived = as_some c.in-Some-2.is (near_comes c.args.at c.comes.new.self c.args.what _ _ _ c.if-at.false c.in_ok-arrived.ensures
    (link_to w.sites h) (wires_there w h ready.goes_on there c.in-Some.place ks k st world.sites read)) in
    let sites = sites_with w h ready.goes_on there c.in-Some.place ks k st world.sites read comes c.comes.new.self arrived.wires in
    let i : LinkInput = input_of_end c.as_input.result in
    let input = arrived.input ∙ ap Some (sym c.as_input.ensures.input) in
    let b = begins_there w here.running h comes i there.0 ready.goes_on here.runs there.1 input c.in-On.node here.place in
    near_refused c.args.at w (as_comes c.args.what) None c.if-at.false
    (refused_there w here.running h comes i there.0 ready.goes_on here.runs there.1 input c.args.what c.in-Some-2.arrived None arrived.is
    (sym (c.as_input.ensures.refusal _) ∙ c.in-Ok.ensures.refusal _ _ here.place.1))

pub returns-in_ok-finish_controller-in-Ok-clause-stands : goal.returns-in_ok-finish_controller-in-Ok-clause-stands
returns-in_ok-finish_controller-in-Ok-clause-stands c w world ready there =
    let h : ℕ = c.args.at.link in
    let comes : Comes = as_comes c.args.what in
    let ks = c.args.sites.now in
    let k = slice_index_or ks c.in-Some.place c.index-sites-place-2.result in
    let st = c.in-Some.ensures.place w.sites world.sites in
    let read = ap (slice_index_or ks c.in-Some.place) c.index-sites-place-2.is in
    let here = place_is_on c.args.controller.now w.memory w.controller (λ h. (link_to w.sites h).controller) c.in-On.node c.in-On.is world.controller in
    let arrived = as_some c.in-Some-2.is (near_comes c.args.at c.comes.new.self c.args.what _ _ _ c.if-at.false c.in_ok-arrived.ensures
    (link_to w.sites h) (wires_there w h ready.goes_on there c.in-Some.place ks k st world.sites read)) in
    let sites = sites_with w h ready.goes_on there c.in-Some.place ks k st world.sites read comes c.comes.new.self arrived.wires in
    let i : LinkInput = input_of_end c.as_input.result in
    let input = arrived.input ∙ ap Some (sym c.as_input.ensures.input) in
    let b = begins_there w here.running h comes i there.0 ready.goes_on here.runs there.1 input c.in-On.node here.place in
    let gone = c.in-Ok.ensures.stepped _ b in
    let midway = step_midway w here.running h comes i there.0 ready.goes_on here.runs there.1 input c.in-On.node c.step.new.node _ c.in-Ok.live gone sites in
    let before = c.args.noted.now.entries.items in
    let noted = c.in-Ok.ensures.noted _ before _ b (record { are = λ long. (refl, arrived_noted (session_at c.sessions_of-noted.result) arrived) }) in
    let names = hosts_as_it_comes h comes w.sites in
    let sessions = c.sessions_of-noted.ensures (as_it_comes_to h comes w.sites) sites
    (subst AreDifferent (sym names) ready.goes_on.orderly.different) (subst (AllByRecursion IsHost) (sym names) ready.goes_on.hosts) in
    let counted = numbered w here.running h comes i there.0 ready.goes_on here.runs there.1 input c.sessions_of-noted.result sessions
    (counted_at c.args.controller.now w c.args.at.link (as_comes c.args.what) world.controller ready.few i input) in
    near_becomes c.args.at w (as_comes c.args.what) c.if-at.false
    (step_ends w here.running h comes i there.0 ready.goes_on here.runs there.1 input
    {F = Unit {0}} (Ok c.in_ok-finish_controller-in-Ok.field-0) c.in-Ok.live c.finish_controller.new.controller c.finish_controller.new.sites c.in-On.node
    c.step.new.node before c.finish_controller.new.noted.entries.items here.place gone
    (λ live. c.in_ok-finish_controller-in-Ok.ensures.goes_on c.step.new.node _ _ before midway (noted_behind noted counted) live)
    (λ cut. c.in_ok-finish_controller-in-Ok.ensures.cut c.step.new.node _ _ before midway (noted_behind noted counted) cut))

pub returns-in-Err-clause-refusal : goal.returns-in-Err-clause-refusal
returns-in-Err-clause-refusal c w world ready there =
    let h : ℕ = c.args.at.link in
    let comes : Comes = as_comes c.args.what in
    let ks = c.args.sites.now in
    let k = slice_index_or ks c.in-Some.place c.index-sites-place-2.result in
    let st = c.in-Some.ensures.place w.sites world.sites in
    let read = ap (slice_index_or ks c.in-Some.place) c.index-sites-place-2.is in
    let here = place_is_on c.args.controller.now w.memory w.controller (λ h. (link_to w.sites h).controller) c.in-On.node c.in-On.is world.controller in
    let arrived = as_some c.in-Some-2.is (near_comes c.args.at c.comes.new.self c.args.what _ _ _ c.if-at.false c.in_ok-arrived.ensures
    (link_to w.sites h) (wires_there w h ready.goes_on there c.in-Some.place ks k st world.sites read)) in
    let sites = sites_with w h ready.goes_on there c.in-Some.place ks k st world.sites read comes c.comes.new.self arrived.wires in
    let i : LinkInput = input_of_end c.as_input.result in
    let input = arrived.input ∙ ap Some (sym c.as_input.ensures.input) in
    let b = begins_there w here.running h comes i there.0 ready.goes_on here.runs there.1 input c.in-On.node here.place in
    near_refused c.args.at w (as_comes c.args.what) (Some c.in-Err.why) c.if-at.false
    (refused_there w here.running h comes i there.0 ready.goes_on here.runs there.1 input c.args.what c.in-Some-2.arrived (Some c.in-Err.why) arrived.is
    (sym (c.as_input.ensures.refusal _) ∙ c.in-Err.ensures.refusal _ _ here.place.1))

pub returns-in-Err-clause-stands : goal.returns-in-Err-clause-stands
returns-in-Err-clause-stands c w world ready there =
    let h : ℕ = c.args.at.link in
    let comes : Comes = as_comes c.args.what in
    let ks = c.args.sites.now in
    let k = slice_index_or ks c.in-Some.place c.index-sites-place-2.result in
    let st = c.in-Some.ensures.place w.sites world.sites in
    let read = ap (slice_index_or ks c.in-Some.place) c.index-sites-place-2.is in
    let here = place_is_on c.args.controller.now w.memory w.controller (λ h. (link_to w.sites h).controller) c.in-On.node c.in-On.is world.controller in
    let arrived = as_some c.in-Some-2.is (near_comes c.args.at c.comes.new.self c.args.what _ _ _ c.if-at.false c.in_ok-arrived.ensures
    (link_to w.sites h) (wires_there w h ready.goes_on there c.in-Some.place ks k st world.sites read)) in
    let sites = sites_with w h ready.goes_on there c.in-Some.place ks k st world.sites read comes c.comes.new.self arrived.wires in
    let i : LinkInput = input_of_end c.as_input.result in
    let input = arrived.input ∙ ap Some (sym c.as_input.ensures.input) in
    let b = begins_there w here.running h comes i there.0 ready.goes_on here.runs there.1 input c.in-On.node here.place in
    let left = wires_as_were c.args.what c.in-Some-2.arrived _ arrived (sym (c.as_input.ensures.refusal _) ∙ c.in-Err.ensures.refusal _ _ here.place.1) in
    let P : Option Running → Type 0 = λ o. IsNodePlace (On c.step.new.node) w.memory o (λ n. (link_to w.sites n).controller) in
    record {
      world = record {
        controller = subst P (sym here.runs) (c.in-Err.ensures.quiet.1 ∙ here.place.0, c.in-Err.ensures.unchanged _ _ here.place.1, here.place.2);
        sites = sites_still w h ready.goes_on there c.in-Some.place ks k st world.sites read c.comes.new.self left.0;
      };
      noted = ap (λ n. n.entries.items) c.in-Err.ensures.quiet.0 ∙ (left.1 ∙ sym (append-nil c.args.noted.now.entries.items));
    }
