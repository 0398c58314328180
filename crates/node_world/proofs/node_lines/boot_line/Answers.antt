use Rattle.node_world.proofs.Words.{Bool, Boots, Entry, IsSoundMemory, List, None, Site, StandsAt, WorldBecomes, after_planned, boot_writes, boots}
use Rattle.node_world.proofs.Words.{fails_within, false, host_boots, host_cut, is_running, length, ne_eqb, node_at, on_ok_weaker, refl, rules, subst, sym, true}
use Rattle.node_world.proofs.Words.{ℕ, ◌==◌, ◌∙◌, ◌≡◌}
use Rattle.trace_model.specs.declared.entry.NoCause.TheVariants as no
use Rattle.trace_model.specs.declared.line.Line.TheVariants as line
use Rattle.node_world.proofs.HostsInWorlds.{is_host, nowhere, reads, site_stands, boots_in_world, memory_there, node_there, LeavesNear, cut_leaves}
use Rattle.node_world.proofs.HostsInWorlds.{found_becomes}
use Rattle.node_world.proofs.HostsDo.{boot_goes, boot_stops}
use Rattle.node_world.proofs.LinesGo.{line_goes, line_refused, node_known, stands_not, runs_refused, boots_free}
use Rattle.node_world.proofs.node_lines.boot_line.Goals as goal

-- a boot leaves the controller's end of the link as it is
boot_leaves : (s : Site) → LeavesNear s (host_boots s).0
boot_leaves s = go (fails_within (length (boot_writes s.memory.content)) s.memory.plan) refl
  where
    go : (b : Bool) → fails_within (length (boot_writes s.memory.content)) s.memory.plan ≡ b → LeavesNear s (host_boots s).0
    go true q =
        let written : Site = record s { memory = after_planned (boot_writes s.memory.content) s.memory } in
        let cut : LeavesNear written (host_cut written) = cut_leaves written in
        subst (λ p. LeavesNear s p.0) (sym (boot_stops s q)) (record { host = cut.host; near = cut.near })
    go false q = subst (λ p. LeavesNear s p.0) (sym (boot_goes s q)) (record { host = refl; near = refl })

pub boot_controller-requires : goal.boot_controller-requires
boot_controller-requires c =
    let w = c.requires.state.1 in
    let may = c.requires.state.3 in
    let zero : c.args.node ≡ 0 = c.if-node-eq0.true in
    let none = stands_not (node_at w c.args.node) (sym (c.runs.ensures w c.requires.state.2 may.goes_on) ∙ c.if-runs.false) in
    record { state = (w, c.requires.state.2, rw zero at none, rw zero at (may.boots c.args.node may.is_line.may_follow.1 none)) }

pub boot_host-requires : goal.boot_host-requires
boot_host-requires c =
    let n = c.args.node in
    let w = c.requires.state.1 in
    let all = c.requires.state.2.sites in
    let may = c.requires.state.3 in
    let none = stands_not (node_at w n) (sym (c.runs.ensures w c.requires.state.2 may.goes_on) ∙ c.if-runs.false) in
    let off : (n == 0) ≡ false = search (rules, ne_eqb) in
    let a : StandsAt c.in-Some.place n w.sites = c.in-Some.ensures.place w.sites all in
    let found = site_stands w c.in-Some.place n a may.goes_on.orderly in
    record {
      state = (
        a.site,
        rw c.index-sites-place.is at (reads c.args.sites.now w c.in-Some.place n a c.index-sites-place.result all c.index-sites-place.is),
        is_host w c.in-Some.place n a may.goes_on,
        sym (node_there w n off a.site found) ∙ none,
        subst IsSoundMemory (memory_there w n off a.site found) (may.boots n may.is_line.may_follow.1 none),
      );
    }

pub returns-then-runs-clause-stands : goal.returns-then-runs-clause-stands
returns-then-runs-clause-stands c header w world may mask_is =
    on_ok_weaker c.refuse.result (line_refused w (line.Boot c.args.node)
    c.args.controller.now c.args.sites.now c.args.noted.now.entries.items c.refuse.new.noted.entries.items c.requires.nothing no.Running
    (runs_refused w c.args.node (sym (c.runs.ensures w world may.goes_on) ∙ c.if-runs.true)) world)
    c.refuse.ensures.noted

pub returns-then-node-eq0-clause-stands : goal.returns-then-node-eq0-clause-stands
returns-then-node-eq0-clause-stands c header w world may mask_is =
    let e : is_running w c.args.node ≡ false = sym (c.runs.ensures w world may.goes_on) ∙ c.if-runs.false in
    let zero : c.args.node ≡ 0 = c.if-node-eq0.true in
    let before : List Entry = c.args.noted.now.entries.items in
    let now : List Entry = c.boot_controller.new.noted.entries.items in
    let O : ℕ → Type 0 = λ n. node_at w n ≡ None in
    let W : ℕ → Type 0 = λ n. WorldBecomes c.boot_controller.new.controller c.boot_controller.new.sites before now (boots w n) in
    on_ok_weaker c.boot_controller.result
    (λ b. line_goes w (line.Boot c.args.node) c.boot_controller.new.controller c.boot_controller.new.sites before now c.requires.nothing
    (Boots c.args.node) refl (boots_free w c.args.node e) (subst W (sym zero) b))
    (c.boot_controller.ensures.stands w world may.goes_on may.timely (subst O zero (stands_not (node_at w c.args.node) e)) (mask_is ∙ sym may.hosts_are))

pub returns-in-Some-clause-stands : goal.returns-in-Some-clause-stands
returns-in-Some-clause-stands c header w world may mask_is =
    let n = c.args.node in
    let e : is_running w n ≡ false = sym (c.runs.ensures w world may.goes_on) ∙ c.if-runs.false in
    let o = may.goes_on.orderly in
    let off : (n == 0) ≡ false = search (rules, ne_eqb) in
    let a : StandsAt c.in-Some.place n w.sites = c.in-Some.ensures.place w.sites world.sites in
    let is = reads c.args.sites.now w c.in-Some.place n a c.index-sites-place.result world.sites c.index-sites-place.is in
    let found = site_stands w c.in-Some.place n a o in
    let none = sym (node_there w n off a.site found) ∙ stands_not (node_at w n) e in
    let before : List Entry = c.args.noted.now.entries.items in
    let now : List Entry = c.boot_host.new.noted.entries.items in
    on_ok_weaker c.boot_host.result
    (λ b. line_goes w (line.Boot n) _ _ before now c.requires.nothing (Boots n) refl (boots_free w n e)
    (found_becomes w c.in-Some.place n a o (host_boots a.site) (boots w n) (boots_in_world w n a.site found off) (boot_leaves a.site) c.args.controller.now
    c.args.sites.now c.boot_host.new.site before now world b))
    (c.boot_host.ensures.stands a.site (rw c.index-sites-place.is at is) (is_host w c.in-Some.place n a may.goes_on) none
    (rw none at (may.timely n a.site found).host))

pub returns-in-None-clause-stands : goal.returns-in-None-clause-stands
returns-in-None-clause-stands c header w world may mask_is =
    let off : (c.args.node == 0) ≡ false = search (rules, ne_eqb) in
    nowhere w.sites c.args.node (node_known w _ c.args.node may.hosts_are may.is_line.may_follow.1 off) (c.in-None.ensures.place w.sites world.sites)
