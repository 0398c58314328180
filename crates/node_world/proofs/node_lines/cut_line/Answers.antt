use Rattle.node_world.proofs.Words.{Entry, IsCut, List, None, StandsAt, WorldBecomes, [], ap, false, host_cut, is_running, ne_eqb, node_at, on_ok_weaker, refl}
use Rattle.node_world.proofs.Words.{rules, subst, sym, true, world_step, ℕ, ◌++◌, ◌==◌, ◌∙◌, ◌∷◌, ◌≡◌, ◌≢◌}
use Rattle.trace_model.specs.declared.entry.Entry.TheVariants as note
use Rattle.trace_model.specs.declared.entry.NoCause.TheVariants as no
use Rattle.trace_model.specs.declared.line.Line.TheVariants as line
use Rattle.node_world.proofs.HostsInWorlds.{reads, site_stands, cut_in_world, node_nowhere, runs_so, cut_leaves, found_becomes}
use Rattle.node_world.proofs.ControllersHear.{was_cut}
use Rattle.node_world.proofs.HostsDo.{was_cut_off}
use Rattle.node_world.proofs.LinesGo.{line_goes, line_refused, off_is, on_is, stands_there}
use Rattle.node_world.proofs.node_lines.cut_line.Goals as goal

pub returns-then-not-runs-clause-stands : goal.returns-then-not-runs-clause-stands
returns-then-not-runs-clause-stands c header w world may =
    on_ok_weaker c.refuse.result (line_refused w (line.Cut c.args.node)
    c.args.controller.now c.args.sites.now c.args.noted.now.entries.items c.refuse.new.noted.entries.items c.requires.nothing no.Off
    (off_is w c.args.node (sym (c.runs.ensures w world may.goes_on) ∙ c.if-not-runs.true)) world)
    c.refuse.ensures.noted

pub returns-then-node-eq0-clause-stands : goal.returns-then-node-eq0-clause-stands
returns-then-node-eq0-clause-stands c header w world may =
    let e : is_running w c.args.node ≡ true = sym (c.runs.ensures w world may.goes_on) ∙ c.if-not-runs.false in
    let zero : c.args.node ≡ 0 = c.if-node-eq0.true in
    let before : List Entry = c.args.noted.now.entries.items in
    let now : List Entry = c.note_last.new.noted.entries.items in
    let r = runs_so w.controller (subst (λ n. node_at w n ≢ None) zero (stands_there (node_at w c.args.node) e)) in
    let W : ℕ → Type 0 = λ n. WorldBecomes c.lose_controller.new.controller c.lose_controller.new.sites before now (world_step w (IsCut n)) in
    on_ok_weaker c.note_last.result
    (λ noted. line_goes w (line.Cut c.args.node) c.lose_controller.new.controller c.lose_controller.new.sites before now c.requires.nothing
    (IsCut c.args.node) refl (on_is w c.args.node e)
    (subst W (sym zero) (was_cut c.args.controller.now c.lose_controller.new.controller c.lose_controller.new.sites w before now world.controller
    c.lose_controller.ensures.off (c.lose_controller.ensures.wires w.sites world.sites) (noted ∙ ap (λ n. before ++ note.Cut n ∷ []) zero))))
    c.note_last.ensures.items

pub returns-in-Some-clause-stands : goal.returns-in-Some-clause-stands
returns-in-Some-clause-stands c header w world may =
    let n = c.args.node in
    let e : is_running w n ≡ true = sym (c.runs.ensures w world may.goes_on) ∙ c.if-not-runs.false in
    let off : (n == 0) ≡ false = search (rules, ne_eqb) in
    let o = may.goes_on.orderly in
    let before : List Entry = c.args.noted.now.entries.items in
    let now : List Entry = c.note_last-in-Some.new.noted.entries.items in
    let a : StandsAt c.in-Some.place n w.sites = c.in-Some.ensures.place w.sites world.sites in
    let is = rw c.index-sites-place.is at (reads c.args.sites.now w c.in-Some.place n a c.index-sites-place.result world.sites c.index-sites-place.is) in
    let gone = was_cut_off _ c.lose_power.new.site a.site is c.lose_power.ensures.host c.lose_power.ensures.off
    (c.lose_power.ensures.wires a.site.link is.wires) in
    on_ok_weaker c.note_last-in-Some.result
    (λ noted. line_goes w (line.Cut n) _ _ before now c.requires.nothing (IsCut n) refl (on_is w n e)
    (found_becomes w c.in-Some.place n a o (host_cut a.site, note.Cut a.site.host ∷ []) (world_step w (IsCut n))
    (cut_in_world w n a.site (site_stands w c.in-Some.place n a o) off) (cut_leaves a.site) c.args.controller.now c.args.sites.now c.lose_power.new.site
    before now world (record { site = gone; noted = noted ∙ ap (λ h. before ++ note.Cut h ∷ []) (sym a.host) })))
    c.note_last-in-Some.ensures.items

pub returns-in-None-clause-stands : goal.returns-in-None-clause-stands
returns-in-None-clause-stands c header w world may =
    let n = c.args.node in
    let e : is_running w n ≡ true = sym (c.runs.ensures w world may.goes_on) ∙ c.if-not-runs.false in
    absurd (stands_there (node_at w n) e (node_nowhere w n (search (rules, ne_eqb)) (c.in-None.ensures.place w.sites world.sites)))
