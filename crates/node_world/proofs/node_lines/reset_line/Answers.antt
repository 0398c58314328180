use Rattle.node_world.proofs.Words.{AsksReset, Entry, List, None, Option, ResetRefused, Resets, Some, WorldBecomes, [], ap, comes_at, if_accepted, if_off}
use Rattle.node_world.proofs.Words.{is_running, node_of, on_ok_weaker, option_map, refl, reset_noted, subst, sym, ◌++◌, ◌∙◌, ◌∷◌}
use Rattle.trace_model.specs.declared.entry.Entry.TheVariants as note
use Rattle.trace_model.specs.declared.line.Line.TheVariants as line
use Rattle.trace_model.specs.declared.entry.NoCause.TheVariants as no
use Rattle.node_world.proofs.LinesGo.{line_refused, off_is, first_is, within, is_there, world_goes, world_refused, reset_runs}
use Rattle.node_world.proofs.node_lines.reset_line.Goals as goal

pub returns-then-not-runs-clause-stands : goal.returns-then-not-runs-clause-stands
returns-then-not-runs-clause-stands c header w world may =
    let off = sym (c.runs.ensures w world may.goes_on ∙ ap (λ n. is_running w n) c.node_of.ensures) ∙ c.if-not-runs.true in
    on_ok_weaker c.refuse.result (line_refused w (line.Reset c.args.at c.args.window)
    c.args.controller.now c.args.sites.now c.args.noted.now.entries.items c.refuse.new.noted.entries.items c.requires.nothing no.Off
    (first_is (if_off w (node_of c.args.at)) _ no.Off (off_is w (node_of c.args.at) off)) world)
    c.refuse.ensures.noted

pub comes_to-requires-clause-state : goal.comes_to-requires-clause-state
comes_to-requires-clause-state c = (
  c.requires.state.1,
  c.requires.state.2,
  within c.requires.state.3,
  is_there c.args.at.link c.requires.state.3 c.requires.state.3.is_line.may_follow.0,
)

pub returns-in-Some-clause-stands : goal.returns-in-Some-clause-stands
returns-in-Some-clause-stands c header w world may =
    let ready = within may in
    let there = is_there c.args.at.link may may.is_line.may_follow.0 in
    let on = sym (c.runs.ensures w world may.goes_on ∙ ap (λ n. is_running w n) c.node_of.ensures) ∙ c.if-not-runs.false in
    let B : List Entry → Option ResetRefused → Type 0 = λ before why. WorldBecomes c.comes_to.new.controller c.comes_to.new.sites before
    c.comes_to.new.noted.entries.items (if_accepted why w (comes_at w c.args.at (AsksReset c.args.window))) in
    let e = reset_runs w c.args.at c.args.window on
    ∙ ap (option_map reset_noted) (sym (c.in_ok-why.ensures.refusal w world ready there) ∙ c.in-Some.is) in
    let b = subst (λ es. B es (Some c.in-Some.why)) c.requires.nothing
    (subst (B c.args.noted.now.entries.items) c.in-Some.is (c.in_ok-why.ensures.stands w world ready there)) in
    on_ok_weaker c.refuse-in-Some.result (λ noted. world_refused w (line.Reset c.args.at c.args.window)
    c.comes_to.new.controller c.comes_to.new.sites (reset_noted c.in-Some.why) c.refuse-in-Some.new.noted.entries.items e b.world
    (noted ∙ (ap (λ x. c.comes_to.new.noted.entries.items ++ note.No x ∷ []) c.reset_cause.ensures
    ∙ ap (λ es. es ++ note.No (reset_noted c.in-Some.why) ∷ []) b.noted)))
    c.refuse-in-Some.ensures.noted

pub returns-in-None-clause-stands : goal.returns-in-None-clause-stands
returns-in-None-clause-stands c header w world may =
    let ready = within may in
    let there = is_there c.args.at.link may may.is_line.may_follow.0 in
    let on = sym (c.runs.ensures w world may.goes_on ∙ ap (λ n. is_running w n) c.node_of.ensures) ∙ c.if-not-runs.false in
    let B : List Entry → Option ResetRefused → Type 0 = λ before why. WorldBecomes c.comes_to.new.controller c.comes_to.new.sites before
    c.comes_to.new.noted.entries.items (if_accepted why w (comes_at w c.args.at (AsksReset c.args.window))) in
    let e = reset_runs w c.args.at c.args.window on
    ∙ ap (option_map reset_noted) (sym (c.in_ok-why.ensures.refusal w world ready there) ∙ c.in-None.is) in
    let b = subst (λ es. B es None) c.requires.nothing
    (subst (B c.args.noted.now.entries.items) c.in-None.is (c.in_ok-why.ensures.stands w world ready there)) in
    world_goes w (line.Reset c.args.at c.args.window)
    c.comes_to.new.controller c.comes_to.new.sites (Resets c.args.at c.args.window) c.comes_to.new.noted.entries.items refl e b
