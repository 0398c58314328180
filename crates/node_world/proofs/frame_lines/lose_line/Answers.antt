use Rattle.node_world.proofs.Words.{Loses, OnDemand, ap, false, frames_at, is_running, length, node_of, on_ok_weaker, refl, subst, sym, true, ◌∙◌, ◌≡◌, ◌≢◌}
use Rattle.trace_model.specs.declared.entry.NoCause.TheVariants as no
use Rattle.trace_model.specs.declared.line.Line.TheVariants as line
use Rattle.node_world.proofs.LinesGo.{within, is_there, line_goes, line_refused, off_takes_none, bare_takes_none, takes_one}
use Rattle.node_world.proofs.frame_lines.lose_line.Goals as goal

pub lose_frame-requires : goal.lose_frame-requires
lose_frame-requires c =
    record {
      state = (
        c.requires.state.1,
        c.requires.state.2,
        within c.requires.state.3,
        is_there c.args.at.link c.requires.state.3 c.requires.state.3.is_line.may_follow,
      );
    }

pub returns-then-not-runs-clause-stands : goal.returns-then-not-runs-clause-stands
returns-then-not-runs-clause-stands c header w world may =
    on_ok_weaker c.refuse.result (line_refused w (line.Lose c.args.at)
    c.args.controller.now c.args.sites.now c.args.noted.now.entries.items c.refuse.new.noted.entries.items c.requires.nothing no.Off
    (off_takes_none w c.args.at (sym (c.runs.ensures w world may.goes_on ∙ ap (λ n. is_running w n) c.node_of.ensures) ∙ c.if-not-runs.true)) world)
    c.refuse.ensures.noted

pub returns-then-on_the_way-eq0-clause-stands : goal.returns-then-on_the_way-eq0-clause-stands
returns-then-on_the_way-eq0-clause-stands c header w world may =
    let on : is_running w (node_of c.args.at) ≡ true =
    sym (c.runs.ensures w world may.goes_on ∙ ap (λ n. is_running w n) c.node_of.ensures) ∙ c.if-not-runs.false in
    on_ok_weaker c.refuse-then-on_the_way-eq0.result (line_refused w (line.Lose c.args.at)
    c.args.controller.now c.args.sites.now c.args.noted.now.entries.items c.refuse-then-on_the_way-eq0.new.noted.entries.items c.requires.nothing no.Empty
    (bare_takes_none w c.args.at on (sym (c.on_the_way.ensures w world.sites may.goes_on) ∙ c.if-on_the_way-eq0.true)) world)
    c.refuse-then-on_the_way-eq0.ensures.noted

pub returns-clause-stands : goal.returns-clause-stands
returns-clause-stands c header w world may =
    let on : is_running w (node_of c.args.at) ≡ true =
    sym (c.runs.ensures w world may.goes_on ∙ ap (λ n. is_running w n) c.node_of.ensures) ∙ c.if-not-runs.false in
    let some : length (frames_at w c.args.at) ≢ 0 =
    subst (λ n. n ≢ 0) (c.on_the_way.ensures w world.sites may.goes_on) c.if-on_the_way-eq0.false in
    on_ok_weaker c.lose_frame.result
    (line_goes w (line.Lose c.args.at) c.lose_frame.new.controller c.lose_frame.new.sites c.args.noted.now.entries.items
    c.lose_frame.new.noted.entries.items c.requires.nothing (Loses c.args.at OnDemand) refl (takes_one w c.args.at on some))
    (c.lose_frame.ensures.stands w OnDemand world (within may) (is_there c.args.at.link may may.is_line.may_follow) refl)
