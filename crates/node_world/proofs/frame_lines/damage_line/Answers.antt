use Rattle.node_world.proofs.Words.{Finds, Loses, None, Some, Takes, ap, false, frames_at, is_running, misread_in, node_of, on_err, subst, sym, true, ◌∙◌, ◌≡◌}
use Rattle.trace_model.specs.declared.entry.NoCause.TheVariants as no
use Rattle.trace_model.specs.declared.line.Line.TheVariants as line
use Rattle.link_wires.specs.declared.finding.Damaged.TheVariants.{Refused, Same, Lost, Undetected}
use Rattle.node_world.proofs.HostsHear.{unrefused}
use Rattle.node_world.proofs.LinesGo.{finds_read, lost_is, misread_not, off_refused, on_refused, same_is, line_goes, line_refused, is_there, within}
use Rattle.node_world.proofs.frame_lines.damage_line.Goals as goal

pub comes_to-requires-clause-state : goal.comes_to-requires-clause-state
comes_to-requires-clause-state c =
    let s = c.requires.state in
    (s.1, s.2, within s.3, is_there c.args.at.link s.3 s.3.is_line.may_follow.0)

pub lose_frame-requires : goal.lose_frame-requires
lose_frame-requires c =
    let s = c.requires.state in
    record { state = (s.1, s.2, within s.3, is_there c.args.at.link s.3 s.3.is_line.may_follow.0) }

pub returns-then-not-runs-clause-stands : goal.returns-then-not-runs-clause-stands
returns-then-not-runs-clause-stands c header w world may none =
    let off : is_running w (node_of c.args.at) ≡ false =
    sym (c.runs.ensures w world may.goes_on ∙ ap (λ n. is_running w n) c.node_of.ensures) ∙ c.if-not-runs.true in
    line_refused w (line.Damage c.args.at c.args.places.now)
    c.args.controller.now c.args.sites.now c.args.noted.now.entries.items c.refuse.new.noted.entries.items c.requires.nothing no.Off
    (off_refused w c.args.at c.args.places.now off) world c.in_ok-refuse.ensures.noted

pub returns-then-not-runs-clause-misread : goal.returns-then-not-runs-clause-misread
returns-then-not-runs-clause-misread c w world goes =
    let off : is_running w (node_of c.args.at) ≡ false =
    sym (c.runs.ensures w world goes ∙ ap (λ n. is_running w n) c.node_of.ensures) ∙ c.if-not-runs.true in
    misread_not w c.args.at c.args.places.now no.Off (off_refused w c.args.at c.args.places.now off)

pub returns-in_err-refuse-clause-told : goal.returns-in_err-refuse-clause-told
returns-in_err-refuse-clause-told c w world goes =
    let off : is_running w (node_of c.args.at) ≡ false =
    sym (c.runs.ensures w world goes ∙ ap (λ n. is_running w n) c.node_of.ensures) ∙ c.if-not-runs.true in
    on_err c.from_residual.result (misread_in w (line.Damage c.args.at c.args.places.now) ≡ None)
    (misread_not w c.args.at c.args.places.now no.Off (off_refused w c.args.at c.args.places.now off))

pub returns-in_ok-refuse-in-Refused-clause-stands : goal.returns-in_ok-refuse-in-Refused-clause-stands
returns-in_ok-refuse-in-Refused-clause-stands c header w world may none =
    let on : is_running w (node_of c.args.at) ≡ true =
    sym (c.runs.ensures w world may.goes_on ∙ ap (λ n. is_running w n) c.node_of.ensures) ∙ c.if-not-runs.false in
    let found : Finds (frames_at w c.args.at) c.args.places.now.items (Refused c.in-Refused.cause) =
    subst (λ ps. Finds (frames_at w c.args.at) ps (Refused c.in-Refused.cause)) c.as_slice.ensures.value (c.in-Refused.ensures w world.sites may.goes_on) in
    line_refused w (line.Damage c.args.at c.args.places.now)
    c.args.controller.now c.args.sites.now c.args.noted.now.entries.items c.refuse-in-Refused.new.noted.entries.items c.requires.nothing
    c.in-Refused.cause (on_refused w c.args.at c.args.places.now (Some c.in-Refused.cause) on found) world c.in_ok-refuse-in-Refused.ensures.noted

pub returns-in_ok-comes_to-in-Same-clause-stands : goal.returns-in_ok-comes_to-in-Same-clause-stands
returns-in_ok-comes_to-in-Same-clause-stands c header w world may none =
    let on : is_running w (node_of c.args.at) ≡ true =
    sym (c.runs.ensures w world may.goes_on ∙ ap (λ n. is_running w n) c.node_of.ensures) ∙ c.if-not-runs.false in
    let found : Finds (frames_at w c.args.at) c.args.places.now.items Same =
    subst (λ ps. Finds (frames_at w c.args.at) ps Same) c.as_slice.ensures.value (c.in-Same.ensures w world.sites may.goes_on) in
    line_goes w (line.Damage c.args.at c.args.places.now)
    c.comes_to.new.controller c.comes_to.new.sites c.args.noted.now.entries.items c.comes_to.new.noted.entries.items c.requires.nothing
    (Takes c.args.at) (same_is w c.args.at c.args.places.now found.1 on) (on_refused w c.args.at c.args.places.now None on found.0)
    (unrefused w (c.in_ok-comes_to-in-Same.ensures.refusal w world (within may) (is_there c.args.at.link may may.is_line.may_follow.0))
    (c.in_ok-comes_to-in-Same.ensures.stands w world (within may) (is_there c.args.at.link may may.is_line.may_follow.0)))

pub returns-in_ok-lose_frame-in-Lost-clause-stands : goal.returns-in_ok-lose_frame-in-Lost-clause-stands
returns-in_ok-lose_frame-in-Lost-clause-stands c header w world may none =
    let on : is_running w (node_of c.args.at) ≡ true =
    sym (c.runs.ensures w world may.goes_on ∙ ap (λ n. is_running w n) c.node_of.ensures) ∙ c.if-not-runs.false in
    let found : Finds (frames_at w c.args.at) c.args.places.now.items (Lost c.in-Lost.cause) =
    subst (λ ps. Finds (frames_at w c.args.at) ps (Lost c.in-Lost.cause)) c.as_slice.ensures.value (c.in-Lost.ensures w world.sites may.goes_on) in
    line_goes w (line.Damage c.args.at c.args.places.now)
    c.lose_frame.new.controller c.lose_frame.new.sites c.args.noted.now.entries.items c.lose_frame.new.noted.entries.items c.requires.nothing
    (Loses c.args.at found.1.0) (lost_is w c.args.at c.args.places.now found.1.0 found.1.1)
    (on_refused w c.args.at c.args.places.now None on found.0)
    (c.in_ok-lose_frame-in-Lost.ensures.stands w found.1.0 world (within may) (is_there c.args.at.link may may.is_line.may_follow.0) found.1.2)

pub returns-in-Undetected-clause-stands : goal.returns-in-Undetected-clause-stands
returns-in-Undetected-clause-stands c header w world may none = absurd (cc none)

pub returns-in_ok-refuse-in-Refused-clause-misread : goal.returns-in_ok-refuse-in-Refused-clause-misread
returns-in_ok-refuse-in-Refused-clause-misread c w world goes =
    let on : is_running w (node_of c.args.at) ≡ true =
    sym (c.runs.ensures w world goes ∙ ap (λ n. is_running w n) c.node_of.ensures) ∙ c.if-not-runs.false in
    let found : Finds (frames_at w c.args.at) c.args.places.now.items (Refused c.in-Refused.cause) =
    subst (λ ps. Finds (frames_at w c.args.at) ps (Refused c.in-Refused.cause)) c.as_slice.ensures.value (c.in-Refused.ensures w world.sites goes) in
    finds_read w c.args.at c.args.places.now (Refused c.in-Refused.cause) on found

pub returns-in_err-refuse-in-Refused-clause-told : goal.returns-in_err-refuse-in-Refused-clause-told
returns-in_err-refuse-in-Refused-clause-told c w world goes =
    let on : is_running w (node_of c.args.at) ≡ true =
    sym (c.runs.ensures w world goes ∙ ap (λ n. is_running w n) c.node_of.ensures) ∙ c.if-not-runs.false in
    let found : Finds (frames_at w c.args.at) c.args.places.now.items (Refused c.in-Refused.cause) =
    subst (λ ps. Finds (frames_at w c.args.at) ps (Refused c.in-Refused.cause)) c.as_slice.ensures.value (c.in-Refused.ensures w world.sites goes) in
    on_err c.from_residual-in_err-refuse-in-Refused.result (misread_in w (line.Damage c.args.at c.args.places.now) ≡ None)
    (finds_read w c.args.at c.args.places.now (Refused c.in-Refused.cause) on found)

pub returns-in_ok-comes_to-in-Same-clause-misread : goal.returns-in_ok-comes_to-in-Same-clause-misread
returns-in_ok-comes_to-in-Same-clause-misread c w world goes =
    let on : is_running w (node_of c.args.at) ≡ true =
    sym (c.runs.ensures w world goes ∙ ap (λ n. is_running w n) c.node_of.ensures) ∙ c.if-not-runs.false in
    let found : Finds (frames_at w c.args.at) c.args.places.now.items Same =
    subst (λ ps. Finds (frames_at w c.args.at) ps Same) c.as_slice.ensures.value (c.in-Same.ensures w world.sites goes) in
    finds_read w c.args.at c.args.places.now Same on found

pub returns-in_err-comes_to-in-Same-clause-told : goal.returns-in_err-comes_to-in-Same-clause-told
returns-in_err-comes_to-in-Same-clause-told c w world goes =
    let on : is_running w (node_of c.args.at) ≡ true =
    sym (c.runs.ensures w world goes ∙ ap (λ n. is_running w n) c.node_of.ensures) ∙ c.if-not-runs.false in
    let found : Finds (frames_at w c.args.at) c.args.places.now.items Same =
    subst (λ ps. Finds (frames_at w c.args.at) ps Same) c.as_slice.ensures.value (c.in-Same.ensures w world.sites goes) in
    on_err c.from_residual-in_err-comes_to-in-Same.result (misread_in w (line.Damage c.args.at c.args.places.now) ≡ None)
    (finds_read w c.args.at c.args.places.now Same on found)

pub returns-in_ok-lose_frame-in-Lost-clause-misread : goal.returns-in_ok-lose_frame-in-Lost-clause-misread
returns-in_ok-lose_frame-in-Lost-clause-misread c w world goes =
    let on : is_running w (node_of c.args.at) ≡ true =
    sym (c.runs.ensures w world goes ∙ ap (λ n. is_running w n) c.node_of.ensures) ∙ c.if-not-runs.false in
    let found : Finds (frames_at w c.args.at) c.args.places.now.items (Lost c.in-Lost.cause) =
    subst (λ ps. Finds (frames_at w c.args.at) ps (Lost c.in-Lost.cause)) c.as_slice.ensures.value (c.in-Lost.ensures w world.sites goes) in
    finds_read w c.args.at c.args.places.now (Lost c.in-Lost.cause) on found

pub returns-in_err-lose_frame-in-Lost-clause-told : goal.returns-in_err-lose_frame-in-Lost-clause-told
returns-in_err-lose_frame-in-Lost-clause-told c w world goes =
    let on : is_running w (node_of c.args.at) ≡ true =
    sym (c.runs.ensures w world goes ∙ ap (λ n. is_running w n) c.node_of.ensures) ∙ c.if-not-runs.false in
    let found : Finds (frames_at w c.args.at) c.args.places.now.items (Lost c.in-Lost.cause) =
    subst (λ ps. Finds (frames_at w c.args.at) ps (Lost c.in-Lost.cause)) c.as_slice.ensures.value (c.in-Lost.ensures w world.sites goes) in
    on_err c.from_residual-in_err-lose_frame-in-Lost.result (misread_in w (line.Damage c.args.at c.args.places.now) ≡ None)
    (finds_read w c.args.at c.args.places.now (Lost c.in-Lost.cause) on found)

pub returns-in-Undetected-clause-misread : goal.returns-in-Undetected-clause-misread
returns-in-Undetected-clause-misread c w world goes =
    let on : is_running w (node_of c.args.at) ≡ true =
    sym (c.runs.ensures w world goes ∙ ap (λ n. is_running w n) c.node_of.ensures) ∙ c.if-not-runs.false in
    let found : Finds (frames_at w c.args.at) c.args.places.now.items (Undetected c.in-Undetected.misread) =
    subst (λ ps. Finds (frames_at w c.args.at) ps (Undetected c.in-Undetected.misread)) c.as_slice.ensures.value (c.in-Undetected.ensures w world.sites goes) in
    (finds_read w c.args.at c.args.places.now (Undetected c.in-Undetected.misread) on found, found.2)
