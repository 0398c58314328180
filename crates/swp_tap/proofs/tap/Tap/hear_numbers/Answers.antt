use Rattle.std.proofs.Common.{◌≡◌, subst, refl}
use Rattle.swp_base.specs.declared.control_frames.Control.{Control}
use Rattle.swp_base.specs.declared.control_frames.Control.TheVariants.{I}
use Rattle.tap_reading.specs.keeping.Keeping.{KeptTap, kept_after_frame}
use Rattle.swp_tap.specs.Hearing.{TapValue}
use Rattle.swp_tap.proofs.Hearing.{near_heard, far_heard}
use Rattle.swp_tap.proofs.tap.Tap.hear_numbers.Goals as goal

pub returns-in_err-pipe-clause-kept : goal.returns-in_err-pipe-clause-kept
returns-in_err-pipe-clause-kept c =
    let frame : Control = I c.args.ns c.args.nr c.args.info.now in
    let rsets = c.self.inside.rsets in
    let k : KeptTap = record { clf = c.hear_fragment.new.near; uicc = c.hear_fragment.new.far; rsets = rsets } in
    subst (λ (t : TapValue). k ≡ kept_after_frame t.bare t.kept c.args.from_clf frame) c.self.view_is
    (near_heard c.self.inside.bare (record { clf = c.self.inside.clf; uicc = c.self.inside.uicc; rsets = rsets }) c.args.from_clf frame
    c.hear_fragment.new.near c.hear_fragment.new.far rsets c.if-from_clf.true (c.hear_fragment.ensures.near rsets) (c.hear_fragment.ensures.far rsets) refl)

pub returns-then-from_clf-clause-kept : goal.returns-then-from_clf-clause-kept
returns-then-from_clf-clause-kept c =
    let frame : Control = I c.args.ns c.args.nr c.args.info.now in
    let rsets = c.self.inside.rsets in
    let k : KeptTap = record { clf = c.hear_fragment.new.near; uicc = c.hear_fragment.new.far; rsets = rsets } in
    subst (λ (t : TapValue). k ≡ kept_after_frame t.bare t.kept c.args.from_clf frame) c.self.view_is
    (near_heard c.self.inside.bare (record { clf = c.self.inside.clf; uicc = c.self.inside.uicc; rsets = rsets }) c.args.from_clf frame
    c.hear_fragment.new.near c.hear_fragment.new.far rsets c.if-from_clf.true (c.hear_fragment.ensures.near rsets) (c.hear_fragment.ensures.far rsets) refl)

pub returns-in_err-pipe-2-clause-kept : goal.returns-in_err-pipe-2-clause-kept
returns-in_err-pipe-2-clause-kept c =
    let frame : Control = I c.args.ns c.args.nr c.args.info.now in
    let rsets = c.self.inside.rsets in
    let k : KeptTap = record { clf = c.hear_fragment-2.new.far; uicc = c.hear_fragment-2.new.near; rsets = rsets } in
    subst (λ (t : TapValue). k ≡ kept_after_frame t.bare t.kept c.args.from_clf frame) c.self.view_is
    (far_heard c.self.inside.bare (record { clf = c.self.inside.clf; uicc = c.self.inside.uicc; rsets = rsets }) c.args.from_clf frame
    c.hear_fragment-2.new.near c.hear_fragment-2.new.far rsets c.if-from_clf.false
    (c.hear_fragment-2.ensures.near rsets) (c.hear_fragment-2.ensures.far rsets) refl)

pub returns-clause-kept : goal.returns-clause-kept
returns-clause-kept c =
    let frame : Control = I c.args.ns c.args.nr c.args.info.now in
    let rsets = c.self.inside.rsets in
    let k : KeptTap = record { clf = c.hear_fragment-2.new.far; uicc = c.hear_fragment-2.new.near; rsets = rsets } in
    subst (λ (t : TapValue). k ≡ kept_after_frame t.bare t.kept c.args.from_clf frame) c.self.view_is
    (far_heard c.self.inside.bare (record { clf = c.self.inside.clf; uicc = c.self.inside.uicc; rsets = rsets }) c.args.from_clf frame
    c.hear_fragment-2.new.near c.hear_fragment-2.new.far rsets c.if-from_clf.false
    (c.hear_fragment-2.ensures.near rsets) (c.hear_fragment-2.ensures.far rsets) refl)
