use Rattle.std.proofs.Common.{◌≡◌, sym, subst}
use Rattle.tap_reading.specs.keeping.Keeping.{KeptTap}
use Rattle.swp_tap.specs.Hearing.{TapValue, kept_after_lpdu}
use Rattle.swp_tap.proofs.Hearing.{near_kept, far_kept}
use Rattle.swp_tap.proofs.tap.Tap.hear_other.Goals as goal

pub returns-in_err-pipe-clause-kept : goal.returns-in_err-pipe-clause-kept
returns-in_err-pipe-clause-kept c =
    let k : KeptTap = record { clf = c.hear.new.near; uicc = c.hear.new.far; rsets = c.rsets_after-self-inside.result } in
    subst (λ (t : TapValue). k ≡ kept_after_lpdu t.bare t.kept c.args.from_clf c.args.lpdu.now) c.self.view_is
    (near_kept c.self.inside.bare (record { clf = c.self.inside.clf; uicc = c.self.inside.uicc; rsets = c.self.inside.rsets }) c.args.from_clf c.args.lpdu.now
    c.in-Ok.control c.hear.new.near c.hear.new.far c.rsets_after-self-inside.result c.if-from_clf.true (sym c.in-Ok.ensures.says)
    c.hear.ensures.near c.hear.ensures.far c.rsets_after-self-inside.ensures)

pub returns-then-from_clf-clause-kept : goal.returns-then-from_clf-clause-kept
returns-then-from_clf-clause-kept c =
    let k : KeptTap = record { clf = c.hear.new.near; uicc = c.hear.new.far; rsets = c.rsets_after-self-inside.result } in
    subst (λ (t : TapValue). k ≡ kept_after_lpdu t.bare t.kept c.args.from_clf c.args.lpdu.now) c.self.view_is
    (near_kept c.self.inside.bare (record { clf = c.self.inside.clf; uicc = c.self.inside.uicc; rsets = c.self.inside.rsets }) c.args.from_clf c.args.lpdu.now
    c.in-Ok.control c.hear.new.near c.hear.new.far c.rsets_after-self-inside.result c.if-from_clf.true (sym c.in-Ok.ensures.says)
    c.hear.ensures.near c.hear.ensures.far c.rsets_after-self-inside.ensures)

pub returns-in_err-pipe-2-clause-kept : goal.returns-in_err-pipe-2-clause-kept
returns-in_err-pipe-2-clause-kept c =
    let k : KeptTap = record { clf = c.hear-2.new.far; uicc = c.hear-2.new.near; rsets = c.rsets_after-self-inside.result } in
    subst (λ (t : TapValue). k ≡ kept_after_lpdu t.bare t.kept c.args.from_clf c.args.lpdu.now) c.self.view_is
    (far_kept c.self.inside.bare (record { clf = c.self.inside.clf; uicc = c.self.inside.uicc; rsets = c.self.inside.rsets }) c.args.from_clf c.args.lpdu.now
    c.in-Ok.control c.hear-2.new.near c.hear-2.new.far c.rsets_after-self-inside.result c.if-from_clf.false (sym c.in-Ok.ensures.says)
    c.hear-2.ensures.near c.hear-2.ensures.far c.rsets_after-self-inside.ensures)

pub returns-clause-kept : goal.returns-clause-kept
returns-clause-kept c =
    let k : KeptTap = record { clf = c.hear-2.new.far; uicc = c.hear-2.new.near; rsets = c.rsets_after-self-inside.result } in
    subst (λ (t : TapValue). k ≡ kept_after_lpdu t.bare t.kept c.args.from_clf c.args.lpdu.now) c.self.view_is
    (far_kept c.self.inside.bare (record { clf = c.self.inside.clf; uicc = c.self.inside.uicc; rsets = c.self.inside.rsets }) c.args.from_clf c.args.lpdu.now
    c.in-Ok.control c.hear-2.new.near c.hear-2.new.far c.rsets_after-self-inside.result c.if-from_clf.false (sym c.in-Ok.ensures.says)
    c.hear-2.ensures.near c.hear-2.ensures.far c.rsets_after-self-inside.ensures)
