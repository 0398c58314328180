-- What is noted of an input is what its report tells.
use Rattle.std.proofs.Common.{cond}
use Rattle.std.specs.Prelude.{min}
use Rattle.world.proofs.Words.{Bool, End, Got, LinkEnd, LinkInput, Report, Reports, Sound, [], acked_on, after_input, ap, arith, ended_by, entries_for, false}
use Rattle.world.proofs.Words.{is_some, length, map, refl, report, reported, side_of, subst, sym, told, told_of, true, whole_acked, whole_among, ℕ, ◌++◌, ◌+◌}
use Rattle.world.proofs.Words.{◌-◌, ◌<◌, ◌^◌, ◌≡◌, ◌≤◌}
use Rattle.trace_model.specs.declared.entry.Entry.TheVariants as entry
use Rattle.link_laws.specs.machine.Machine.{began_by}
use Rattle.link_laws.proofs.machine.Sound.{SentAfter, Shift, whole_few, whole_more}
use Rattle.link_laws.proofs.machine.Sound.Shift.{Begins, Ends, Renews, Rests, Stays}

pub told_at : (at : End) (n k : ℕ) (r : Report) → entries_for at.link (told (side_of at) n r k)
    ≡ reported at n (told_of r) k ++ entries_for at.link (map (Got (side_of at) n) r.got)
told_at at n k r = grind arith

-- ## How many messages are acknowledged

acked_by : (e f : LinkEnd) (before : ℕ) (ended began : Bool) → before ≡ whole_acked e → length e.sent < 2 ^ 32 → Sound e
    → Shift e.shdlc f.shdlc ended began → SentAfter ended e f
    → min (cond ended 0 before + (whole_acked f - whole_acked e)) 4294967295 ≡ whole_acked f
acked_by e f before ended began is few h shift sent = go shift
  where
    Is : Bool → Type 0
    Is x = min (cond x 0 before + (whole_acked f - whole_acked e)) 4294967295 ≡ whole_acked f

    without : (x : LinkEnd) → x.sent ≡ [] → whole_acked x ≡ 0
    without x q = rw q refl

    low : whole_acked e ≤ length e.sent
    low = whole_few e.sent e.shdlc.session.acked

    sent_true : (x : Bool) → x ≡ true → SentAfter x e f → f.sent ≡ []
    sent_true x z s = grind arith

    sent_false : (x : Bool) → x ≡ false → SentAfter x e f → f.sent ≡ e.sent
    sent_false x z s = grind arith

    over : ended ≡ true → Is ended
    over p = grind arith

    fresh : ended ≡ false → e.sent ≡ [] → Is ended
    fresh p q = grind arith

    go : Shift e.shdlc f.shdlc ended began → Is ended
    go (Stays p q g) =
        let same = sent_false ended p sent in
        let now : whole_acked f ≡ whole_among e.sent f.shdlc.session.acked = ap (λ ms. whole_among ms f.shdlc.session.acked) same in
        subst Is (sym p) (at before (whole_acked e) (whole_acked f) is
        (let z = whole_more e.sent e.shdlc.session.acked f.shdlc.session.acked g.low in omega (arith, z, now))
        (let z = whole_few e.sent f.shdlc.session.acked in omega (arith, z, now, few)))
      where
        at : (x a b : ℕ) → x ≡ a → a ≤ b → b < 2 ^ 32 → min (x + (b - a)) 4294967295 ≡ b
        at x a b p q r = omega (arith, p, q, r)
    go (Ends p q up still s) = over p
    go (Renews p q up new) = over p
    go (Begins p q not new) = fresh p (h.is.forgot not)
    go (Rests p q not still s) = fresh p (h.is.forgot not)

pub acked_told : (e : LinkEnd) (i : LinkInput) (before : ℕ) → before ≡ whole_acked e → length e.sent < 2 ^ 32 → Sound e → Reports e i
    → acked_on before (told_of (report e i)) ≡ whole_acked (after_input e i)
acked_told e i before is few h b = acked_by e (after_input e i) before (is_some (ended_by e i)) (began_by e i) is few h b.shift b.sent
