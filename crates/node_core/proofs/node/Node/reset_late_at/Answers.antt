use Rattle.node_core.proofs.Words.{AreNotes, None, Port, Reset, [], after_input, ap, at_place, entries_for, got_at, if◌then◌else◌, late_told, map}
use Rattle.node_core.proofs.Words.{own_side, refl, report, reset_late, slice_get, subst, sym, told, told_late, unnumbered, whole_acked, ℕ, ◌∙◌, ◌≡◌}
use Rattle.node_core.proofs.HavingTurns.{no_some}
use Rattle.node_core.proofs.Notes.{comes_noted, no_notes, notes_are}
use Rattle.node_core.proofs.Ticking.{same_host, is_some_there, is_none_there}
use Rattle.node_core.proofs.Lateness.{silent_late, late_report, reached_there, late_tells, late_acked}
use Rattle.node_core.proofs.node.Node.reset_late_at.Goals as goal

pub returns-in_default-clause-carried : goal.returns-in_default-clause-carried
returns-in_default-clause-carried g c start w p u is =
    is_some_there (λ (q : Port). q.desk.host) (slice_get w.ports c.args.i) p
    (sym (no_some c.host.result c.in_default.not-Some) ∙ c.host.ensures w.ports u.ends) is

pub returns-in_default-reset_late-clause-carried : goal.returns-in_default-reset_late-clause-carried
returns-in_default-reset_late-clause-carried g c start w p u is =
    let none = sym (ap late_told is) ∙ (sym (c.reset_late.ensures.answer w.ports u.ends) ∙ no_some c.reset_late.result c.in_default-reset_late.not-Some) in
    comes_noted (told_late w.core p) (at_place c.args.i reset_late w.ports) u (c.reset_late.ensures.stands w.ports u.ends)
    (notes_are (no_notes _ _) (sym (ap (map unnumbered) (silent_late w.core p none))))

pub returns-in_default-reset_late-clause-none : goal.returns-in_default-reset_late-clause-none
returns-in_default-reset_late-clause-none g c start w u none =
    is_none_there (λ (q : Port). q.desk.host) (slice_get w.ports c.args.i) c.in-Some.host (sym c.in-Some.is ∙ c.host.ensures w.ports u.ends) none

pub returns-clause-carried : goal.returns-clause-carried
returns-clause-carried g c start w p u is =
    let i = c.args.i in
    let h = c.in-Some.host in
    let same = same_host h w.ports i p (sym c.in-Some.is ∙ c.host.ensures w.ports u.ends) is in
    let some = sym (ap late_told is) ∙ (sym (c.reset_late.ensures.answer w.ports u.ends) ∙ c.in-Some-reset_late.is) in
    let late = late_report p c.in-Some-reset_late.report (reached_there c.args.self.now.ends w.ports i p u.ends is) some in
    let stands = c.reset_late.ensures.stands w.ports u.ends in
    let P : ℕ → Type 0 = λ n. AreNotes (g.W.Watch.is_short c.args.watch.now) (g.W.Watch.is_short c.note_input.new.watch)
    (g.W.Watch.noted c.args.watch.now) (g.W.Watch.noted c.note_input.new.watch)
    (map unnumbered (entries_for n (told (own_side w.core) p.session (report p.side (Reset None)) (whole_acked (after_input p.side (Reset None)))))) in
    let notes = subst P same (c.note_input.ensures.notes (at_place i reset_late w.ports) w.core (report p.side (Reset None)) p.session
    (whole_acked (after_input p.side (Reset None))) stands u.node late.1 (late_acked c.reset_late.new.self w.ports i h p stands is late.0 same)
    (subst (λ r. (report p.side (Reset None)).got ≡ (if r.got then got_at (at_place i reset_late w.ports) h else [])) (sym late.1) refl)) in
    comes_noted (told_late w.core p) (at_place i reset_late w.ports) u stands (notes_are notes (ap (map unnumbered) (late_tells w.core p late.0)))

pub returns-clause-none : goal.returns-clause-none
returns-clause-none g c start w u none =
    is_none_there (λ (q : Port). q.desk.host) (slice_get w.ports c.args.i) c.in-Some.host (sym c.in-Some.is ∙ c.host.ensures w.ports u.ends) none
