use Rattle.std.proofs.lemmas.Bool.{lt-ltb}
use Rattle.node_core.proofs.Words.{Acked, Active, AreNotes, Bool, Cause, Down, End, Entry, GaveUp, Got, LinkReport, List, Message, Option, Up, [], ap, arith}
use Rattle.node_core.proofs.Words.{entries_for, false, if_so, kept_number, map, nat_lt, option_to_list, own_side, refl, suc, sym, told, without_message, zero}
use Rattle.node_core.proofs.Words.{ℕ, ◌∙◌, ◌∷◌, ◌≡◌, ◌≤◌}
use Rattle.trace_model.specs.declared.entry.Entry.TheVariants as entry
use Rattle.node_core.proofs.Notes.{no_some, notes_then, notes_are, noted_by, unnoted_by, told_plain, whole}
use Rattle.node_core.proofs.node.Node.note_news.Goals as goal
use Rattle.node_core.proofs.node.Node.note_news.Goals.{in-Some, in_default, then-report, else-report, then-report-2, else-report-2}
use Rattle.node_core.proofs.node.Node.note_news.Goals.{in-Some-gave_up, in_default-gave_up, then-report-gt0, else-report-gt0}

none_more : (n : ℕ) → n ≤ 0 → nat_lt 0 n ≡ false
none_more zero none = refl
none_more (suc n) none = absurd (omega (arith, none))

pub returns-clause-lies : goal.returns-clause-lies
returns-clause-lies g c = c.note_message.ensures.lies

pub returns-clause-notes : goal.returns-clause-notes
returns-clause-notes g c ports core x n acked e node is count got =
    let h = c.args.host in
    let who = own_side core in
    let r : LinkReport = c.args.report.now in
    let at = c.end_at-at.ensures core node in
    let noted = g.W.Watch.noted in
    let short = g.W.Watch.is_short in
    let o = c.args.watch.now in
    let down_at : Option Cause → List Entry = λ k. entries_for h (map (Down who) (option_to_list k)) in
    let up_at : Bool → List Entry = λ b. entries_for h (if_so b (Up who 0)) in
    let active_at : Bool → List Entry = λ b. entries_for h (if_so b (Active who)) in
    let gave_up_at : Option ℕ → List Entry = λ k. entries_for h (map (GaveUp who) (option_to_list k)) in
    let acked_at : Bool → List Entry = λ b. entries_for h (if_so b (Acked who 0 (kept_number acked))) in
    let v1 = c.match-report.watch in
    let v2 = c.if-report.watch in
    let v3 = c.if-report-2.watch in
    let v4 = c.match-report-2.watch in
    let v5 = c.if-report-gt0.watch in
    let down : AreNotes (short o) (short v1) (noted o) (noted v1) (down_at r.ended) = elim c.match-report.branch [
      | in-Some w ↦
          noted_by noted short w.watch-is w.note.ensures.stays w.note.ensures.noted
          (ap (λ (s : End). entry.Down s w.in-Some.cause ∷ []) at ∙ ap down_at (sym w.in-Some.is))
      | in_default w ↦ unnoted_by noted short w.watch-is (ap down_at (sym (no_some r.ended w.in_default.not-Some)))
    ] in
    let up : AreNotes (short v1) (short v2) (noted v1) (noted v2) (up_at r.began) = elim c.if-report.branch [
      | then-report w ↦
          noted_by noted short w.watch-is w.note-then-report.ensures.stays w.note-then-report.ensures.noted
          (ap (λ (s : End). entry.Up s 0 ∷ []) at ∙ ap up_at (sym w.if-report.true))
      | else-report w ↦ unnoted_by noted short w.watch-is (ap up_at (sym w.if-report.false))
    ] in
    let active : AreNotes (short v2) (short v3) (noted v2) (noted v3) (active_at r.became_active) = elim c.if-report-2.branch [
      | then-report-2 w ↦
          noted_by noted short w.watch-is w.note-then-report-2.ensures.stays w.note-then-report-2.ensures.noted
          (ap (λ (s : End). entry.Active s ∷ []) at ∙ ap active_at (sym w.if-report-2.true))
      | else-report-2 w ↦ unnoted_by noted short w.watch-is (ap active_at (sym w.if-report-2.false))
    ] in
    let gave_up : AreNotes (short v3) (short v4) (noted v3) (noted v4) (gave_up_at r.gave_up) = elim c.match-report-2.branch [
      | in-Some-gave_up w ↦
          noted_by noted short w.watch-is w.note-in-Some-gave_up.ensures.stays w.note-in-Some-gave_up.ensures.noted
          (ap (λ (s : End). entry.GaveUp s w.in-Some-gave_up.tries ∷ []) at ∙ ap gave_up_at (sym w.in-Some-gave_up.is))
      | in_default-gave_up w ↦ unnoted_by noted short w.watch-is (ap gave_up_at (sym (no_some r.gave_up w.in_default-gave_up.not-Some)))
    ] in
    let more : AreNotes (short v4) (short v5) (noted v4) (noted v5) (acked_at (nat_lt 0 r.acked)) = elim c.if-report-gt0.branch [
      | then-report-gt0 w ↦
          noted_by noted short w.watch-is w.note-then-report-gt0.ensures.stays w.note-then-report-gt0.ensures.noted
          (ap (λ (s : End). entry.Acked s 0 w.acked-count.result ∷ []) at
          ∙ (ap (λ (m : ℕ). entries_for h (Acked who 0 m ∷ [])) (w.acked-count.ensures ports e ∙ count)
          ∙ ap acked_at (sym (lt-ltb 0 r.acked w.if-report-gt0.true))))
      | else-report-gt0 w ↦ unnoted_by noted short w.watch-is (ap acked_at (sym (none_more r.acked w.if-report-gt0.false)))
    ] in
    let reported = notes_are (notes_then down (notes_then up (notes_then active (notes_then gave_up more))))
    (sym (whole h (map (Down who) (option_to_list r.ended)) (if_so r.began (Up who 0)) (if_so r.became_active (Active who))
    (map (GaveUp who) (option_to_list r.gave_up)) (if_so (nat_lt 0 r.acked) (Acked who 0 (kept_number acked))))
    ∙ ap (λ (y : LinkReport). entries_for h (told who 0 (without_message y) (kept_number acked))) is) in
    let came = notes_are (c.note_message.ensures.notes ports core e node) (ap (λ (ms : List Message). entries_for h (map (Got who 0) ms)) (sym got)) in
    notes_are (notes_then reported came) (told_plain h who n x acked)
