use Rattle.world.proofs.Words.{Take, after_input, ap, lpdu_input, on_ok, report, sym, told_of, ◌∙◌}
use Rattle.link_laws.proofs.machine.Reports.{take_so}
use Rattle.link_end.proofs.AccountLemmas.{rests, rests_may_take}
use Rattle.world.proofs.Nodes.{IsLeft, HasTakenInput, IsReported, is_sound, input_done, with_message, taken_input, can_fetch}
use Rattle.world.proofs.node.Node.take.Goals as goal

pub take_read-report-requires-clause-ready : goal.take_read-report-requires-clause-ready
take_read-report-requires-clause-ready c =
    let kept = c.args.self.now.«end» in
    let s = c.requires.stands in
    rests_may_take kept c.args.self.now.pool (rests kept c.args.self.now.pool s.0 s.1.has.stands s.1.has.accounts s.1.fetched)

pub note_message-requires : goal.note_message-requires
note_message-requires c =
    let t = c.take_read-report in
    let m = c.requires.stands.0 in
    let h = c.requires.stands.1 in
    let read = c.requires.read in
    let left : IsLeft c.args.self.now t.new.self t.new.pool (after_input m (lpdu_input read.0)) =
    record { stands = t.ensures.stands m read.0 h.has.stands read.1; elsewhere = t.ensures.elsewhere } in
    (after_input m (lpdu_input read.0), can_fetch h left c.note.ensures.counted)

pub returns : goal.returns
returns c m frame h room is few =
    let t = c.take_read-report in
    let read = c.requires.read in
    let input = taken_input read.0 frame (sym read.1 ∙ is) in
    let taken : HasTakenInput c.args.self.now t.new.self t.new.pool m (Take frame) t.result =
    record {
      has = h.has;
      left = record { stands = rw input at (t.ensures.stands m read.0 h.has.stands read.1); elsewhere = t.ensures.elsewhere };
      told = t.ensures.answer m read.0 h.has.stands read.1 ∙ ap (λ i. told_of (report m i)) input;
      reports = take_so m frame (is_sound m h.has.reached);
      sendable = tt;
      few = few;
    } in
    let done : IsReported c.note.new.self m (Take frame) c.args.place c.args.entries.now.items c.note.new.entries.items =
    input_done taken c.note.ensures.counted c.in_ok-note.ensures.noted in
    on_ok c.note_message.result (c.note_message.ensures (after_input m (Take frame)) done.has) (λ f. with_message done h.fetched f)
