use Rattle.std.proofs.Common.{◌≡◌, ◌+◌, ℕ, Some, false, cond, ap, subst, sym, ◌∙◌, rules}
use Rattle.swp_base.specs.declared.control_frames.Control.TheVariants.{S}
use Rattle.shdlc_core.specs.declared.answers.LinkState.TheVariants.{Up}
use Rattle.shdlc_core.specs.Kept.{KeptEnd, KeptSender, SendsFor, ShdlcStandsFor}
use Rattle.shdlc_core.specs.Machine.{EndState, acknowledged, place_of, ready_again, runs_timer, taken, with_timer}
use Rattle.shdlc_core.proofs.Steps.{taken-rr, taken-rej, taken-rnr}
use Rattle.shdlc_core.proofs.shdlc.Shdlc.take_supervisory.Goals as goal
use Rattle.shdlc_core.proofs.shdlc.Shdlc.take_supervisory.Goals.{in-Rr+then-not-end_busy, in-Rr+else-not-end_busy, in-Rej, in-Rnr, in-Srej}

-- the other end isn't busy any more: T2 goes on where it runs, and stands at 0 where it doesn't
free : {k : KeptEnd} {sender : KeptSender} {timer : ℕ} (e : EndState) → ShdlcStandsFor k e →
    SendsFor sender (record e.session { peer_busy = false; probe = false }) →
    timer ≡ cond (runs_timer (record e.session { peer_busy = false; probe = false })) e.timer 0 →
    ShdlcStandsFor (record k { sender = sender; timer = timer }) (with_timer (record e { session = record e.session { peer_busy = false; probe = false } }))
free e stood sent timer = record {
  phase = stood.phase;
  own_window = stood.own_window;
  ready = stood.ready;
  due = stood.due;
  timer = timer;
  tries = stood.tries;
  peer_window = stood.peer_window;
  sender = sent;
  receiver = stood.receiver;
}

pub returns-clause-stands : goal.returns-clause-stands
returns-clause-stands c = λ e h.
    let up : e.phase ≡ Up = sym h.phase ∙ c.in-Some.ensures.other in
    let x = e.session.acked + c.in-Some.count in
    let at : place_of e.session c.args.nr ≡ Some x = sym (c.in-Some.ensures.up e h up) in
    let f = acknowledged e x in
    let acked : ShdlcStandsFor c.acknowledge.new.self f = c.in-Some.ensures.stands e h in
    let stands = λ (k : KeptEnd). ShdlcStandsFor k (taken e (S c.args.kind c.args.nr)) in
    let ready = λ (k : KeptEnd). ShdlcStandsFor k (ready_again e x) in
    elim c.match-kind.branch [
      | in-Rr+then-not-end_busy w ↦
          let stood = subst (λ k. ShdlcStandsFor k f) (sym w.self.view_is) acked in
          let runs = sym w.if-not-end_busy.true ∙ w.end_busy.ensures.runs f.session stood.sender in
          subst (λ kind. ShdlcStandsFor c.match-kind.self (taken e (S kind c.args.nr))) (sym w.in-Rr.is)
          (subst (ShdlcStandsFor c.match-kind.self) (sym (taken-rr e c.args.nr _ up at))
          (subst ready (sym w.self-is) (free f stood (w.end_busy.ensures.stands f.session stood.sender) (ap (λ b. cond b f.timer 0) runs))))
      | in-Rr+else-not-end_busy w ↦
          let stood = subst (λ k. ShdlcStandsFor k f) (sym w.self.view_is) acked in
          let runs = sym w.if-not-end_busy.false ∙ w.end_busy.ensures.runs f.session stood.sender in
          subst (λ kind. ShdlcStandsFor c.match-kind.self (taken e (S kind c.args.nr))) (sym w.in-Rr.is)
          (subst (ShdlcStandsFor c.match-kind.self) (sym (taken-rr e c.args.nr _ up at))
          (subst ready (sym w.self-is) (free f stood (w.end_busy.ensures.stands f.session stood.sender) (stood.timer ∙ ap (λ b. cond b f.timer 0) runs))))
      | in-Rej w ↦
          subst stands (sym w.self-is)
          (subst (λ kind. ShdlcStandsFor w.send_again.new.self (taken e (S kind c.args.nr))) (sym w.in-Rej.is)
          (subst (ShdlcStandsFor w.send_again.new.self) (sym (taken-rej e c.args.nr _ up at)) (w.send_again.ensures.stands _ acked)))
      | in-Rnr w ↦
          subst stands (sym w.self-is)
          (subst (λ kind. ShdlcStandsFor w.hold_back.new.self (taken e (S kind c.args.nr))) (sym w.in-Rnr.is)
          (subst (ShdlcStandsFor w.hold_back.new.self) (sym (taken-rnr e c.args.nr _ up at)) (w.hold_back.ensures.stands _ acked)))
      | in-Srej w ↦ absurd (search rules)
    ]
