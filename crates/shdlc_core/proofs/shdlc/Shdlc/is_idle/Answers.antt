use Rattle.shdlc_core.proofs.Words.{EndState, KeptEnd, ShdlcStandsFor, ap, sym, true, ◌∙◌, ◌≡◌}
use Rattle.shdlc_core.proofs.Idle.{IsIdle, idle_of, idle_ticked, idle_frames}
use Rattle.shdlc_core.proofs.shdlc.Shdlc.is_idle.Goals as goal

idle : (c : goal.After-has_sent_all) (e : EndState) → ShdlcStandsFor c.args.self.now e → c.has_sent_all.result ≡ true → IsIdle e
idle c e h t =
    let v = c.has_sent_all.ensures in
    idle_of c.args.self.now e h (ap (λ (k : KeptEnd). k.phase) (sym c.self.view_is) ∙ c.in-Up.is) (v.value.0 t).0 (v.value.0 t).1 (v.sent t)

pub returns-in-Up-clause-tick : goal.returns-in-Up-clause-tick
returns-in-Up-clause-tick c e h t = idle_ticked e (idle c e h t)

pub returns-in-Up-clause-frames : goal.returns-in-Up-clause-frames
returns-in-Up-clause-frames c e h t = idle_frames 12 e (idle c e h t)
