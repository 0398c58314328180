-- A frame that comes is a step.
use Rattle.one_end.proofs.Words.{FrameComes, refl}
use Rattle.one_end.proofs.Alone.{frame_taken, frame_at_end}
use Rattle.one_end.proofs.stepping.take.Goals as goal

pub step-requires-clause-may : goal.step-requires-clause-may
step-requires-clause-may g c =
    let m = c.requires.may in
    let lpdu = c.args.lpdu.now in
    let says = c.read_lpdu-read.ensures.says in (m.0, FrameComes lpdu, frame_taken m.1 lpdu (frame_at_end lpdu says) (lpdu, says) refl)

pub returns-clause-done : goal.returns-clause-done
returns-clause-done g c l a =
    let lpdu = c.args.lpdu.now in
    let says = c.read_lpdu-read.ensures.says in
    c.step.ensures.done l (FrameComes lpdu) (frame_taken a lpdu (frame_at_end lpdu says) (lpdu, says) refl)

pub returns-clause-asks : goal.returns-clause-asks
returns-clause-asks g c l a =
    let lpdu = c.args.lpdu.now in
    let says = c.read_lpdu-read.ensures.says in
    c.step.ensures.asks l (FrameComes lpdu) (frame_taken a lpdu (frame_at_end lpdu says) (lpdu, says) refl)
