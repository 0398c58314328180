use Rattle.std.proofs.Common.{arith}
use Rattle.shdlc_core.proofs.Histories.{new-Holds}
use Rattle.shdlc_core.proofs.laws.window_is_kept.Goals as goal

pub returns : goal.returns
returns c = λ w inputs p sent.
    let k = new-Holds w inputs in
    let below = (k.sent p).0 sent in
    let window = k.ordered.window in
    let acked = k.acked in
    omega arith
