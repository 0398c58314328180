use Rattle.std.proofs.Common.{refl}
use Rattle.shdlc_core.proofs.shdlc.Shdlc.new.Goals as goal

pub returns : goal.returns
returns c = record {
  phase = refl;
  own_window = refl;
  ready = refl;
  due = c.new.ensures;
  timer = refl;
  tries = refl;
  peer_window = refl;
  sender = c.new-2.ensures;
  receiver = c.new-3.ensures 0;
}
