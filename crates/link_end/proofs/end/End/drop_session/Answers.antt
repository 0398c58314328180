use Rattle.std.proofs.Common.{refl}
use Rattle.link_end.proofs.EndLemmas.{session_over, stopped_before, carries}
use Rattle.link_end.proofs.«end».End.drop_session.Goals as goal

pub returns-clause-stands : goal.returns-clause-stands
returns-clause-stands c m h =
    session_over (carries h.halfway) c.forget.ensures (record {
      stands = stopped_before h.halfway.link c.forget.ensures.shdlc c.stop.ensures.stands;
      out = refl;
      acked = refl;
      acc = refl;
    })
