use Rattle.std.proofs.Common.{refl}
use Rattle.link_end.proofs.MakeLemmas.{made}
use Rattle.link_end.proofs.AccountLemmas.{none_counted}
use Rattle.link_end.proofs.«end».End.make.Goals as goal

pub returns-clause-stands : goal.returns-clause-stands
returns-clause-stands c =
    let b = c.in_ok-outbox.ensures in
    made (record {
      role_is = c.new.ensures;
      stands = c.new_shdlc.ensures;
      sends_for = b.0;
      queue = b.1;
      acked = b.2;
      cut = b.3;
      left = b.4;
      receives_for = c.new-2.ensures.owner;
      none = c.new-2.ensures.empty;
      no_acts = c.new-3.ensures;
      passed_over = refl;
    })

pub returns-clause-accounts : goal.returns-clause-accounts
returns-clause-accounts c pool zero = none_counted pool _ c.args.in_owner c.new-2.ensures.empty c.new-2.ensures.owner zero
