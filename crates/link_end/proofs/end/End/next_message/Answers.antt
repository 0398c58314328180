use Rattle.link_end.proofs.NodeLemmas.{message_fetched}
use Rattle.link_end.proofs.AccountLemmas.{fetched_counted}
use Rattle.link_end.proofs.«end».End.next_message.Goals as goal

pub returns-clause-stands : goal.returns-clause-stands
returns-clause-stands c pool m h = message_fetched pool c.args.self.now c.fetch.new.self m c.fetch.ensures.joiner c.fetch.ensures.fetched h

pub returns-clause-accounts : goal.returns-clause-accounts
returns-clause-accounts c pool m h a =
    let e = c.fetch.ensures in
    fetched_counted h a (record { joiner = e.joiner; fetched = e.fetched; some = e.some; none = e.none })
