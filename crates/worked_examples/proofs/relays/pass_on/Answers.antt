use Rattle.std.proofs.Common.{sym, ap, subst}
use Rattle.block_pool.specs.Pool.{IsLive, Gives, KeepsOthers}
use Rattle.link_end.specs.declared.«end».End.{End}
use Rattle.link_end.specs.Ends.{Rests}
use Rattle.link_end.proofs.AccountLemmas.{may_pass_on}
use Rattle.worked_examples.proofs.RelayLemmas.{HasFetched, fetched_chain, none_fetched, given_back, passed_on, owners_kept}
use Rattle.worked_examples.proofs.relays.pass_on.Goals as goal

pub returns-in-None-clause-from : goal.returns-in-None-clause-from
returns-in-None-clause-from c =
    let e = c.next_message.ensures in
    let m = c.requires.stands.0 in
    let h = c.requires.stands.1 in
    record {
      state = _;
      stands = e.stands c.args.pool.now m h;
      fetched = e.fetched;
      accounts = none_fetched c.next_message.new.self.link c.args.pool.now _ c.in-None.is (e.accounts c.args.pool.now m h c.requires.accounts);
    }

pub len-requires : goal.len-requires
len-requires c =
    let e = c.next_message.ensures in
    (fetched_chain c.next_message.new.self.link c.args.pool.now _ (c.in-Some.pipe, c.in-Some.chain) c.in-Some.is
    (e.accounts c.args.pool.now c.requires.stands.0 c.requires.stands.1 c.requires.accounts)).fetched.live

pub give-requires : goal.give-requires
give-requires c =
    let e = c.next_message.ensures in
    (fetched_chain c.next_message.new.self.link c.args.pool.now _ (c.in-Some.pipe, c.in-Some.chain) c.in-Some.is
    (e.accounts c.args.pool.now c.requires.stands.0 c.requires.stands.1 c.requires.accounts)).fetched.live

pub returns-then-pipe-ge112-clause-from : goal.returns-then-pipe-ge112-clause-from
returns-then-pipe-ge112-clause-from c =
    let e = c.next_message.ensures in
    let k = c.next_message.new.self.link in
    let to = c.args.to.now.link in
    let old = c.args.pool.now in
    let m = c.requires.stands.0 in
    let stands = e.stands old m c.requires.stands.1 in
    let a = fetched_chain k old _ (c.in-Some.pipe, c.in-Some.chain) c.in-Some.is (e.accounts old m c.requires.stands.1 c.requires.accounts) in
    let owners = owners_kept c.args.from.now.link k to (ap (λ (x : End). x.outbox.owner) e.rest) (ap (λ (x : End). x.inbox.joiner.owner) e.rest)
    c.requires.owners in
    let h : HasFetched old k to _ c.in-Some.chain =
    record { stands = stands; none_left = e.fetched; accounts = a; owners = owners; rests = c.requires.rests } in
    (given_back h c.give.ensures.given c.give.ensures.others).0

pub returns-then-pipe-ge112-clause-to : goal.returns-then-pipe-ge112-clause-to
returns-then-pipe-ge112-clause-to c =
    let e = c.next_message.ensures in
    let k = c.next_message.new.self.link in
    let to = c.args.to.now.link in
    let old = c.args.pool.now in
    let m = c.requires.stands.0 in
    let stands = e.stands old m c.requires.stands.1 in
    let a = fetched_chain k old _ (c.in-Some.pipe, c.in-Some.chain) c.in-Some.is (e.accounts old m c.requires.stands.1 c.requires.accounts) in
    let owners = owners_kept c.args.from.now.link k to (ap (λ (x : End). x.outbox.owner) e.rest) (ap (λ (x : End). x.inbox.joiner.owner) e.rest)
    c.requires.owners in
    let h : HasFetched old k to _ c.in-Some.chain =
    record { stands = stands; none_left = e.fetched; accounts = a; owners = owners; rests = c.requires.rests } in
    (given_back h c.give.ensures.given c.give.ensures.others).1

pub send_chain-requires-clause-chain : goal.send_chain-requires-clause-chain
send_chain-requires-clause-chain c =
    let e = c.next_message.ensures in
    let k = c.next_message.new.self.link in
    let to = c.args.to.now.link in
    let old = c.args.pool.now in
    let m = c.requires.stands.0 in
    let stands = e.stands old m c.requires.stands.1 in
    let a = fetched_chain k old _ (c.in-Some.pipe, c.in-Some.chain) c.in-Some.is (e.accounts old m c.requires.stands.1 c.requires.accounts) in
    let differ = owners_kept c.args.from.now.link k to (ap (λ (x : End). x.outbox.owner) e.rest) (ap (λ (x : End). x.inbox.joiner.owner) e.rest)
    c.requires.owners in
    may_pass_on old k to _ c.requires.rests.state c.in-Some.chain stands a differ c.requires.rests.stands

pub give-requires-in-Err : goal.give-requires-in-Err
give-requires-in-Err c =
    let e = c.next_message.ensures in
    let k = c.next_message.new.self.link in
    let to = c.args.to.now.link in
    let old = c.args.pool.now in
    let m = c.requires.stands.0 in
    let stands = e.stands old m c.requires.stands.1 in
    let a = fetched_chain k old _ (c.in-Some.pipe, c.in-Some.chain) c.in-Some.is (e.accounts old m c.requires.stands.1 c.requires.accounts) in
    let differ = owners_kept c.args.from.now.link k to (ap (λ (x : End). x.outbox.owner) e.rest) (ap (λ (x : End). x.inbox.joiner.owner) e.rest)
    c.requires.owners in
    let refused = c.in-Err.ensures.refused in
    subst (λ x. IsLive x c.in-Err.chain) (sym refused.0) (subst (IsLive old) (sym c.in-Err.ensures.back) a.fetched.live)

pub returns-in-Err-clause-from : goal.returns-in-Err-clause-from
returns-in-Err-clause-from c =
    let e = c.next_message.ensures in
    let k = c.next_message.new.self.link in
    let to = c.args.to.now.link in
    let old = c.args.pool.now in
    let m = c.requires.stands.0 in
    let stands = e.stands old m c.requires.stands.1 in
    let a = fetched_chain k old _ (c.in-Some.pipe, c.in-Some.chain) c.in-Some.is (e.accounts old m c.requires.stands.1 c.requires.accounts) in
    let owners = owners_kept c.args.from.now.link k to (ap (λ (x : End). x.outbox.owner) e.rest) (ap (λ (x : End). x.inbox.joiner.owner) e.rest)
    c.requires.owners in
    let h : HasFetched old k to _ c.in-Some.chain =
    record { stands = stands; none_left = e.fetched; accounts = a; owners = owners; rests = c.requires.rests } in
    let refused = c.in-Err.ensures.refused in
    let gives = subst (λ x. Gives old c.give-in-Err.new.self x) c.in-Err.ensures.back (subst (λ p. Gives p c.give-in-Err.new.self
    c.in-Err.chain) refused.0 c.give-in-Err.ensures.given) in
    let keeps = subst (λ x. KeepsOthers old c.give-in-Err.new.self x x) c.in-Err.ensures.back (subst (λ p. KeepsOthers p c.give-in-Err.new.self
    c.in-Err.chain c.in-Err.chain) refused.0 c.give-in-Err.ensures.others) in
    (given_back h gives keeps).0

pub returns-in-Err-clause-to : goal.returns-in-Err-clause-to
returns-in-Err-clause-to c =
    let e = c.next_message.ensures in
    let k = c.next_message.new.self.link in
    let to = c.args.to.now.link in
    let old = c.args.pool.now in
    let m = c.requires.stands.0 in
    let stands = e.stands old m c.requires.stands.1 in
    let a = fetched_chain k old _ (c.in-Some.pipe, c.in-Some.chain) c.in-Some.is (e.accounts old m c.requires.stands.1 c.requires.accounts) in
    let owners = owners_kept c.args.from.now.link k to (ap (λ (x : End). x.outbox.owner) e.rest) (ap (λ (x : End). x.inbox.joiner.owner) e.rest)
    c.requires.owners in
    let h : HasFetched old k to _ c.in-Some.chain =
    record { stands = stands; none_left = e.fetched; accounts = a; owners = owners; rests = c.requires.rests } in
    let refused = c.in-Err.ensures.refused in
    let gives = subst (λ x. Gives old c.give-in-Err.new.self x) c.in-Err.ensures.back (subst (λ p. Gives p c.give-in-Err.new.self
    c.in-Err.chain) refused.0 c.give-in-Err.ensures.given) in
    let keeps = subst (λ x. KeepsOthers old c.give-in-Err.new.self x x) c.in-Err.ensures.back (subst (λ p. KeepsOthers p c.give-in-Err.new.self
    c.in-Err.chain c.in-Err.chain) refused.0 c.give-in-Err.ensures.others) in
    subst (λ x. Rests x c.give-in-Err.new.self) (sym refused.1) (given_back h gives keeps).1

pub returns-in-Ok-clause-from : goal.returns-in-Ok-clause-from
returns-in-Ok-clause-from c =
    let e = c.next_message.ensures in
    let k = c.next_message.new.self.link in
    let to = c.args.to.now.link in
    let old = c.args.pool.now in
    let m = c.requires.stands.0 in
    let stands = e.stands old m c.requires.stands.1 in
    let a = fetched_chain k old _ (c.in-Some.pipe, c.in-Some.chain) c.in-Some.is (e.accounts old m c.requires.stands.1 c.requires.accounts) in
    let owners = owners_kept c.args.from.now.link k to (ap (λ (x : End). x.outbox.owner) e.rest) (ap (λ (x : End). x.inbox.joiner.owner) e.rest)
    c.requires.owners in
    let h : HasFetched old k to _ c.in-Some.chain =
    record { stands = stands; none_left = e.fetched; accounts = a; owners = owners; rests = c.requires.rests } in
    let s = c.in-Ok.ensures in
    (passed_on h (s.stands c.requires.rests.state c.requires.rests.stands) s.inbox s.elsewhere).0

pub returns-in-Ok-clause-to : goal.returns-in-Ok-clause-to
returns-in-Ok-clause-to c =
    let e = c.next_message.ensures in
    let k = c.next_message.new.self.link in
    let to = c.args.to.now.link in
    let old = c.args.pool.now in
    let m = c.requires.stands.0 in
    let stands = e.stands old m c.requires.stands.1 in
    let a = fetched_chain k old _ (c.in-Some.pipe, c.in-Some.chain) c.in-Some.is (e.accounts old m c.requires.stands.1 c.requires.accounts) in
    let owners = owners_kept c.args.from.now.link k to (ap (λ (x : End). x.outbox.owner) e.rest) (ap (λ (x : End). x.inbox.joiner.owner) e.rest)
    c.requires.owners in
    let h : HasFetched old k to _ c.in-Some.chain =
    record { stands = stands; none_left = e.fetched; accounts = a; owners = owners; rests = c.requires.rests } in
    let s = c.in-Ok.ensures in
    (passed_on h (s.stands c.requires.rests.state c.requires.rests.stands) s.inbox s.elsewhere).1
