-- Two ends at rest in one pool, of which one passes its messages to the other.
use Rattle.std.proofs.Common.{◌≡◌, ℕ, sym, ap, ◌∙◌, subst}
use Rattle.std.specs.Prelude.{Option, Some, None, option_map}
use Rattle.block_pool.specs.declared.chain.Chain.{Chain}
use Rattle.block_pool.specs.Pool.{PoolState, Gives, KeepsOthers}
use Rattle.link_laws.specs.machine.Machine.{LinkEnd as Machine}
use Rattle.link_messages.specs.Outgoing.{LeavesOthersBut}
use Rattle.link_messages.specs.declared.inbox.Inbox.{Inbox}
use Rattle.link_end.specs.declared.«end».End.{End}
use Rattle.link_end.specs.Ends.{EndStandsFor, EndLeavesOthers, HaveOwners, Accounts, Rests}
use Rattle.link_end.proofs.AccountLemmas.{given_own, given_beside, passed_giver, passed_taker, kept_beside_call}

-- the message that was fetched, by its chain
pub fetched_chain : (k : End) (pool : PoolState) (x : Option (ℕ × Chain)) (y : ℕ × Chain) → x ≡ Some y → Accounts k pool (option_map (λ z. z.1) x)
    → Accounts k pool (Some y.1)
fetched_chain k pool x y is a = let P : Option (ℕ × Chain) → Type 0 = λ o. Accounts k pool (option_map (λ z. z.1) o) in subst P is a

pub none_fetched : (k : End) (pool : PoolState) (x : Option (ℕ × Chain)) → x ≡ None → Accounts k pool (option_map (λ z. z.1) x) → Accounts k pool None
none_fetched k pool x is a = let P : Option (ℕ × Chain) → Type 0 = λ o. Accounts k pool (option_map (λ z. z.1) o) in subst P is a

-- an end fetched this message, which lies in a chain of the pool in which the other end is at rest
pub record HasFetched (pool : PoolState) (k to : End) (m : Machine) (chain : Chain) : Type 0 where
  pub stands : EndStandsFor k pool m
  pub none_left : k.inbox.got ≡ None
  pub accounts : Accounts k pool (Some chain)
  pub owners : HaveOwners k to
  pub rests : Rests to pool

pub given_back : {old new : PoolState} {k to : End} {m : Machine} {chain : Chain} → HasFetched old k to m chain → Gives old new chain
    → KeepsOthers old new chain chain → Rests k new × Rests to new
given_back {old} {new} {k} {to} {m} {chain} h gives keeps =
    let r = h.rests in
    let own = given_own old new k m chain h.stands h.accounts gives keeps in
    let other = given_beside h.accounts gives keeps h.owners r.stands r.accounts in (
      record { state = m; stands = own.0; fetched = h.none_left; accounts = own.1 },
      record { state = r.state; stands = other.0; fetched = r.fetched; accounts = other.1 },
    )

pub passed_on : {old new : PoolState} {k to after : End} {m n : Machine} {chain : Chain} → HasFetched old k to m chain → EndStandsFor after new n
    → after.inbox ≡ to.inbox → LeavesOthersBut old new to.outbox.owner chain to.outbox.queue.items after.outbox.queue.items
    → Rests k new × Rests after new
passed_on {old} {new} {k} {to} {after} {m} {n} {chain} h stands inbox leaves =
    let r = h.rests in
    let giver = passed_giver h.stands h.accounts h.owners r.stands leaves in (
      record { state = m; stands = giver.0; fetched = h.none_left; accounts = giver.1 },
      record {
        state = n;
        stands = stands;
        fetched = ap (λ (b : Inbox). b.got) inbox ∙ r.fetched;
        accounts = passed_taker after h.accounts h.owners r.stands r.accounts inbox leaves;
      },
    )

pub rests_beside : (old new : PoolState) (before after other : End) (m : Machine) → EndStandsFor before old m → EndLeavesOthers old new before after
    → HaveOwners before other → Rests other old → Rests other new
rests_beside old new before after other m h leaves differ r =
    let both = kept_beside_call new after h leaves differ r.stands r.accounts in
    record { state = r.state; stands = both.0; fetched = r.fetched; accounts = both.1 }

pub turned : (one other : End) → HaveOwners one other → HaveOwners other one
turned one other o = record {
  senders = λ e. o.senders (sym e);
  receivers = λ e. o.receivers (sym e);
  to = λ e. o.from (sym e);
  from = λ e. o.to (sym e);
}

pub owners_kept : (k after to : End) → after.outbox.owner ≡ k.outbox.owner → after.inbox.joiner.owner ≡ k.inbox.joiner.owner → HaveOwners k to
    → HaveOwners after to
owners_kept k after to sender receiver o = record {
  senders = λ e. o.senders (sym sender ∙ e);
  receivers = λ e. o.receivers (sym receiver ∙ e);
  to = λ e. o.to (sym sender ∙ e);
  from = λ e. o.from (sym receiver ∙ e);
}
