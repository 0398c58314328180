-- The chain of a message that waits at one end is given to an end.
use Rattle.node_ends.proofs.Words.{Accounts, AllByRecursion, Chain, End, EndStandsFor, FetchMessage, Give, Gives, HaveOwners, HoldsEnd, IsLive, KeepsOthers}
use Rattle.node_ends.proofs.Words.{List, Machine, Message, Moves, None, Option, PoolState, Queued, Some, Waiting, [], ap, apart_by_owner, arith, chain_bytes}
use Rattle.node_ends.proofs.Words.{chain_in, drop, false, give_refusal, is_none, length, lies_apart_by_owner, subst, sym, turn, without_got, ◌∙◌, ◌≡◌, ◌≤◌}
use Rattle.link_messages.specs.declared.inbox.Inbox.{Inbox}
use Rattle.link_messages.specs.Outgoing.{LeavesOthersBut}
use Rattle.link_end.proofs.AccountLemmas.{adopted, passed_giver, passed_taker, passed_beside, sent_back_own}
use Rattle.node_ends.proofs.Turning.{give_without, give_got}
use Rattle.node_ends.proofs.Moving.{waits_on, short_on, given_holds, given_moves}

-- an end takes the chain of a message, to send it
pub record Takes (old new : PoolState) (to after : End) (x : Message) (chain : Chain) : Type 0 where
  pub stands : (m : Machine) → EndStandsFor to old m → EndStandsFor after new (turn m (Give x))
  pub leaves : LeavesOthersBut old new to.outbox.owner chain to.outbox.queue.items after.outbox.queue.items
  pub inbox : after.inbox ≡ to.inbox
  pub owner : after.outbox.owner ≡ to.outbox.owner

-- it doesn't, and the blocks go back to the pool
pub record Refuses (old new : PoolState) (to after : End) (x : Message) (chain : Chain) : Type 0 where
  pub refused : (m : Machine) → EndStandsFor to old m → false ≡ is_none (give_refusal m x)
  pub same : after ≡ to
  pub gives : Gives old new chain
  pub keeps : KeepsOthers old new chain chain

-- an end that refuses a message is as it was
pub refused_still : (m : Machine) (x : Message) → false ≡ is_none (give_refusal m x) → turn m (Give x) ≡ m
refused_still m x refuses = grind arith

-- nothing waits any more at an end
none_waits : {old new : PoolState} {k : End} {w : Waiting} {m : Machine} → HoldsEnd old k (Some w) m → EndStandsFor k new (without_got m)
    → Accounts k new None → HoldsEnd new k None (turn m FetchMessage)
none_waits h stands accounts = grind arith

-- ## Elsewhere

-- an end beside those that give and take the chain
pub taken_beside : {old new : PoolState} {from to after : End} {x : Message} {w : Waiting} {m n : Machine} → HoldsEnd old from (Some w) m
    → EndStandsFor to old n → Takes old new to after x w.chain → (other : End) (waiting : Option Waiting) (o : Machine) → HaveOwners from other
    → HaveOwners to other → HoldsEnd old other waiting o → HoldsEnd new other waiting o
taken_beside {old} {new} {from} {to} {w = w} h s t other waiting o one two g =
    let f = h.accounts.fetched in
    let both = passed_beside (adopted h.accounts s t.leaves) one two g.stands g.accounts in
    let same : (c : Chain) → IsLive old c → c.owner ≡ other.inbox.joiner.owner → chain_bytes new c ≡ chain_bytes old c = λ c live is.
    (let queue = lies_apart_by_owner Queued chain_in old to.outbox.owner to.outbox.queue.items c s.halfway.sends.lies.kept.own live
    (λ e. two.to (sym e ∙ is)) in
    (t.leaves.others c live queue (apart_by_owner old c w.chain live f.live (λ e. one.receivers (sym f.owned ∙ (sym e ∙ is))))).1) in
    record { stands = both.0; accounts = both.1; waits = g.waits ∙ sym (waits_on old new other waiting g.accounts same); short = g.short }

-- ## From one end to another one

-- The message that waits at one end has gone to another one.
pub record GoesOver (old new : PoolState) (from to after : End) (x : Message) (w : Waiting) : Type 0 where
  pub gives : (m : Machine) → HoldsEnd old from (Some w) m → HoldsEnd new from None (turn m FetchMessage)
  pub takes : (waiting : Option Waiting) (m : Machine) → HoldsEnd old to waiting m → HoldsEnd new after waiting (turn m (Give x))
  pub beside : (other : End) (waiting : Option Waiting) (m : Machine) → HaveOwners from other → HaveOwners to other
      → HoldsEnd old other waiting m → HoldsEnd new other waiting m
  pub sender : after.outbox.owner ≡ to.outbox.owner
  pub receiver : after.inbox.joiner.owner ≡ to.inbox.joiner.owner

pub taken_over : {old new : PoolState} {from to after : End} {x : Message} {w : Waiting} {m n : Machine} {waiting : Option Waiting}
    → HoldsEnd old from (Some w) m → HoldsEnd old to waiting n → HaveOwners from to → Takes old new to after x w.chain
    → GoesOver old new from to after x w
taken_over {old} {new} {from} {to} {after} {x} {w} h s differ t = record {
  gives = λ m g. (let own = passed_giver g.stands g.accounts differ s.stands t.leaves in none_waits g own.0 own.1);
  takes = λ waiting m g.
      let f = h.accounts.fetched in
      let same : (c : Chain) → IsLive old c → c.owner ≡ to.inbox.joiner.owner → chain_bytes new c ≡ chain_bytes old c = λ c live is.
      (let queue = lies_apart_by_owner Queued chain_in old to.outbox.owner to.outbox.queue.items c g.stands.halfway.sends.lies.kept.own live
      (λ e. g.stands.halfway.differ (sym e ∙ is)) in
      (t.leaves.others c live queue (apart_by_owner old c w.chain live f.live (λ e. differ.receivers (sym f.owned ∙ (sym e ∙ is))))).1) in
      record {
        stands = subst (λ (n : Machine). EndStandsFor after new n) (give_without m x) (t.stands (without_got m) g.stands);
        accounts = passed_taker after h.accounts differ g.stands g.accounts t.inbox t.leaves;
        waits = give_got m x ∙ (g.waits ∙ sym (waits_on old new to waiting g.accounts same));
        short = short_on m (turn m (Give x)) (give_got m x) g.short;
      };
  beside = taken_beside h s.stands t;
  sender = t.owner;
  receiver = ap (λ (b : Inbox). b.joiner.owner) t.inbox;
}

pub refused_over : {old new : PoolState} {from to after : End} {x : Message} {w : Waiting} {m : Machine} → HoldsEnd old from (Some w) m
    → HaveOwners from to → Refuses old new to after x w.chain → GoesOver old new from to after x w
refused_over {old} {new} {from} {to} {after} {x} {w} h differ r =
    let moved = given_moves old new from w.chain h.accounts r.gives r.keeps in
    record {
      gives = λ m g. given_holds old new from w m g r.gives r.keeps;
      takes = λ waiting m g.
          let P : End → Type 0 = λ k. HoldsEnd new k waiting m in
          let Q : Machine → Type 0 = λ n. HoldsEnd new after waiting n in
          subst Q (sym (refused_still m x (r.refused (without_got m) g.stands))) (subst P (sym r.same) (moved.beside to waiting m differ g));
      beside = λ other waiting m one two g. moved.beside other waiting m one g;
      sender = ap (λ (k : End). k.outbox.owner) r.same;
      receiver = ap (λ (k : End). k.inbox.joiner.owner) r.same;
    }

-- ## Back to the same end

-- The message that waits at an end has gone back to it, to be sent.
pub record GoesBack (old new : PoolState) (k after : End) (x : Message) (w : Waiting) : Type 0 where
  pub stands : (m : Machine) → HoldsEnd old k (Some w) m → HoldsEnd new after None (turn (turn m FetchMessage) (Give x))
  pub moves : Moves old new k after

pub taken_back : {old new : PoolState} {k after : End} {x : Message} {w : Waiting} {n : Machine} → HoldsEnd old k (Some w) n
    → Takes old new k after x w.chain → GoesBack old new k after x w
taken_back {old} {new} {k} {after} {x} {w} h t = record {
  stands = λ m g.
      let f : Machine = turn m FetchMessage in
      let none : (turn f (Give x)).got ≡ [] = give_got f x ∙ ap (drop 1) g.waits in
      record {
        stands = subst (λ (n : Machine). EndStandsFor after new n) (give_without f x) (t.stands (without_got m) g.stands);
        accounts = sent_back_own old new k after (without_got m) w.chain g.stands g.accounts t.inbox t.leaves;
        waits = none;
        short = (let P : List Message → Type 0 = λ l. AllByRecursion (λ (y : Message). length y.1 ≤ 4096) l in subst P (sym none) tt);
      };
  moves = record {
    sender = t.owner;
    receiver = ap (λ (b : Inbox). b.joiner.owner) t.inbox;
    beside = λ other waiting m differ g. taken_beside h h.stands t other waiting m differ differ g;
  };
}

pub refused_back : {old new : PoolState} {k after : End} {x : Message} {w : Waiting} {n : Machine} → HoldsEnd old k (Some w) n
    → Refuses old new k after x w.chain → GoesBack old new k after x w
refused_back {old} {new} {k} {after} {x} {w} h r =
    let P : End → Type 0 = λ e. Moves old new k e in
    record {
      stands = λ m g.
          let f : Machine = turn m FetchMessage in
          let P : End → Type 0 = λ e. HoldsEnd new e None f in
          let Q : Machine → Type 0 = λ n. HoldsEnd new after None n in
          subst Q (sym (refused_still f x (r.refused (without_got m) g.stands))) (subst P (sym r.same) (given_holds old new k w m g r.gives r.keeps));
      moves = subst P (sym r.same) (given_moves old new k w.chain h.accounts r.gives r.keeps);
    }
