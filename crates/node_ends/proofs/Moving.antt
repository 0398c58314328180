-- What calls on one end leave of the ends beside it in the pool.
use Rattle.node_ends.proofs.Words.{Accounts, AllByRecursion, Chain, End, EndLeavesOthers, EndStandsFor, FetchMessage, Gives, HoldsEnd, IsLive, KeepsOthers}
use Rattle.node_ends.proofs.Words.{List, Machine, Message, Moves, None, Open, Option, PoolState, Queued, Some, Waiting, [], account_kept, all_mapped, ap}
use Rattle.node_ends.proofs.Words.{apart_by_owner, arith, chain_bytes, chain_in, chain_of, chains_in, drop, length, length-map, lies_apart_by_owner}
use Rattle.node_ends.proofs.Words.{messages_waiting, refl, subst, sym, turn, without_got, ℕ, ◌+◌, ◌∙◌, ◌∷◌, ◌≡◌, ◌≢◌, ◌≤◌}
use Rattle.block_pool.specs.Pool.{IsApart}
use Rattle.block_pool.specs.Holdings.{LiesApart}
use Rattle.hcp_chain.specs.Holding.{IsOwnOpen, IsApartFrom}
use Rattle.link_laws.specs.machine.Machine.{ActDue as Due}
use Rattle.shdlc_core.specs.declared.answers.Due.{Due as ShdlcDue}
use Rattle.link_end.specs.Ends.{controls_in, due_of}
use Rattle.link_end.proofs.AccountLemmas.{given_beside, given_own, kept_beside_call}

-- a message that waits has its bytes still
pub waits_on : (old new : PoolState) (k : End) (waiting : Option Waiting) → Accounts k old (chain_of waiting)
    → ((c : Chain) → IsLive old c → c.owner ≡ k.inbox.joiner.owner → chain_bytes new c ≡ chain_bytes old c) → messages_waiting new waiting
    ≡ messages_waiting old waiting
waits_on old new k waiting a same = grind arith

-- a chain of neither owner lies apart from all chains of an end
far_from : (pool : PoolState) (k : End) (m : Machine) (c : Chain) → EndStandsFor k pool m → IsLive pool c → c.owner ≢ k.outbox.owner
    → c.owner ≢ k.inbox.joiner.owner → LiesApart Queued chain_in k.outbox.queue.items c × IsApartFrom (chains_in k.inbox) c
far_from pool k m c h live out into = (
  lies_apart_by_owner Queued chain_in pool k.outbox.owner k.outbox.queue.items c h.halfway.sends.lies.kept.own live out,
  all_mapped Open (IsOwnOpen pool k.inbox.joiner.owner) (λ x. IsApart c x.chain) (chains_in k.inbox)
      (λ x o. apart_by_owner pool c x.chain live o.live (λ e. into (e ∙ o.owned))) h.halfway.receives.lies.holds.own,
)

-- a call that leaves the others moves its end
pub call_moves : (old new : PoolState) (before after : End) (m : Machine) → EndStandsFor before old m → EndLeavesOthers old new before after
    → Moves old new before after
call_moves old new before after m h l = record {
  sender = l.sender;
  receiver = l.receiver;
  beside = λ other waiting n differ g.
      let both = kept_beside_call new after h l differ g.stands g.accounts in
      let same : (c : Chain) → IsLive old c → c.owner ≡ other.inbox.joiner.owner → chain_bytes new c ≡ chain_bytes old c = λ c live is.
      (let away = far_from old before m c h live (λ e. differ.to (sym e ∙ is)) (λ e. differ.receivers (sym e ∙ is)) in
      (l.others c live away.0 away.1).1) in
      record { stands = both.0; accounts = both.1; waits = g.waits ∙ sym (waits_on old new other waiting g.accounts same); short = g.short };
}

-- an end that is changed while nothing changes in the pool
pub stays_beside : (pool : PoolState) (before after : End) → after.outbox ≡ before.outbox → after.inbox ≡ before.inbox → Moves pool pool before after
stays_beside pool before after out into = grind arith

-- ## The end itself

pub short_on : (m n : Machine) → n.got ≡ m.got → AllByRecursion (λ (x : Message). length x.1 ≤ 4096) m.got
    → AllByRecursion (λ (x : Message). length x.1 ≤ 4096) n.got
short_on m n same short = let P : List Message → Type 0 = λ l. AllByRecursion (λ (x : Message). length x.1 ≤ 4096) l in subst P (sym same) short

-- an end with its message that waits, after a call that leaves others
pub call_holds : (old new : PoolState) (before after : End) (waiting : Option Waiting) (m n : Machine) → HoldsEnd old before waiting m
    → EndLeavesOthers old new before after → EndStandsFor after new (without_got n) → n.got ≡ m.got → HoldsEnd new after waiting n
call_holds old new before after waiting m n h l stands got =
    record {
      stands = stands;
      accounts = account_kept old new before after (without_got m) (chain_of waiting) h.stands l h.accounts;
      waits = got ∙ (h.waits ∙ sym (own_bytes waiting h.accounts));
      short = short_on m n got h.short;
    }
  where
    own_bytes : (w : Option Waiting) → Accounts before old (chain_of w) → messages_waiting new w ≡ messages_waiting old w
    own_bytes None a = refl
    own_bytes (Some w) a =
        let f = a.fetched in
        let queue = lies_apart_by_owner Queued chain_in old before.outbox.owner before.outbox.queue.items w.chain
        h.stands.halfway.sends.lies.kept.own f.live (λ e. h.stands.halfway.differ (sym e ∙ f.owned)) in
        ap (λ (bytes : List ℕ). (w.pipe, bytes) ∷ []) (l.others w.chain f.live queue f.apart).1

-- an end that is changed while nothing changes in the pool
pub boxes_hold : (pool : PoolState) (before after : End) (waiting : Option Waiting) (m n : Machine) → HoldsEnd pool before waiting m
    → after.inbox ≡ before.inbox → EndStandsFor after pool (without_got n) → n.got ≡ m.got → HoldsEnd pool after waiting n
boxes_hold pool before after waiting m n h into stands got = grind arith

-- the chain of a message that waits
pub waiting_live : {pool : PoolState} {k : End} {o : Option Waiting} {m : Machine} (w : Waiting) → o ≡ Some w → HoldsEnd pool k o m → IsLive pool w.chain
waiting_live {pool} {k} w waits h = let P : Option Waiting → Type 0 = λ c. Accounts k pool (chain_of c) in (subst P waits h.accounts).fetched.live

-- ## The message that waits is given back

-- a chain went back to the pool: the ends beside its own are as they were
pub given_moves : (old new : PoolState) (k : End) (chain : Chain) → Accounts k old (Some chain) → Gives old new chain → KeepsOthers old new chain chain
    → Moves old new k k
given_moves old new k chain a gives keeps = record {
  sender = refl;
  receiver = refl;
  beside = λ other waiting n differ g.
      let both = given_beside a gives keeps differ g.stands g.accounts in
      record { stands = both.0; accounts = both.1; waits = g.waits ∙ sym (waits_on old new other waiting g.accounts (grind arith)); short = g.short };
}

pub given_holds : (old new : PoolState) (k : End) (w : Waiting) (m : Machine) → HoldsEnd old k (Some w) m → Gives old new w.chain
    → KeepsOthers old new w.chain w.chain → HoldsEnd new k None (turn m FetchMessage)
given_holds old new k w m h gives keeps =
    let own = given_own old new k (without_got m) w.chain h.stands h.accounts gives keeps in
    let none : drop 1 m.got ≡ [] = ap (drop 1) h.waits in
    grind arith

-- few control frames wait at an end whose machine has few
pub few_controls : (pool : PoolState) (k : End) (m : Machine) → EndStandsFor k pool (without_got m) → length m.acts + length m.shdlc.due ≤ 6
    → controls_in k ≤ 6
few_controls pool k m h few =
    let due = ap (λ (l : List ShdlcDue). length l) h.halfway.link.kept.due in
    omega (arith, (ap (λ (l : List Due). length l) h.halfway.acts), length-map k.acts.items due_of, due, few)
