-- What calls on a pool and on other ends leave of an end: what it stands for, and its account of the blocks for what comes.
use Rattle.std.specs.Prelude.{IfNone, slice_get, suc, zero}
use Rattle.link_end.proofs.Words.{AllByRecursion, Chain, End, EndStandsFor, Got, HoldsChains, IfSome, Inbox, IsApart, IsApartFrom, IsChainOf, IsFree, IsLive}
use Rattle.link_end.proofs.Words.{IsOwnOpen, LeavesOthersBut, LiesApart, List, Machine, MayPass, MayTake, None, Open, Option, Owner, OwnsAll, PoolState, Queued}
use Rattle.link_end.proofs.Words.{Some, [], ap, append-nil, arith, blocks_for, chain_bytes, chain_in, chains_in, drop, false, fragments_of, got_chains}
use Rattle.link_end.proofs.Words.{held_blocks, held_both, inl, inr, length, messages_of, messages_same, option_map, owner_at, queued_messages, quota_of, refl}
use Rattle.link_end.proofs.Words.{subst, sym, used_of, waiting_in, ℕ, ◌++◌, ◌+◌, ◌-◌, ◌<◌, ◌∙◌, ◌∷◌, ◌≡◌, ◌≢◌, ◌≤◌, ◌⊎◌}
use Rattle.block_pool.specs.Owners.{new_owners, with_used}
use Rattle.block_pool.specs.Pool.{Gives, IsNew, KeepsOthers}
use Rattle.block_pool.proofs.HoldingLemmas.{apart_by_owner, apart_turned, all_mapped, all_joined, kept_each, lies_apart_by_owner, used-with_used}
use Rattle.block_pool.proofs.HoldingLemmas.{quota-with_used, other-with_used, length-with_used}
use Rattle.hcp_chain.specs.Holding.{AreApart}
use Rattle.hcp_chain.proofs.HoldingLemmas.{all_front, all_map, apart_front}
use Rattle.link_end.specs.Ends.{Accounts, EndLeavesOthers, HaveOwners, IsFetched, Rests, blocks_of}
use Rattle.link_end.proofs.BoxLemmas.{OpensKept, opens_passed}

-- a chain has its bytes still
abbrev Stays : PoolState → PoolState → Chain → Type 0
Stays old new chain = IsLive new chain × (chain_bytes new chain ≡ chain_bytes old chain)

-- the chains of an end, and what is counted of its owners, as far as it stands on them
record Untouched (old new : PoolState) (k : End) : Type 0 where
  queued : AllByRecursion (λ q. Stays old new q.chain) k.outbox.queue.items
  opens : AllByRecursion (λ x. Stays old new x.chain) (chains_in k.inbox)
  sender : owner_at new.owners k.outbox.owner ≡ owner_at old.owners k.outbox.owner
  quota : quota_of new k.inbox.joiner.owner ≡ quota_of old k.inbox.joiner.owner
  used : held_blocks old (chains_in k.inbox) ≤ used_of new k.inbox.joiner.owner
  lengths : length new.owners ≡ length old.owners

all_parted : (X : Type 0) (P : X → Type 0) (xs ys : List X) → AllByRecursion P (xs ++ ys) → AllByRecursion P xs × AllByRecursion P ys
all_parted X P [] ys all = (tt, all)
all_parted X P (x ∷ xs) ys all = let rest = all_parted X P xs ys all.1 in ((all.0, rest.0), rest.1)

-- chains of an end that have their bytes still
opens_stay : (old new : PoolState) (owner : ℕ) (xs : List Open) → AllByRecursion (IsOwnOpen old owner) xs
    → AllByRecursion (λ x. Stays old new x.chain) xs → OpensKept old new owner xs
opens_stay old new owner xs own stay =
    opens_passed old new owner (λ x. Stays old new x.chain) xs (all_joined Open (IsOwnOpen old owner) (λ x. Stays old new x.chain) xs own stay) (λ x p. p.1)

opens_of : (old new : PoolState) (k : End) (m : Machine) → EndStandsFor k old m → Untouched old new k
    → OpensKept old new k.inbox.joiner.owner (chains_in k.inbox)
opens_of old new k m h u = opens_stay old new k.inbox.joiner.owner (chains_in k.inbox) h.halfway.receives.lies.holds.own u.opens

-- an end whose chains and owners are untouched stands as before
untouched_stands : (old new : PoolState) (k : End) (m : Machine) → EndStandsFor k old m → Untouched old new k → EndStandsFor k new m
untouched_stands old new k m h u =
    let before = h.halfway in
    let box = k.inbox in
    let i = box.joiner.owner in
    let kept = before.sends.lies.kept in
    let lies = before.receives.lies in
    let len = u.lengths in
    let sent = kept_each Queued chain_in old new k.outbox.owner k.outbox.queue.items kept.own u.queued in
    let same : queued_messages new k.outbox ≡ queued_messages old k.outbox = messages_same old new k.outbox.queue.items sent.bytes in
    let waits : waiting_in new k.outbox ≡ waiting_in old k.outbox = ap (λ l. drop k.outbox.cut (fragments_of l)) same in
    let out_used = ap (λ (x : Owner). x.used) u.sender in
    let out_aside = ap (λ (x : Owner). x.aside) u.sender in
    let all = opens_of old new k m h u in
    let parts = all_parted Open (λ x. Stays old new x.chain) box.joiner.open.items (got_chains box.got) u.opens in
    let owns = all_parted Open (IsOwnOpen old i) box.joiner.open.items (got_chains box.got) lies.holds.own in
    let some = opens_stay old new i box.joiner.open.items owns.0 parts.0 in
    let got = opens_stay old new i (got_chains box.got) owns.1 parts.1 in
    record {
      halfway = record {
        role = before.role;
        link = record {
          offered = before.link.offered;
          out = before.link.out ∙ ap (λ w. before.link.offered ++ w) (sym waits);
          kept = before.link.kept;
          narrow = before.link.narrow;
          session = before.link.session;
        };
        acts = before.acts;
        sends = grind arith;
        receives = grind arith;
        got = got.messages ∙ before.got;
        aside = out_aside ∙ before.aside;
        passed_over = before.passed_over;
        differ = before.differ;
      };
      full = elim h.full [ inl none ↦ inl (waits ∙ none) | inr four ↦ inr four ];
    }

-- a chain of neither owner lies apart from all chains of an end
far_from : (pool : PoolState) (k : End) (m : Machine) (c : Chain) → EndStandsFor k pool m → IsLive pool c → c.owner ≢ k.outbox.owner
    → c.owner ≢ k.inbox.joiner.owner
    → LiesApart Queued chain_in k.outbox.queue.items c × IsApartFrom (chains_in k.inbox) c
far_from pool k m c h live out into = (
  lies_apart_by_owner Queued chain_in pool k.outbox.owner k.outbox.queue.items c h.halfway.sends.lies.kept.own live out,
  all_mapped Open (IsOwnOpen pool k.inbox.joiner.owner) (λ x. IsApart c x.chain) (chains_in k.inbox)
      (λ x o. apart_by_owner pool c x.chain live o.live (λ e. into (e ∙ o.owned))) h.halfway.receives.lies.holds.own,
)

-- ---- an end with its account, where nothing of its owners changed

-- the chains of two owners have their bytes still, and their owners count as before
record OwnersStay (old new : PoolState) (one two : ℕ) : Type 0 where
  first : (c : Chain) → IsLive old c → c.owner ≡ one → Stays old new c
  second : (c : Chain) → IsLive old c → c.owner ≡ two → Stays old new c
  counts : owner_at new.owners one ≡ owner_at old.owners one
  uses : owner_at new.owners two ≡ owner_at old.owners two
  lengths : length new.owners ≡ length old.owners

untouched : (old new : PoolState) (k : End) (m : Machine) → EndStandsFor k old m → OwnersStay old new k.outbox.owner k.inbox.joiner.owner → Untouched old new k
untouched old new k m h s =
    let lies = h.halfway.receives.lies in
    let used = ap (λ (x : Owner). x.used) s.uses in
    record {
      queued = all_mapped Queued (λ q. IsChainOf old k.outbox.owner q.chain) (λ q. Stays old new q.chain) k.outbox.queue.items
          (λ q o. s.first q.chain o.live o.owned) h.halfway.sends.lies.kept.own;
      opens = all_mapped Open (IsOwnOpen old k.inbox.joiner.owner) (λ x. Stays old new x.chain) (chains_in k.inbox)
          (λ x o. s.second x.chain o.live o.owned) lies.holds.own;
      sender = s.counts;
      quota = ap (λ (x : Owner). x.quota) s.uses;
      used = omega (arith, used, lies.used);
      lengths = s.lengths;
    }

fetched_stays : (old new : PoolState) (k : End) (chain : Option Chain)
    → ((c : Chain) → IsLive old c → c.owner ≡ k.inbox.joiner.owner → Stays old new c) → IfSome chain (IsFetched old k)
    → IfSome chain (IsFetched new k) × (blocks_of new chain ≡ blocks_of old chain)
fetched_stays old new k chain stay f = grind arith

-- an end whose owners count as before, and their chains have their bytes still
both_stay : (old new : PoolState) (k : End) (m : Machine) (chain : Option Chain) → EndStandsFor k old m → Accounts k old chain
    → OwnersStay old new k.outbox.owner k.inbox.joiner.owner → EndStandsFor k new m × Accounts k new chain
both_stay old new k m chain h a s =
    let u = untouched old new k m h s in
    let f = fetched_stays old new k chain s.second a.fetched in
    let used = ap (λ (x : Owner). x.used) s.uses in
    let all = opens_of old new k m h u in (
      untouched_stands old new k m h u,
      record { fetched = f.0; used = omega (arith, used, all.blocks, f.1, a.used) },
    )

-- ---- calls on another end

pub kept_beside_call : {old : PoolState} {before other : End} {m n : Machine} {theirs : Option Chain} (new : PoolState) (after : End)
    → EndStandsFor before old m → EndLeavesOthers old new before after → HaveOwners before other
    → EndStandsFor other old n → Accounts other old theirs → EndStandsFor other new n × Accounts other new theirs
kept_beside_call {old} {before} {other} {m} {n} {theirs} new after h l differ g a =
    both_stay old new other n theirs g a (record {
      first = λ c live is.
          let away = far_from old before m c h live (λ e. differ.senders (sym e ∙ is)) (λ e. differ.from (sym e ∙ is)) in
          let s = l.others c live away.0 away.1 in
          (s.0, s.1);
      second = λ c live is.
          let away = far_from old before m c h live (λ e. differ.to (sym e ∙ is)) (λ e. differ.receivers (sym e ∙ is)) in
          let s = l.others c live away.0 away.1 in
          (s.0, s.1);
      counts = l.counts other.outbox.owner (λ e. differ.senders (sym e)) (λ e. differ.from (sym e));
      uses = l.counts other.inbox.joiner.owner (λ e. differ.to (sym e)) (λ e. differ.receivers (sym e));
      lengths = l.lengths;
    })

-- ---- calls on the end itself

pub account_kept : (old new : PoolState) (before after : End) (m : Machine) (chain : Option Chain) → EndStandsFor before old m
    → EndLeavesOthers old new before after → Accounts before old chain → Accounts after new chain
account_kept old new before after m None h l a = grind arith
account_kept old new before after m (Some c) h l a =
    let f = a.fetched in
    let queue = lies_apart_by_owner Queued chain_in old before.outbox.owner before.outbox.queue.items c h.halfway.sends.lies.kept.own f.live
    (λ e. h.halfway.differ (sym e ∙ f.owned)) in
    let blocks = ap (λ bs. blocks_for (length bs)) (l.others c f.live queue f.apart).1 in
    grind arith

-- ---- calls that leave what comes as it is

pub account_moved : (pool : PoolState) (before after : End) (chain : Option Chain) → after.inbox ≡ before.inbox → Accounts before pool chain
    → Accounts after pool chain
account_moved pool before after chain inbox a = grind arith

-- ---- a frame may be taken

none_got : (pool : PoolState) (g : Option Got) → messages_of pool (got_chains g) ≡ [] → g ≡ None
none_got pool g e = grind arith

fetched_all : (pool : PoolState) (k : End) (m : Machine) → EndStandsFor k pool m → m.got ≡ [] → k.inbox.got ≡ None
fetched_all pool k m h none = none_got pool k.inbox.got (h.halfway.got ∙ none)

pub rests_may_take : (k : End) (pool : PoolState) → Rests k pool → MayTake k pool
rests_may_take k pool r =
    let got = r.fetched in
    let chains : chains_in k.inbox ≡ k.inbox.joiner.open.items = ap (λ g. k.inbox.joiner.open.items ++ got_chains g) got
    ∙ append-nil k.inbox.joiner.open.items in
    record { fetched = got; free = inl (omega (arith, r.accounts.used, ap (held_blocks pool) chains)) }

pub rests : (k : End) (pool : PoolState) (m : Machine) → EndStandsFor k pool m → Accounts k pool None → m.got ≡ [] → Rests k pool
rests k pool m h a none = record { state = m; stands = h; fetched = fetched_all pool k m h none; accounts = a }

pub may_take_held : (k : End) (pool : PoolState) (m : Machine) → EndStandsFor k pool m → m.shdlc.ready ≡ false → m.got ≡ [] → MayTake k pool
may_take_held k pool m h held none = record { fetched = fetched_all pool k m h none; free = inr (h.halfway.link.kept.ready ∙ held) }

-- ---- a message is fetched

pub none_counted : (pool : PoolState) (k : End) (owner : ℕ) → chains_in k.inbox ≡ [] → k.inbox.joiner.owner ≡ owner → used_of pool owner ≡ 0
    → Accounts k pool None
none_counted pool k owner none is unused = grind arith

-- the message that came whole was fetched, if one did
pub record HasFetchedMessage (before after : Inbox) (x : Option (ℕ × Chain)) : Type 0 where
  pub joiner : after.joiner ≡ before.joiner
  pub fetched : after.got ≡ None
  pub some : IfSome x (λ y. before.got ≡ Some (record { pipe = y.0; chain = y.1 }))
  pub none : IfNone x (before.got ≡ None)

pub fetched_counted : {pool : PoolState} {k : End} {inbox : Inbox} {m : Machine} {x : Option (ℕ × Chain)} → EndStandsFor k pool m → Accounts k pool None
    → HasFetchedMessage k.inbox inbox x → Accounts (record k { inbox = inbox }) pool (option_map (λ y. y.1) x)
fetched_counted {pool} {k} {inbox} {x = None} h a f = grind arith
fetched_counted {pool} {k} {inbox} {x = Some y} h a f =
    let P : Inbox → Type 0 = λ b. Accounts (record k { inbox = b }) pool (Some y.1) in
    let xs = k.inbox.joiner.open.items in
    let o = k.inbox.joiner.owner in
    let one : Open = record { pipe = y.0; chain = y.1 } in
    let chains : chains_in k.inbox ≡ xs ++ one ∷ [] = ap (λ g. xs ++ got_chains g) f.some in
    let holds = subst (HoldsChains pool o) chains h.halfway.receives.lies.holds in
    let own = all_front (IsOwnOpen pool o) xs one holds.own in
    let apart = all_map (λ x. AreApart x one) (λ x. IsApart y.1 x.chain) xs (λ x d first p q. d.chains first q p) (apart_front xs one holds.apart).1 in
    subst P (ap (λ j. record { joiner = j; got = None }) (sym f.joiner) ∙ ap (λ g. record { joiner = inbox.joiner; got = g }) (sym f.fetched)) (record {
      fetched = record { live = own.1.live; owned = own.1.owned; apart = subst (λ l. IsApartFrom l y.1) (sym (append-nil xs)) apart };
      used = omega (arith, a.used, ap (held_blocks pool) chains, held_both pool xs (one ∷ []), ap (held_blocks pool) (append-nil xs));
    })

-- ---- a message that was fetched goes away

-- the chain of an end's fetched message went away: those of its owners that lie apart from it have their bytes still
record HasGone (old new : PoolState) (k : End) (chain : Chain) : Type 0 where
  apart : (c : Chain) → IsLive old c → IsApart c chain → (c.owner ≡ k.outbox.owner) ⊎ (c.owner ≡ k.inbox.joiner.owner) → Stays old new c
  counts : owner_at new.owners k.outbox.owner ≡ owner_at old.owners k.outbox.owner
  quota : quota_of new k.inbox.joiner.owner ≡ quota_of old k.inbox.joiner.owner
  used : used_of new k.inbox.joiner.owner ≡ used_of old k.inbox.joiner.owner - blocks_for (length (chain_bytes old chain))
  lengths : length new.owners ≡ length old.owners

goes_own : {old new : PoolState} {k : End} {m : Machine} {chain : Chain} → EndStandsFor k old m → Accounts k old (Some chain) → HasGone old new k chain
    → EndStandsFor k new m × Accounts k new None
goes_own {old} {new} {k} {m} {chain} h a g =
    let i = k.inbox.joiner.owner in
    let f = a.fetched in
    let opens = all_joined Open (IsOwnOpen old i) (λ x. IsApart chain x.chain) (chains_in k.inbox) h.halfway.receives.lies.holds.own f.apart in
    let u : Untouched old new k = record {
      queued = all_mapped Queued (λ q. IsChainOf old k.outbox.owner q.chain) (λ q. Stays old new q.chain) k.outbox.queue.items
          (λ q own. g.apart q.chain own.live (apart_by_owner old q.chain chain own.live f.live
          (λ e. h.halfway.differ (sym own.owned ∙ (grind arith)))) (inl own.owned)) h.halfway.sends.lies.kept.own;
      opens = all_mapped Open (λ x. IsOwnOpen old i x × IsApart chain x.chain) (λ x. Stays old new x.chain) (chains_in k.inbox)
          (λ x own. g.apart x.chain own.0.live (apart_turned chain x.chain own.1) (inr own.0.owned)) opens;
      sender = g.counts;
      quota = g.quota;
      used = omega (arith, g.used, a.used);
      lengths = g.lengths;
    } in
    let all = opens_of old new k m h u in (
      untouched_stands old new k m h u,
      record { fetched = tt; used = omega (arith, g.used, a.used, all.blocks) },
    )

pub given_own : (old new : PoolState) (k : End) (m : Machine) (chain : Chain) → EndStandsFor k old m → Accounts k old (Some chain)
    → Gives old new chain → KeepsOthers old new chain chain
    → EndStandsFor k new m × Accounts k new None
given_own old new k m chain h a gives keeps =
    let i = k.inbox.joiner.owner in
    let n = blocks_for (length (chain_bytes old chain)) in
    let has = h.halfway.receives.lies.has_quota in
    let owners : new.owners ≡ with_used old.owners i (used_of old i - n) = grind arith in
    goes_own h a (record {
      apart = λ c live apart e. (let s = keeps c live apart in (s.1, s.2));
      counts = ap (λ os. owner_at os k.outbox.owner) owners ∙ other-with_used old.owners i (used_of old i - n) k.outbox.owner h.halfway.differ;
      quota = ap (λ os. (owner_at os i).quota) owners ∙ quota-with_used old.owners i (used_of old i - n) has;
      used = ap (λ os. (owner_at os i).used) owners ∙ used-with_used old.owners i (used_of old i - n) has;
      lengths = ap length owners ∙ length-with_used old.owners i (used_of old i - n);
    })

pub given_beside : {old new : PoolState} {k other : End} {n : Machine} {chain : Chain} {theirs : Option Chain} → Accounts k old (Some chain)
    → Gives old new chain → KeepsOthers old new chain chain
    → HaveOwners k other → EndStandsFor other old n → Accounts other old theirs → EndStandsFor other new n × Accounts other new theirs
given_beside {old} {new} {k} {other} {n} {chain} {theirs} a gives keeps differ g b =
    let i = k.inbox.joiner.owner in
    let f = a.fetched in
    let left = used_of old i - blocks_for (length (chain_bytes old chain)) in
    let owners : new.owners ≡ with_used old.owners i left = grind arith in
    let stay : (c : Chain) → IsLive old c → c.owner ≢ i
    → Stays old new c = λ c live away. (let s = keeps c live (apart_by_owner old c chain live f.live (λ e. away (e ∙ f.owned))) in (s.1, s.2)) in
    both_stay old new other n theirs g b (record {
      first = λ c live is. stay c live (λ e. differ.from (sym e ∙ is));
      second = λ c live is. stay c live (λ e. differ.receivers (sym e ∙ is));
      counts = ap (λ os. owner_at os other.outbox.owner) owners ∙ other-with_used old.owners i left other.outbox.owner (λ e. differ.from (sym e));
      uses = ap (λ os. owner_at os other.inbox.joiner.owner) owners ∙ other-with_used old.owners i left other.inbox.joiner.owner
          (λ e. differ.receivers (sym e));
      lengths = ap length owners ∙ length-with_used old.owners i left;
    })

-- ---- a message that was fetched is passed to an end

pub may_send_back : (pool : PoolState) (k : End) (m : Machine) (chain : Chain) → EndStandsFor k pool m → Accounts k pool (Some chain) → MayPass pool k chain
may_send_back pool k m chain h a = grind arith

pub may_pass_on : (pool : PoolState) (from to : End) (m n : Machine) (chain : Chain) → EndStandsFor from pool m → Accounts from pool (Some chain)
    → HaveOwners from to → EndStandsFor to pool n → MayPass pool to chain
may_pass_on pool from to m n chain h a differ g =
    let f = a.fetched in
    record {
      live = f.live;
      other = λ e. differ.from (sym f.owned ∙ e);
      apart = (far_from pool to n chain g f.live (λ e. differ.from (sym f.owned ∙ e)) (λ e. differ.receivers (sym f.owned ∙ e))).1;
      counted = λ e. absurd (differ.receivers (sym f.owned ∙ e));
    }

-- an end has put a chain of another owner behind what it sends
pub record HasAdopted (old new : PoolState) (k : End) (after : List Queued) (owner : ℕ) (chain : Chain) : Type 0 where
  pub live : IsLive old chain
  pub owned : chain.owner ≡ owner
  pub own : OwnsAll Queued chain_in old k.outbox.owner k.outbox.queue.items
  pub leaves : LeavesOthersBut old new k.outbox.owner chain k.outbox.queue.items after

pub adopted : {old new : PoolState} {from k : End} {after : List Queued} {m : Machine} {chain : Chain} → Accounts from old (Some chain)
    → EndStandsFor k old m → LeavesOthersBut old new k.outbox.owner chain k.outbox.queue.items after
    → HasAdopted old new k after from.inbox.joiner.owner chain
adopted a h leaves = record { live = a.fetched.live; owned = a.fetched.owned; own = h.halfway.sends.lies.kept.own; leaves = leaves }

module _ {old new : PoolState} {k : End} {after : List Queued} {owner : ℕ} {chain : Chain} (t : HasAdopted old new k after owner chain) where
  -- a chain that lies apart from it, of another owner than that of what is sent, has its bytes still
  stays_beside : (c : Chain) (p : ℕ) → IsLive old c → c.owner ≡ p → k.outbox.owner ≢ p → IsApart c chain → Stays old new c
  stays_beside c p live is differ apart =
      let queue = lies_apart_by_owner Queued chain_in old k.outbox.owner k.outbox.queue.items c t.own live (λ e. differ (sym e ∙ is)) in
      let s = t.leaves.others c live queue apart in
      (s.0, s.1)

  -- so has a chain of a third owner
  stays_third : (c : Chain) (p : ℕ) → IsLive old c → c.owner ≡ p → k.outbox.owner ≢ p → owner ≢ p → Stays old new c
  stays_third c p live is differ third =
      stays_beside c p live is differ (apart_by_owner old c chain live t.live (λ e. third (sym t.owned ∙ (sym e ∙ is))))

  -- the owner that had it uses its blocks no more
  giver_used : used_of new owner ≡ used_of old owner - blocks_for (length (chain_bytes old chain))
  giver_used = ap (used_of new) (sym t.owned) ∙ (t.leaves.giver_used ∙ ap (λ p. used_of old p - blocks_for (length (chain_bytes old chain))) t.owned)

pub sent_back_own : (old new : PoolState) (k after : End) (m : Machine) (chain : Chain) → EndStandsFor k old m → Accounts k old (Some chain)
    → after.inbox ≡ k.inbox
    → LeavesOthersBut old new k.outbox.owner chain k.outbox.queue.items after.outbox.queue.items → Accounts after new None
sent_back_own old new k after m chain h a inbox l =
    let i = k.inbox.joiner.owner in
    let t = adopted a h l in
    let opens = all_joined Open (IsOwnOpen old i) (λ x. IsApart chain x.chain) (chains_in k.inbox) h.halfway.receives.lies.holds.own a.fetched.apart in
    let all = opens_passed old new i (λ x. IsApart chain x.chain) (chains_in k.inbox) opens
    (λ x own. stays_beside t x.chain i own.0.live own.0.owned h.halfway.differ (apart_turned chain x.chain own.1)) in
    let P : Inbox → Type 0 = λ b. used_of new b.joiner.owner ≡ held_blocks new (chains_in b) + 0 in
    record { fetched = tt; used = subst P (sym inbox) (omega (arith, giver_used t, a.used, all.blocks)) }

-- another end, to whose owners the chain didn't go
pub passed_beside : {old new : PoolState} {from k other : End} {after : List Queued} {o : Machine} {chain : Chain} {theirs : Option Chain}
    → HasAdopted old new k after from.inbox.joiner.owner chain → HaveOwners from other → HaveOwners k other → EndStandsFor other old o
    → Accounts other old theirs → EndStandsFor other new o × Accounts other new theirs
passed_beside {old} {new} {other = other} {o = o} {theirs = theirs} t differ apart g b =
    let l = t.leaves in
    both_stay old new other o theirs g b (record {
      first = λ x live is. stays_third t x other.outbox.owner live is apart.senders differ.from;
      second = λ x live is. stays_third t x other.inbox.joiner.owner live is apart.to differ.receivers;
      counts = l.counts other.outbox.owner (λ e. apart.senders (sym e)) (λ e. differ.from (sym t.owned ∙ sym e));
      uses = l.counts other.inbox.joiner.owner (λ e. apart.to (sym e)) (λ e. differ.receivers (sym t.owned ∙ sym e));
      lengths = l.lengths;
    })

pub passed_giver : {old new : PoolState} {from to : End} {after : List Queued} {m n : Machine} {chain : Chain} → EndStandsFor from old m
    → Accounts from old (Some chain) → HaveOwners from to → EndStandsFor to old n
    → LeavesOthersBut old new to.outbox.owner chain to.outbox.queue.items after → EndStandsFor from new m × Accounts from new None
passed_giver {old} {new} {from} {chain = chain} h a differ g l =
    let t = adopted a g l in
    goes_own h a (record {
      apart = λ c live apart which. elim which [
        | inl is ↦ stays_beside t c from.outbox.owner live is (λ e. differ.senders (sym e)) apart
        | inr is ↦ stays_beside t c from.inbox.joiner.owner live is (λ e. differ.from (sym e)) apart
      ];
      counts = l.counts from.outbox.owner differ.senders (λ e. h.halfway.differ (e ∙ t.owned));
      quota = ap (quota_of new) (sym t.owned) ∙ (l.giver_quota ∙ ap (quota_of old) t.owned);
      used = giver_used t;
      lengths = l.lengths;
    })

pub passed_taker : {old new : PoolState} {from to : End} {n : Machine} {chain : Chain} {theirs : Option Chain} (after : End)
    → Accounts from old (Some chain) → HaveOwners from to → EndStandsFor to old n
    → Accounts to old theirs → after.inbox ≡ to.inbox → LeavesOthersBut old new to.outbox.owner chain to.outbox.queue.items after.outbox.queue.items
    → Accounts after new theirs
passed_taker {old} {new} {to = to} {theirs = theirs} after a differ g b inbox l =
    let i = to.inbox.joiner.owner in
    let t = adopted a g l in
    let stay : (c : Chain) → IsLive old c → c.owner ≡ i → Stays old new c = λ c live is. stays_third t c i live is g.halfway.differ differ.receivers in
    let own = g.halfway.receives.lies.holds.own in
    let all = opens_stay old new i (chains_in to.inbox) own (all_mapped Open (IsOwnOpen old i) (λ x. Stays old new x.chain) (chains_in to.inbox)
    (λ x o. stay x.chain o.live o.owned) own) in
    let moved = fetched_stays old new to theirs stay b.fetched in
    let used = ap (λ (x : Owner). x.used) (l.counts i (λ e. g.halfway.differ (sym e)) (λ e. differ.receivers (sym t.owned ∙ sym e))) in
    let P : Inbox → Type 0 = λ box. used_of new box.joiner.owner ≡ held_blocks new (chains_in box) + blocks_of new theirs in
    record { fetched = grind arith; used = subst P (sym inbox) (omega (arith, used, b.used, all.blocks, moved.1)) }

-- ---- a new pool

at_quota : (quotas : List ℕ) (o n : ℕ) → slice_get quotas o ≡ Some n
    → (owner_at (new_owners quotas) o ≡ record { quota = n; used = 0; aside = 0 }) × (o < length (new_owners quotas))
at_quota [] o n is = cc
at_quota (q ∷ quotas) zero n is = (let e : q ≡ n = cc in ap (λ x. record { quota = x; used = 0; aside = 0 }) e, omega arith)
at_quota (q ∷ quotas) (suc o) n is = let rest = at_quota quotas o n is in (rest.0, omega (arith, rest.1))

none_used : (quotas : List ℕ) (o : ℕ) → (owner_at (new_owners quotas) o).used ≡ 0
none_used [] o = refl
none_used (q ∷ quotas) zero = refl
none_used (q ∷ quotas) (suc o) = none_used quotas o

pub new_unused : (pool : PoolState) (quotas : List ℕ) (owner : ℕ) → IsNew pool quotas → used_of pool owner ≡ 0
new_unused pool quotas owner new = ap (λ os. (owner_at os owner).used) new.owners ∙ none_used quotas owner

pub new_free : (pool : PoolState) (quotas : List ℕ) (sender receiver : ℕ) → IsNew pool quotas → slice_get quotas sender ≡ Some 128
    → slice_get quotas receiver ≡ Some 512 → IsFree pool sender receiver
new_free pool quotas sender receiver new out into =
    let a = at_quota quotas sender 128 out in
    let b = at_quota quotas receiver 512 into in
    let len = ap length new.owners in
    grind arith
