-- What calls on a pool leave of the messages that come.
use Rattle.std.specs.Prelude.{Option, nat_lt}
use Rattle.std.specs.List.{AllByRecursion}
use Rattle.std.proofs.lemmas.List.{append-nil}
use Rattle.std.proofs.lemmas.List.Sums.{sum_by-append}
use Rattle.link_messages.proofs.Words.{Bool, Chain, Gives, HoldsWhole, Inbox, IsApart, KeepsOthers, List, Message, None, Packet, PoolState, Some, [], ap, arith}
use Rattle.link_messages.proofs.Words.{blocks_for, chain_bytes, drop, false, if◌then◌else◌, join_step, length, min, owner_at, quota_of, refl, subst, sym, take}
use Rattle.link_messages.proofs.Words.{true, used_of, with_used, ℕ, ◌++◌, ◌+◌, ◌-◌, ◌<◌, ◌∙◌, ◌∷◌, ◌≡◌, ◌≤◌}
use Rattle.block_pool.proofs.HoldingLemmas.{used-with_used, quota-with_used, length-with_used, with_used-with_used, with_used-same}
use Rattle.hcp_packet.specs.Packets.{is_good, good_of}
use Rattle.hcp_chain.specs.declared.joiner.Open.{Open}
use Rattle.hcp_chain.specs.declared.joiner.Joiner.{Joiner}
use Rattle.hcp_chain.specs.declared.joiner.ChainFault.{ChainFault}
use Rattle.hcp_chain.specs.declared.joiner.ChainFault.TheVariants.{TooManyChains, MessageTooLong}
use Rattle.hcp_chain.specs.declared.joiner.Joined.TheVariants.{Fault}
use Rattle.hcp_chain.specs.Joining.{JoinOutcome, Message as Ended, grown, is_fault, is_fifth, message_in}
use Rattle.hcp_chain.specs.Holding.{AreApart, HoldsChains, IsOwnOpen, held_blocks, messages_in, open_messages, KeepsOtherChains, IsApartFrom, AnswersOutcome}
use Rattle.hcp_chain.proofs.HoldingLemmas.{all_front, all_map, apart_front}
use Rattle.hcp_chain.proofs.ClearLemmas.{kept}
use Rattle.hcp_chain.proofs.ReadyLemmas.{ready_given}
use Rattle.link_messages.specs.declared.inbox.Got.{Got}
use Rattle.link_messages.specs.Incoming.{got_chains, chains_in, messages_under_way, came_whole, InboxLiesIn, IsInboxReady, InboxLeavesOthers, Joins}

-- ---- the chains under way, and the one that was got

pub front_holds : (pool : PoolState) (owner : ℕ) (xs : List Open) (got : Option Got) → HoldsChains pool owner (xs ++ got_chains got) → HoldsChains pool owner xs
front_holds pool owner xs None h = subst (HoldsChains pool owner) (append-nil xs) h
front_holds pool owner xs (Some g) h =
    let y : Open = record { pipe = g.pipe; chain = g.chain } in
    record { own = (all_front (IsOwnOpen pool owner) xs y h.own).0; apart = (apart_front xs y h.apart).0 }

pub front_apart : (xs : List Open) (got : Option Got) (other : Chain) → IsApartFrom (xs ++ got_chains got) other
    → IsApartFrom xs other × IsApartFrom (got_chains got) other
front_apart xs None other a = (subst (λ l. IsApartFrom l other) (append-nil xs) a, tt)
front_apart xs (Some g) other a =
    let both = all_front (λ x. IsApart other x.chain) xs (record { pipe = g.pipe; chain = g.chain }) a in
    (both.0, (both.1, tt))

pub held_both : (pool : PoolState) (xs ys : List Open) → held_blocks pool (xs ++ ys) ≡ held_blocks pool xs + held_blocks pool ys
held_both pool xs ys = sum_by-append (λ (x : Open). blocks_for (length (chain_bytes pool x.chain))) xs ys

-- where none came whole, all chains are of messages under way
only_under_way : (box : Inbox) → box.got ≡ None → chains_in box ≡ box.joiner.open.items
only_under_way box none = ap (λ g. box.joiner.open.items ++ got_chains g) none ∙ append-nil box.joiner.open.items

-- the message that was got, where the chains under way changed
pub got_kept : (old new : PoolState) (owner : ℕ) (before after : List Open) (got : Option Got) → KeepsOtherChains old new before after
    → HoldsChains old owner (before ++ got_chains got)
    → HoldsChains new owner (got_chains got) × (messages_in new (got_chains got) ≡ messages_in old (got_chains got))
    × (held_blocks new (got_chains got) ≡ held_blocks old (got_chains got))
    × AllByRecursion (λ x. IsApartFrom after x.chain) (got_chains got)
got_kept old new owner before after None keeps h = (record { own = tt; apart = tt }, refl, refl, tt)
got_kept old new owner before after (Some g) keeps h =
    let y : Open = record { pipe = g.pipe; chain = g.chain } in
    let own = (all_front (IsOwnOpen old owner) before y h.own).1 in
    let apart = all_map (λ x. AreApart x y) (λ x. IsApart g.chain x.chain) before (λ x a first p q. a.chains first q p) (apart_front before y h.apart).1 in
    let k = keeps g.chain own.live apart in (
      record { own = (record { live = k.0; owned = own.owned; short = subst (λ bs. length bs ≤ 4096) (sym k.1) own.short }, tt); apart = (tt, tt) },
      ap (λ bs. (g.pipe, bs) ∷ []) k.1,
      ap (λ bs. 0 + blocks_for (length bs)) k.1,
      (k.2, tt),
    )

-- what is partly received was forgotten
pub record Cleared (old new : PoolState) (before after : Inbox) : Type 0 where
  pub lies : InboxLiesIn new after
  pub message : came_whole new after ≡ came_whole old before
  pub counted : used_of new before.joiner.owner + held_blocks old (chains_in before) ≡ used_of old before.joiner.owner + held_blocks new (chains_in after)
  pub elsewhere : InboxLeavesOthers old new before.joiner.owner (chains_in before) (chains_in after)

pub cleared : (old new : PoolState) (before after : Inbox) → InboxLiesIn old before → after.joiner.owner ≡ before.joiner.owner
    → after.joiner.open.items ≡ [] → after.got ≡ before.got
    → new.owners ≡ with_used old.owners before.joiner.owner (used_of old before.joiner.owner - held_blocks old before.joiner.open.items)
    → KeepsOtherChains old new before.joiner.open.items [] → Cleared old new before after
cleared old new before after lies owner none got owners keeps =
    let o = before.joiner.owner in
    let n = used_of old o - held_blocks old before.joiner.open.items in
    let k = got_kept old new o before.joiner.open.items [] before.got keeps lies.holds in
    let chains : chains_in after ≡ got_chains before.got = ap (λ l. l ++ got_chains after.got) none ∙ ap got_chains got in
    let used : used_of new o ≡ n = ap (λ os. (owner_at os o).used) owners ∙ used-with_used old.owners o n lies.has_quota in
    let sum = held_both old before.joiner.open.items (got_chains before.got) in
    let enough : held_blocks new (got_chains before.got) ≤ used_of new o = omega (arith, used, sum, k.2, lies.used) in
    record {
      lies = record {
        holds = subst (λ q. HoldsChains new q (chains_in after)) (sym owner) (subst (HoldsChains new o) (sym chains) k.0);
        has_quota = subst (λ q. q < length new.owners) (sym owner) (omega (arith, ap length owners ∙ length-with_used old.owners o n, lies.has_quota));
        quota = ap (λ q. quota_of new q) owner ∙ (ap (λ os. (owner_at os o).quota) owners ∙ (quota-with_used old.owners o n lies.has_quota ∙ lies.quota));
        used = subst (λ q. held_blocks new (chains_in after) ≤ used_of new q) (sym owner) (subst (λ l. held_blocks new l ≤ used_of new o) (sym chains) enough);
      };
      message = ap (λ g. messages_in new (got_chains g)) got ∙ k.1;
      counted = (let left = ap (held_blocks new) chains in omega (arith, used, sum, k.2, left, lies.used));
      elsewhere = record {
        owners = owners ∙ ap (with_used old.owners o) (sym used);
        others = λ other live away.
            let both = front_apart before.joiner.open.items before.got other away in
            let s = keeps other live both.0 in
            (s.0, s.1, subst (λ l. IsApartFrom l other) (sym chains) both.1);
      };
    }

-- ---- a message that came whole

-- what keeping a message leaves
pub record Keeps (old new : PoolState) (before after : Inbox) (whole : Open) : Type 0 where
  pub lies : InboxLiesIn new after
  pub under : messages_under_way new after ≡ messages_under_way old before
  pub got : came_whole new after ≡ good_of ((whole.pipe, chain_bytes old whole.chain) ∷ [])
  pub used : used_of new before.joiner.owner ≡ held_blocks new (chains_in after)
  pub elsewhere : InboxLeavesOthers old new before.joiner.owner (before.joiner.open.items ++ whole ∷ []) (chains_in after)

pub dropped_bad : (old new : PoolState) (before : Inbox) (whole : Open) → HoldsWhole old before.joiner whole → before.got ≡ None
    → is_good (chain_bytes old whole.chain) ≡ false
    → Gives old new whole.chain → KeepsOthers old new whole.chain whole.chain → Keeps old new before before whole
dropped_bad old new before whole h none bad gives keeps =
    let o = before.joiner.owner in
    let xs = before.joiner.open.items in
    let n = blocks_for (length (chain_bytes old whole.chain)) in
    let r = ready_given old new before.joiner whole h gives keeps in
    let own = all_front (IsOwnOpen old o) xs whole h.holds.own in
    let k = kept old new o whole.chain whole.chain xs keeps own.0
    (all_map (λ y. AreApart y whole) (λ y. IsApart y.chain whole.chain) xs (λ y a. a.chains) (apart_front xs whole h.holds.apart).1) in
    let chains = only_under_way before none in
    let owners : new.owners ≡ with_used old.owners o (used_of old o - n) = gives.owners ∙ ap (λ q. with_used old.owners q (used_of old q - n)) own.1.owned in
    let used : used_of new o ≡ used_of old o - n = ap (λ os. (owner_at os o).used) owners ∙ used-with_used old.owners o (used_of old o - n) h.has_quota in
    record {
      lies = record {
        holds = subst (HoldsChains new o) (sym chains) r.holds;
        has_quota = r.has_quota;
        quota = r.quota;
        used = subst (λ l. held_blocks new l ≤ used_of new o) (sym chains) (omega (arith, r.used));
      };
      under = k.messages;
      got = ap (λ g. messages_in new (got_chains g)) none ∙ sym (let h0 = chain_bytes old whole.chain in grind arith);
      used = r.used ∙ sym (ap (held_blocks new) chains);
      elsewhere = record {
        owners = owners ∙ ap (with_used old.owners o) (sym used);
        others = λ other live away.
            let both = all_front (λ x. IsApart other x.chain) xs whole away in
            let s = keeps other live both.1 in
            (s.1, s.2, subst (λ l. IsApartFrom l other) (sym chains) both.0);
      };
    }

pub kept_good : (pool : PoolState) (box : Inbox) (whole : Open) → HoldsWhole pool box.joiner whole → is_good (chain_bytes pool whole.chain) ≡ true
    → Keeps pool pool box (record box { got = Some (record { pipe = whole.pipe; chain = whole.chain }) }) whole
kept_good pool box whole h good = record {
  lies = record { holds = h.holds; has_quota = h.has_quota; quota = h.quota; used = omega (arith, h.used) };
  under = refl;
  got = sym (ap (λ b. if b then (whole.pipe, chain_bytes pool whole.chain) ∷ [] else []) good);
  used = h.used;
  elsewhere = record { owners = sym (with_used-same pool.owners box.joiner.owner); others = λ other live away. (live, refl, away) };
}

-- the first byte of a message tells whether it is a good one
pub first_tells : (bytes : List ℕ) (count : ℕ) → count ≡ min (length bytes - 0) 1
    → is_good (take count (take count (drop 0 bytes) ++ drop count (0 ∷ []))) ≡ is_good bytes
first_tells [] count n = let none : count ≡ 0 = omega arith in rw none refl
first_tells (b ∷ bytes) count n = let one : count ≡ 1 = omega arith in rw one refl

-- ---- taking a packet

-- what the joiner did with a packet
pub record TakesIn (old new : PoolState) (before : Inbox) (joiner : Joiner) (p : Packet) (whole : List Open) : Type 0 where
  pub owner : joiner.owner ≡ before.joiner.owner
  pub under : open_messages new joiner ≡ (join_step (messages_under_way old before) p).1
  pub holds : HoldsChains new before.joiner.owner (joiner.open.items ++ whole)
  pub owners : new.owners ≡ with_used old.owners before.joiner.owner (held_blocks new (joiner.open.items ++ whole))
  pub others : KeepsOtherChains old new before.joiner.open.items (joiner.open.items ++ whole)

-- what stands of its owner
counts : (old new : PoolState) (before : Inbox) (joiner : Joiner) (p : Packet) (whole : List Open) → InboxLiesIn old before
    → TakesIn old new before joiner p whole
    → (before.joiner.owner < length new.owners) × (quota_of new before.joiner.owner ≡ 512)
    × (used_of new before.joiner.owner ≡ held_blocks new (joiner.open.items ++ whole))
counts old new before joiner p whole lies t =
    let o = before.joiner.owner in
    let n = held_blocks new (joiner.open.items ++ whole) in (
      omega (arith, ap length t.owners ∙ length-with_used old.owners o n, lies.has_quota),
      ap (λ os. (owner_at os o).quota) t.owners ∙ (quota-with_used old.owners o n lies.has_quota ∙ lies.quota),
      ap (λ os. (owner_at os o).used) t.owners ∙ used-with_used old.owners o n lies.has_quota,
    )

-- the chain of the message that came whole is still counted
holds_whole : {old mid : PoolState} {before : Inbox} {joiner : Joiner} {p : Packet} {whole : Open} → InboxLiesIn old before
    → TakesIn old mid before joiner p (whole ∷ []) → HoldsWhole mid joiner whole
holds_whole {old} {mid} {before} {joiner} {p} {whole} lies t =
    let c = counts old mid before joiner p (whole ∷ []) lies t in
    record { holds = rw t.owner t.holds; has_quota = rw t.owner c.0; quota = rw t.owner c.1; used = rw t.owner c.2 }

pub joins_whole : {old mid new : PoolState} {before after : Inbox} {joiner : Joiner} {p : Packet} {whole : Open} → InboxLiesIn old before
    → IsInboxReady old before → TakesIn old mid before joiner p (whole ∷ [])
    → (join_step (messages_under_way old before) p).0 ≡ Ended whole.pipe (chain_bytes mid whole.chain) → after.joiner ≡ joiner
    → (HoldsWhole mid joiner whole → Keeps mid new (record before { joiner = joiner }) after whole) → Joins old new before after (p ∷ [])
joins_whole {old} {mid} {new} {before} {after} {joiner} {p} {whole} lies ready t outcome same keeps =
    let o = before.joiner.owner in
    let k = keeps (holds_whole lies t) in
    let owner : after.joiner.owner ≡ joiner.owner = ap (λ (j : Joiner). j.owner) same in
    record {
      lies = k.lies;
      joined = k.under ∙ t.under;
      got = k.got ∙ sym (ap good_of (append-nil (message_in (join_step (messages_under_way old before) p).0) ∙ ap message_in outcome));
      owner = owner ∙ t.owner;
      used = ap (λ q. used_of new q) owner ∙ k.used;
      elsewhere = record {
        owners = k.elsewhere.owners ∙ (ap (λ q. with_used mid.owners q (used_of new q)) t.owner
            ∙ (ap (λ os. with_used os o (used_of new o)) t.owners
            ∙ with_used-with_used old.owners o (held_blocks mid (joiner.open.items ++ whole ∷ [])) (used_of new o) lies.has_quota));
        others = λ other live away.
            let s = t.others other live (subst (λ l. IsApartFrom l other) (only_under_way before ready.fetched) away) in
            let u = k.elsewhere.others other s.0 s.2 in
            (u.0, u.1 ∙ s.1, u.2);
      };
    }

-- after a fault nothing is under way
fault_empties : (ms : List Message) (p : Packet) → is_fault (join_step ms p).0 ≡ true → (join_step ms p).1 ≡ []
fault_empties ms p f = go (is_fifth ms p.pipe) (nat_lt 4096 (length (grown ms p))) p.last refl refl refl f
  where
    go : (a b c : Bool) → is_fifth ms p.pipe ≡ a → nat_lt 4096 (length (grown ms p)) ≡ b → p.last ≡ c → is_fault (join_step ms p).0 ≡ true
        → (join_step ms p).1 ≡ []
    go true b c q r s f = rw q
    go false true c q r s f = rw (q, r)
    go false false true q r s f = let h : false ≡ true = rw (q, r, s) at f in cc
    go false false false q r s f = let h : false ≡ true = rw (q, r, s) at f in cc

none_open : (pool : PoolState) (xs : List Open) → messages_in pool xs ≡ [] → xs ≡ []
none_open pool [] e = refl
none_open pool (x ∷ xs) e = cc

pub record Faults (old new : PoolState) (before after : Inbox) : Type 0 where
  pub lies : InboxLiesIn new after
  pub owner : after.joiner.owner ≡ before.joiner.owner
  pub none : chains_in after ≡ []
  pub used : used_of new before.joiner.owner ≡ 0
  pub elsewhere : InboxLeavesOthers old new before.joiner.owner (chains_in before) []

pub joins_fault : (old new : PoolState) (before : Inbox) (joiner : Joiner) (p : Packet) → InboxLiesIn old before → IsInboxReady old before
    → TakesIn old new before joiner p []
    → is_fault (join_step (messages_under_way old before) p).0 ≡ true → Faults old new before (record before { joiner = joiner })
joins_fault old new before joiner p lies ready t fault =
    let o = before.joiner.owner in
    let c = counts old new before joiner p [] lies t in
    let empty : joiner.open.items ≡ [] = none_open new joiner.open.items (t.under ∙ fault_empties (messages_under_way old before) p fault) in
    let all : joiner.open.items ++ got_chains before.got ≡ joiner.open.items ++ [] = ap (λ g. joiner.open.items ++ got_chains g) ready.fetched in
    let nothing : joiner.open.items ++ [] ≡ [] = ap (λ l. l ++ []) empty in
    record {
      lies = record {
        holds = subst (λ q. HoldsChains new q (joiner.open.items ++ got_chains before.got)) (sym t.owner) (subst (HoldsChains new o) (sym all) t.holds);
        has_quota = subst (λ q. q < length new.owners) (sym t.owner) c.0;
        quota = ap (λ q. quota_of new q) t.owner ∙ c.1;
        used = subst (λ q. held_blocks new (joiner.open.items ++ got_chains before.got) ≤ used_of new q) (sym t.owner)
            (subst (λ l. held_blocks new l ≤ used_of new o) (sym all) (omega (arith, c.2)));
      };
      owner = t.owner;
      none = all ∙ nothing;
      used = c.2 ∙ ap (held_blocks new) nothing;
      elsewhere = record {
        owners = t.owners ∙ ap (with_used old.owners o) (sym c.2);
        others = λ other live away.
            let s = t.others other live (subst (λ l. IsApartFrom l other) (only_under_way before ready.fetched) away) in
            (s.0, s.1, subst (λ l. IsApartFrom l other) nothing s.2);
      };
    }

pub fault_said : (pool : PoolState) (fault : ChainFault) (o : JoinOutcome) → AnswersOutcome pool (Fault fault) o → is_fault o ≡ true
fault_said pool (TooManyChains pipe) o e = ap is_fault e
fault_said pool (MessageTooLong len) o e = ap is_fault e
