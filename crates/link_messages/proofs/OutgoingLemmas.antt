-- What calls on a pool leave of the messages that are kept in it.
use Rattle.std.proofs.Common.{get_or-set_same, zero, ◌≢◌}
use Rattle.std.specs.Bool.{OnTrue, OnFalse}
use Rattle.std.proofs.lemmas.List.{map_push, drop-drop, drop_all, length-drop}
use Rattle.std.proofs.lemmas.List.Sums.{sum_by-cons, sum_by_push}
use Rattle.link_messages.proofs.Words.{Accepts, Bool, Buffer, Chain, Gives, IsApart, KeepsOthers, LeavesOthersBut, List, Message, None, Outbox, OutboxLiesIn}
use Rattle.link_messages.proofs.Words.{PoolState, Queued, Some, [], ap, arith, blocks_for, chain_bytes, drop, false, length, length-fragments, map, owner_at}
use Rattle.link_messages.proofs.Words.{queued_message, queued_messages, quota_of, refl, rest_among, slice_get, slice_get_within, subst, suc, sym, true, used_of}
use Rattle.link_messages.proofs.Words.{whole_among, with_used, ℕ, ◌*◌, ◌++◌, ◌+◌, ◌-◌, ◌<◌, ◌∙◌, ◌∷◌, ◌≡◌, ◌≤◌}
use Rattle.circular_buffer.specs.Buffer.{buffer}
use Rattle.block_pool.specs.declared.owners.Owner.{Owner}
use Rattle.block_pool.specs.Pool.{Appends, HasQuota, IsEmptyChain, IsLive, Passes, aside_of, chain_spare, more_blocks, spare_of}
use Rattle.block_pool.specs.Names.{named_bytes}
use Rattle.block_pool.specs.Holdings.{IsOwnChain, OwnsAll, LiesApart, LieApart, all_bytes, all_blocks}
use Rattle.block_pool.proofs.HoldingLemmas.{kept_all, all_pushed, lie_apart_pushed, used-with_used, quota-with_used, length-with_used, with_used-with_used}
use Rattle.block_pool.proofs.HoldingLemmas.{with_used-same, other-with_used, apart_empty, lies_apart_by_owner, OwnsAllApart}
use Rattle.hcp_packet.specs.Packets.{packets_of, packet_count, packet_bytes, fragments_of, AreSendable, IsSendable}
use Rattle.link_messages.specs.Outgoing.{AreKept, GivesBack, GivesFront, OutboxLeavesOthers, chain_in, messages_of_all, waiting_in}
use Rattle.link_messages.proofs.Among.{whole-first, whole-none, waiting-first, length-first, waiting-push, length-push}

-- the same bytes are the same messages
pub messages_same : (old new : PoolState) (queue : List Queued) → all_bytes Queued chain_in new queue ≡ all_bytes Queued chain_in old queue
    → messages_of_all new queue ≡ messages_of_all old queue
messages_same old new [] e = refl
messages_same old new (q ∷ queue) e =
    let here : chain_bytes new q.chain ≡ chain_bytes old q.chain = cc in
    ap (λ b. (q.pipe, b) ∷ messages_of_all new queue) here ∙ ap (λ ms. queued_message old q ∷ ms) (messages_same old new queue cc)

-- each message has a block
pub each_has_block : (pool : PoolState) (queue : List Queued) → AreSendable (messages_of_all pool queue) → length queue ≤ all_blocks Queued chain_in pool queue
each_has_block pool [] s = omega arith
each_has_block pool (q ∷ queue) s =
    omega (arith, s.0.1, (each_has_block pool queue s.1), sum_by-cons (λ (x : Queued). blocks_for (length (chain_bytes pool x.chain))) q queue)

-- what is counted of an owner whose use changed
pub aside-with_used : (owners : List Owner) (o n : ℕ) → o < length owners → (owner_at (with_used owners o n) o).aside ≡ (owner_at owners o).aside
aside-with_used owners o n low =
    ap (λ (x : Owner). x.aside)
    (get_or-set_same owners o (record { quota = (owner_at owners o).quota; used = n; aside = (owner_at owners o).aside }) (grind arith) low)

-- the first of some items
pub front_is : (items : List Queued) (q : Queued) → Some q ≡ slice_get items 0 → items ≡ q ∷ drop 1 items
front_is [] q e = cc
front_is (x ∷ items) q e = let same : q ≡ x = cc in ap (λ (y : Queued). y ∷ items) (sym same)

pub none_first : (items : List Queued) → None ≡ slice_get items 0 → items ≡ []
none_first [] e = refl
none_first (x ∷ items) e = cc

-- nothing but the queue changed
pub record ChangesQueue (before after : Outbox) : Type 0 where
  pub acked : after.acked ≡ before.acked
  pub cut : after.cut ≡ before.cut
  pub left : after.left ≡ before.left
  pub owner : after.owner ≡ before.owner

-- a front whose blocks were given back
pub gives_front : {old new : PoolState} {before after : Outbox} {q : Queued} → AreKept old before.owner before.queue
    → before.queue.items ≡ q ∷ after.queue.items → after.queue.capacity ≡ before.queue.capacity → ChangesQueue before after
    → Gives old new q.chain → KeepsOthers old new q.chain q.chain → GivesFront old new before after
gives_front {old} {new} {before} {after} {q} kept items capacity same_places gives keeps =
    let o = before.owner in
    let rest = after.queue.items in
    let own : OwnsAll Queued chain_in old o (q ∷ rest) = subst (OwnsAll Queued chain_in old o) items kept.own in
    let apart : LieApart Queued chain_in (q ∷ rest) = subst (LieApart Queued chain_in) items kept.apart in
    let sendable : AreSendable (messages_of_all old (q ∷ rest)) = subst (λ l. AreSendable (messages_of_all old l)) items kept.sendable in
    let others : OwnsAllApart Queued chain_in old o rest q.chain = record { own = own.1; apart = apart.0 } in
    let both = kept_all new q.chain keeps others in
    let same : messages_of_all new rest ≡ messages_of_all old rest = messages_same old new rest both.0.bytes in
    let n = blocks_for (length (chain_bytes old q.chain)) in
    let owners : new.owners ≡ with_used old.owners o (used_of old o - n) = gives.owners ∙ ap (λ p. with_used old.owners p (used_of old p - n)) own.0.owned in
    let used : used_of new o ≡ used_of old o - n = ap (λ os. (owner_at os o).used) owners ∙ used-with_used old.owners o (used_of old o - n) kept.has_quota in
    let aside : aside_of new o ≡ aside_of old o = ap (λ os. (owner_at os o).aside) owners ∙ aside-with_used old.owners o (used_of old o - n) kept.has_quota in
    let quota : quota_of new o ≡ 128 = ap (λ os. (owner_at os o).quota) owners
    ∙ (quota-with_used old.owners o (used_of old o - n) kept.has_quota ∙ kept.quota) in
    let has : HasQuota new o = omega (arith, ap length owners ∙ length-with_used old.owners o (used_of old o - n), kept.has_quota) in
    let sum = sum_by-cons (λ (x : Queued). blocks_for (length (chain_bytes old x.chain))) q rest in
    let all : all_blocks Queued chain_in old before.queue.items ≡ all_blocks Queued chain_in old (q ∷ rest) = ap (all_blocks Queued chain_in old) items in
    let uses : used_of new o ≡ aside_of new o + all_blocks Queued chain_in new rest = omega (arith, used, aside, sum, all, kept.used, both.0.blocks) in
    record {
      first = queued_message old q;
      messages = ap (messages_of_all old) items ∙ ap (λ ms. queued_message old q ∷ ms) (sym same);
      kept = subst (λ p. AreKept new p after.queue) (sym same_places.owner) (grind arith);
      acked = same_places.acked;
      cut = same_places.cut;
      left = same_places.left;
      owner = same_places.owner;
      fewer = (let e = ap length items in omega (arith, e));
      elsewhere = record {
        owners = owners ∙ ap (with_used old.owners o) (sym used);
        others = λ other live away.
            let split : LiesApart Queued chain_in (q ∷ rest) other = subst (λ l. LiesApart Queued chain_in l other) items away in
            let k = keeps other live split.0 in
            (k.1, k.2, split.1);
      };
    }

-- one call after another
pub leaves_on : (old mid new : PoolState) (owner : ℕ) (xs ys zs : List Queued) → owner < length old.owners → OutboxLeavesOthers old mid owner xs ys
    → OutboxLeavesOthers mid new owner ys zs
    → OutboxLeavesOthers old new owner xs zs
leaves_on old mid new owner xs ys zs low a b = record {
  owners = b.owners
      ∙ (ap (λ os. with_used os owner (used_of new owner)) a.owners ∙ with_used-with_used old.owners owner (used_of mid owner) (used_of new owner) low);
  others = λ other live away.
      let k = a.others other live away in
      let l = b.others other k.0 k.2 in
      (l.0, l.1 ∙ k.1, l.2);
}

pub leaves_none : (pool : PoolState) (owner : ℕ) (xs : List Queued) → OutboxLeavesOthers pool pool owner xs xs
leaves_none pool owner xs = record { owners = sym (with_used-same pool.owners owner); others = λ other live away. (live, refl, away) }

-- the first message was acknowledged whole
pub gives_whole : (old new : PoolState) (before after : Outbox) (g : GivesFront old new before after) → OutboxLiesIn old before
    → packet_count (length g.first.1) ≤ before.acked
    → GivesBack old new before (record after { acked = after.acked - packet_count (length g.first.1); cut = after.cut - packet_count (length g.first.1) }) 1
gives_whole old new before after g lies low =
    let c = packet_count (length g.first.1) in
    let ms = queued_messages new after in
    let acked = lies.acked in
    let cut : before.left + before.cut ≡ length (fragments_of (g.first ∷ ms)) = lies.cut ∙ ap (λ l. length (fragments_of l)) g.messages in
    let len = length-first g.first ms in
    let both = whole-first g.first ms before.acked low in
    let places : after.acked - c ≡ before.acked - c = ap (λ n. n - c) g.acked in
    record {
      lies = record { kept = g.kept; acked = omega (arith, g.acked, g.cut, acked); cut = omega (arith, g.cut, g.left, acked, low, cut, len) };
      messages = sym (ap (drop 1) g.messages);
      waiting = ap (λ n. drop n (fragments_of ms)) (ap (λ n. n - c) g.cut)
          ∙ (sym (waiting-first g.first ms before.cut (omega (arith, acked, low))) ∙ sym (ap (λ l. drop before.cut (fragments_of l)) g.messages));
      among = ap (λ n. 1 + whole_among ms n) places ∙ (let e : 1 + whole_among ms (before.acked - c) ≡ suc (whole_among ms (before.acked - c)) = omega arith in
          e ∙ (sym both.0 ∙ sym (ap (λ l. whole_among l before.acked) g.messages)));
      rest = ap (rest_among ms) places ∙ (sym both.1 ∙ sym (ap (λ l. rest_among l before.acked) g.messages));
      owner = g.owner;
      elsewhere = g.elsewhere;
    }

pub gives_on : (old mid new : PoolState) (a b c : Outbox) (n : ℕ) → a.owner < length old.owners → GivesBack old mid a b n → GivesBack mid new b c 1
    → GivesBack old new a c (n + 1)
gives_on old mid new a b c n low x y = record {
  lies = y.lies;
  messages = y.messages ∙ (ap (drop 1) x.messages ∙ drop-drop 1 n (queued_messages old a));
  waiting = y.waiting ∙ x.waiting;
  among = omega (arith, x.among, y.among);
  rest = y.rest ∙ x.rest;
  owner = y.owner ∙ x.owner;
  elsewhere = leaves_on old mid new a.owner a.queue.items b.queue.items c.queue.items low x.elsewhere
      (subst (λ o. OutboxLeavesOthers mid new o b.queue.items c.queue.items) x.owner y.elsewhere);
}

pub gives_none : (pool : PoolState) (a : Outbox) → OutboxLiesIn pool a → GivesBack pool pool a a 0
gives_none pool a lies = record {
  lies = lies;
  messages = refl;
  waiting = refl;
  among = omega arith;
  rest = refl;
  owner = refl;
  elsewhere = leaves_none pool a.owner a.queue.items;
}

-- a message in a chain of its own stands behind the others
pub record IsPushed (old new : PoolState) (o : ℕ) (queue : Buffer Queued) (chain : Chain) (pipe : ℕ) (bytes : List ℕ) : Type 0 where
  pub room : length queue.items < 128
  pub kept : AreKept new o (buffer (queue.items ++ record { pipe = pipe; chain = chain } ∷ []) queue.capacity)
  pub messages : messages_of_all new (queue.items ++ record { pipe = pipe; chain = chain } ∷ []) ≡ messages_of_all old queue.items ++ (pipe, bytes) ∷ []
  pub apart : LiesApart Queued chain_in queue.items chain
  pub bytes_are : chain_bytes new chain ≡ bytes

-- these bytes lie in a chain of an owner now, and its blocks are counted beside those that it used
record LieInChain (old new : PoolState) (o : ℕ) (chain : Chain) (bytes : List ℕ) : Type 0 where
  live : IsLive new chain
  owned : chain.owner ≡ o
  bytes_are : chain_bytes new chain ≡ bytes
  has_quota : HasQuota new o
  quota : quota_of new o ≡ quota_of old o
  used : used_of new o ≡ used_of old o + blocks_for (length bytes)
  aside : aside_of new o ≡ aside_of old o
  within : used_of new o ≤ 128

pushed : {old new : PoolState} {o : ℕ} {queue : Buffer Queued} {after : Chain} {bytes : List ℕ} (before : Chain) (pipe : ℕ) → AreKept old o queue
    → KeepsOthers old new before after → LiesApart Queued chain_in queue.items before → LieInChain old new o after bytes → IsSendable (pipe, bytes)
    → IsPushed old new o queue after pipe bytes
pushed {old} {new} {o} {queue} {after} {bytes} before pipe kept keeps away c sendable =
    let xs = queue.items in
    let y : Queued = record { pipe = pipe; chain = after } in
    let all : OwnsAllApart Queued chain_in old o xs before = record { own = kept.own; apart = away } in
    let both = kept_all new after keeps all in
    let same : messages_of_all new xs ≡ messages_of_all old xs = messages_same old new xs both.0.bytes in
    let sum = sum_by_push (λ (x : Queued). blocks_for (length (chain_bytes new x.chain))) xs y in
    let messages : messages_of_all new (xs ++ y ∷ []) ≡ messages_of_all old xs ++ (pipe, bytes) ∷ [] =
    map_push (queued_message new) xs y
    ∙ (ap (λ ms. ms ++ (pipe, chain_bytes new after) ∷ []) same ∙ ap (λ l. messages_of_all old xs ++ (pipe, l) ∷ []) c.bytes_are) in
    record {
      room = omega (arith, (each_has_block old xs kept.sendable), sendable.1, c.used, c.within, kept.used);
      kept = record {
        own = all_pushed Queued (λ x. IsOwnChain new o x.chain) xs y both.0.own (record { live = c.live; owned = c.owned });
        apart = lie_apart_pushed Queued chain_in xs y kept.apart both.1;
        sendable = subst AreSendable (sym messages) (all_pushed Message IsSendable (messages_of_all old xs) (pipe, bytes) kept.sendable sendable);
        capacity = kept.capacity;
        has_quota = c.has_quota;
        quota = c.quota ∙ kept.quota;
        used = omega (arith, c.used, c.aside, sum, (ap (λ l. blocks_for (length l)) c.bytes_are), both.0.blocks, kept.used);
        within = c.within;
      };
      messages = messages;
      apart = both.1;
      bytes_are = c.bytes_are;
    }

-- two packets at most go into a block
pub few_fragments : (pool : PoolState) (queue : List Queued) → AreSendable (messages_of_all pool queue)
    → length (fragments_of (messages_of_all pool queue)) ≤ 2 * all_blocks Queued chain_in pool queue
few_fragments pool [] s = omega arith
few_fragments pool (q ∷ queue) s =
    let len = length-first (queued_message pool q) (messages_of_all pool queue) in
    omega (arith, s.0.1, (few_fragments pool queue s.1), len, sum_by-cons (λ (x : Queued). blocks_for (length (chain_bytes pool x.chain))) q queue)

-- so many fragments come with a message pushed
pub added : {old new : PoolState} {o : ℕ} {queue : Buffer Queued} {chain : Chain} {pipe : ℕ} {bytes : List ℕ} (left : ℕ)
    → IsPushed old new o queue chain pipe bytes → left + packet_count (length (chain_bytes new chain)) ≡ left + packet_count (length bytes)
added left p = ap (λ (l : List ℕ). left + packet_count (length l)) p.bytes_are

-- as many as there were and those of a message pushed are few
pub left_fits : {old new : PoolState} {box : Outbox} {chain : Chain} {pipe : ℕ} {bytes : List ℕ} → OutboxLiesIn old box
    → IsPushed old new box.owner box.queue chain pipe bytes → box.left + packet_count (length (chain_bytes new chain)) ≤ 256
left_fits {old} {new} {box} {chain} {pipe} {bytes} lies p =
    let few = few_fragments new (box.queue.items ++ record { pipe = pipe; chain = chain } ∷ []) p.kept.sendable in
    let len = ap (λ l. length (fragments_of l)) p.messages ∙ length-push (queued_messages old box) (pipe, bytes) in
    omega (arith, few, len, (ap (λ (l : List ℕ). packet_count (length l)) p.bytes_are), lies.cut, p.kept.used, p.kept.within)

-- a message came to the queue, none of which was cut
pub record AddsMessage (before after : Outbox) (m : Message) : Type 0 where
  pub acked : after.acked ≡ before.acked
  pub cut : after.cut ≡ before.cut
  pub left : after.left ≡ before.left + packet_count (length m.1)
  pub owner : after.owner ≡ before.owner

-- what is kept with it lies in the pool
pub accepted : {old new : PoolState} {before after : Outbox} {m : Message} → OutboxLiesIn old before → AreKept new after.owner after.queue
    → queued_messages new after ≡ queued_messages old before ++ m ∷ [] → AddsMessage before after m → Accepts old new before after m
accepted {old} {new} {before} {after} {m} lies kept messages same_places =
    let len = ap (λ l. length (fragments_of l)) messages ∙ length-push (queued_messages old before) m in
    record {
      lies = record {
        kept = kept;
        acked = omega (arith, same_places.acked, same_places.cut, lies.acked);
        cut = omega (arith, len, same_places.cut, same_places.left, lies.cut);
      };
      messages = messages;
      waiting = ap (λ n. drop n (fragments_of (queued_messages new after))) same_places.cut
          ∙ (ap (λ l. drop before.cut (fragments_of l)) messages ∙ waiting-push (queued_messages old before) m before.cut (omega (arith, lies.cut)));
      acked = same_places.acked;
      owner = same_places.owner;
    }

-- how far all were given back
pub record Clears (first now : PoolState) (before box : Outbox) : Type 0 where
  pub kept : AreKept now box.owner box.queue
  pub owner : box.owner ≡ before.owner
  pub has : before.owner < length first.owners
  pub elsewhere : OutboxLeavesOthers first now before.owner before.queue.items box.queue.items

pub clears_more : (first now new : PoolState) (before box after : Outbox) → Clears first now before box → GivesFront now new box after
    → Clears first new before after
clears_more first now new before box after c g = record {
  kept = g.kept;
  owner = g.owner ∙ c.owner;
  has = c.has;
  elsewhere = leaves_on first now new before.owner before.queue.items box.queue.items after.queue.items c.has c.elsewhere
      (subst (λ o. OutboxLeavesOthers now new o box.queue.items after.queue.items) c.owner g.elsewhere);
}

-- bytes were taken into a chain
pub record TakesInto (old new : PoolState) (before after : Chain) (bytes : List ℕ) : Type 0 where
  pub appends : Appends old new before after bytes
  pub appended : chain_bytes new after ≡ chain_bytes old before ++ bytes
  pub live : IsLive new after
  pub others : KeepsOthers old new before after
  pub room : more_blocks (length (chain_bytes old before)) (length bytes) ≤ chain_spare old before

apart_empty_all : (xs : List Queued) (chain : Chain) → chain.first ≡ None → LiesApart Queued chain_in xs chain
apart_empty_all [] chain none = tt
apart_empty_all (x ∷ xs) chain none = (apart_empty chain x.chain none, apart_empty_all xs chain none)

-- a message was taken into a chain of its own
pub taken_into : {old new : PoolState} {o : ℕ} {queue : Buffer Queued} {before after : Chain} {bytes : List ℕ} (pipe : ℕ) → AreKept old o queue
    → IsEmptyChain o before → IsSendable (pipe, bytes) → TakesInto old new before after bytes → IsPushed old new o queue after pipe bytes
taken_into {old} {new} {o} {queue} {before} {bytes = bytes} pipe kept is_empty sendable t =
    let owned = is_empty.0 in
    let none = is_empty.1 in
    let empty : chain_bytes old before ≡ [] = ap (named_bytes old.slots) none in
    let n : more_blocks (length (chain_bytes old before)) (length bytes) ≡ blocks_for (length bytes) = grind arith in
    let owners : new.owners ≡ with_used old.owners o (used_of old o + blocks_for (length bytes)) = grind arith in
    let used : used_of new o ≡ used_of old o + blocks_for (length bytes) = ap (λ os. (owner_at os o).used) owners
    ∙ used-with_used old.owners o (used_of old o + blocks_for (length bytes)) kept.has_quota in
    let aside : aside_of new o ≡ aside_of old o = ap (λ os. (owner_at os o).aside) owners
    ∙ aside-with_used old.owners o (used_of old o + blocks_for (length bytes)) kept.has_quota in
    let quota : quota_of new o ≡ quota_of old o = ap (λ os. (owner_at os o).quota) owners
    ∙ quota-with_used old.owners o (used_of old o + blocks_for (length bytes)) kept.has_quota in
    let room : blocks_for (length bytes) ≤ spare_of old o = grind arith in
    pushed before pipe kept t.others (apart_empty_all queue.items before none) (record {
      live = t.live;
      owned = t.appends.owner ∙ owned;
      bytes_are = t.appended ∙ ap (λ (l : List ℕ). l ++ bytes) empty;
      has_quota = omega (arith, ap length owners ∙ length-with_used old.owners o (used_of old o + blocks_for (length bytes)), kept.has_quota);
      quota = quota;
      used = used;
      aside = aside;
      within = omega (arith, used, room, kept.quota, kept.within);
    }) sendable

-- ---- cutting

-- the element at a place behind the front of a list, and inside it
pub slice_get_inside : (xs ys : List (List ℕ)) (i : ℕ) → i < length xs → slice_get (xs ++ ys) i ≡ slice_get xs i
slice_get_inside [] ys i low = absurd (omega arith)
slice_get_inside (x ∷ xs) ys zero low = refl
slice_get_inside (x ∷ xs) ys (suc i) low = slice_get_inside xs ys i (omega arith)

pub slice_get_behind : (xs ys : List (List ℕ)) (p n : ℕ) → p ≡ length xs + n → slice_get (xs ++ ys) p ≡ slice_get ys n
slice_get_behind [] ys p n e = let same : p ≡ n = omega arith in ap (slice_get ys) same
slice_get_behind (x ∷ xs) ys zero n e = absurd (omega arith)
slice_get_behind (x ∷ xs) ys (suc p) n e = slice_get_behind xs ys p n (omega arith)

pub drop_at : {X : Type 0} (xs : List X) (i : ℕ) (x : X) → Some x ≡ slice_get xs i → drop i xs ≡ x ∷ drop (i + 1) xs
drop_at [] i x e = cc
drop_at {X} (y ∷ xs) zero x e = let same : x ≡ y = cc in ap (λ (z : X). z ∷ xs) (sym same)
drop_at {X} (y ∷ xs) (suc i) x e =
    drop_at xs i x e ∙ (let n : drop (i + 1) xs ≡ drop (suc i + 1) (y ∷ xs) =
    (let k : suc i + 1 ≡ suc (i + 1) = omega arith in sym (ap (λ m. drop m (y ∷ xs)) k)) in ap (λ (l : List X). x ∷ l) n)

pub drop_none : {X : Type 0} (xs : List X) (i : ℕ) → None ≡ slice_get xs i → drop i xs ≡ []
drop_none [] zero e = refl
drop_none [] (suc i) e = refl
drop_none (y ∷ xs) zero e = cc
drop_none (y ∷ xs) (suc i) e = drop_none xs i e

-- how far the first fragment that wasn't cut was looked for
pub record LooksFor (pool : PoolState) (box : Outbox) (at place : ℕ) : Type 0 where
  pub low : at ≤ length box.queue.items
  pub own : OwnsAll Queued chain_in pool box.owner (drop at box.queue.items)
  pub sendable : AreSendable (messages_of_all pool (drop at box.queue.items))
  pub within : place ≤ box.cut
  pub fragment : slice_get (fragments_of (messages_of_all pool (drop at box.queue.items))) place ≡ slice_get (fragments_of (queued_messages pool box)) box.cut

pub looks_at : (pool : PoolState) (box : Outbox) (at place : ℕ) (q : Queued) → LooksFor pool box at place → Some q ≡ slice_get box.queue.items at
    → IsLive pool q.chain × (q.pipe < 112) × (slice_get
    (map packet_bytes (packets_of q.pipe (chain_bytes pool q.chain)) ++ fragments_of (messages_of_all pool (drop (at + 1) box.queue.items))) place
    ≡ slice_get (fragments_of (queued_messages pool box)) box.cut)
looks_at pool box at place q looks found =
    let items = drop_at box.queue.items at q found in
    let own = subst (OwnsAll Queued chain_in pool box.owner) items looks.own in
    let sendable = subst (λ l. AreSendable (messages_of_all pool l)) items looks.sendable in
    (own.0.live, sendable.0.0, sym (ap (λ l. slice_get (fragments_of (messages_of_all pool l)) place) items) ∙ looks.fragment)

pub looks_on : (pool : PoolState) (box : Outbox) (at place count : ℕ) (q : Queued) → LooksFor pool box at place → Some q ≡ slice_get box.queue.items at
    → count ≡ packet_count (length (chain_bytes pool q.chain)) → count ≤ place → LooksFor pool box (at + 1) (place - count)
looks_on pool box at place count q looks found counted low =
    let items = drop_at box.queue.items at q found in
    let own = subst (OwnsAll Queued chain_in pool box.owner) items looks.own in
    let sendable = subst (λ l. AreSendable (messages_of_all pool l)) items looks.sendable in
    let some = slice_get_within box.queue.items at q (sym found) in
    record {
      low = omega arith;
      own = own.1;
      sendable = sendable.1;
      within = omega (arith, looks.within);
      fragment = sym (slice_get_behind (map packet_bytes (packets_of q.pipe (chain_bytes pool q.chain)))
          (fragments_of (messages_of_all pool (drop (at + 1) box.queue.items))) place (place - count)
          (omega (arith, (length-fragments (queued_message pool q)), counted, low))) ∙ (looks_at pool box at place q looks found).2;
    }

pub cut_low : (pool : PoolState) (box : Outbox) → OutboxLiesIn pool box → box.cut ≤ 256
cut_low pool box lies = omega (arith, (few_fragments pool box.queue.items lies.kept.sendable), lies.cut, lies.kept.used, lies.kept.within)

-- no fragment is left exactly where none waits
pub all_cut : (pool : PoolState) (box : Outbox) → OutboxLiesIn pool box → (box.left ≡ 0 → waiting_in pool box ≡ []) × (waiting_in pool box ≡ [] → box.left ≡ 0)
all_cut pool box lies =
    let fragments = fragments_of (queued_messages pool box) in
    let len = length-drop box.cut fragments in (
      (λ none. drop_all box.cut fragments (omega (arith, lies.cut))),
      (λ none. omega (arith, len, ap length none, lies.cut)),
    )

-- while one is left, one is found
pub one_found : (pool : PoolState) (box : Outbox) (at place : ℕ) → OutboxLiesIn pool box → 0 < box.left → LooksFor pool box at place
    → None ≡ slice_get box.queue.items at → ⊥
one_found pool box at place lies some looks none =
    let found : None ≡ slice_get (fragments_of (queued_messages pool box)) box.cut =
    sym (ap (λ l. slice_get (fragments_of (messages_of_all pool l)) place) (drop_none box.queue.items at none) ∙ (refl)) ∙ looks.fragment in
    absurd (omega (arith, ((all_cut pool box lies).1 (drop_none (fragments_of (queued_messages pool box)) box.cut found)), some))

-- ---- acknowledging

pub record Acknowledges (first now : PoolState) (before box : Outbox) (whole : ℕ) : Type 0 where
  pub gives : GivesBack first now before box whole
  pub counted : whole + length box.queue.items ≡ length before.queue.items
  pub has : before.owner < length first.owners
  pub few : length before.queue.items ≤ 128

pub acknowledges_none : (pool : PoolState) (box : Outbox) → OutboxLiesIn pool box → Acknowledges pool pool box box 0
acknowledges_none pool box lies =
    let each = each_has_block pool box.queue.items lies.kept.sendable in
    record { gives = gives_none pool box lies; counted = omega arith; has = lies.kept.has_quota; few = omega (arith, each, lies.kept.used, lies.kept.within) }

pub acknowledges_more : (first now new : PoolState) (before box after : Outbox) (whole : ℕ) → Acknowledges first now before box whole
    → GivesBack now new box after 1
    → length after.queue.items + 1 ≡ length box.queue.items → Acknowledges first new before after (whole + 1)
acknowledges_more first now new before box after whole a g fewer = record {
  gives = gives_on first now new before box after whole a.has a.gives g;
  counted = omega (arith, a.counted, fewer);
  has = a.has;
  few = a.few;
}

-- ---- a chain of another owner

pub record PassesInto (old new : PoolState) (before after : Chain) (owner : ℕ) : Type 0 where
  pub passes : Passes old new before after owner
  pub same_bytes : chain_bytes new after ≡ chain_bytes old before
  pub live : IsLive new after
  pub others : KeepsOthers old new before after
  pub room : blocks_for (length (chain_bytes old before)) ≤ spare_of old owner

pub passed_into : {old new : PoolState} {o : ℕ} {queue : Buffer Queued} {before after : Chain} (pipe : ℕ) → AreKept old o queue → IsLive old before
    → before.owner ≢ o → IsSendable (pipe, chain_bytes old before) → PassesInto old new before after o
    → IsPushed old new o queue after pipe (chain_bytes old before)
    × LeavesOthersBut old new o before queue.items (queue.items ++ record { pipe = pipe; chain = after } ∷ [])
passed_into {old} {new} {o} {queue} {before} {after} pipe kept live differ sendable t =
    let xs = queue.items in
    let n = blocks_for (length (chain_bytes old before)) in
    let without = with_used old.owners before.owner (used_of old before.owner - n) in
    let more = (owner_at without o).used + n in
    let owners : new.owners ≡ with_used without o more = t.passes.owners in
    let other : owner_at without o ≡ owner_at old.owners o = other-with_used old.owners before.owner (used_of old before.owner - n) o (λ e. differ (sym e)) in
    let low : o < length without = omega (arith, length-with_used old.owners before.owner (used_of old before.owner - n), kept.has_quota) in
    let used : used_of new o ≡ used_of old o + n = ap (λ os. (owner_at os o).used) owners
    ∙ (used-with_used without o more low ∙ ap (λ (x : Owner). x.used + n) other) in
    let aside : aside_of new o ≡ aside_of old o = ap (λ os. (owner_at os o).aside) owners
    ∙ (aside-with_used without o more low ∙ ap (λ (x : Owner). x.aside) other) in
    let quota : quota_of new o ≡ quota_of old o = ap (λ os. (owner_at os o).quota) owners
    ∙ (quota-with_used without o more low ∙ ap (λ (x : Owner). x.quota) other) in
    let len : length new.owners ≡ length old.owners = ap length owners
    ∙ (length-with_used without o more ∙ length-with_used old.owners before.owner (used_of old before.owner - n)) in
    let p = pushed before pipe kept t.others (lies_apart_by_owner Queued chain_in old o xs before kept.own live differ) (record {
      live = t.live;
      owned = t.passes.owner_is;
      bytes_are = t.same_bytes;
      has_quota = omega (arith, len, kept.has_quota);
      quota = quota;
      used = used;
      aside = aside;
      within = omega (arith, used, t.room, kept.quota, kept.within);
    }) sendable in (
      p,
      record {
        counts = λ q a b. ap (λ os. owner_at os q) owners
            ∙ (other-with_used without o more q a ∙ other-with_used old.owners before.owner (used_of old before.owner - n) q b);
        lengths = len;
        aside = aside;
        giver_quota = ap (λ os. (owner_at os before.owner).quota) owners ∙ (ap (λ (x : Owner). x.quota) (other-with_used without o more before.owner differ)
            ∙ quota-with_used old.owners before.owner (used_of old before.owner - n) live.0);
        giver_used = ap (λ os. (owner_at os before.owner).used) owners ∙ (ap (λ (x : Owner). x.used) (other-with_used without o more before.owner differ)
            ∙ used-with_used old.owners before.owner (used_of old before.owner - n) live.0);
        others = λ other_chain other_live apart from.
            let k = t.others other_chain other_live from in
            (k.1, k.2, all_pushed Queued (λ (x : Queued). IsApart other_chain x.chain) xs (record { pipe = pipe; chain = after }) apart k.0);
      },
    )

pub some_left : (pool : PoolState) (items : List Queued) (m : Message) (rest : List Message) → messages_of_all pool items ≡ m ∷ rest → items ≡ [] → ⊥
some_left pool [] m rest e none = cc
some_left pool (x ∷ items) m rest e none = cc

pub first_is : (x y : Message) (xs ys : List Message) → x ∷ xs ≡ y ∷ ys → x ≡ y
first_is x y xs ys e = cc

-- ---- acknowledging on

-- the front was there
pub front_given : (b : Bool) (P : Type 0) (items : List Queued) (Q : Type 0) → OnTrue b P → OnFalse b Q → (Q → items ≡ []) → (items ≡ [] → ⊥) → P
front_given true P items Q p q none some = p
front_given false P items Q p q none some = absurd (some (none q))

-- the first message isn't acknowledged whole
pub none_whole : (pool : PoolState) (box : Outbox) (q : Queued) → Some q ≡ slice_get box.queue.items 0
    → box.acked < packet_count (length (chain_bytes pool q.chain))
    → (whole_among (queued_messages pool box) box.acked ≡ 0) × (rest_among (queued_messages pool box) box.acked ≡ box.acked)
none_whole pool box q found low =
    let P : List Queued → Type 0 = λ l. (whole_among (messages_of_all pool l) box.acked ≡ 0) × (rest_among (messages_of_all pool l) box.acked ≡ box.acked) in
    subst P (sym (front_is box.queue.items q found)) (whole-none (queued_message pool q) (messages_of_all pool (drop 1 box.queue.items)) box.acked low)

pub none_left : (pool : PoolState) (box : Outbox) → None ≡ slice_get box.queue.items 0
    → (whole_among (queued_messages pool box) box.acked ≡ 0) × (rest_among (queued_messages pool box) box.acked ≡ box.acked)
none_left pool box found =
    let P : List Queued → Type 0 = λ l. (whole_among (messages_of_all pool l) box.acked ≡ 0) × (rest_among (messages_of_all pool l) box.acked ≡ box.acked) in
    subst P (sym (none_first box.queue.items found)) (refl, refl)

-- the first message is live
pub first_live : (pool : PoolState) (box : Outbox) (q : Queued) → AreKept pool box.owner box.queue → Some q ≡ slice_get box.queue.items 0 → IsLive pool q.chain
first_live pool box q kept found = (subst (OwnsAll Queued chain_in pool box.owner) (front_is box.queue.items q found) kept.own).0.live

-- it was acknowledged whole, and its blocks were given back
pub first_given : (pool new : PoolState) (box after : Outbox) (q : Queued) (b : Bool) (count : ℕ) → OutboxLiesIn pool box
    → Some q ≡ slice_get box.queue.items 0 → OnTrue b (GivesFront pool new box after)
    → OnFalse b ((box.queue.items ≡ []) × (after ≡ box) × (new ≡ pool)) → count ≡ packet_count (length (chain_bytes pool q.chain)) → count ≤ box.acked
    → GivesBack pool new box (record after { acked = after.acked - count; cut = after.cut - count }) 1
    × (length after.queue.items + 1 ≡ length box.queue.items)
first_given pool new box after q b count lies found given none counted low =
    let items = box.queue.items in
    let messages : queued_messages pool box ≡ queued_message pool q ∷ messages_of_all pool (drop 1 items) = grind arith in
    let g = front_given b (GivesFront pool new box after) items _ given none (λ n. n.0) (λ e. some_left pool items _ _ messages e) in
    let first : queued_message pool q ≡ g.first = first_is _ g.first _ _ (sym messages ∙ g.messages) in
    let same : packet_count (length g.first.1) ≡ count = ap (λ (x : Message). packet_count (length x.1)) (sym first) ∙ sym counted in
    let P : ℕ → Type 0 = λ n. GivesBack pool new box (record after { acked = after.acked - n; cut = after.cut - n }) 1 in
    (subst P same (gives_whole pool new box after g lies (omega (arith, same, low))), g.fewer)

pub some_waits : (x : List ℕ) (xs ys : List (List ℕ)) → ys ≡ x ∷ xs → ys ≡ [] → ⊥
some_waits x xs ys e none = cc

pub few_queued : (pool : PoolState) (box : Outbox) → OutboxLiesIn pool box → length box.queue.items ≤ 128
few_queued pool box lies = omega (arith, (each_has_block pool box.queue.items lies.kept.sendable), lies.kept.used, lies.kept.within)
