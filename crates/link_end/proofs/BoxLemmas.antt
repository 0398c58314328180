-- What is sent and what comes have two owners: what is done with the one leaves the other.
use Rattle.std.proofs.lemmas.Bool.{cases_eq}
use Rattle.link_end.proofs.Words.{AllByRecursion, Chain, End, Halfway, Inbox, InboxLeaves, InboxLiesIn, IsApart, IsApartFrom, IsChainOf, IsLive, IsOwnOpen}
use Rattle.link_end.proofs.Words.{LeavesBoxes, LeavesOthersBut, LiesApart, List, Machine, MayPass, Open, Outbox, OutboxLeaves, OutboxLiesIn, Owner, OwnsAll}
use Rattle.link_end.proofs.Words.{PoolState, Queued, [], ap, arith, aside_of, blocks_for, came_whole, chain_bytes, chain_in, chains_in, front_holds, got_chains}
use Rattle.link_end.proofs.Words.{held_blocks, inl, inr, length, messages_of, messages_same, messages_under_way, owner_at, queued_messages, quota_of, refl}
use Rattle.link_end.proofs.Words.{subst, sum_by-cons, sym, used_of, ℕ, ◌++◌, ◌+◌, ◌∙◌, ◌∷◌, ◌≡◌, ◌≢◌, ◌≤◌}
use Rattle.block_pool.proofs.HoldingLemmas.{apart_by_owner, apart_turned, all_mapped, all_joined, kept_each, other-with_used, length-with_used}
use Rattle.hcp_chain.specs.Holding.{message_of}
use Rattle.link_messages.proofs.IncomingLemmas.{front_apart}

-- ---- what comes, where what is sent changed

pub record OpensKept (old new : PoolState) (owner : ℕ) (xs : List Open) : Type 0 where
  pub own : AllByRecursion (IsOwnOpen new owner) xs
  pub messages : messages_of new xs ≡ messages_of old xs
  pub blocks : held_blocks new xs ≡ held_blocks old xs

opens_kept : (old new : PoolState) (owner : ℕ) (xs : List Open) → AllByRecursion (IsOwnOpen old owner) xs
    → ((x : Open) → IsOwnOpen old owner x → IsLive new x.chain × (chain_bytes new x.chain ≡ chain_bytes old x.chain)) → OpensKept old new owner xs
opens_kept old new owner [] own each = record { own = tt; messages = refl; blocks = refl }
opens_kept old new owner (x ∷ xs) own each =
    let here = each x own.0 in
    let rest = opens_kept old new owner xs own.1 each in
    record {
      own = (record { live = here.0; owned = own.0.owned; short = subst (λ bs. length bs ≤ 4096) (sym here.1) own.0.short }, rest.own);
      messages = ap (λ bs. (x.pipe, bs) ∷ messages_of new xs) here.1 ∙ ap (λ ms. message_of old x ∷ ms) rest.messages;
      blocks = sum_by-cons (λ (y : Open). blocks_for (length (chain_bytes new y.chain))) x xs
          ∙ (ap (λ bs. blocks_for (length bs) + held_blocks new xs) here.1 ∙ (ap (λ n. blocks_for (length (chain_bytes old x.chain)) + n) rest.blocks
          ∙ sym (sum_by-cons (λ (y : Open). blocks_for (length (chain_bytes old y.chain))) x xs)));
    }

pub opens_passed : (old new : PoolState) (owner : ℕ) (P : Open → Type 0) (xs : List Open) → AllByRecursion (λ x. IsOwnOpen old owner x × P x) xs
    → ((x : Open) → IsOwnOpen old owner x × P x → IsLive new x.chain × (chain_bytes new x.chain ≡ chain_bytes old x.chain)) → OpensKept old new owner xs
opens_passed old new owner P [] own each = record { own = tt; messages = refl; blocks = refl }
opens_passed old new owner P (x ∷ xs) own each =
    let here = each x own.0 in
    let rest = opens_passed old new owner P xs own.1 each in
    record {
      own = (record { live = here.0; owned = own.0.0.owned; short = subst (λ bs. length bs ≤ 4096) (sym here.1) own.0.0.short }, rest.own);
      messages = ap (λ bs. (x.pipe, bs) ∷ messages_of new xs) here.1 ∙ ap (λ ms. message_of old x ∷ ms) rest.messages;
      blocks = sum_by-cons (λ (y : Open). blocks_for (length (chain_bytes new y.chain))) x xs
          ∙ (ap (λ bs. blocks_for (length bs) + held_blocks new xs) here.1 ∙ (ap (λ n. blocks_for (length (chain_bytes old x.chain)) + n) rest.blocks
          ∙ sym (sum_by-cons (λ (y : Open). blocks_for (length (chain_bytes old y.chain))) x xs)));
    }

pub record InboxKept (old new : PoolState) (box : Inbox) : Type 0 where
  pub lies : InboxLiesIn new box
  pub under : messages_under_way new box ≡ messages_under_way old box
  pub got : came_whole new box ≡ came_whole old box
  pub held : held_blocks new (chains_in box) ≡ held_blocks old (chains_in box)
  pub used : used_of new box.joiner.owner ≡ used_of old box.joiner.owner

got_holds : (pool : PoolState) (owner : ℕ) (xs ys : List Open) → AllByRecursion (IsOwnOpen pool owner) (xs ++ ys) → AllByRecursion (IsOwnOpen pool owner) ys
got_holds pool owner [] ys own = own
got_holds pool owner (x ∷ xs) ys own = got_holds pool owner xs ys own.1

-- the chains lie apart from those of another owner
apart_from_queue : (pool : PoolState) (owner other : ℕ) (x : Open) (xs : List Queued) → IsOwnOpen pool other x → OwnsAll Queued chain_in pool owner xs
    → owner ≢ other → LiesApart Queued chain_in xs x.chain
apart_from_queue pool owner other x xs own theirs differ =
    all_mapped Queued (λ q. IsChainOf pool owner q.chain) (λ q. IsApart x.chain q.chain) xs
    (λ q o. apart_by_owner pool x.chain q.chain own.live o.live (λ e. differ (sym o.owned ∙ (sym e ∙ own.owned)))) theirs

pub inbox_kept : (old new : PoolState) (owner : ℕ) (xs ys : List Queued) (box : Inbox) → OwnsAll Queued chain_in old owner xs
    → OutboxLeaves old new owner xs ys → InboxLiesIn old box
    → owner ≢ box.joiner.owner → InboxKept old new box
inbox_kept old new owner xs ys box own leaves lies differ =
    let o = box.joiner.owner in
    let each : (x : Open) → IsOwnOpen old o x → IsLive new x.chain × (chain_bytes new x.chain ≡ chain_bytes old x.chain) =
    (λ x mine. let k = leaves.others x.chain mine.live (apart_from_queue old owner o x xs mine own differ) in (k.0, k.1)) in
    let all = opens_kept old new o (chains_in box) lies.holds.own each in
    let some = opens_kept old new o box.joiner.open.items (front_holds old o box.joiner.open.items box.got lies.holds).own each in
    let got = opens_kept old new o (got_chains box.got) (got_holds old o box.joiner.open.items (got_chains box.got) lies.holds.own) each in
    let here : owner_at new.owners o ≡ owner_at old.owners o = ap (λ os. owner_at os o) leaves.owners
    ∙ other-with_used old.owners owner (used_of new owner) o (λ e. differ (sym e)) in
    let len = ap length leaves.owners ∙ length-with_used old.owners owner (used_of new owner) in
    let used = ap (λ (x : Owner). x.used) here in
    grind arith

-- ---- what is sent, where what comes changed

pub record OutboxKept (old new : PoolState) (box : Outbox) : Type 0 where
  pub lies : OutboxLiesIn new box
  pub messages : queued_messages new box ≡ queued_messages old box
  pub aside : aside_of new box.owner ≡ aside_of old box.owner

apart_from_opens : (pool : PoolState) (owner other : ℕ) (q : Queued) (xs : List Open) → IsChainOf pool other q.chain
    → AllByRecursion (IsOwnOpen pool owner) xs → other ≢ owner → IsApartFrom xs q.chain
apart_from_opens pool owner other q xs own theirs differ =
    all_mapped Open (IsOwnOpen pool owner) (λ x. IsApart q.chain x.chain) xs
    (λ x o. apart_by_owner pool q.chain x.chain own.live o.live (λ e. differ (sym own.owned ∙ (e ∙ o.owned)))) theirs

pub outbox_kept : (old new : PoolState) (owner : ℕ) (xs ys : List Open) (box : Outbox) → AllByRecursion (IsOwnOpen old owner) xs
    → InboxLeaves old new owner xs ys → OutboxLiesIn old box
    → box.owner ≢ owner → OutboxKept old new box
outbox_kept old new owner xs ys box own leaves lies differ =
    let o = box.owner in
    let kept = lies.kept in
    let each = all_mapped Queued (λ q. IsChainOf old o q.chain) (λ q. IsLive new q.chain × (chain_bytes new q.chain ≡ chain_bytes old q.chain)) box.queue.items
    (λ q mine. let k = leaves.others q.chain mine.live (apart_from_opens old owner o q xs mine own differ) in (k.0, k.1)) kept.own in
    let all = kept_each Queued chain_in old new o box.queue.items kept.own each in
    let same : queued_messages new box ≡ queued_messages old box = messages_same old new box.queue.items all.bytes in
    let here : owner_at new.owners o ≡ owner_at old.owners o = ap (λ os. owner_at os o) leaves.owners
    ∙ other-with_used old.owners owner (used_of new owner) o differ in
    let len = ap length leaves.owners ∙ length-with_used old.owners owner (used_of new owner) in
    let used = ap (λ (x : Owner). x.used) here in
    let aside = ap (λ (x : Owner). x.aside) here in
    grind arith

-- ---- both

-- what is done with what is sent
pub leaves_out : (old new : PoolState) (a b : Outbox) (box : Inbox) → OutboxLeaves old new a.owner a.queue.items b.queue.items → b.owner ≡ a.owner
    → InboxKept old new box → LeavesBoxes old new a box b box
leaves_out old new a b box leaves owner k = record {
  sender = owner;
  receiver = refl;
  counts = λ p x y. ap (λ os. owner_at os p) leaves.owners ∙ other-with_used old.owners a.owner (used_of new a.owner) p x;
  lengths = ap length leaves.owners ∙ length-with_used old.owners a.owner (used_of new a.owner);
  received = omega (arith, k.used, k.held);
  others = λ other live x y. let s = leaves.others other live x in (s.0, s.1, s.2, y);
}

-- what is done with what comes
pub leaves_in : (old new : PoolState) (box : Outbox) (a b : Inbox) → InboxLeaves old new a.joiner.owner (chains_in a) (chains_in b)
    → b.joiner.owner ≡ a.joiner.owner
    → used_of new a.joiner.owner + held_blocks old (chains_in a) ≡ used_of old a.joiner.owner + held_blocks new (chains_in b) → LeavesBoxes old new box a box b
leaves_in old new box a b leaves owner received = record {
  sender = refl;
  receiver = owner;
  counts = λ p x y. ap (λ os. owner_at os p) leaves.owners ∙ other-with_used old.owners a.joiner.owner (used_of new a.joiner.owner) p y;
  lengths = ap length leaves.owners ∙ length-with_used old.owners a.joiner.owner (used_of new a.joiner.owner);
  received = received;
  others = λ other live x y. let s = leaves.others other live y in (s.0, s.1, x, s.2);
}

pub leaves_all : (pool : PoolState) (a : Outbox) (b : Inbox) → LeavesBoxes pool pool a b a b
leaves_all pool a b = grind arith

pub leaves_more : {old mid new : PoolState} {a b c : Outbox} {x y z : Inbox} → LeavesBoxes old mid a x b y → LeavesBoxes mid new b y c z
    → LeavesBoxes old new a x c z
leaves_more l m = grind arith

-- the same chains in the same places
pub leaves_same : {old new : PoolState} {a b : Outbox} {x y : Inbox} (c : Outbox) (z : Inbox) → LeavesBoxes old new a x b y → c.owner ≡ b.owner
    → c.queue ≡ b.queue → z ≡ y → LeavesBoxes old new a x c z
leaves_same c z l owner queue inbox = grind arith

-- ---- a chain of another owner goes to what is sent

pub inbox_passed : {old new : PoolState} {k : End} {m : Machine} {chain : Chain} {ys : List Queued} → Halfway k old m → MayPass old k chain
    → LeavesOthersBut old new k.outbox.owner chain k.outbox.queue.items ys
    → InboxLiesIn new k.inbox × (messages_under_way new k.inbox ≡ messages_under_way old k.inbox) × (came_whole new k.inbox ≡ came_whole old k.inbox)
inbox_passed {old} {new} {k} {chain = chain} h may leaves =
    let box = k.inbox in
    let lies = h.receives.lies in
    let apart = may.apart in
    let o = box.joiner.owner in
    let kept : (x : Open) → IsOwnOpen old o x × IsApart chain x.chain → IsLive new x.chain × (chain_bytes new x.chain ≡ chain_bytes old x.chain) =
    (λ x p.
    let queue = apart_from_queue old k.outbox.owner o x k.outbox.queue.items p.0 h.sends.lies.kept.own h.differ in
    let s = leaves.others x.chain p.0.live queue (apart_turned chain x.chain p.1) in
    (s.0, s.1)) in
    let both = all_joined Open (IsOwnOpen old o) (λ x. IsApart chain x.chain) (chains_in box) lies.holds.own apart in
    let all = opens_passed old new o (λ x. IsApart chain x.chain) (chains_in box) both kept in
    let front = front_holds old o box.joiner.open.items box.got lies.holds in
    let parts = front_apart box.joiner.open.items box.got chain apart in
    let some = opens_passed old new o (λ x. IsApart chain x.chain) box.joiner.open.items
    (all_joined Open (IsOwnOpen old o) (λ x. IsApart chain x.chain) box.joiner.open.items front.own parts.0) kept in
    let got = opens_passed old new o (λ x. IsApart chain x.chain) (got_chains box.got)
    (all_joined Open (IsOwnOpen old o) (λ x. IsApart chain x.chain) (got_chains box.got)
    (got_holds old o box.joiner.open.items (got_chains box.got) lies.holds.own) parts.1) kept in
    let len = leaves.lengths in
    let stays : (quota_of new o ≡ 512) × (held_blocks new (chains_in box) ≤ used_of new o) = elim (cases_eq chain.owner o) [
      | inl same ↦ (grind arith)
      | inr apart_owner ↦ (grind arith)
    ] in grind arith
