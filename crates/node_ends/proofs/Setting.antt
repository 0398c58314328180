-- A block is set aside for an end, or released.
use Rattle.std.proofs.lemmas.Bool.{lt-ltb}
use Rattle.node_ends.proofs.Words.{Bool, Chain, End, EndLeavesOthers, EndStandsFor, HoldsEnd, IsLive, List, Machine, Moves, Open, Option, PoolState, Queued}
use Rattle.node_ends.proofs.Words.{Release, SetAside, Waiting, all_mapped, ap, arith, aside_of, chain_bytes, chains_in, get_or-set_other, get_or-set_same}
use Rattle.node_ends.proofs.Words.{length, length-set, nat_lt, refl, spare, spare_is, spare_of, subst, sym, true, turn, used_of, without_got, ℕ, ◌+◌, ◌-◌, ◌<◌}
use Rattle.node_ends.proofs.Words.{◌∙◌, ◌≡◌, ◌≢◌, ◌≤◌}
use Rattle.block_pool.specs.declared.owners.Owner.{Owner}
use Rattle.block_pool.specs.Slots.{Places}
use Rattle.block_pool.specs.Owners.{owner_at, with_aside}
use Rattle.block_pool.specs.Holdings.{IsOwnChain}
use Rattle.block_pool.proofs.HoldingLemmas.{counted_keeps}
use Rattle.hcp_chain.specs.Holding.{IsOwnOpen, held_blocks}
use Rattle.node_ends.proofs.Moving.{call_moves, call_holds}

-- so many blocks of this owner are used and set aside now, and no chain has changed
pub record Counts (old new : PoolState) (o used aside : ℕ) : Type 0 where
  pub slots : new.slots ≡ old.slots
  pub owners : new.owners ≡ with_aside old.owners o used aside

module _ {old new : PoolState} {o used aside : ℕ} (c : Counts old new o used aside) where
  same_length : length new.owners ≡ length old.owners
  same_length = ap length c.owners ∙ length-set old.owners o (record { quota = (owner_at old.owners o).quota; used = used; aside = aside })

  here : o < length old.owners → owner_at new.owners o ≡ record { quota = (owner_at old.owners o).quota; used = used; aside = aside }
  here low =
      ap (λ os. owner_at os o) c.owners
      ∙ get_or-set_same old.owners o (record { quota = (owner_at old.owners o).quota; used = used; aside = aside })
      (record { quota = 0; used = 0; aside = 0 }) low

  elsewhere : (p : ℕ) → p ≢ o → owner_at new.owners p ≡ owner_at old.owners p
  elsewhere p other =
      ap (λ os. owner_at os p) c.owners
      ∙ get_or-set_other old.owners o p (record { quota = (owner_at old.owners o).quota; used = used; aside = aside })
      (record { quota = 0; used = 0; aside = 0 }) other

  stays : (chain : Chain) → IsLive old chain → IsLive new chain × (chain_bytes new chain ≡ chain_bytes old chain)
  stays chain live = counted_keeps old new o used aside chain c.slots c.owners live

held_same : (old new : PoolState) (xs : List Open) → new.slots ≡ old.slots → held_blocks new xs ≡ held_blocks old xs
held_same old new xs is = ap (λ s. held_blocks (record { slots = s; owners = new.owners; places = new.places }) xs) is

-- it leaves the ends as they are, and those beside them
pub counted_leaves : (old new : PoolState) (k : End) (m : Machine) (used aside : ℕ) → EndStandsFor k old m → Counts old new k.outbox.owner used aside
    → EndLeavesOthers old new k k
counted_leaves old new k m used aside h c =
    let beside = ap (λ (x : Owner). x.used) (elsewhere c k.inbox.joiner.owner (λ e. h.halfway.differ (sym e))) in
    record {
      sender = refl;
      receiver = refl;
      counts = λ p out into. elsewhere c p out;
      lengths = same_length c;
      received = (let s = held_same old new (chains_in k.inbox) c.slots in omega (arith, beside, s));
      others = λ other live queue apart. (let s = stays c other live in (s.0, s.1, queue, apart));
    }

-- the end stands for the state with so many blocks set aside
counted_here : (old : PoolState) (owners : List Owner) (places : Places) (k : End) (m : Machine) (used aside : ℕ) → EndStandsFor k old m
    → Counts old (record { slots = old.slots; owners = owners; places = places }) k.outbox.owner used aside
    → used + aside_of old k.outbox.owner ≡ used_of old k.outbox.owner + aside → used ≤ 128
    → EndStandsFor k (record { slots = old.slots; owners = owners; places = places }) (record m { aside = aside })
counted_here old owners places k m used aside h c sum low =
    let new : PoolState = record { slots = old.slots; owners = owners; places = places } in
    let o = k.outbox.owner in
    let i = k.inbox.joiner.owner in
    let before = h.halfway in
    let kept = before.sends.lies.kept in
    let lies = before.receives.lies in
    let len = same_length c in
    let at = here c kept.has_quota in
    let out_used = ap (λ (x : Owner). x.used) at in
    let out_aside = ap (λ (x : Owner). x.aside) at in
    let into = elsewhere c i (λ e. before.differ (sym e)) in
    record {
      halfway = record {
        role = before.role;
        link = before.link;
        acts = before.acts;
        sends = record {
          lies = record {
            kept = record {
              own = all_mapped Queued (λ q. IsOwnChain old o q.chain) (λ q. IsOwnChain new o q.chain) k.outbox.queue.items
                  (λ q own. record { live = (stays c q.chain own.live).0; owned = own.owned }) kept.own;
              apart = kept.apart;
              sendable = kept.sendable;
              capacity = kept.capacity;
              has_quota = omega (arith, len, kept.has_quota);
              quota = (ap (λ (x : Owner). x.quota) at) ∙ kept.quota;
              used = omega (arith, out_used, out_aside, kept.used, sum);
              within = omega (arith, out_used, low);
            };
            acked = before.sends.lies.acked;
            cut = before.sends.lies.cut;
          };
          all = before.sends.all;
          out = before.sends.out;
          messages = before.sends.messages;
          acked = before.sends.acked;
        };
        receives = record {
          lies = record {
            holds = record {
              own = all_mapped Open (IsOwnOpen old i) (IsOwnOpen new i) (chains_in k.inbox)
                  (λ x own. record { live = (stays c x.chain own.live).0; owned = own.owned; short = own.short }) lies.holds.own;
              apart = lies.holds.apart;
            };
            has_quota = omega (arith, len, lies.has_quota);
            quota = (ap (λ (x : Owner). x.quota) into) ∙ lies.quota;
            used = omega (arith, (ap (λ (x : Owner). x.used) into), lies.used);
          };
          under = before.receives.under;
          sound = before.receives.sound;
        };
        got = before.got;
        aside = out_aside;
        passed_over = before.passed_over;
        differ = before.differ;
      };
      full = h.full;
    }

counted_stands : (old new : PoolState) (k : End) (m : Machine) (used aside : ℕ) → EndStandsFor k old m → Counts old new k.outbox.owner used aside
    → used + aside_of old k.outbox.owner ≡ used_of old k.outbox.owner + aside → used ≤ 128 → EndStandsFor k new (record m { aside = aside })
counted_stands old new k m used aside h c sum low =
    subst (λ s. EndStandsFor k (record { slots = s; owners = new.owners; places = new.places }) (record m { aside = aside })) (sym c.slots)
    (counted_here old new.owners new.places k m used aside h (record { slots = refl; owners = c.owners }) sum low)

-- ## A block set aside

pub set_holds : (old new : PoolState) (k : End) (waiting : Option Waiting) (m : Machine) → HoldsEnd old k waiting m → 0 < spare_of old k.outbox.owner
    → Counts old new k.outbox.owner (used_of old k.outbox.owner + 1) (aside_of old k.outbox.owner + 1) → HoldsEnd new k waiting (turn m SetAside)
set_holds old new k waiting m h some c =
    let o = k.outbox.owner in
    let next = counted_stands old new k (without_got m) (used_of old o + 1) (aside_of old o + 1) h.stands c (omega arith)
    (omega (arith, some, h.stands.halfway.sends.lies.kept.quota, h.stands.halfway.sends.lies.kept.within)) in
    let room : nat_lt 0 (spare m) ≡ true = lt-ltb 0 (spare m) (omega (arith, some, spare_is old k (without_got m) h.stands)) in
    let P : ℕ → Type 0 = λ a. EndStandsFor k new (record (without_got m) { aside = a + 1 }) in
    subst (λ n. HoldsEnd new k waiting n) (sym (rw room refl)) (call_holds old new k k waiting m (record m { aside = m.aside + 1 }) h
    (counted_leaves old new k (without_got m) (used_of old o + 1) (aside_of old o + 1) h.stands c) (subst P h.stands.halfway.aside next) refl)

pub set_counts : (pool : PoolState) (k : End) (m : Machine) → EndStandsFor k pool (without_got m) → 0 < spare_of pool k.outbox.owner
    → (turn m SetAside).aside ≡ m.aside + 1
set_counts pool k m h some = rw (lt-ltb 0 (spare m) (omega (arith, some, spare_is pool k (without_got m) h))) refl

-- at most 128 blocks are set aside
pub few_aside : (pool : PoolState) (k : End) (m : Machine) → EndStandsFor k pool (without_got m) → m.aside ≤ 128
few_aside pool k m h = grind arith

-- where none is, there is none to release
pub none_released : (pool : PoolState) (k : End) (waiting : Option Waiting) (m : Machine) → m.aside ≡ 0 → HoldsEnd pool k waiting m
    → HoldsEnd pool k waiting (turn m Release)
none_released pool k waiting m none h = grind arith

pub set_refused : (pool : PoolState) (k : End) (m : Machine) → EndStandsFor k pool (without_got m) → (0 < spare_of pool k.outbox.owner → ⊥)
    → turn m SetAside ≡ m
set_refused pool k m h none = by (nat_lt 0 (spare m)) refl (λ some. none (omega (arith, some, spare_is pool k (without_got m) h)))
  where
    by : (b : Bool) → nat_lt 0 (spare m) ≡ b → (0 < spare m → ⊥) → turn m SetAside ≡ m
    by b q no_spare = grind arith

pub released_holds : (old new : PoolState) (k : End) (waiting : Option Waiting) (m : Machine) → HoldsEnd old k waiting m → 0 < aside_of old k.outbox.owner
    → Counts old new k.outbox.owner (used_of old k.outbox.owner - 1) (aside_of old k.outbox.owner - 1) → HoldsEnd new k waiting (turn m Release)
released_holds old new k waiting m h some c =
    let o = k.outbox.owner in
    let kept = h.stands.halfway.sends.lies.kept in
    let next = counted_stands old new k (without_got m) (used_of old o - 1) (aside_of old o - 1) h.stands c (omega (arith, some, kept.used))
    (omega (arith, kept.within)) in
    let P : ℕ → Type 0 = λ a. EndStandsFor k new (record (without_got m) { aside = a - 1 }) in
    call_holds old new k k waiting m (record m { aside = m.aside - 1 }) h
    (counted_leaves old new k (without_got m) (used_of old o - 1) (aside_of old o - 1) h.stands c) (subst P h.stands.halfway.aside next) refl

pub counted_moves : (old new : PoolState) (k : End) (m : Machine) (used aside : ℕ) → EndStandsFor k old m → Counts old new k.outbox.owner used aside
    → Moves old new k k
counted_moves old new k m used aside h c = call_moves old new k k m h (counted_leaves old new k m used aside h c)
