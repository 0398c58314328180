-- What chains keep over a call that doesn't touch them, and which chains lie apart.
use Rattle.std.specs.List.{AllByRecursion}
use Rattle.std.proofs.lemmas.List.{set-get_or}
use Rattle.block_pool.proofs.Words.{Chain, IsLive, List, None, Owner, PoolState, Some, [], ap, arith, blocks_for, chain_bytes, get_or-set_other}
use Rattle.block_pool.proofs.Words.{get_or-set_same, length, length-set, refl, set, set-set, sum_by-cons, sym, ℕ, ◌++◌, ◌+◌, ◌<◌, ◌∙◌, ◌∷◌, ◌≡◌, ◌≢◌}
use Rattle.block_pool.specs.Owners.{owner_at, with_used, with_aside}
use Rattle.block_pool.specs.Pool.{IsApart, KeepsOthers}
use Rattle.block_pool.specs.Holdings.{IsOwnChain, OwnsAll, LiesApart, LieApart, all_bytes, all_blocks, KeptAll}

-- two chains of two owners don't lie in one place
pub apart_by_owner : (pool : PoolState) (one other : Chain) → IsLive pool one → IsLive pool other → one.owner ≢ other.owner → IsApart one other
apart_by_owner pool one other a b differ first p q = grind arith

pub apart_turned : (one other : Chain) → IsApart one other → IsApart other one
apart_turned one other a first p q = a first q p

-- an empty chain lies apart from every other one
pub apart_empty : (one other : Chain) → one.first ≡ None → IsApart one other
apart_empty one other none first p q = let e : None ≡ Some first = sym none ∙ p in cc

pub all_mapped : (X : Type 0) (P Q : X → Type 0) (xs : List X) → ((x : X) → P x → Q x) → AllByRecursion P xs → AllByRecursion Q xs
all_mapped X P Q [] f all = tt
all_mapped X P Q (x ∷ xs) f all = (f x all.0, all_mapped X P Q xs f all.1)

pub all_joined : (X : Type 0) (P Q : X → Type 0) (xs : List X) → AllByRecursion P xs → AllByRecursion Q xs → AllByRecursion (λ x. P x × Q x) xs
all_joined X P Q [] p q = tt
all_joined X P Q (x ∷ xs) p q = ((p.0, q.0), all_joined X P Q xs p.1 q.1)

pub all_pushed : (X : Type 0) (P : X → Type 0) (xs : List X) (y : X) → AllByRecursion P xs → P y → AllByRecursion P (xs ++ y ∷ [])
all_pushed X P [] y all here = (here, tt)
all_pushed X P (x ∷ xs) y all here = (all.0, all_pushed X P xs y all.1 here)

-- things whose chains are of another owner lie apart from a chain
pub lies_apart_by_owner : (X : Type 0) (chain_of : X → Chain) (pool : PoolState) (owner : ℕ) (xs : List X) (other : Chain) → OwnsAll X chain_of pool owner xs
    → IsLive pool other → other.owner ≢ owner → LiesApart X chain_of xs other
lies_apart_by_owner X chain_of pool owner xs other own live differ =
    all_mapped X (λ x. IsOwnChain pool owner (chain_of x)) (λ x. IsApart other (chain_of x)) xs
    (λ x o. apart_by_owner pool other (chain_of x) live o.live (λ e. differ (e ∙ o.owned))) own

-- one more chain that lies apart from all
pub lie_apart_pushed : (X : Type 0) (chain_of : X → Chain) (xs : List X) (y : X) → LieApart X chain_of xs → LiesApart X chain_of xs (chain_of y)
    → LieApart X chain_of (xs ++ y ∷ [])
lie_apart_pushed X chain_of [] y apart here = (tt, tt)
lie_apart_pushed X chain_of (x ∷ xs) y apart here = (
  all_pushed X (λ z. IsApart (chain_of x) (chain_of z)) xs y apart.0
      (apart_turned (chain_of y) (chain_of x) here.0),
  lie_apart_pushed X chain_of xs y apart.1 here.1,
)

-- each of these chains is live and has the bytes that it had
pub kept_each : (X : Type 0) (chain_of : X → Chain) (old new : PoolState) (owner : ℕ) (xs : List X) → OwnsAll X chain_of old owner xs
    → AllByRecursion (λ x. IsLive new (chain_of x) × (chain_bytes new (chain_of x) ≡ chain_bytes old (chain_of x))) xs → KeptAll X chain_of old new owner xs
kept_each X chain_of old new owner [] own each = record { own = tt; bytes = refl; blocks = refl }
kept_each X chain_of old new owner (x ∷ xs) own each =
    let rest = kept_each X chain_of old new owner xs own.1 each.1 in
    let same = each.0.1 in
    let g : X → ℕ = λ y. blocks_for (length (chain_bytes old (chain_of y))) in
    record {
      own = (record { live = each.0.0; owned = own.0.owned }, rest.own);
      bytes = ap (λ b. b ∷ all_bytes X chain_of new xs) same ∙ ap (λ bs. chain_bytes old (chain_of x) ∷ bs) rest.bytes;
      blocks = sum_by-cons (λ y. blocks_for (length (chain_bytes new (chain_of y)))) x xs
          ∙ (ap (λ b. blocks_for (length b) + all_blocks X chain_of new xs) same
          ∙ (ap (λ n. blocks_for (length (chain_bytes old (chain_of x))) + n) rest.blocks ∙ sym (sum_by-cons g x xs)));
    }

-- their chains are live chains of one owner, and another chain lies apart from them
pub record OwnsAllApart (X : Type 0) (chain_of : X → Chain) (pool : PoolState) (owner : ℕ) (xs : List X) (other : Chain) : Type 0 where
  pub own : OwnsAll X chain_of pool owner xs
  pub apart : LiesApart X chain_of xs other

-- A call on one chain, from which all these lie apart, keeps them, and they lie apart from what it became.
pub kept_all : {X : Type 0} {chain_of : X → Chain} {old : PoolState} {owner : ℕ} {before : Chain} {xs : List X} (new : PoolState) (after : Chain)
    → KeepsOthers old new before after → OwnsAllApart X chain_of old owner xs before
    → KeptAll X chain_of old new owner xs × LiesApart X chain_of xs after
kept_all {X} {chain_of} {old} {owner} {before} {xs} new after keeps all =
    let each = all_mapped X (λ x. IsOwnChain old owner (chain_of x) × IsApart before (chain_of x))
    (λ x. IsApart (chain_of x) after × (IsLive new (chain_of x) × (chain_bytes new (chain_of x) ≡ chain_bytes old (chain_of x)))) xs
    (λ x o. let k = keeps (chain_of x) o.0.live (apart_turned before (chain_of x) o.1) in (k.0, (k.1, k.2)))
    (all_joined X (λ x. IsOwnChain old owner (chain_of x)) (λ x. IsApart before (chain_of x)) xs all.own all.apart) in (
      kept_each X chain_of old new owner xs all.own
          (all_mapped X (λ x. IsApart (chain_of x) after × (IsLive new (chain_of x) × (chain_bytes new (chain_of x) ≡ chain_bytes old (chain_of x))))
          (λ x. IsLive new (chain_of x) × (chain_bytes new (chain_of x) ≡ chain_bytes old (chain_of x))) xs (λ x e. e.1) each),
      all_mapped X (λ x. IsApart (chain_of x) after × (IsLive new (chain_of x) × (chain_bytes new (chain_of x) ≡ chain_bytes old (chain_of x))))
          (λ x. IsApart after (chain_of x)) xs (λ x e. apart_turned (chain_of x) after e.0) each,
    )

-- ---- owners

pub used-with_used : (owners : List Owner) (o n : ℕ) → o < length owners → (owner_at (with_used owners o n) o).used ≡ n
used-with_used owners o n low =
    let nobody : Owner = record { quota = 0; used = 0; aside = 0 } in
    ap (λ (x : Owner). x.used) (get_or-set_same owners o (record { quota = (owner_at owners o).quota; used = n; aside = (owner_at owners o).aside }) nobody low)

pub quota-with_used : (owners : List Owner) (o n : ℕ) → o < length owners → (owner_at (with_used owners o n) o).quota ≡ (owner_at owners o).quota
quota-with_used owners o n low =
    ap (λ (x : Owner). x.quota)
    (get_or-set_same owners o (record { quota = (owner_at owners o).quota; used = n; aside = (owner_at owners o).aside }) (grind arith) low)

pub other-with_used : (owners : List Owner) (o n p : ℕ) → p ≢ o → owner_at (with_used owners o n) p ≡ owner_at owners p
other-with_used owners o n p differ =
    get_or-set_other owners o p (record { quota = (owner_at owners o).quota; used = n; aside = (owner_at owners o).aside }) (grind arith) differ

pub length-with_used : (owners : List Owner) (o n : ℕ) → length (with_used owners o n) ≡ length owners
length-with_used owners o n = length-set owners o (record { quota = (owner_at owners o).quota; used = n; aside = (owner_at owners o).aside })

-- a call that changed only what is counted of an owner keeps each chain
pub counted_keeps : (old new : PoolState) (o used aside : ℕ) (chain : Chain) → new.slots ≡ old.slots → new.owners ≡ with_aside old.owners o used aside
    → IsLive old chain
    → IsLive new chain × (chain_bytes new chain ≡ chain_bytes old chain)
counted_keeps old new o used aside chain slots owners live =
    let len : length new.owners ≡ length old.owners = ap length owners
    ∙ length-set old.owners o (record { quota = (owner_at old.owners o).quota; used = used; aside = aside }) in grind arith

-- a use that is counted anew
pub with_used-with_used : (owners : List Owner) (o a b : ℕ) → o < length owners → with_used (with_used owners o a) o b ≡ with_used owners o b
with_used-with_used owners o a b low =
    let nobody : Owner = record { quota = 0; used = 0; aside = 0 } in
    let one : Owner = record { quota = (owner_at owners o).quota; used = a; aside = (owner_at owners o).aside } in
    ap (λ (x : Owner). set (set owners o one) o (record { quota = x.quota; used = b; aside = x.aside })) (get_or-set_same owners o one nobody low)
    ∙ set-set owners o one (record { quota = (owner_at owners o).quota; used = b; aside = (owner_at owners o).aside })

pub with_used-same : (owners : List Owner) (o : ℕ) → with_used owners o (owner_at owners o).used ≡ owners
with_used-same owners o = let nobody : Owner = record { quota = 0; used = 0; aside = 0 } in set-get_or owners o nobody
