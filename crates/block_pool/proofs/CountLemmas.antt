-- How calls change what owners use.
use Rattle.std.proofs.lemmas.List.Sums.{get_or-le-sum_by}
use Rattle.block_pool.proofs.Words.{AreCounted, AreFree, Held, List, None, Option, Owner, PoolState, Some, [], ap, arith, blocks_for, cases_eq, cond, eq-eqb}
use Rattle.block_pool.proofs.Words.{get_or, get_or-set_other, get_or-set_same, held_bytes, inl, inr, length, length-append, length-map, length-set, named_bytes}
use Rattle.block_pool.proofs.Words.{ne_eqb, refl, replicate, set, set-set, slot, spare_of, subst, suc, sum_by, sum_by-cons, sum_by-set, sym, with_chain, zero}
use Rattle.block_pool.proofs.Words.{ℕ, ◌++◌, ◌+◌, ◌-◌, ◌<◌, ◌∙◌, ◌∷◌, ◌≡◌, ◌≢◌, ◌≤◌}
use Rattle.block_pool.specs.Names.{IsLiveAt, IsNamedAfter, put_at, removed_at}
use Rattle.block_pool.specs.Owners.{owner_at, with_aside, new_owners}
use Rattle.block_pool.specs.Pool.{aside_of, quota_of, used_of}
use Rattle.block_pool.specs.Counts.{IsCounted, blocks_held, blocks_in}
use Rattle.block_pool.proofs.SlotLemmas.{slot_low}

-- ---- sums

-- where each term is no more, the sum is no more
sum_le : {X : Type 0} (f g : X → ℕ) (d : X) (xs : List X) → ((i : ℕ) → i < length xs → f (get_or xs i d) ≤ g (get_or xs i d)) → sum_by f xs ≤ sum_by g xs
sum_le f g d [] each = omega arith
sum_le f g d (x ∷ xs) each =
    let head : f x ≤ g x = each 0 (omega arith) in
    let rest = sum_le f g d xs (λ i low. each (suc i) (omega arith)) in
    omega (arith, sum_by-cons f x xs, sum_by-cons g x xs)

-- ---- one chain

in_same : (o : ℕ) (bytes : List ℕ) → blocks_in o (Some (record { owner = o; bytes = bytes })) ≡ blocks_for (length bytes)
in_same o bytes = ap (λ b. cond b (blocks_for (length bytes)) 0) (eq-eqb o o refl)

in_other : (p o : ℕ) (bytes : List ℕ) → p ≢ o → blocks_in p (Some (record { owner = o; bytes = bytes })) ≡ 0
in_other p o bytes apart = ap (λ b. cond b (blocks_for (length bytes)) 0) (ne_eqb o p (λ e. apart (sym e)))

-- a live chain lies at its name
pub live_slot : (slots : List (Option Held)) (o b : ℕ) → IsLiveAt slots o (Some b) → slot slots b ≡ Some (record { owner = o; bytes = held_bytes slots b })
live_slot slots o b live = grind arith

-- one slot written
held_set : (slots : List (Option Held)) (b : ℕ) (v : Option Held) (p : ℕ) → b < length slots
    → blocks_held (set slots b v) p + blocks_in p (slot slots b) ≡ blocks_held slots p + blocks_in p v
held_set slots b v p low = sum_by-set (blocks_in p) slots b v None low

-- ---- a chain grown, freed or begun

grown_held : (slots : List (Option Held)) (o b : ℕ) (bytes : List ℕ) → IsLiveAt slots o (Some b)
    → blocks_held (with_chain slots b o (held_bytes slots b ++ bytes)) o + blocks_for (length (held_bytes slots b))
    ≡ blocks_held slots o + blocks_for (length (held_bytes slots b) + length bytes)
grown_held slots o b bytes live =
    let before : blocks_in o (slot slots b) ≡ blocks_for (length (held_bytes slots b)) = grind arith in
    let after : blocks_in o (Some (record { owner = o; bytes = held_bytes slots b ++ bytes })) ≡ blocks_for (length (held_bytes slots b) + length bytes) =
    in_same o (held_bytes slots b ++ bytes) ∙ ap blocks_for (length-append (held_bytes slots b) bytes) in
    omega (arith, held_set slots b (Some (record { owner = o; bytes = held_bytes slots b ++ bytes })) o (slot_low slots b live.0), before, after)

grown_others : (slots : List (Option Held)) (o b p : ℕ) (bytes : List ℕ) → IsLiveAt slots o (Some b) → p ≢ o
    → blocks_held (with_chain slots b o bytes) p ≡ blocks_held slots p
grown_others slots o b p bytes live apart =
    let before : blocks_in p (slot slots b) ≡ 0 = ap (blocks_in p) (live_slot slots o b live) ∙ in_other p o (held_bytes slots b) apart in
    omega (arith, held_set slots b (Some (record { owner = o; bytes = bytes })) p (slot_low slots b live.0), before, in_other p o bytes apart)

begun_held : (slots : List (Option Held)) (o b : ℕ) (bytes : List ℕ) → b < length slots → slot slots b ≡ None
    → blocks_held (with_chain slots b o bytes) o ≡ blocks_held slots o + blocks_for (length bytes)
begun_held slots o b bytes low none =
    omega (arith, held_set slots b (Some (record { owner = o; bytes = bytes })) o low, ap (blocks_in o) none, in_same o bytes)

begun_others : (slots : List (Option Held)) (o b p : ℕ) (bytes : List ℕ) → b < length slots → slot slots b ≡ None → p ≢ o
    → blocks_held (with_chain slots b o bytes) p ≡ blocks_held slots p
begun_others slots o b p bytes low none apart =
    omega (arith, held_set slots b (Some (record { owner = o; bytes = bytes })) p low, ap (blocks_in p) none, in_other p o bytes apart)

no_blocks : blocks_for 0 ≡ 0
no_blocks = refl

pub append_held : (slots : List (Option Held)) (o : ℕ) (before : Option ℕ) (bytes : List ℕ) (after : Option ℕ) → IsLiveAt slots o before
    → IsNamedAfter slots before bytes after
    → blocks_held (put_at slots after o (named_bytes slots before ++ bytes)) o + blocks_for (length (named_bytes slots before))
    ≡ blocks_held slots o + blocks_for (length (named_bytes slots before) + length bytes)
append_held slots o (Some b) bytes after live name =
    ap (λ n. blocks_held (put_at slots n o (held_bytes slots b ++ bytes)) o + blocks_for (length (held_bytes slots b))) name ∙ grown_held slots o b bytes live
append_held slots o None [] after live name = ap (λ n. blocks_held (put_at slots n o []) o + blocks_for 0) name
append_held slots o None (byte ∷ bytes) after live name =
    ap (λ n. blocks_held (put_at slots n o (byte ∷ bytes)) o + blocks_for 0) name.1
    ∙ (let begun = begun_held slots o name.0 (byte ∷ bytes) name.2 name.3 in
    let plain : 0 + length (byte ∷ bytes) ≡ length (byte ∷ bytes) = omega arith in
    ap (λ n. n + blocks_for 0) begun ∙ (omega (arith, no_blocks) ∙ ap (λ n. blocks_held slots o + blocks_for n) (sym plain)))

pub append_others : (slots : List (Option Held)) (o : ℕ) (before : Option ℕ) (bytes : List ℕ) (after : Option ℕ) (p : ℕ) → IsLiveAt slots o before
    → IsNamedAfter slots before bytes after → p ≢ o → blocks_held (put_at slots after o (named_bytes slots before ++ bytes)) p ≡ blocks_held slots p
append_others slots o (Some b) bytes after p live name apart =
    ap (λ n. blocks_held (put_at slots n o (held_bytes slots b ++ bytes)) p) name ∙ grown_others slots o b p (held_bytes slots b ++ bytes) live apart
append_others slots o None [] after p live name apart = ap (λ n. blocks_held (put_at slots n o []) p) name
append_others slots o None (byte ∷ bytes) after p live name apart =
    ap (λ n. blocks_held (put_at slots n o (byte ∷ bytes)) p) name.1 ∙ begun_others slots o name.0 p (byte ∷ bytes) name.2 name.3 apart

pub remove_held : (slots : List (Option Held)) (o : ℕ) (name : Option ℕ) → IsLiveAt slots o name
    → blocks_held (removed_at slots name) o + blocks_for (length (named_bytes slots name)) ≡ blocks_held slots o
remove_held slots o None live = omega (arith, no_blocks)
remove_held slots o (Some b) live =
    let changed = held_set slots b None o (slot_low slots b live.0) in
    let before : blocks_in o (slot slots b) ≡ blocks_for (length (held_bytes slots b)) = grind arith in
    omega (arith, changed, before)

pub remove_others : (slots : List (Option Held)) (o : ℕ) (name : Option ℕ) (p : ℕ) → IsLiveAt slots o name → p ≢ o
    → blocks_held (removed_at slots name) p ≡ blocks_held slots p
remove_others slots o None p live apart = refl
remove_others slots o (Some b) p live apart =
    let before : blocks_in p (slot slots b) ≡ 0 = ap (blocks_in p) (live_slot slots o b live) ∙ in_other p o (held_bytes slots b) apart in
    omega (arith, held_set slots b None p (slot_low slots b live.0), before)

-- a chain put back where one was removed
pub again_held : (slots : List (Option Held)) (o q : ℕ) (name : Option ℕ) → IsLiveAt slots o name
    → blocks_held (put_at slots name q (named_bytes slots name)) q ≡ blocks_held (removed_at slots name) q + blocks_for (length (named_bytes slots name))
again_held slots o q None live = omega (arith, no_blocks)
again_held slots o q (Some b) live =
    let low = slot_low slots b live.0 in
    ap (λ ss. blocks_held ss q) (sym (set-set slots b None (Some (record { owner = q; bytes = held_bytes slots b }))))
    ∙ begun_held (set slots b None) q b (held_bytes slots b) (omega (arith, low, length-set slots b None)) (get_or-set_same slots b None None low)

pub again_others : (slots : List (Option Held)) (o q : ℕ) (name : Option ℕ) (p : ℕ) → IsLiveAt slots o name → p ≢ q
    → blocks_held (put_at slots name q (named_bytes slots name)) p ≡ blocks_held (removed_at slots name) p
again_others slots o q None p live apart = refl
again_others slots o q (Some b) p live apart =
    let low = slot_low slots b live.0 in
    ap (λ ss. blocks_held ss p) (sym (set-set slots b None (Some (record { owner = q; bytes = held_bytes slots b }))))
    ∙ begun_others (set slots b None) q b p (held_bytes slots b) (omega (arith, low, length-set slots b None)) (get_or-set_same slots b None None low) apart

-- ---- owners

module _ (pool : PoolState) (counted : IsCounted pool) (free : ℕ) (rest : AreFree pool.owners free) where
  -- what is set aside is used
  aside_low : (i : ℕ) → i < length pool.owners → (owner_at pool.owners i).aside ≤ (owner_at pool.owners i).used
  aside_low i low = omega (arith, counted.used i low)

  -- there are no more free blocks than all
  pub free_low : free ≤ 16384
  free_low =
      omega (arith, rest, (sum_le (λ o. o.aside) (λ o. o.used) (record { quota = 0; used = 0; aside = 0 }) pool.owners aside_low), counted.few_blocks)

module _ (pool : PoolState) (counted : IsCounted pool) (o : ℕ) (has : o < length pool.owners) where
  -- a quota is no more than all of them
  pub quota_low : quota_of pool o ≤ 16384
  quota_low = omega (arith, get_or-le-sum_by (λ x. x.quota) pool.owners o (record { quota = 0; used = 0; aside = 0 }) has, counted.few_blocks)

  pub used_low : used_of pool o ≤ 16384
  used_low = omega (arith, quota_low, counted.within o)

  -- a live chain's blocks are used by its owner
  pub chain_low : (name : Option ℕ) → IsLiveAt pool.slots o name → blocks_for (length (named_bytes pool.slots name)) ≤ used_of pool o
  chain_low name live = omega (arith, remove_held pool.slots o name live, counted.used o has)

  -- the owners' counts after one of them changed
  pub counted_after : (slots : List (Option Held)) (used aside : ℕ) → used ≡ aside + blocks_held slots o → used ≤ quota_of pool o
      → ((p : ℕ) → p ≢ o → blocks_held slots p ≡ blocks_held pool.slots p) → AreCounted slots (with_aside pool.owners o used aside)
  counted_after slots used aside is_used within others =
      let new : Owner = record { quota = quota_of pool o; used = used; aside = aside } in
      let owners = with_aside pool.owners o used aside in
      let nobody : Owner = record { quota = 0; used = 0; aside = 0 } in
      let here : get_or owners o nobody ≡ new = get_or-set_same pool.owners o new nobody has in
      let there = λ (p : ℕ) (apart : p ≢ o). get_or-set_other pool.owners o p new nobody apart in
      let len = length-set pool.owners o new in
      record {
        used = λ p low. elim (cases_eq p o) [
          | inl same ↦ subst (λ x. (get_or owners x nobody).used ≡ (get_or owners x nobody).aside + blocks_held slots x) (sym same)
              (ap (λ x. x.used) here ∙ (is_used ∙ ap (λ n. n + blocks_held slots o) (sym (ap (λ x. x.aside) here))))
          | inr apart ↦ ap (λ x. x.used) (there p apart) ∙ (counted.used p (omega (arith, len))
              ∙ (ap (λ n. (get_or pool.owners p nobody).aside + n) (sym (others p apart))
              ∙ ap (λ n. n + blocks_held slots p) (sym (ap (λ x. x.aside) (there p apart)))))
        ];
        within = grind arith;
        few_blocks = omega (arith, sum_by-set (λ x. x.quota) pool.owners o new nobody has, counted.few_blocks);
        few_owners = omega (arith, len, counted.few_owners);
      }

  pub free_after : (slots : List (Option Held)) (free used aside left : ℕ) → AreFree pool.owners free
      → left + used + aside_of pool o ≡ free + used_of pool o + aside → AreFree (with_aside pool.owners o used aside) left
  free_after slots free used aside left rest change =
      let new : Owner = record { quota = quota_of pool o; used = used; aside = aside } in
      let nobody : Owner = record { quota = 0; used = 0; aside = 0 } in
      omega (
        arith,
        rest,
        change,
        sum_by-set (λ x. x.quota) pool.owners o new nobody has,
        sum_by-set (λ x. x.used) pool.owners o new nobody has,
        sum_by-set
            (λ x. x.aside) pool.owners o new nobody has,
      )

  -- what an owner may still use is free
  pub enough_free : (free : ℕ) → AreFree pool.owners free → spare_of pool o ≤ free
  enough_free free rest =
      let full : Owner = record { quota = quota_of pool o; used = quota_of pool o; aside = aside_of pool o } in
      let nobody : Owner = record { quota = 0; used = 0; aside = 0 } in
      let owners = set pool.owners o full in
      let sums = sum_le (λ x. x.used) (λ x. x.quota) nobody owners (λ p low. elim (cases_eq p o) [
        | inl same ↦ subst (λ x. (get_or owners x nobody).used ≤ (get_or owners x nobody).quota) (sym same)
            (omega (arith, ap (λ x. x.used) (get_or-set_same pool.owners o full nobody has), ap (λ x. x.quota) (get_or-set_same pool.owners o full nobody has)))
        | inr apart ↦ omega (
          arith,
          ap (λ x. x.used) (get_or-set_other pool.owners o p full nobody apart),
          ap (λ x. x.quota)
              (get_or-set_other pool.owners o p full nobody apart),
          counted.within p,
        )
      ]) in
      omega (arith, rest, sums, sum_by-set (λ x. x.quota) pool.owners o full nobody has, sum_by-set (λ x. x.used) pool.owners o full nobody has)

-- ---- whole calls

-- an owner that uses fewer blocks, and one that uses more
abbrev pub less : Owner → ℕ → Owner
less owner n = record { quota = owner.quota; used = owner.used - n; aside = owner.aside }

abbrev pub more : Owner → ℕ → Owner
more owner n = record { quota = owner.quota; used = owner.used + n; aside = owner.aside }

-- a live chain, how many blocks it has, and what is counted of its owner
pub record IsCountedChain (pool : PoolState) (o : ℕ) (name : Option ℕ) (n : ℕ) (old : Owner) : Type 0 where
  pub has : o < length pool.owners
  pub live : IsLiveAt pool.slots o name
  pub blocks : n ≡ blocks_for (length (named_bytes pool.slots name))
  pub counts : old ≡ owner_at pool.owners o

-- an owner takes so many blocks more for bytes that are appended to a chain of its own, and has room for them
pub record TakesBlocks (pool : PoolState) (o : ℕ) (name : Option ℕ) (bytes : List ℕ) (free left n : ℕ) : Type 0 where
  pub left_is : left + blocks_for (length (named_bytes pool.slots name) + length bytes) ≡ free + blocks_for (length (named_bytes pool.slots name))
  pub more_is : n ≡ blocks_for (length (named_bytes pool.slots name) + length bytes) - blocks_for (length (named_bytes pool.slots name))
  pub room : n ≤ spare_of pool o

-- bytes were appended to a chain of an owner
pub taken_counted : {pool : PoolState} {o : ℕ} {before : Option ℕ} {bytes : List ℕ} {had n left : ℕ} {old : Owner} {slots : List (Option Held)}
    (counted : IsCounted pool) (free : ℕ) (rest : AreFree pool.owners free) (after : Option ℕ)
    → IsCountedChain pool o before had old → TakesBlocks pool o before bytes free left n → IsNamedAfter pool.slots before bytes after
    → slots ≡ put_at pool.slots after o (named_bytes pool.slots before ++ bytes)
    → AreCounted slots (set pool.owners o (more old n)) × AreFree (set pool.owners o (more old n)) left
taken_counted {pool} {o} {before} {bytes} {n = n} {left} {slots = slots} counted free rest after chain takes name slots_are =
    let len = length (named_bytes pool.slots before) in
    let grows : blocks_for len ≤ blocks_for (len + length bytes) = omega arith in
    let held = append_held pool.slots o before bytes after chain.live name in
    let held_is : blocks_held slots o ≡ blocks_held pool.slots o + n = ap (λ ss. blocks_held ss o) slots_are ∙ omega (arith, held, takes.more_is, grows) in
    subst (λ (x : Owner). AreCounted slots (set pool.owners o (more x n)) × AreFree (set pool.owners o (more x n)) left) (sym chain.counts) (
      counted_after pool counted o chain.has slots (used_of pool o + n) (aside_of pool o) (omega (arith, held_is, counted.used o chain.has))
          (omega (arith, counted.within o, takes.room))
          (λ p apart. ap (λ ss. blocks_held ss p) slots_are ∙ append_others pool.slots o before bytes after p chain.live name apart),
      free_after pool counted o chain.has slots free (used_of pool o + n) (aside_of pool o) left rest (omega (arith, takes.left_is, takes.more_is, grows)),
    )

-- a chain's blocks were given back
pub given_counted : {pool : PoolState} {o : ℕ} {name : Option ℕ} {n left : ℕ} {old : Owner} {slots : List (Option Held)} (counted : IsCounted pool)
    (free : ℕ) (rest : AreFree pool.owners free)
    → IsCountedChain pool o name n old → slots ≡ removed_at pool.slots name → left ≡ free + blocks_for (length (named_bytes pool.slots name))
    → AreCounted slots (set pool.owners o (less old n)) × AreFree (set pool.owners o (less old n)) left
given_counted {pool} {o} {name} {n} {left} {old} {slots} counted free rest chain slots_are left_is =
    let has = chain.has in
    let low = chain_low pool counted o has name chain.live in
    let held = remove_held pool.slots o name chain.live in
    let held_is : blocks_held slots o + n ≡ blocks_held pool.slots o = ap (λ ss. blocks_held ss o + n) slots_are ∙ omega (arith, held, chain.blocks) in
    subst (λ (x : Owner). AreCounted slots (set pool.owners o (less x n)) × AreFree (set pool.owners o (less x n)) left) (sym chain.counts) (
      counted_after pool counted o has slots (used_of pool o - n) (aside_of pool o) (omega (arith, held_is, counted.used o has, low, chain.blocks))
          (omega (arith, counted.within o))
          (λ p apart. ap (λ ss. blocks_held ss p) slots_are ∙ remove_others pool.slots o name p chain.live apart),
      free_after pool counted o has slots free (used_of pool o - n) (aside_of pool o) left rest (omega (arith, left_is, chain.blocks, low)),
    )

-- an owner has room for so many blocks, once the one that had them has them no more
pub record HasRoomFor (pool : PoolState) (o q n : ℕ) (old new : Owner) : Type 0 where
  pub has : q < length pool.owners
  pub room : n ≤ spare_of pool q
  pub counts : new ≡ owner_at (set pool.owners o (less old n)) q

-- a chain went to another owner: as if it was given back and taken again
pub passed_counted : {pool : PoolState} {o q : ℕ} {name : Option ℕ} {n : ℕ} {old new : Owner} {slots : List (Option Held)} (counted : IsCounted pool)
    (free : ℕ) (rest : AreFree pool.owners free)
    → IsCountedChain pool o name n old → HasRoomFor pool o q n old new → slots ≡ put_at pool.slots name q (named_bytes pool.slots name)
    → AreCounted slots (set (set pool.owners o (less old n)) q (more new n)) × AreFree (set (set pool.owners o (less old n)) q (more new n)) free
passed_counted {pool} {o} {q} {name} {n} {old} {new} {slots} counted free rest chain taker slots_are =
    let lowered = less old n in
    let between : PoolState = record { slots = removed_at pool.slots name; owners = set pool.owners o lowered; places = pool.places } in
    let nobody : Owner = record { quota = 0; used = 0; aside = 0 } in
    let one = given_counted counted free rest chain refl refl in
    let still : q < length between.owners = omega (arith, taker.has, length-set pool.owners o lowered) in
    let fits : (get_or between.owners q nobody).used + n ≤ (get_or between.owners q nobody).quota = elim (cases_eq q o) [
      | inl same ↦
          let here = ap (λ x. get_or between.owners x nobody) same ∙ get_or-set_same pool.owners o lowered nobody chain.has in
          omega (
            arith,
            ap (λ x. x.used) here,
            ap (λ x. x.quota) here,
            ap (λ x. x.used) chain.counts,
            ap (λ x. x.quota) chain.counts,
            counted.within o,
            (chain_low pool counted o chain.has name chain.live),
            chain.blocks,
          )
      | inr apart ↦
          let there = get_or-set_other pool.owners o q lowered nobody apart in
          omega (arith, ap (λ x. x.used) there, ap (λ x. x.quota) there, taker.room, counted.within q)
    ] in
    let used = (get_or between.owners q nobody).used in
    let aside = (get_or between.owners q nobody).aside in
    let held = again_held pool.slots o q name chain.live in
    let held_is : blocks_held slots q ≡ blocks_held between.slots q + n = ap (λ ss. blocks_held ss q) slots_are ∙ omega (arith, held, chain.blocks) in
    subst (λ (x : Owner). AreCounted slots (set between.owners q (more x n)) × AreFree (set between.owners q (more x n)) free) (sym taker.counts) (
      counted_after between one.0 q still slots (used + n) aside (omega (arith, held_is, one.0.used q still)) fits
          (λ p apart. ap (λ ss. blocks_held ss p) slots_are ∙ again_others pool.slots o q name p chain.live apart),
      free_after between one.0 q still slots (free + blocks_for (length (named_bytes pool.slots name))) (used + n) aside free one.1
          (omega (arith, chain.blocks)),
    )

-- ---- a new pool

nothing_held : (n p : ℕ) → blocks_held (replicate n None) p ≡ 0
nothing_held zero p = refl
nothing_held (suc n) p = sum_by-cons (blocks_in p) None (replicate n None) ∙ (ap (λ k. 0 + k) (nothing_held n p) ∙ omega arith)

new_owner : (quotas : List ℕ) (p : ℕ) → (owner_at (new_owners quotas) p).used ≡ 0 × (owner_at (new_owners quotas) p).aside ≡ 0
new_owner [] p = (refl, refl)
new_owner (quota ∷ quotas) zero = (refl, refl)
new_owner (quota ∷ quotas) (suc p) = new_owner quotas p

new_sums : (quotas : List ℕ)
    → (sum_by (λ o. o.quota) (new_owners quotas) ≡ sum_by (λ quota. quota) quotas) × (sum_by (λ o. o.used) (new_owners quotas) ≡ 0)
    × (sum_by (λ o. o.aside) (new_owners quotas) ≡ 0)
new_sums [] = (refl, refl, refl)
new_sums (quota ∷ quotas) =
    let new : Owner = record { quota = quota; used = 0; aside = 0 } in
    let rest = new_sums quotas in (
      omega (arith, sum_by-cons (λ (o : Owner). o.quota) new (new_owners quotas), sum_by-cons (λ (q : ℕ). q) quota quotas, rest.0),
      omega (arith, sum_by-cons (λ (o : Owner). o.used) new (new_owners quotas), rest.1),
      omega (arith, sum_by-cons (λ (o : Owner). o.aside) new (new_owners quotas), rest.2),
    )

pub new_counted : (quotas : List ℕ) (total : ℕ) (slots : List (Option Held)) (owners : List Owner) → length quotas ≤ 256
    → sum_by (λ quota. quota) quotas ≤ 16384 → total ≡ sum_by (λ quota. quota) quotas → slots ≡ replicate total None → owners ≡ new_owners quotas
    → AreCounted slots owners × AreFree owners total
new_counted quotas total slots owners few_owners few_blocks total_is slots_are owners_are =
    let sums = new_sums quotas in
    subst (λ os. AreCounted slots os × AreFree os total) (sym owners_are) (
      record {
        used = λ p low. (new_owner quotas p).0 ∙ (sym (omega (arith, (new_owner quotas p).1, ap (λ ss. blocks_held ss p) slots_are, nothing_held total p)));
        within = λ p. omega (arith, (new_owner quotas p).0);
        few_blocks = omega (arith, sums.0, few_blocks);
        few_owners = omega (arith, length-map quotas (λ (quota : ℕ). let o : Owner = record { quota = quota; used = 0; aside = 0 } in o), few_owners);
      },
      omega (arith, sums.0, sums.1, sums.2, total_is),
    )
