-- The hosts of a mask, one after another.
use Rattle.std.proofs.Common.{length-append, ◌-◌}
use Rattle.node_deeds.proofs.Words.{AreDoable, Bool, Deed, Handling, KeptDeed, List, Tells, TellsFew, [], ap, append_assoc, ap₂, arith, deed_shown, deeds_shown}
use Rattle.node_deeds.proofs.Words.{false, has, hosts_below, hosts_below-left, inl, inr, length, map, map-append, refl, subst, suc, sym, true, zero, ℕ, ◌++◌}
use Rattle.node_deeds.proofs.Words.{◌+◌, ◌<◌, ◌∙◌, ◌∷◌, ◌≡◌, ◌≤◌}
use Rattle.registry.proofs.ValueLemmas.{AllByRecursion-append}
use Rattle.gate_admin.specs.View.{hosts_where}
use Rattle.gate_admin.proofs.ViewLemmas.{hosts_below-taken}
use Rattle.node_deeds.specs.declared.deeds.Deed.TheVariants as kept
use Rattle.node_deeds.specs.Cores.{IsDoable}

one_more : (xs : List ℕ) (x : ℕ) → length (xs ++ x ∷ []) ≡ length xs + 1
one_more [] x = refl
one_more (y ∷ xs) x = let rest = one_more xs x in omega arith

pub taken_more : (test : ℕ → Bool) (host : ℕ) → 1 ≤ host → test host ≡ true → length (hosts_below test (host + 1)) ≡ length (hosts_below test host) + 1
taken_more test host from passed = ap length (hosts_below-taken test host from passed) ∙ one_more (hosts_below test host) host

not_fewer : (test : ℕ → Bool) (host : ℕ) → 1 ≤ host → length (hosts_below test host) ≤ length (hosts_below test (host + 1))
not_fewer test host from = by (test host) refl where
  by : (b : Bool) → test host ≡ b → length (hosts_below test host) ≤ length (hosts_below test (host + 1))
  by true passed = let more = taken_more test host from passed in omega arith
  by false failed = let same = ap length (hosts_below-left test host from failed) in omega arith

few_below : (test : ℕ → Bool) (n host : ℕ) → 1 ≤ host → host + n ≡ 8 → length (hosts_below test host) ≤ length (hosts_below test 8)
few_below test zero host from is = let at : host ≡ 8 = omega arith in let same = ap (λ h. length (hosts_below test h)) at in omega arith
few_below test (suc n) host from is =
    let here = not_fewer test host from in
    let later = few_below test n (host + 1) (omega arith) (omega arith) in
    omega arith

-- no more hosts below one pass than pass at all
pub few_taken : (test : ℕ → Bool) (host : ℕ) → 1 ≤ host → host ≤ 8 → length (hosts_below test host) ≤ length (hosts_where test)
unfolding hosts_where
few_taken test host from most = few_below test (8 - host) host from (omega arith)

-- one more is told
pub told_more : (a : Handling) (test : ℕ → Bool) (host : ℕ) (items more : List KeptDeed) (before : List Deed) (notice copy : List ℕ) → 1 ≤ host
    → test host ≡ true → deeds_shown a items ≡ before ++ map (λ told. Tells told notice) (hosts_below test host) → copy ≡ notice
    → more ≡ items ++ kept.Tells host (record { items = copy }) ∷ []
    → deeds_shown a more ≡ before ++ map (λ told. Tells told notice) (hosts_below test (host + 1))
told_more a test host items more before notice copy from passed so_far same is =
    ap (deeds_shown a) is
    ∙ (map-append (deed_shown a) items (kept.Tells host (record { items = copy }) ∷ [])
    ∙ (ap₂ (λ xs bytes. xs ++ Tells host bytes ∷ []) so_far same
    ∙ (append_assoc before (map (λ told. Tells told notice) (hosts_below test host)) (Tells host notice ∷ [])
    ∙ ap (λ xs. before ++ xs)
    (sym (map-append (λ told. Tells told notice) (hosts_below test host) (host ∷ []))
    ∙ ap (map (λ told. Tells told notice)) (sym (hosts_below-taken test host from passed))))))

pub told_no_more : (a : Handling) (test : ℕ → Bool) (host : ℕ) (items : List KeptDeed) (before : List Deed) (notice : List ℕ) → 1 ≤ host
    → test host ≡ false → deeds_shown a items ≡ before ++ map (λ told. Tells told notice) (hosts_below test host)
    → deeds_shown a items ≡ before ++ map (λ told. Tells told notice) (hosts_below test (host + 1))
told_no_more a test host items before notice from failed so_far =
    so_far ∙ ap (λ hosts. before ++ map (λ told. Tells told notice) hosts) (sym (hosts_below-left test host from failed))

pub many_more : (test : ℕ → Bool) (host : ℕ) (items more : List KeptDeed) (d : KeptDeed) → 1 ≤ host → test host ≡ true
    → length items ≡ 3 + length (hosts_below test host) → more ≡ items ++ d ∷ [] → length more ≡ 3 + length (hosts_below test (host + 1))
many_more test host items more d from passed so_far is =
    let grown = ap length is ∙ length-append items (d ∷ []) in
    let taken = taken_more test host from passed in
    omega arith

pub many_no_more : (test : ℕ → Bool) (host : ℕ) (items : List KeptDeed) → 1 ≤ host → test host ≡ false
    → length items ≡ 3 + length (hosts_below test host) → length items ≡ 3 + length (hosts_below test (host + 1))
many_no_more test host items from failed so_far = let left = ap length (hosts_below-left test host from failed) in omega arith

-- a host that is told finds a notice
pub is_said : (tell : ℕ) (notice : List ℕ) (host : ℕ) → TellsFew tell notice → 1 ≤ host → host < 8 → has tell host ≡ true → 0 < length notice
is_said tell notice host few from below passed = elim few.said [
  | inl none ↦
      let nobody = ap length none in
      let taken = taken_more (has tell) host from passed in
      let all = few_taken (has tell) (host + 1) (omega arith) (omega arith) in
      absurd (omega arith)
  | inr some ↦ some
]

-- there is room for one more deed
pub has_place : (tell : ℕ) (notice : List ℕ) (host : ℕ) (items : List KeptDeed) → TellsFew tell notice → 1 ≤ host → host < 8 → has tell host ≡ true
    → length items ≡ 3 + length (hosts_below (has tell) host) → length items < 9
has_place tell notice host items few from below passed many =
    let taken = taken_more (has tell) host from passed in
    let all = few_taken (has tell) (host + 1) (omega arith) (omega arith) in
    let most = few.few in
    omega arith

pub doable_more : (items more : List KeptDeed) (host : ℕ) (copy : List ℕ) → AreDoable items → 0 < length copy
    → more ≡ items ++ kept.Tells host (record { items = copy }) ∷ [] → AreDoable more
doable_more items more host copy doable some is =
    subst AreDoable (sym is) (AllByRecursion-append IsDoable items (kept.Tells host (record { items = copy }) ∷ []) doable (some, tt))
