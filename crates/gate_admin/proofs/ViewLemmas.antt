-- Hosts one after another, and their masks.
use Rattle.std.proofs.Common.{◌≡◌, ℕ, zero, suc, ◌+◌, ◌-◌, ◌^◌, ◌<◌, ◌≤◌, Bool, true, false, cond, ◌&&◌, ◌||◌, List, [], ◌∷◌, ◌++◌, refl, sym, ap, ◌∙◌, arith}
use Rattle.std.proofs.Common.{lit<}
use Rattle.std.specs.List.{filter, range_with_len, list_any}
use Rattle.std.proofs.lemmas.Bool.{cond_both}
use Rattle.std.proofs.lemmas.Grind.{common_steps}
use Rattle.std.proofs.lemmas.List.Elements.{filter-append}
use Rattle.std.proofs.lemmas.List.Sums.{sum_by-append, sum_by-cons}
use Rattle.gate_admin.specs.View.{mask_of}
use Rattle.gate_admin.specs.Decide.{if_told}

range-more : (a n : ℕ) → range_with_len a (suc n) ≡ range_with_len a n ++ (a + n) ∷ []
range-more a zero = ap (λ k. k ∷ []) (omega arith)
range-more a (suc n) = ap (λ ks. a ∷ ks) (range-more (a + 1) n ∙ ap (λ k. range_with_len (a + 1) n ++ k ∷ []) (omega arith))

-- the hosts below one that pass a test
abbrev pub hosts_below : (ℕ → Bool) → ℕ → List ℕ
hosts_below test host = filter test (range_with_len 1 (host - 1))

hosts_below-more : (test : ℕ → Bool) (host : ℕ) → 1 ≤ host → hosts_below test (host + 1) ≡ hosts_below test host ++ cond (test host) (host ∷ []) []
hosts_below-more test host from =
    let next : host + 1 - 1 ≡ suc (host - 1) = omega arith in
    ap (λ n. filter test (range_with_len 1 n)) next
    ∙ (ap (filter test) (range-more 1 (host - 1) ∙ ap (λ k. range_with_len 1 (host - 1) ++ k ∷ []) (omega arith))
    ∙ filter-append test (range_with_len 1 (host - 1)) (host ∷ []))

pub hosts_below-taken : (test : ℕ → Bool) (host : ℕ) → 1 ≤ host → test host ≡ true → hosts_below test (host + 1) ≡ hosts_below test host ++ host ∷ []
hosts_below-taken test host from passed = hosts_below-more test host from ∙ ap (λ b. hosts_below test host ++ cond b (host ∷ []) []) passed

pub hosts_below-left : (test : ℕ → Bool) (host : ℕ) → 1 ≤ host → test host ≡ false → hosts_below test (host + 1) ≡ hosts_below test host
hosts_below-left test host from failed =
    hosts_below-more test host from ∙ ap (λ b. hosts_below test host ++ cond b (host ∷ []) []) failed ∙ grind (arith, common_steps)

pub mask_of-taken : (test : ℕ → Bool) (host : ℕ) → 1 ≤ host → test host ≡ true
    → mask_of (hosts_below test (host + 1)) ≡ mask_of (hosts_below test host) + 2 ^ host
mask_of-taken test host from passed =
    ap mask_of (hosts_below-taken test host from passed) ∙ (sum_by-append (λ h. 2 ^ h) (hosts_below test host) (host ∷ []) ∙ omega arith)

pub double : (n : ℕ) → 2 ^ (n + 1) ≡ 2 ^ n + 2 ^ n
double n = grind (arith, common_steps)

positive : (n : ℕ) → 0 < 2 ^ n
positive zero = lit< tt
positive (suc n) = let less = positive n in let twice = double n in let next : suc n ≡ n + 1 = omega arith in let same = ap (λ k. 2 ^ k) next in omega arith

any-step : (p q : ℕ → Bool) (host : ℕ) (passed hosts : List ℕ) → list_any p passed ≡ list_any (λ host. q host && p host) hosts
    → list_any p (cond (q host) (host ∷ passed) passed) ≡ (q host && p host) || list_any (λ host. q host && p host) hosts
any-step p q host passed hosts same =
    cond_both (q host) (host ∷ passed) passed (λ hs. list_any p hs ≡ (q host && p host) || list_any (λ host. q host && p host) hosts)
    (λ yes. ap (λ some. p host || some) same ∙ ap (λ b. (b && p host) || list_any (λ host. q host && p host) hosts) (sym yes))
    (λ no. same ∙ ap (λ b. (b && p host) || list_any (λ host. q host && p host) hosts) (sym no))

-- a test among the hosts that pass another
pub any-filter : (p q : ℕ → Bool) (hosts : List ℕ) → list_any p (filter q hosts) ≡ list_any (λ host. q host && p host) hosts
any-filter p q [] = refl
any-filter p q (host ∷ hosts) = any-step p q host (filter q hosts) hosts (any-filter p q hosts)

-- where nobody is told there is no notice
pub if_told-none : (told notice : List ℕ) → mask_of told ≡ 0 → if_told told notice ≡ []
if_told-none [] notice none = refl
if_told-none (host ∷ told) notice none = let some = positive host in let sum = sum_by-cons (λ h. 2 ^ h) host told in absurd (omega arith)

pub if_told-some : (told notice : List ℕ) → (mask_of told ≡ 0 → ⊥) → if_told told notice ≡ notice
if_told-some [] notice some = absurd (some refl)
if_told-some (host ∷ told) notice some = refl

-- the hosts from one on, up to 07
abbrev pub hosts_from : ℕ → List ℕ
hosts_from host = range_with_len host (8 - host)

-- one that passes both tests is found among those from it on, and one that fails one of them isn't
pub any-here : (p q : ℕ → Bool) (host : ℕ) → host < 8 → q host ≡ true → p host ≡ true → list_any p (filter q (hosts_from host)) ≡ true
any-here p q host below passed found =
    ap (λ hosts. list_any p (filter q hosts)) (let next : 8 - host ≡ suc (8 - (host + 1)) = omega arith in ap (range_with_len host) next)
    ∙ (ap (λ b. list_any p (cond b (host ∷ filter q (hosts_from (host + 1))) (filter q (hosts_from (host + 1))))) passed
    ∙ ap (λ b. b || list_any p (filter q (hosts_from (host + 1)))) found)

pub any-later : (p q : ℕ → Bool) (host : ℕ) → host < 8 → (q host && p host) ≡ false
    → list_any p (filter q (hosts_from host)) ≡ list_any p (filter q (hosts_from (host + 1)))
any-later p q host below failed =
    ap (λ hosts. list_any p (filter q hosts)) (let next : 8 - host ≡ suc (8 - (host + 1)) = omega arith in ap (range_with_len host) next)
    ∙ (any-filter p q (host ∷ hosts_from (host + 1))
    ∙ (ap (λ b. b || list_any (λ h. q h && p h) (hosts_from (host + 1))) failed
    ∙ sym (any-filter p q (hosts_from (host + 1)))))
