-- Lists that are filled up with one value.
use Rattle.std.proofs.lemmas.List.{get_or-replicate}
use Rattle.block_pool.proofs.Words.{List, [], ap, arith, cases_lt, get_or, get_or-append_right, get_or_append_left, get_or_past, inl, inr, length}
use Rattle.block_pool.proofs.Words.{length-replicate, refl, replicate, set, suc, sum_by, sum_by-cons, sym, zero, ℕ, ◌++◌, ◌-◌, ◌<◌, ◌∙◌, ◌∷◌, ◌≡◌}

-- an element of what is there, and the value behind it
pub get_or-filled : {A : Type 0} (xs : List A) (n k : ℕ) (x : A) → get_or (xs ++ replicate n x) k x ≡ get_or xs k x
get_or-filled xs n k x = elim (cases_lt k (length xs)) [
  | inl low ↦ get_or_append_left xs (replicate n x) x k low
  | inr high ↦ get_or-append_right xs (replicate n x) (length xs) k x refl high
      ∙ (get_or-same n (k - length xs) x ∙ sym (get_or_past xs k x high))
]
  where
    get_or-same : {A : Type 0} (n k : ℕ) (x : A) → get_or (replicate n x) k x ≡ x
    get_or-same n k x = elim (cases_lt k n) [
      | inl low ↦ get_or-replicate n k x x low
      | inr high ↦ get_or_past (replicate n x) k x (omega (arith, length-replicate n x))
    ]

-- an element that is there is written
set-before : {A : Type 0} (xs ys : List A) (k : ℕ) (x : A) → k < length xs → set xs k x ++ ys ≡ set (xs ++ ys) k x
set-before [] ys k x low = absurd (omega arith)
set-before (y ∷ xs) ys zero x low = refl
set-before (y ∷ xs) ys (suc k) x low = ap (λ zs. y ∷ zs) (set-before xs ys k x (omega arith))

pub set-filled : {A : Type 0} (xs ys : List A) (n k : ℕ) (x y : A) → ys ≡ set xs k y → k < length xs
    → ys ++ replicate n x ≡ set (xs ++ replicate n x) k y
set-filled xs ys n k x y e low = ap (λ zs. zs ++ replicate n x) e ∙ set-before xs (replicate n x) k y low

-- a sum of what is there, where the value counts nothing
pub sum_by-filled : {A : Type 0} (f : A → ℕ) (xs : List A) (n : ℕ) (x : A) → f x ≡ 0 → sum_by f (xs ++ replicate n x) ≡ sum_by f xs
sum_by-filled f [] zero x none = refl
sum_by-filled f [] (suc n) x none = omega (arith, sum_by-cons f x (replicate n x), none, sum_by-filled f [] n x none)
sum_by-filled f (y ∷ xs) n x none = omega (arith, sum_by-cons f y (xs ++ replicate n x), sum_by-cons f y xs, sum_by-filled f xs n x none)
