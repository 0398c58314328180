-- How a number is written: by its last digit, and those before it.
use Rattle.std.proofs.Common.{◌%◌, ◌/◌}
use Rattle.std.proofs.lemmas.Fmt.{decimal_digit, decimal_step, decimal_injective}
use Rattle.swp_tool.proofs.Words.{Bool, IsGen, IsTrue, List, Ok, Result, [], ap, arith, codes, decimal, false, get_or, inl, inr, length, length-append, map}
use Rattle.swp_tool.proofs.Words.{refl, subst, sym, ℕ, ◌++◌, ◌+◌, ◌<◌, ◌==◌, ◌^◌, ◌∙◌, ◌∷◌, ◌≡◌, ◌≤◌, ◌⊎◌}

-- two lists with a last element are the same part by part
last_same : (xs ys : List ℕ) (x y : ℕ) → xs ++ x ∷ [] ≡ ys ++ y ∷ [] → (x ≡ y) × (xs ≡ ys)
last_same [] [] x y q = (cc, refl)
last_same [] (z ∷ ys) x y q =
    let long : length (x ∷ []) ≡ length (z ∷ (ys ++ y ∷ [])) = ap length q in let more = length-append ys (y ∷ []) in absurd (omega (arith, long, more))
last_same (z ∷ xs) [] x y q =
    let long : length (z ∷ (xs ++ x ∷ [])) ≡ length (y ∷ []) = ap length q in let more = length-append xs (x ∷ []) in absurd (omega (arith, long, more))
last_same (z ∷ xs) (w ∷ ys) x y q =
    let first : z ≡ w = cc in let rest : xs ++ x ∷ [] ≡ ys ++ y ∷ [] = cc in let later = last_same xs ys x y rest in (later.0, cc (first, later.1))

-- a number of one digit, and a longer one
one_digit : (n : ℕ) → n < 10 → decimal n ≡ [] ++ (48 + n % 10) ∷ []
one_digit n few = decimal_digit n few ∙ (let same : 48 + n ≡ 48 + n % 10 = omega (arith, few) in ap (λ d. d ∷ []) same)

longer : (n : ℕ) → 10 ≤ n → n < 2 ^ 64 → decimal n ≡ decimal (n / 10) ++ (48 + n % 10) ∷ []
longer n many fits = decimal_step n many fits

-- a text is that of a number of one digit exactly where it is its digit
pub is_one_digit : (n : ℕ) (digits front : List ℕ) (last : ℕ) → n < 10 → digits ≡ front ++ last ∷ [] → last ≡ 48 + n % 10
    → (front ≡ [] → digits ≡ decimal n) × (digits ≡ decimal n → front ≡ [])
is_one_digit n digits front last few is same = (
  (λ none. is ∙ ap (λ l. l ++ last ∷ []) none ∙ ap (λ d. [] ++ d ∷ []) same ∙ sym (one_digit n few)),
  (λ q. (last_same front [] last (48 + n % 10) (sym is ∙ q ∙ one_digit n few)).1),
)

-- it is that of a longer one exactly where the digits before the last are those of a tenth of it
pub is_longer : (n : ℕ) (digits front : List ℕ) (last : ℕ) → 10 ≤ n → n < 2 ^ 64 → digits ≡ front ++ last ∷ [] → last ≡ 48 + n % 10
    → (front ≡ decimal (n / 10) → digits ≡ decimal n) × (digits ≡ decimal n → front ≡ decimal (n / 10))
is_longer n digits front last many fits is same = (
  (λ before. is ∙ ap (λ l. l ++ last ∷ []) before ∙ ap (λ d. decimal (n / 10) ++ d ∷ []) same ∙ sym (longer n many fits)),
  (λ q. (last_same front (decimal (n / 10)) last (48 + n % 10) (sym is ∙ q ∙ longer n many fits)).1),
)

few_or_many : (n : ℕ) → (n < 10) ⊎ (10 ≤ n)
few_or_many n = grind (arith)

-- the last digit is that of the number
pub ends_so : (n : ℕ) (digits front : List ℕ) (last : ℕ) → n < 2 ^ 64 → digits ≡ front ++ last ∷ [] → digits ≡ decimal n → last ≡ 48 + n % 10
ends_so n digits front last fits is q = by (few_or_many n)
  where
    by : (n < 10) ⊎ (10 ≤ n) → last ≡ 48 + n % 10
    by (inl few) = (last_same front [] last (48 + n % 10) (sym is ∙ q ∙ one_digit n few)).0
    by (inr many) = (last_same front (decimal (n / 10)) last (48 + n % 10) (sym is ∙ q ∙ longer n many fits)).0

-- no number is written without digits
pub some_digits : (n : ℕ) → n < 2 ^ 64 → decimal n ≡ [] → ⊥
some_digits n fits q = by (few_or_many n)
  where
    none : (xs : List ℕ) (x : ℕ) → xs ++ x ∷ [] ≡ [] → ⊥
    none [] x q = cc
    none (y ∷ xs) x q = cc

    by : (n < 10) ⊎ (10 ≤ n) → ⊥
    by (inl few) = none [] (48 + n % 10) (sym (one_digit n few) ∙ q)
    by (inr many) = none (decimal (n / 10)) (48 + n % 10) (sym (longer n many fits) ∙ q)

is_not : IsTrue false → ⊥
is_not t = cc t

-- the first of two tests that must hold fails, or decides
pub decides_not : {X : Type 0} → (X → ⊥) → (IsTrue false → X) × (X → IsTrue false)
decides_not never = ((λ t. absurd (is_not t)), (λ x. absurd (never x)))

pub decides_as : {X Y : Type 0} (b : Bool) → (IsTrue b → Y) × (Y → IsTrue b) → (Y → X) × (X → Y) → (IsTrue b → X) × (X → IsTrue b)
decides_as b test same = ((λ t. same.0 (test.0 t)), (λ x. test.1 (same.1 x)))

-- whether there are none before the last
pub none_before : (front : List ℕ) (b : Bool) → b ≡ (length front == 0) → (IsTrue b → front ≡ []) × (front ≡ [] → IsTrue b)
none_before [] b q = ((λ t. refl), (λ e. subst IsTrue (sym q) refl))
none_before (x ∷ front) b q = grind arith

-- a word that is read as a number, and is how that number is written, isn't found to be another text
pub same_number : {E : Type 0} (r : Result ℕ E) (read n : ℕ) (digits : List ℕ) (found : Bool) → r ≡ Ok read → r ≡ Ok n → digits ≡ decimal n
    → (digits ≡ decimal read → IsTrue found) → found ≡ false → ⊥
same_number r read n digits found a b q test not_found = grind arith

-- two words, and what they say
pub words_given : {X : Type 0} (f : X → List ℕ) (words : List X) (a b : X) (gen digits : List ℕ) → 2 ≤ length words → length words < 3
    → a ≡ get_or words 0 a → b ≡ get_or words 1 b → f a ≡ gen → f b ≡ digits → map f words ≡ gen ∷ digits ∷ []
words_given f [] a b gen digits some few p q u v = absurd (omega (arith, some))
words_given f (x ∷ []) a b gen digits some few p q u v = absurd (omega (arith, some))
words_given f (x ∷ y ∷ z ∷ words) a b gen digits some few p q u v = absurd (omega (arith, few))
words_given f (x ∷ y ∷ []) a b gen digits some few p q u v = grind arith

second_same : (a b x y : List ℕ) → a ∷ x ∷ [] ≡ b ∷ y ∷ [] → x ≡ y
second_same a b x y q = cc

-- words are those of one number alone
pub given_alone : (n : ℕ) (words : List (List ℕ)) → IsGen n words → (m : ℕ) → IsGen m words → n ≡ m
given_alone n words (few, is) m (fits, same) =
    decimal_injective n m (omega (arith, few)) (omega (arith, fits)) (second_same (codes "gen") (codes "gen") (decimal n) (decimal m) (sym is ∙ same))
