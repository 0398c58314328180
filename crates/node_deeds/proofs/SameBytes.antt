-- Equal lists of bytes are the same ones.
use Rattle.std.proofs.Common.{◌≡◌, ◌≢◌, ℕ, Bool, true, false, cond, eqb, eq-eqb, List, [], ◌∷◌, refl, sym, ap, ap₂, ◌∙◌}
use Rattle.std.proofs.lemmas.Bool.{cond_both, eqb-true}
use Rattle.history.specs.Damage.{same_bytes}

same_self : (xs : List ℕ) → same_bytes xs xs ≡ true
same_self [] = refl
same_self (x ∷ xs) = ap (λ b. cond b (same_bytes xs xs) false) (eq-eqb x x refl) ∙ same_self xs

same_is : (xs ys : List ℕ) → same_bytes xs ys ≡ true → xs ≡ ys
same_is [] [] e = refl
same_is [] (y ∷ ys) e = absurd (cc e)
same_is (x ∷ xs) [] e = absurd (cc e)
same_is (x ∷ xs) (y ∷ ys) e =
    cond_both (eqb x y) (same_bytes xs ys) false (λ b. b ≡ true → x ∷ xs ≡ y ∷ ys)
    (λ same rest. ap₂ (λ a b. a ∷ b) (eqb-true x y same) (same_is xs ys rest)) (λ other none. absurd (cc none)) e

-- a test that tells whether two lists are equal
pub same_by : (xs ys : List ℕ) (test : Bool) → (true ≡ test → xs ≡ ys) → (false ≡ test → xs ≢ ys) → test ≡ same_bytes xs ys
same_by xs ys true same other = sym (ap (same_bytes xs) (sym (same refl)) ∙ same_self xs)
same_by xs ys false same other = by (same_bytes xs ys) refl where
  by : (b : Bool) → same_bytes xs ys ≡ b → false ≡ same_bytes xs ys
  by true e = absurd (other refl (same_is xs ys e))
  by false e = sym e
