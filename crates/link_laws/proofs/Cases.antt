-- What holds in each case of a value holds; each case knows that the value is its own.
use Rattle.std.proofs.Common.{arith, ◌≡◌, Bool, true, false, List, [], ◌∷◌, Option, Some, None, refl}
use Rattle.std.specs.Prelude.{is_some}
use Rattle.shdlc_core.specs.declared.answers.LinkState.{LinkState}
use Rattle.shdlc_core.specs.declared.answers.LinkState.TheVariants.{Down, Up, Waiting}

pub by_test {ℓ} : {P : Type ℓ} (b : Bool) → (b ≡ true → P) → (b ≡ false → P) → P
by_test b one other = grind arith

pub by_option {ℓ} : {A : Type 0} {P : Type ℓ} (o : Option A) → (o ≡ None → P) → ((a : A) → o ≡ Some a → P) → P
by_option o none some = grind arith

pub by_list {ℓ} : {A : Type 0} {P : Type ℓ} (xs : List A) → (xs ≡ [] → P) → ((x : A) (rest : List A) → xs ≡ x ∷ rest → P) → P
by_list [] none more = none refl
by_list (x ∷ rest) none more = more x rest refl

pub by_some {ℓ} : {A : Type 0} {P : Type ℓ} (o : Option A) → is_some o ≡ true → ((a : A) → o ≡ Some a → P) → P
by_some o there some = grind arith

pub by_phase {ℓ} : {P : Type ℓ} (phase : LinkState) → (phase ≡ Up → P) → (phase ≡ Waiting → P) → (phase ≡ Down → P) → P
by_phase phase up waiting down = grind arith
