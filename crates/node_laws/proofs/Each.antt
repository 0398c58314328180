-- What holds of each element of a list, and what is read of an element, as elements are changed.
use Rattle.std.proofs.Common.{arith, ◌≡◌, Bool, List, [], ◌∷◌, map}
use Rattle.std.specs.List.{AllByRecursion}
use Rattle.node_machine.specs.Carrying.{changed_if}

pub all_map : {X Y : Type 0} (P : X → Type 0) (Q : Y → Type 0) (f : X → Y) → ((x : X) → P x → Q (f x)) → (xs : List X) → AllByRecursion P xs
    → AllByRecursion Q (map f xs)
all_map P Q f one [] a = tt
all_map P Q f one (x ∷ xs) a = (one x a.0, all_map P Q f one xs a.1)

-- those that pass a test become others
pub all_changed : {X : Type 0} (P : X → Type 0) (test : X → Bool) (f : X → X) → ((x : X) → P x → P (f x)) → (xs : List X) → AllByRecursion P xs
    → AllByRecursion P (map (λ x. changed_if (test x) f x) xs)
all_changed {X} P test f one xs a = all_map P P (λ x. changed_if (test x) f x) (λ x b. grind arith) xs a

pub changed_same : {X Y : Type 0} (g : X → Y) (b : Bool) (f : X → X) (x : X) → ((x : X) → g (f x) ≡ g x) → g (changed_if b f x) ≡ g x
changed_same g b f x same = grind arith

pub all_so : {X : Type 0} (P Q : X → Type 0) → ((x : X) → P x → Q x) → (xs : List X) → AllByRecursion P xs → AllByRecursion Q xs
all_so P Q one [] a = tt
all_so P Q one (x ∷ xs) a = (one x a.0, all_so P Q one xs a.1)
