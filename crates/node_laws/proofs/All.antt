-- What holds of each element of some lists holds of them all, one list behind another.
use Rattle.std.proofs.Common.{List, [], ◌∷◌}
use Rattle.std.specs.List.{AllByRecursion, flat_map}
use Rattle.registry.proofs.ValueLemmas.{AllByRecursion-append as all_append}

pub all_flat : {X Y : Type 0} (P : Y → Type 0) (f : X → List Y) → ((x : X) → AllByRecursion P (f x)) → (xs : List X) → AllByRecursion P (flat_map f xs)
all_flat P f one [] = tt
all_flat P f one (x ∷ xs) = all_append P (f x) (flat_map f xs) (one x) (all_flat P f one xs)
