-- The owners of a pool's blocks, by their numbers.
use Rattle.std.specs.Prelude.{ℕ, List, map, slice_index_or, slice_set}
use Rattle.block_pool.specs.declared.owners.Owner.{Owner}

abbrev pub owner_at : List Owner → ℕ → Owner
owner_at owners owner = slice_index_or owners owner (record { quota = 0; used = 0; aside = 0 })

-- the owners, where one uses so many blocks
abbrev pub with_used : List Owner → ℕ → ℕ → List Owner
with_used owners owner used =
    slice_set owners owner
    (record { quota = (owner_at owners owner).quota; used = used; aside = (owner_at owners owner).aside })

-- the owners, where one uses so many blocks and has so many of them set aside
abbrev pub with_aside : List Owner → ℕ → ℕ → ℕ → List Owner
with_aside owners owner used aside =
    slice_set owners owner (record { quota = (owner_at owners owner).quota; used = used; aside = aside })

-- owners with these quotas that use nothing
abbrev pub new_owners : List ℕ → List Owner
new_owners quotas = map (λ quota. record { quota = quota; used = 0; aside = 0 }) quotas
