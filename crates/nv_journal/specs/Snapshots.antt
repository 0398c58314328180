-- The bytes of a snapshot's records, and the bodies that these are.
use Rattle.std.specs.Prelude.{◌≡◌, ℕ, ◌≤◌, List, [], ◌∷◌, ◌++◌, length}
use Rattle.std.specs.List.{AllByRecursion}
use Rattle.journal_laws.specs.Records.{IsBody, found_from, records_bytes, used}

abbrev pub bodies_of : List ℕ → List (List ℕ)
bodies_of bytes = (found_from 2 (length bytes) 0 (bytes ++ 255 ∷ [])).bodies

-- these bytes are records of these bodies, which are few enough for a snapshot
pub record AreRecords (bytes : List ℕ) (many : ℕ) (bodies : List (List ℕ)) : Type 0 where
  pub bytes_are : bytes ≡ records_bytes 0 bodies
  pub many_is : many ≡ length bodies
  pub short : AllByRecursion IsBody bodies
  pub room : used bodies ≤ 2560
