-- The records of a bank: from a gate on, up to the first closed gate.
use Rattle.std.specs.Prelude.{ℕ, zero, suc, ◌+◌, ◌≤◌, Bool, true, false, ◌&&◌, ◌||◌, ◌==◌, nat_lt, nat_le, if◌then◌else◌, List, [], ◌∷◌, ◌++◌, length, take}
use Rattle.std.specs.Prelude.{drop, slice_index, slice_range}
use Rattle.std.specs.Int.{w16, from_be_bytes, to_be_bytes}
use Rattle.journal_laws.specs.Banks.{is_opened_gate}

-- how many bytes of a record tell its position; in version 01 there are none
abbrev pub index_len : ℕ → ℕ
index_len version = if version == 1 then 0 else 2

-- from the gate of a record to the next gate: the gate, the length, the index, the body
abbrev pub gap : ℕ → List ℕ → ℕ
gap version bytes = 2 + index_len version + slice_index bytes 1

abbrev pub body : ℕ → List ℕ → List ℕ
body version bytes = take (slice_index bytes 1) (drop (2 + index_len version) bytes)

-- what may be a body
abbrev pub IsBody : List ℕ → Type 0
IsBody body = (1 ≤ length body) × (length body ≤ 61)

-- a body of 1 to 61 bytes, the next gate inside the bank, of which so many bytes stand from this gate on, and the position as
-- index
abbrev pub is_record : ℕ → ℕ → ℕ → List ℕ → Bool
is_record version position rest bytes =
    nat_le 1 (slice_index bytes 1) && nat_le (slice_index bytes 1) 61 && nat_lt (gap version bytes) rest
    && (version == 1 || from_be_bytes w16 (slice_range bytes 2 4) == position)

abbrev pub is_good_record : ℕ → ℕ → List ℕ → Bool
is_good_record version position bytes = is_record version position (length bytes) bytes

-- what is found in a bank from a gate on: the bodies of the records, how many bytes these records take, and whether the gate
-- behind them is open, with a bad record
pub record Found : Type 0 where
  pub bodies : List (List ℕ)
  pub size : ℕ
  pub is_bad : Bool

abbrev pub nothing_found : Found
nothing_found = record { bodies = []; size = 0; is_bad = false }

abbrev pub bad : Found
bad = record { bodies = []; size = 0; is_bad = true }

-- what is found, behind records of these bodies and this size
abbrev pub behind : List (List ℕ) → ℕ → Found → Found
behind bodies size found = record { bodies = bodies ++ found.bodies; size = size + found.size; is_bad = found.is_bad }

-- what is found in a bank of this version from a gate on, where the first record has this position, and of at most so many
-- records
unfoldable pub found_from : ℕ → ℕ → ℕ → List ℕ → Found
found_from version zero position bytes = nothing_found
found_from version (suc most) position bytes =
    if is_opened_gate (slice_index bytes 0)
    then (if is_good_record version position bytes
    then behind (body version bytes ∷ []) (gap version bytes) (found_from version most (position + 1) (drop (gap version bytes) bytes))
    else bad)
    else nothing_found

-- a record of version 02, behind its gate
abbrev pub record_bytes : ℕ → List ℕ → List ℕ
record_bytes position body = length body ∷ to_be_bytes w16 position ++ body

-- records of these bodies in a row, each with an open gate, the first at this position
abbrev pub records_bytes : ℕ → List (List ℕ) → List ℕ
records_bytes position [] = []
records_bytes position (body ∷ bodies) = (90 ∷ record_bytes position body) ++ records_bytes (position + 1) bodies

-- how many bytes records of these bodies take in a bank of this version, and in one of version 02
abbrev pub size_in : ℕ → List (List ℕ) → ℕ
size_in version [] = 0
size_in version (body ∷ bodies) = 2 + index_len version + length body + size_in version bodies

abbrev pub used : List (List ℕ) → ℕ
used bodies = size_in 2 bodies
