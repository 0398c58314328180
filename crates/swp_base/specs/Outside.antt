-- What calls to the outside world do: to their counts of faults, and to the bytes of a memory.
use Rattle.std.specs.Prelude.{◌≡◌, Bool, true, false, ℕ, ◌+◌, ◌-◌, ◌^◌, ◌≤◌, min, List, ◌++◌, length, take, drop}

-- a count, one more: it stands still at the last value of a counter
abbrev pub one_more : ℕ → ℕ
one_more count = min (count + 1) (2 ^ 64 - 1)

-- a count rose in a call: it is greater than before, or stands at the last value of a counter
abbrev pub Rose : ℕ → ℕ → Type 0
Rose old new = one_more old ≤ new

-- a memory after these bytes were put into it from place `at` on
abbrev pub overwritten : List ℕ → ℕ → List ℕ → List ℕ
overwritten content at bytes = take at content ++ bytes ++ drop (at + length bytes) content

-- a memory after a write from place `at` on that was torn: any bytes stand in the range, all others stayed
abbrev pub IsTorn : List ℕ → List ℕ → ℕ → ℕ → Type 0
IsTorn old new at len = (torn : List ℕ) × (length torn ≡ len) × (new ≡ overwritten old at torn)

-- what a write of these bytes from place `at` on made of a memory: they stand there where it went through, else it was torn
abbrev pub IsWritten : Bool → List ℕ → List ℕ → ℕ → List ℕ → Type 0
IsWritten true old new at bytes = new ≡ overwritten old at bytes
IsWritten false old new at bytes = IsTorn old new at (length bytes)
