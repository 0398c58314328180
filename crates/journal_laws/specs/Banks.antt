-- The two banks of a memory, their heads, and which one is in use.
use Rattle.std.specs.Prelude.{ℕ, Bool, ◌&&◌, ◌==◌, nat_lt, if◌then◌else◌, List, take, drop, slice_index, slice_range, Option, None, Some}
use Rattle.std.specs.Int.{w16, w32, from_be_bytes}
use Rattle.journal_laws.specs.declared.banks.Side.{Side}
use Rattle.journal_laws.specs.declared.banks.Side.TheVariants.{First, Second}
use Rattle.journal_laws.specs.declared.state.Head.{Head}

abbrev pub other : Side → Side
other First = Second
other Second = First

-- where a bank begins
abbrev pub bank_place : Side → ℕ
bank_place First = 0
bank_place Second = 32768

-- the bytes of a bank
abbrev pub bank : List ℕ → Side → List ℕ
bank content side = take 32768 (drop (bank_place side) content)

-- an open gate is 5A, any other byte is closed
abbrev pub is_opened_gate : ℕ → Bool
is_opened_gate gate = gate == 90

-- what stands in the first 12 bytes of a bank
abbrev pub head_of : List ℕ → Head
head_of bytes = record {
  gate = slice_index bytes 0;
  version = slice_index bytes 1;
  generation = from_be_bytes w32 (slice_range bytes 2 6);
  base = from_be_bytes w32 (slice_range bytes 6 10);
  snapshot = from_be_bytes w16 (slice_range bytes 10 12);
}

abbrev pub head : List ℕ → Side → Head
head content side = head_of (take 12 (bank content side))

-- the bank with an open gate and the greater generation; the first one where both are open with the same one
abbrev pub newer : Head → Head → Option Side
newer first second =
    if is_opened_gate first.gate
    then (if is_opened_gate second.gate && nat_lt first.generation second.generation then Some Second else Some First)
    else (if is_opened_gate second.gate then Some Second else None)

-- the bank in use
abbrev pub current : List ℕ → Option Side
current content = newer (head content First) (head content Second)
