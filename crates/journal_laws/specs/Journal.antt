-- What a memory says: the bank in use, its head and its records, and by these the count and the fault.
use Rattle.std.specs.Prelude.{◌≡◌, ℕ, ◌+◌, ◌-◌, ◌^◌, ◌≤◌, ◌==◌, ◌||◌, Bool, List, length, take, drop, min, Option, None, Some, IsSome, IsTrue, false}
use Rattle.std.specs.Option.{option_map_or}
use Rattle.journal_laws.specs.declared.banks.Side.{Side}
use Rattle.journal_laws.specs.declared.state.Head.{Head}
use Rattle.journal_laws.specs.declared.state.State.{State}
use Rattle.journal_laws.specs.Banks.{other, bank_place, bank, is_opened_gate, head, current}
use Rattle.journal_laws.specs.Records.{Found, nothing_found, found_from, size_in}

pub record Journal : Type 0 where
  pub in_use : Option Side
  pub head : Head
  pub found : Found

-- where no gate stands open
abbrev pub unformatted : Journal
unformatted = record {
  in_use = None;
  head = record { gate = 255; version = 2; generation = 0; base = 0; snapshot = 0 };
  found = nothing_found;
}

-- what is found in a bank of this version, from place 12 on
abbrev pub found_in : ℕ → List ℕ → Found
found_in version bytes = found_from version (length bytes) 0 (drop 12 bytes)

abbrev pub journal_at : List ℕ → Side → Journal
journal_at content side = record {
  in_use = Some side;
  head = head content side;
  found = found_in (head content side).version (bank content side);
}

abbrev pub journal : List ℕ → Journal
journal content = option_map_or (journal_at content) (current content) unformatted

abbrev pub records : List ℕ → List (List ℕ)
records content = (journal content).found.bodies

-- nothing is wrong with the bank in use: its version is known, and no record in it is bad
pub record IsSound (j : Journal) : Type 0 where
  pub known : IsTrue (j.head.version == 1 || j.head.version == 2)
  pub good : j.found.is_bad ≡ false

-- ---- what the operations know of it

-- the bank in use, what its head says, how many records stand in it and how many bytes they take, and whether the gate of the
-- other bank is open
abbrev pub state_by : Option Side → Journal → Bool → State
state_by in_use j beside = record {
  in_use = in_use;
  version = j.head.version;
  generation = j.head.generation;
  base = j.head.base;
  snapshot = j.head.snapshot;
  many = length j.found.bodies;
  size = j.found.size;
  beside = beside;
}

-- the gate of the bank that is not in use stands open
abbrev pub is_open_beside : List ℕ → Bool
is_open_beside content = option_map_or (λ side. is_opened_gate (head content (other side)).gate) (current content) false

abbrev pub state_of : List ℕ → State
state_of content = state_by (current content) (journal content) (is_open_beside content)

-- the base and the records without those of the snapshot, and then the nearest of 0 and 4,294,967,295
abbrev pub count_of : State → ℕ
count_of s = min (s.base + s.many - s.snapshot) (2 ^ 32 - 1)

abbrev pub count : List ℕ → ℕ
count content = count_of (state_of content)

-- where the records of the bank in use end, at a closed gate or at a bad record: in the bank, and in the memory
abbrev pub next_gate : State → ℕ
next_gate s = 12 + s.size

abbrev pub next_place : State → ℕ
next_place s = option_map_or bank_place s.in_use 0 + next_gate s

-- the place in the memory of the gate of record k, from 0, or of the one behind the last
abbrev pub gate_at : List ℕ → ℕ → ℕ
gate_at content k =
    option_map_or bank_place (current content) 0 + 12 + size_in (journal content).head.version (take k (records content))

-- the bytes of the bank from there on
abbrev pub left : State → ℕ
left s = 32768 - next_gate s

-- a memory of two banks, one of them in use, and nothing wrong with it
pub record IsStarted (content : List ℕ) : Type 0 where
  pub size : 65536 ≤ length content
  pub in_use : IsSome (current content)
  pub sound : IsSound (journal content)
