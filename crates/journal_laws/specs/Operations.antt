-- The operations: the writes of each, what they make of a memory, and what a cut leaves of it.
use Rattle.std.specs.Prelude.{◌≡◌, ℕ, Bool, true, false, ◌+◌, ◌^◌, ◌<◌, ◌≤◌, ◌==◌, ◌&&◌, if◌then◌else◌, List, [], ◌∷◌, ◌++◌, length, slice_index, option_map}
use Rattle.std.specs.Prelude.{None, Some, IsSome}
use Rattle.std.specs.Option.{option_map_or}
use Rattle.std.specs.List.{AllByRecursion}
use Rattle.std.specs.Int.{w16, w32, to_be_bytes}
use Rattle.journal_laws.specs.declared.banks.Side.TheVariants.{First}
use Rattle.journal_laws.specs.declared.state.State.{State}
use Rattle.journal_laws.specs.Writes.{Write, write, after_writes, IsCut, FitIn, last_place}
use Rattle.journal_laws.specs.Banks.{other, bank_place, is_opened_gate, current}
use Rattle.journal_laws.specs.Records.{IsBody, record_bytes, records_bytes, used}
use Rattle.journal_laws.specs.Journal.{next_place, left, count_of, journal}

-- ---- writes

-- a bank of version 02 behind its gate, up to its first closed gate
abbrev pub bank_bytes : ℕ → ℕ → List (List ℕ) → List ℕ
bank_bytes generation base bodies =
    2 ∷ to_be_bytes w32 generation ++ to_be_bytes w32 base ++ to_be_bytes w16 (length bodies) ++ records_bytes 0 bodies ++ 255 ∷ []

-- A bank is filled behind its closed gate, and then its gate is opened.
abbrev pub open_bank : ℕ → ℕ → ℕ → List (List ℕ) → List Write
open_bank at generation base bodies = write (at + 1) (bank_bytes generation base bodies) ∷ write at (90 ∷ []) ∷ []

abbrev pub format_writes : List Write
format_writes = open_bank (bank_place First) 1 0 []

-- A start formats a memory where no bank is in use.
abbrev pub start_writes : State → List Write
start_writes s = option_map_or (λ _. []) s.in_use format_writes

-- A record is written behind a closed gate, with a closed gate behind it, and then its gate is opened.
abbrev pub record_writes : ℕ → ℕ → List ℕ → List Write
record_writes at position body = write (at + 1) (record_bytes position body ++ 255 ∷ []) ∷ write at (90 ∷ []) ∷ []

abbrev pub append_writes : State → List ℕ → List Write
append_writes s body = record_writes (next_place s) s.many body

-- an open gate is closed, and a closed one is left as it is
abbrev pub close_bank : Bool → ℕ → List Write
close_bank opened at = if opened then write at (255 ∷ []) ∷ [] else []

-- The other bank is closed, filled with a snapshot, and opened.
abbrev pub compact_writes : State → List (List ℕ) → List Write
compact_writes s bodies =
    option_map_or (λ side.
    close_bank s.beside (bank_place (other side)) ++ open_bank (bank_place (other side)) (s.generation + 1) (count_of s) bodies) s.in_use []

-- ---- what they make

-- no gate stands open in two banks
pub record IsUnformatted (content : List ℕ) : Type 0 where
  pub size : 65536 ≤ length content
  pub closed : current content ≡ None

abbrev pub formatted : State
formatted = record { in_use = Some First; version = 2; generation = 1; base = 0; snapshot = 0; many = 0; size = 0; beside = false }

abbrev pub started_state : State → State
started_state s = option_map_or (λ _. s) s.in_use formatted

-- this body may be appended
pub record HasRoomForBody (s : State) (body : List ℕ) : Type 0 where
  pub in_use : IsSome s.in_use
  pub version : s.version ≡ 2
  pub short : IsBody body
  pub room : length body + 5 ≤ left s

abbrev pub appended : State → List ℕ → State
appended s body = record s { many = s.many + 1; size = s.size + (4 + length body) }

-- these bodies may be a snapshot, and one more generation is there
pub record CanCompact (s : State) (bodies : List (List ℕ)) : Type 0 where
  pub in_use : IsSome s.in_use
  pub generation : s.generation + 1 < 2 ^ 32
  pub short : AllByRecursion IsBody bodies
  pub room : used bodies ≤ 2560

abbrev pub compacted : State → List (List ℕ) → State
compacted s bodies = record {
  in_use = option_map other s.in_use;
  version = 2;
  generation = s.generation + 1;
  base = count_of s;
  snapshot = length bodies;
  many = length bodies;
  size = used bodies;
  beside = true;
}

-- ---- cuts

-- What a cut leaves stands for this memory: the one after all writes where the last of them was reached and left its gate
-- open, and else the one before them.
abbrev pub outcome : ℕ → List Write → List ℕ → List ℕ → List ℕ
outcome k writes content left =
    if k + 1 == length writes && is_opened_gate (slice_index left (last_place writes)) then after_writes writes content else content

-- what a cut leaves: which of the writes it came in, and for which memory that stands
pub record LeftByCut (writes : List Write) (content left : List ℕ) : Type 0 where
  pub whole : ℕ
  pub cut : IsCut whole writes content left
  pub says : journal left ≡ journal (outcome whole writes content left)

-- These writes lie in the memory, and wherever they are cut, it says what it said before them, or what it says after all of
-- them.
pub record IsAllOrNothing (writes : List Write) (content : List ℕ) : Type 0 where
  pub fit : FitIn (length content) writes
  pub says : (k : ℕ) (left : List ℕ) → IsCut k writes content left → journal left ≡ journal (outcome k writes content left)
