-- A pass over the records of a memory.
use Rattle.std.specs.Prelude.{◌≡◌, ◌⊎◌, ℕ, ◌+◌, ◌-◌, ◌*◌, ◌<◌, ◌≤◌, ◌==◌, ◌||◌, Bool, true, false, List, length, min, take, drop, None, Some, IsTrue}
use Rattle.std.specs.Option.{option_map_or}
use Rattle.journal_laws.specs.declared.banks.Side.{Side}
use Rattle.journal_laws.specs.declared.banks.Side.TheVariants.{First, Second}
use Rattle.journal_laws.specs.Writes.{AreRead}
use Rattle.journal_laws.specs.declared.state.Head.{Head}
use Rattle.journal_laws.specs.declared.state.State.{State}
use Rattle.journal_laws.specs.Banks.{other, bank, is_opened_gate, head, newer, current}
use Rattle.journal_laws.specs.Records.{index_len, behind, found_from, size_in}
use Rattle.journal_laws.specs.Journal.{unformatted, found_in, state_by, next_gate}
use Rattle.nv_journal.specs.Kept.{Says}

-- nothing was read, or one piece of at most 960 bytes, or of all that is left
pub record IsPiece {M : Type 0} (reads : M → Bool → M → Type 0) (left : ℕ) (old : M) (before : List ℕ) (new : M) (now : List ℕ) : Type 0 where
  pub some : 0 < left
  pub read : reads old true new
  pub size : length now ≡ length before + min 960 left

abbrev pub IsFilled : {M : Type 0} → (M → Bool → M → Type 0) → ℕ → M → List ℕ → M → List ℕ → Type 0
IsFilled reads left old before new now = ((new ≡ old) × (now ≡ before)) ⊎ IsPiece reads left old before new now

-- a pass: the memory, what is known of it so far, the bytes that were read and not passed, and whether the pass has ended
pub record Scanned (N : Type 0) : Type 0 where
  pub nv : N
  pub state : State
  pub ahead : List ℕ
  pub ended : Bool

-- what is known behind one more record
abbrev pub passed_on : State → List ℕ → State
passed_on s body = record s { many = s.many + 1; size = s.size + (2 + index_len s.version + length body) }

-- the place in the bank up to which it was read
abbrev pub read_to : {N : Type 0} → Scanned N → ℕ
read_to s = next_gate s.state + length s.ahead

-- since this memory, the two heads were read and some pieces, each but the last of at least 960 bytes that were not read before
pub record IsReadSoFar {N : Type 0} (reads : N → Bool → N → Type 0) (first : N) (s : Scanned N) : Type 0 where
  pub pieces : ℕ
  pub few : pieces ≤ 35
  pub long : read_to s < 32768 → 960 * pieces + 12 ≤ read_to s
  pub read : AreRead reads (2 + pieces) first true s.nv

-- what is known of a memory by its two heads, in front of its first record
abbrev pub head_at : Head → Head → Side → Head
head_at first second First = first
head_at first second Second = second

abbrev pub begun_in : Side → Head → Bool → State
begun_in side h beside = record {
  in_use = Some side;
  version = h.version;
  generation = h.generation;
  base = h.base;
  snapshot = h.snapshot;
  many = 0;
  size = 0;
  beside = beside;
}

abbrev pub begun_scan : Head → Head → State
begun_scan first second =
    option_map_or (λ side. begun_in side (head_at first second side) (is_opened_gate (head_at first second (other side)).gate))
    (newer first second) (state_by None unformatted false)

-- These records of the bank in use were passed, and these bytes of it were read behind them.
pub record IsPassed (content : List ℕ) (side : Side) (state : State) (ahead : List ℕ) : Type 0 where
  pub in_use : current content ≡ Some side
  pub version : (head content side).version ≡ state.version
  pub generation : (head content side).generation ≡ state.generation
  pub base : (head content side).base ≡ state.base
  pub snapshot : (head content side).snapshot ≡ state.snapshot
  pub beside : is_opened_gate (head content (other side)).gate ≡ state.beside
  pub passed : List (List ℕ)
  pub many : length passed ≡ state.many
  pub size : size_in state.version passed ≡ state.size
  pub found : found_in state.version (bank content side)
      ≡ behind passed state.size (found_from state.version (32768 - state.many) state.many (drop (next_gate state) (bank content side)))
  pub ahead_is : ahead ≡ take (length ahead) (drop (next_gate state) (bank content side))

-- what a memory that tells its content says of a pass
pub record SaysSoFar (content : List ℕ) (state : State) (ahead : List ℕ) (ended : Bool) : Type 0 where
  pub size : 65536 ≤ length content
  pub in_use : current content ≡ state.in_use
  pub passed : (side : Side) → state.in_use ≡ Some side → IsPassed content side state ahead
  pub at_end : IsTrue ended → Says content state

pub record IsScanned {N : Type 0} (tells : Bool) (capacity : N → ℕ) (content : N → List ℕ) (s : Scanned N) : Type 0 where
  pub size : capacity s.nv ≡ 65536
  pub inside : s.state.size < 32756
  pub read : s.state.size + length s.ahead ≤ 32756
  pub few : 3 * s.state.many ≤ s.state.size
  pub known : IsTrue (s.state.version == 1 || s.state.version == 2)
  pub idle : s.state.in_use ≡ None → IsTrue s.ended
  pub says : IsTrue tells → SaysSoFar (content s.nv) s.state s.ahead s.ended
