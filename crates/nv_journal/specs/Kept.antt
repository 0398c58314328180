-- What a journal keeps, and what its memory says of that.
use Rattle.std.specs.Prelude.{◌≡◌, ℕ, ◌*◌, ◌<◌, ◌≤◌, Bool, List, length, IsTrue}
use Rattle.journal_laws.specs.declared.state.State.{State}
use Rattle.journal_laws.specs.Journal.{journal, records, state_of, gate_at, IsSound}

-- its memory, what it knows of that, and whether it may be used
pub record KeptMemory (N : Type 0) : Type 0 where
  pub nv : N
  pub state : State
  pub live : Bool

-- the memory says this, and nothing is wrong with it
pub record Says (content : List ℕ) (state : State) : Type 0 where
  pub size : 65536 ≤ length content
  pub state_is : state_of content ≡ state
  pub sound : IsSound (journal content)

pub record IsKept {N : Type 0} (tells : Bool) (capacity : N → ℕ) (content : N → List ℕ) (kept : KeptMemory N) : Type 0 where
  pub size : capacity kept.nv ≡ 65536
  pub inside : kept.state.size < 32756
  pub few : 3 * kept.state.many ≤ kept.state.size
  pub says : IsTrue kept.live → IsTrue tells → Says (content kept.nv) kept.state

-- the gate of record k, from 0, or the one behind the last record, stands at this place of the memory
pub record IsGateOf (content : List ℕ) (k at : ℕ) : Type 0 where
  pub within : k ≤ length (records content)
  pub place : at ≡ gate_at content k

abbrev pub IsGate : List ℕ → ℕ → Type 0
IsGate content at = (k : ℕ) × IsGateOf content k at
