-- What stands at a gate.
use Rattle.std.specs.Prelude.{ℕ, ◌&&◌, nat_le, nat_lt, if◌then◌else◌, List, slice_index, Option, None, Some}
use Rattle.nv_journal.specs.declared.gates.Gate.{Gate}
use Rattle.nv_journal.specs.declared.gates.Gate.TheVariants.{Closed, Bad, Record}
use Rattle.journal_laws.specs.Banks.{is_opened_gate}
use Rattle.journal_laws.specs.Records.{gap, is_record}

-- the length of the body of a record that has room there, by the first bytes from its gate on
abbrev pub len_of : ℕ → ℕ → List ℕ → Option ℕ
len_of version rest bytes =
    if nat_le 1 (slice_index bytes 1) && nat_le (slice_index bytes 1) 61 && nat_lt (gap version bytes) rest then Some (slice_index bytes 1) else None

-- by the first bytes from the gate on, where so many bytes of the bank stand there
abbrev pub gate_of : ℕ → ℕ → ℕ → List ℕ → Gate
gate_of version position rest bytes =
    if is_opened_gate (slice_index bytes 0)
    then (if is_record version position rest bytes then Record (slice_index bytes 1) else Bad)
    else Closed

-- what is known of a body's length at a record
abbrev pub IfRecord : Gate → (ℕ → Type 0) → Type 0
IfRecord Closed P = Unit {0}
IfRecord Bad P = Unit {0}
IfRecord (Record len) P = P len
