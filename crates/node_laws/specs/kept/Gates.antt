-- Which failing write opens a gate.
use Rattle.std.specs.Prelude.{ℕ, Bool, false, ◌==◌, ◌&&◌, slice_index, Option, None, Some}
use Rattle.swp_base.specs.InMemory.{Plan}
use Rattle.journal_laws.specs.Banks.{is_opened_gate}

-- The write that fails is the nth from now, where 1 is the next, and what it leaves begins with 5A: where it is that of a gate, the
-- gate stands open.
abbrev pub opens_gate : ℕ → Option Plan → Bool
opens_gate n None = false
opens_gate n (Some p) = p.nth == n && is_opened_gate (slice_index p.fill 0)
