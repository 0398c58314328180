-- Writes that are made of a memory whose failing write is planned.
use Rattle.std.specs.Prelude.{ℕ, Bool, false, ◌&&◌, nat_le, if◌then◌else◌, List, [], ◌∷◌, Option, None, Some}
use Rattle.swp_base.specs.InMemory.{Plan, Memory, is_next, memory_after}
use Rattle.journal_laws.specs.Writes.{Write}

-- one of the next n writes fails
abbrev pub fails_within : ℕ → Option Plan → Bool
fails_within n None = false
fails_within n (Some p) = nat_le 1 p.nth && nat_le p.nth n

-- a memory after these writes, or after the first of them that fails
abbrev pub after_planned : List Write → Memory → Memory
after_planned [] m = m
after_planned (w ∷ writes) m = if is_next m.plan then memory_after m w.at w.bytes else after_planned writes (memory_after m w.at w.bytes)
