use Rattle.std.proofs.Common.{◌≡◌, ◌≤◌, ◌+◌, ◌-◌, length, take}
use Rattle.swp_crc.specs.Running.{running_of}
use Rattle.swp_crc.proofs.crc.Given as goal

abbrev pub invariant-fours : goal.invariant-fours
invariant-fours l = record { within : l.read ≤ length l.bytes; so_far : l.register ≡ running_of (take l.read l.bytes) }

abbrev pub decreases-fours : goal.decreases-fours
decreases-fours l = length l.bytes - l.read

abbrev pub invariant-loop-byte : goal.invariant-loop-byte
invariant-loop-byte l = l.register ≡ running_of (take (l.read + l.byte-index) l.bytes)
