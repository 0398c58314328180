-- The periods of a line record, and the state that a line is in after them.
use Rattle.std.specs.Prelude.{ℕ, true, false, ◌==◌, Option, Some, None, if◌then◌else◌}
use Rattle.swp_line.specs.declared.period.Period.{Period}
use Rattle.swp_line.specs.declared.period.Period.TheVariants.{Bits, Suspended, ResumeAsked, Deactivated}
use Rattle.swp_line.specs.declared.tracker.LineState.{LineState}
use Rattle.swp_line.specs.declared.tracker.LineState.TheVariants as state

-- the byte of each period: S1 0 and 1 and S2 0 and 1, and those without bits
abbrev pub byte_of_period : Period → ℕ
byte_of_period (Bits false false) = 0x40
byte_of_period (Bits true false) = 0x54
byte_of_period (Bits false true) = 0xC0
byte_of_period (Bits true true) = 0xFC
byte_of_period Suspended = 0x55
byte_of_period ResumeAsked = 0xFF
byte_of_period Deactivated = 0x00

-- the period of a byte, none outside that table
abbrev pub period_at : ℕ → Option Period
period_at byte =
    if byte == 0x40 then Some (Bits false false)
    else if byte == 0x54 then Some (Bits true false)
    else if byte == 0xC0 then Some (Bits false true)
    else if byte == 0xFC then Some (Bits true true)
    else if byte == 0x55 then Some Suspended
    else if byte == 0xFF then Some ResumeAsked
    else if byte == 0x00 then Some Deactivated
    else None

-- a period puts the line into a state; a byte that is none leaves it
abbrev pub state_after : LineState → Option Period → LineState
state_after old (Some (Bits s1 s2)) = state.Active
state_after old (Some Suspended) = state.Suspended
state_after old (Some ResumeAsked) = state.Suspended
state_after old (Some Deactivated) = state.Deactivated
state_after old None = old
