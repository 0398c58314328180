-- A schedule whose lines have every form of nodes, and lines that are outside the ranges.
use Rattle.node_laws.proofs.Words.{AreNodeLinesOf, Contains, End, Header, IsNodeHeader, IsNodeLineOf, Line, List, None, Some, [], arith, end_c, end_h, refl}
use Rattle.node_laws.proofs.Words.{suc, sym, true, true≢false, zero, ℕ, ◌∷◌}
use Rattle.std.specs.List.Sorted.{IsStrictlyIncreasing}
use Rattle.trace_model.specs.declared.line.Line.TheVariants as line

-- `swp 1 hci 01 02`
abbrev two_hosts : Header
two_hosts = record { hci = true; hosts = record { items = 1 ∷ 2 ∷ [] } }

rising : IsStrictlyIncreasing (1 ∷ 2 ∷ [])
rising zero within = omega arith
rising (suc k) within = absurd (omega (arith, within))

header_in_range : IsNodeHeader two_hosts
header_in_range = grind arith

second : Contains two_hosts.hosts.items 2
second = (1, omega arith, refl)

-- `send 02h 01 03`
abbrev sends : Line
sends = line.Send (end_h 2) 1 (3 ∷ [])

sent : IsNodeLineOf two_hosts sends
sent = grind arith

-- `arm 00 1 13`
abbrev arms : Line
arms = line.Arm 0 1 (record { items = 19 ∷ [] })

armed : IsNodeLineOf two_hosts arms
armed = grind arith

-- `init 02h 0102030405060708 200004`
abbrev identity : List ℕ
identity = 1 ∷ 2 ∷ 3 ∷ 4 ∷ 5 ∷ 6 ∷ 7 ∷ 8 ∷ []

abbrev triple : List ℕ
triple = 32 ∷ 0 ∷ 4 ∷ []

abbrev inits : Line
inits = line.Init (end_h 2) identity (record { items = triple ∷ [] })

begun : IsNodeLineOf two_hosts inits
begun = grind arith

-- `boot 00`, `boot 02`, `activate 02 1A2B 01`, `deliver 02c`, these three, `tables 00`, `cut 02`, `tick 100`
abbrev many_lines : List Line
many_lines =
    line.Boot 0 ∷ line.Boot 2 ∷ line.Activate 2 6699 1 ∷ line.Deliver (end_c 2) None ∷ sends ∷ arms ∷ inits ∷ line.Tables 0 ∷ line.Cut 2 ∷ line.Tick (Some
    100) ∷ []

activated : IsNodeLineOf two_hosts (line.Activate 2 6699 1)
activated = record { known = second; identifier = omega arith; code = omega arith }

lines_in_range : AreNodeLinesOf two_hosts many_lines
lines_in_range = grind arith

-- no end of a world of nodes is made busy by a line
busy_is_outside : (e : End) → IsNodeLineOf two_hosts (line.Busy e) → ⊥
busy_is_outside e is = true≢false is.0

-- the controller sends nothing by a line
controller_sends_nothing : (pid : ℕ) (message : List ℕ) → IsNodeLineOf two_hosts (line.Send (end_c 2) pid message) → ⊥
controller_sends_nothing pid message is = true≢false (sym (is.sender refl))

-- a power code is 00 or 01
power_02_is_outside : IsNodeLineOf two_hosts (line.Activate 2 6699 2) → ⊥
power_02_is_outside is = let low = is.code in omega (arith, low)
