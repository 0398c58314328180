-- The numbers of sessions in what nodes note: a node tells 0, and the world, which numbers the RSETs, notes the number of the session of
-- its link in place of that.
use Rattle.std.specs.Prelude.{◌≡◌, ℕ, ◌≤◌, ◌==◌, if◌then◌else◌, List, ◌∷◌, map, get_or, Option, None, Some}
use Rattle.std.specs.List.{AllByRecursion}
use Rattle.trace_model.specs.declared.entry.Entry.{Entry}
use Rattle.trace_model.specs.declared.entry.Entry.TheVariants.{Up, Sent, Got, Acked, Ask}
use Rattle.link_laws.specs.machine.Machine.{LinkEnd, LinkInput, after_input, whole_acked}
use Rattle.link_laws.specs.machine.Machine.LinkInput.{Reset}
use Rattle.node_machine.specs.Parts.{Port}
use Rattle.node_core.specs.Noting.{unnumbered}
use Rattle.node_machine.specs.Node.{NodeInput, input_at, has_come}

-- The number of a session, where 0 is noted for it. 0 stands in its place, so that no two numbers become one.
abbrev pub swapped_number : ℕ → ℕ → ℕ
swapped_number number n = if n == 0 then number else if n == number then 0 else n

-- an entry in which that was done with the number of the session of its link, where its form has one
abbrev pub with_swapped_number : (ℕ → ℕ) → Entry → Entry
with_swapped_number session (Up at n) = Up at (swapped_number (session at.link) n)
with_swapped_number session (Sent at n pid message) = Sent at (swapped_number (session at.link) n) pid message
with_swapped_number session (Got at n pid message) = Got at (swapped_number (session at.link) n) pid message
with_swapped_number session (Acked at n count) = Acked at (swapped_number (session at.link) n) count
with_swapped_number session e = e

-- the number of the session at the link with this host, where these are those of all links; 0 where there is no such host
abbrev pub session_at : List ℕ → ℕ → ℕ
session_at sessions h = get_or sessions h 0

-- an entry as it is noted of a node that notes it with 0 for the number
abbrev pub with_session_number : (ℕ → ℕ) → Entry → Entry
with_session_number session e = with_swapped_number session (unnumbered e)

-- What a watch is told that puts these numbers into what nodes note. They themselves are told first, since a watch keeps only what it was told.
abbrev pub as_told : List ℕ → List Entry → List Entry
as_told sessions entries = Ask 0 sessions ∷ map (with_swapped_number (session_at sessions)) entries

-- it has that number, and counts no more messages than are counted
abbrev pub IsNumbered : (ℕ → ℕ) → Entry → Type 0
IsNumbered session (Up at n) = n ≡ session at.link
IsNumbered session (Sent at n pid message) = n ≡ session at.link
IsNumbered session (Got at n pid message) = n ≡ session at.link
IsNumbered session (Acked at n count) = (n ≡ session at.link) × (count ≤ 4294967295)
IsNumbered session e = Unit {0}

abbrev pub AreNumbered : (ℕ → ℕ) → List Entry → Type 0
AreNumbered session t = AllByRecursion (IsNumbered session) t

-- where this comes to an end, no more messages are acknowledged behind it than are counted
abbrev pub StaysCounted : LinkEnd → Option LinkInput → Type 0
StaysCounted e None = Unit {0}
StaysCounted e (Some i) = whole_acked (after_input e i) ≤ 4294967295

-- so it is at all ends of a node in a step, also where a late notice resets a link
pub record CountsFew (input : NodeInput) (ports : List Port) : Type 0 where
  pub come : AllByRecursion (λ (p : Port). StaysCounted p.side (input_at input p)) ports
  pub late : AllByRecursion (λ (p : Port). StaysCounted (has_come p (input_at input p)).side (Some (Reset None))) ports
