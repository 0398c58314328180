-- What a history tells a tap on the link with one host, and what the ends of that link got in it.
use Rattle.std.specs.Prelude.{ℕ, ◌==◌, Bool, not, if◌then◌else◌, List, Option, Some, None}
use Rattle.std.specs.List.{filter_map}
use Rattle.trace_model.specs.declared.entry.Entry.{Entry}
use Rattle.trace_model.specs.declared.line.End.{End}
use Rattle.history.specs.Filters.{Saying, said}
use Rattle.history.specs.Filters.Saying.{Puts, Gets}
use Rattle.tap_reading.specs.Tap.{TapReport}

-- the LPDU that an end of this link puts on it, with whether it is the CLF's
abbrev pub put_on : ℕ → Option (End × Saying) → Option (Bool × List ℕ)
put_on h (Some (e, Puts lpdu)) = if e.link == h then Some (not e.at_host, lpdu) else None
put_on h _ = None

-- the LPDUs that are put on the link with this host, in order
abbrev pub lpdus_on : ℕ → List Entry → List (Bool × List ℕ)
lpdus_on h t = filter_map (λ entry. put_on h (said entry)) t

-- the message that an end of this link gets
abbrev pub got_on : ℕ → Option (End × Saying) → Option TapReport
got_on h (Some (e, Gets n m)) = if e.link == h then Some (record { to_clf = not e.at_host; session = n; pipe = m.0; body = m.1 }) else None
got_on h _ = None

-- the messages that the ends of the link with this host got, in order
abbrev pub gots_on : ℕ → List Entry → List TapReport
gots_on h t = filter_map (λ entry. got_on h (said entry)) t
