-- The numbers of the sessions that are noted.
use Rattle.std.specs.Prelude.{ℕ, ◌≤◌, List}
use Rattle.std.specs.List.{AllByRecursion}
use Rattle.link_laws.specs.entries.Entries.{Entry as Noted}
use Rattle.link_laws.specs.entries.Entries.Entry.{Up, Acked, Got, Sent}
use Rattle.trace_model.specs.declared.entry.Entry.{Entry}
use Rattle.trace_model.specs.declared.entry.Entry.TheVariants as entry

-- the number of a session that is noted of a link is no greater than n
abbrev pub NotedWithin : ℕ → Noted → Type 0
NotedWithin n (Up who k) = k ≤ n
NotedWithin n (Acked who k count) = k ≤ n
NotedWithin n (Got who k m) = k ≤ n
NotedWithin n (Sent who k m) = k ≤ n
NotedWithin n _ = Unit {0}

abbrev pub AreNotedWithin : ℕ → List Noted → Type 0
AreNotedWithin n t = AllByRecursion (NotedWithin n) t

-- so it is in an entry of a transcript
abbrev pub SessionWithin : ℕ → Entry → Type 0
SessionWithin n (entry.Up at k) = k ≤ n
SessionWithin n (entry.Acked at k count) = k ≤ n
SessionWithin n (entry.Got at k pid message) = k ≤ n
SessionWithin n (entry.Sent at k pid message) = k ≤ n
SessionWithin n _ = Unit {0}

abbrev pub AreSessionsWithin : ℕ → List Entry → Type 0
AreSessionsWithin n t = AllByRecursion (SessionWithin n) t
