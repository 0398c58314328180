-- What a line does on a link, seen from the end that it speaks of.
use Rattle.std.specs.Prelude.{◌≡◌, ℕ, ◌≤◌, List, [], ◌∷◌, ◌++◌, length, replicate, Option, Some, None}
use Rattle.trace_model.specs.declared.entry.Entry.{Entry}
use Rattle.trace_model.specs.declared.line.End.{End}
use Rattle.trace_model.specs.declared.line.Line.{Line}
use Rattle.trace_model.specs.declared.line.Line.TheVariants as line
use Rattle.link_laws.specs.messages.Links.{Link}
use Rattle.history.specs.Histories.{Cause, entries_of, noted}
use Rattle.history.specs.Steps.{link_after, link_after_all, event_at, events_at}
use Rattle.history.specs.Follows.{seen_from, frames_to, outcome_of, link_after_line, link_after_lines, misread}
use Rattle.link_wires.specs.declared.finding.Misread.{Misread}
use Rattle.link_wires.specs.Damages.{first_lpdu}
use Rattle.world.specs.declared.side.Side.{Side}
use Rattle.world.specs.Sides.{LinkStandsFor}

-- both sides, the near one being that of this end, stand for a link
abbrev pub SidesStandFor : Side → Side → ℕ → End → Link → Type 0
SidesStandFor near far resets at l = LinkStandsFor near far resets (seen_from at l)

-- both sides stand for the link after the line, and what became of it is noted
pub record Does (near far : Side) (resets : ℕ) (at : End) (l : Link) (line : Line) (now : List Entry) : Type 0 where
  pub stands : SidesStandFor near far resets at (link_after_line l (outcome_of at.link l line))
  pub noted_are : now ≡ noted (outcome_of at.link l line)

-- the first frame on its way to the end that a line speaks of, where the line damages it
abbrev pub damaged_by : Link → Line → Option (List ℕ)
damaged_by l (line.Damage e places) = first_lpdu (frames_to l e)
damaged_by l _ = None

-- this is told of a line: which other frame is read in place of the first one on the wire, where one is
abbrev pub IsMisread : Link → Line → Option Misread → Type 0
IsMisread l line None = misread l line ≡ None
IsMisread l line (Some other) = (misread l line ≡ Some other.read) × (damaged_by l line ≡ Some other.sent)

-- both sides stand for the link after a cause, and its entries are noted behind those before
pub record HasCaused (near far : Side) (resets : ℕ) (at : End) (l : Link) (cause : Cause) (before now : List Entry) : Type 0 where
  pub stands : SidesStandFor near far resets at (link_after l cause)
  pub noted_are : now ≡ before ++ (event_at at.link l cause).entries

-- both sides stand for the link after so many times the same cause, and that is noted behind what was noted before
pub record HasRepeated (near far : Side) (resets : ℕ) (at : End) (l : Link) (cause : Cause) (k : ℕ) (before now : List Entry) : Type 0 where
  pub stands : SidesStandFor near far resets at (link_after_all l (replicate k cause))
  pub noted_are : now ≡ before ++ entries_of (events_at at.link l (replicate k cause))

-- what is noted of lines on the link with this host, one after another
abbrev pub told_on : ℕ → Link → List Line → List Entry
told_on h l [] = []
told_on h l (line ∷ lines) = noted (outcome_of h l line) ++ told_on h (link_after_line l (outcome_of h l line)) lines

-- both sides stand for the link after these lines, and what became of them is noted behind what was noted before
pub record DoesAll (near far : Side) (resets : ℕ) (at : End) (l : Link) (lines : List Line) (before now : List Entry) : Type 0 where
  pub stands : SidesStandFor near far resets at (link_after_lines at.link l lines)
  pub noted_are : now ≡ before ++ told_on at.link l lines

-- both ends were given at most so many messages in their sessions
pub record HaveSent (l : Link) (most : ℕ) : Type 0 where
  pub here : length l.controller.side.sent ≤ most
  pub there : length l.host.side.sent ≤ most

-- the end that a line speaks of; where it speaks of none, this one
abbrev pub end_for : End → Line → End
end_for e (line.Send at pid message) = at
end_for e (line.Deliver at count) = at
end_for e (line.Lose at) = at
end_for e (line.Damage at places) = at
end_for e (line.Reset at window) = at
end_for e (line.Busy at) = at
end_for e (line.Ready at) = at
end_for e (line.Tick times) = e
end_for e (line.Boot node) = e
end_for e (line.Cut node) = e
end_for e (line.Activate host sync power) = e
end_for e (line.Arm node nth fill) = e
end_for e (line.Init at identity pipes) = e
end_for e (line.Tables node) = e
end_for e (line.Settle rounds) = e
