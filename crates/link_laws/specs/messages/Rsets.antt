-- How many RSETs are put on a link, counted by what causes them: the ticks of its ends and the resets that are asked for. An end answers
-- an RSET by UA and never by another RSET, so no frame that is taken or lost causes one.
use Rattle.std.specs.Prelude.{ℕ, ◌+◌, ◌≤◌, List, [], ◌∷◌}
use Rattle.std.specs.List.{AllByRecursion}
use Rattle.shdlc_core.specs.declared.answers.Due.{Due}
use Rattle.shdlc_core.specs.declared.answers.Due.TheVariants.{Rr as Rr_due, Rej as Rej_due, Rnr as Rnr_due, Rset as Rset_due, Ua as Ua_due}
use Rattle.link_laws.specs.sessions.Sessions.{OnWire}
use Rattle.link_laws.specs.machine.Machine.{LinkEnd}
use Rattle.link_laws.specs.messages.Links.{NumberedEnd, Link, Comes, EndEvent, LinkEvent, number_of}
use Rattle.link_laws.specs.messages.Links.Comes.{NextFrame, AsksReset, Starts, Stops, NoInput}
use Rattle.link_laws.specs.messages.Links.EndEvent.{Step, Lose}
use Rattle.link_laws.specs.messages.Links.LinkEvent.{AtController, AtHost, Ticks as LinkTicks, TicksWithout, Activate}

-- the RSETs among the control frames that were made and not fetched
abbrev pub rsets_among : List Due → ℕ
rsets_among [] = 0
rsets_among (Rset_due ∷ due) = 1 + rsets_among due
rsets_among (Rr_due ∷ due) = rsets_among due
rsets_among (Rej_due ∷ due) = rsets_among due
rsets_among (Rnr_due ∷ due) = rsets_among due
rsets_among (Ua_due ∷ due) = rsets_among due

-- those that an end has still to send
abbrev pub rsets_due : LinkEnd → ℕ
rsets_due e = rsets_among e.shdlc.due

-- the RSETs that were put on a link, and those that its ends have still to send
abbrev pub rsets_made : Link → ℕ
rsets_made l = l.resets + (rsets_due l.controller.side + rsets_due l.host.side)

-- what begins a step of an end is a reset that is asked for
abbrev pub resets_in_coming : Comes → ℕ
resets_in_coming (AsksReset window) = 1
resets_in_coming NextFrame = 0
resets_in_coming (Starts value) = 0
resets_in_coming Stops = 0
resets_in_coming NoInput = 0

abbrev pub resets_in_event : EndEvent → ℕ
resets_in_event (Step comes turns ending) = resets_in_coming comes
resets_in_event (Lose why) = 0

-- the resets that are asked for at one end, where these things happen there
abbrev pub resets_in_events : List EndEvent → ℕ
resets_in_events [] = 0
resets_in_events (e ∷ es) = resets_in_event e + resets_in_events es

-- the ticks of ends and the resets that are asked for in an event of a link
abbrev pub rset_causes : LinkEvent → ℕ
rset_causes (AtController e) = resets_in_event e
rset_causes (AtHost e) = resets_in_event e
rset_causes (LinkTicks c events h) = 2 + resets_in_events events
rset_causes (TicksWithout events h) = 1 + resets_in_events events
rset_causes (Activate power c id h) = 0

-- in these events
abbrev pub rset_causes_in : List LinkEvent → ℕ
rset_causes_in [] = 0
rset_causes_in (e ∷ es) = rset_causes e + rset_causes_in es

-- the numbers of frames on a wire, and those that an end has sent and taken, are no greater than n
abbrev pub WireIsLow : ℕ → List OnWire → Type 0
WireIsLow n wire = AllByRecursion (λ (x : OnWire). x.number ≤ n) wire

pub record EndIsLow (n : ℕ) (h : NumberedEnd) : Type 0 where
  pub emitted : h.emitted ≤ n
  pub took : h.took ≤ n

-- no number of a link is greater than how many RSETs were put on it
pub record HasLowNumbers (l : Link) : Type 0 where
  pub controller : EndIsLow l.resets l.controller
  pub host : EndIsLow l.resets l.host
  pub to_controller : WireIsLow l.resets l.to_controller
  pub to_host : WireIsLow l.resets l.to_host

-- at most so many RSETs were put on a link or are still to be sent there, and its numbers are theirs
pub record FewRsets (n : ℕ) (l : Link) : Type 0 where
  pub made : rsets_made l ≤ n
  pub numbered : HasLowNumbers l

-- At most so many RSETs were put on a link, so that no session of either end has a greater number.
pub record NumbersWithin (n : ℕ) (l : Link) : Type 0 where
  pub resets : l.resets ≤ n
  pub controller : number_of l.controller ≤ n
  pub host : number_of l.host ≤ n
