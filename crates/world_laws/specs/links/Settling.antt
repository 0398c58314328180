-- The link of a bare world settles: it goes through rounds until it is at rest, so many of them at most.
use Rattle.std.specs.Prelude.{ℕ, List, map}
use Rattle.link_laws.specs.messages.Links.{Link, LinkEvent}
use Rattle.history.specs.Histories.{Cause}
use Rattle.history.specs.Steps.{event_of}
use Rattle.link_laws.specs.messages.Rest.{link_rests, steps_to_rest}
use Rattle.node_laws.specs.rounds.BareRounds.{causes_of_rounds, link_after_round}

-- the least number of rounds after which the link is at rest, or n where none below n is
abbrev pub rounds_to_settle : ℕ → ℕ → Link → ℕ
rounds_to_settle n h l = steps_to_rest link_rests (link_after_round h) n l

-- the causes of a line that has the link settle, with n rounds at most, and what they are on the link
abbrev pub settling_causes : ℕ → ℕ → Link → List Cause
settling_causes n h l = causes_of_rounds (rounds_to_settle n h l) h l

abbrev pub settling_events : ℕ → ℕ → Link → List LinkEvent
settling_events n h l = map event_of (settling_causes n h l)
