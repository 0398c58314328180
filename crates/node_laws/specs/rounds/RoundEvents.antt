-- What the rounds of a world are on the link with the host h: events of the law of one link, one after another.
use Rattle.std.specs.Prelude.{ℕ, zero, suc, if◌then◌else◌, List, [], ◌∷◌, ◌++◌, None}
use Rattle.trace_model.specs.declared.line.End.{End}
use Rattle.trace_model.specs.declared.line.Line.TheVariants as line
use Rattle.link_laws.specs.messages.Links.{LinkEvent}
use Rattle.node_machine.specs.world.World.{NodeWorld, Happening, world_step}
use Rattle.node_machine.specs.world.World.Happening.{Ticks}
use Rattle.node_machine.specs.world.Lines.{can_happen, happenings}
use Rattle.node_machine.specs.world.Rounds.{ends_in_order, end_takes_all, ends_take_all, world_after_round}
use Rattle.node_laws.specs.rounds.LinkEvents.{link_events_in}

-- these happen, until one can't
abbrev pub events_on : ℕ → NodeWorld → List Happening → List LinkEvent
events_on h w [] = []
events_on h w (c ∷ causes) = if can_happen w c then link_events_in h w c ++ events_on h (world_step w c).0 causes else []

-- these ends take all that stands on their wires, one after another
abbrev pub ends_events : ℕ → NodeWorld → List End → List LinkEvent
ends_events h w [] = []
ends_events h w (e ∷ ends) = events_on h w (happenings w (line.Deliver e None)) ++ ends_events h (end_takes_all w e).0 ends

-- a round
abbrev pub round_events : ℕ → NodeWorld → List LinkEvent
round_events h w = ends_events h w (ends_in_order w) ++ events_on h (ends_take_all w (ends_in_order w)).0 (Ticks ∷ [])

-- so many rounds
abbrev pub rounds_events : ℕ → ℕ → NodeWorld → List LinkEvent
rounds_events h zero w = []
rounds_events h (suc r) w = round_events h w ++ rounds_events h r (world_after_round w)
