-- A world of nodes settles: it goes through rounds until all its links are at rest, so many of them at most.
use Rattle.std.specs.Prelude.{ℕ, zero, suc, ◌&&◌, Bool, true, List, [], ◌∷◌, ◌++◌, None}
use Rattle.std.specs.List.{flat_map}
use Rattle.trace_model.specs.declared.line.End.{End}
use Rattle.trace_model.specs.declared.line.Line.TheVariants as line
use Rattle.link_laws.specs.messages.Rest.{link_rests, steps_to_rest}
use Rattle.node_machine.specs.world.World.{Site, NodeWorld, end_c, end_h}
use Rattle.node_machine.specs.world.World.Happening.{Ticks}
use Rattle.node_machine.specs.world.Lines.{Occurrence, all_happen, happenings}

-- all links are at rest
abbrev pub sites_rest : List Site → Bool
sites_rest [] = true
sites_rest (s ∷ sites) = link_rests s.link && sites_rest sites

abbrev pub world_rests : NodeWorld → Bool
world_rests w = sites_rest w.sites

-- ## Rounds

-- the ends in the order of a round: the controller's end of a link, then the host's, and the links ascending
abbrev pub ends_in_order : NodeWorld → List End
ends_in_order w = flat_map (λ (s : Site). end_c s.host ∷ end_h s.host ∷ []) w.sites

-- an end takes all that stands on its wire, where its node runs
abbrev pub end_takes_all : NodeWorld → End → NodeWorld × List Occurrence
end_takes_all w e = all_happen w (happenings w (line.Deliver e None))

-- these ends do, one after another
abbrev pub ends_take_all : NodeWorld → List End → NodeWorld × List Occurrence
ends_take_all w [] = (w, [])
ends_take_all w (e ∷ ends) =
    let first : NodeWorld × List Occurrence = end_takes_all w e in
    let later : NodeWorld × List Occurrence = ends_take_all first.0 ends in
    (later.0, first.1 ++ later.1)

-- A round: each end takes all that stands on its wire then, and then time passes once.
abbrev pub world_round : NodeWorld → NodeWorld × List Occurrence
world_round w =
    let taken : NodeWorld × List Occurrence = ends_take_all w (ends_in_order w) in
    let ticked : NodeWorld × List Occurrence = all_happen taken.0 (Ticks ∷ []) in
    (ticked.0, taken.1 ++ ticked.1)

abbrev pub world_after_round : NodeWorld → NodeWorld
world_after_round w = (world_round w).0

-- so many rounds, one after another
abbrev pub rounds_of_world : ℕ → NodeWorld → NodeWorld × List Occurrence
rounds_of_world zero w = (w, [])
rounds_of_world (suc r) w =
    let first : NodeWorld × List Occurrence = world_round w in
    let later : NodeWorld × List Occurrence = rounds_of_world r first.0 in
    (later.0, first.1 ++ later.1)

-- the least number of rounds after which all links are at rest, or n where none below n is
abbrev pub world_rounds_to_settle : ℕ → NodeWorld → ℕ
world_rounds_to_settle n w = steps_to_rest world_rests world_after_round n w

-- what a line does that has the world settle, with n rounds at most
abbrev pub world_settling : ℕ → NodeWorld → NodeWorld × List Occurrence
world_settling n w = rounds_of_world (world_rounds_to_settle n w) w
