-- The turns of a node: after each of its steps it goes once through its ends, and handles the messages that came.
use Rattle.std.specs.Prelude.{ℕ, ◌==◌, Bool, true, false, List, [], ◌∷◌, map, Option, Some, None}
use Rattle.std.specs.Option.{option_map_or}
use Rattle.trace_model.specs.declared.entry.Entry.TheVariants as entry
use Rattle.link_laws.specs.machine.Machine.{Message, is_held}
use Rattle.link_laws.specs.machine.Machine.Turn.{FetchMessage, Hold}
use Rattle.node_machine.specs.Parts.{Core, Port, Work, Deed, NodeView}
use Rattle.node_machine.specs.Carrying.{noting, unless_cut, port_at, with_desk, turn_at, end_of_node, all_done, needs, lack}
use Rattle.node_machine.specs.Controller.{view_of, controller_deeds}
use Rattle.node_machine.specs.HostReplies.{host_deeds}

-- What the handling of a message does that came at the end with this host, by what its node goes by.
abbrev pub deeds_for : NodeView → ℕ → Message → List Deed
deeds_for v h m = by_node (v.own.node == 0) where
  by_node : Bool → List Deed
  by_node true = controller_deeds v h m
  by_node false = option_map_or (λ e. host_deeds v.own e m) (v.ends h) []

-- at a node that runs
abbrev pub deeds_of : Core → List Port → ℕ → Message → List Deed
deeds_of core ports h m = deeds_for (view_of core ports) h m

-- the message is the node's from now on, and is handled
abbrev pub handles : ℕ → Message → List Deed → Work → Work
handles h m deeds w =
    all_done h deeds
    (with_desk h (λ d. record d { holds = false })
    (turn_at h FetchMessage (noting (entry.Turn (end_of_node w.core h) m.0 m.1 ∷ []) w)))

-- a message lacks room: that is noted once, and its end takes no more fragments
abbrev pub holds_back : ℕ → ℕ × ℕ → Work → Work
holds_back h short w = by_desk (option_map_or (λ (p : Port). p.desk.holds) (port_at w.ports h) false) where
  by_desk : Bool → Work
  by_desk true = turn_at h (Hold true) w
  by_desk false =
      turn_at h (Hold true)
      (with_desk h (λ d. record d { holds = true }) (noting (entry.Held (end_of_node w.core h) short.0 short.1 ∷ []) w))

-- no message is held at an end: it takes fragments again
abbrev pub lets_go : ℕ → Work → Work
lets_go h w = by_side (option_map_or (λ (p : Port). is_held p.side) (port_at w.ports h) false) where
  by_side : Bool → Work
  by_side true = turn_at h (Hold false) w
  by_side false = w

-- the messages that came at an end have their turns, in order, until one is held
abbrev pub have_turns : ℕ → List Message → Work → Work
have_turns h [] w = lets_go h w
have_turns h (m ∷ messages) w = by_room (have_turns h messages) (deeds_of w.core w.ports h m) where
  if_room : (Work → Work) → List Deed → Option (ℕ × ℕ) → Work
  if_room later deeds None = unless_cut later (handles h m deeds w)
  if_room later deeds (Some short) = holds_back h short w

  by_room : (Work → Work) → List Deed → Work
  by_room later deeds = if_room later deeds (lack w.ports (needs h deeds))

-- The node goes through these ends.
abbrev pub goes_through_ends : List ℕ → Work → Work
goes_through_ends [] w = w
goes_through_ends (h ∷ hosts) w =
    unless_cut (goes_through_ends hosts) (have_turns h (option_map_or (λ (p : Port). p.side.got) (port_at w.ports h) []) w)

-- it goes once through all of them, ascending
abbrev pub passes : Work → Work
passes w = goes_through_ends (map (λ (p : Port). p.desk.host) w.ports) w
