-- A message that has its turn, before what its handling does.
use Rattle.std.specs.Prelude.{ℕ, Bool, true, false, [], ◌∷◌}
use Rattle.std.specs.Option.{option_map_or}
use Rattle.trace_model.specs.declared.entry.Entry.TheVariants as entry
use Rattle.link_laws.specs.machine.Machine.{Message}
use Rattle.link_laws.specs.machine.Machine.Turn.{FetchMessage}
use Rattle.node_machine.specs.Parts.{Port, Work}
use Rattle.node_machine.specs.Carrying.{port_at, end_of_node, noting, turn_at, with_desk}

-- its turn is noted, and it is the node's from now on
abbrev pub has_turn : ℕ → Message → Work → Work
has_turn h m w =
    with_desk h (λ d. record d { holds = false })
    (turn_at h FetchMessage (noting (entry.Turn (end_of_node w.core h) m.0 m.1 ∷ []) w))

-- that it is held is noted, unless it was
abbrev pub is_noted_held : ℕ → ℕ × ℕ → Work → Work
is_noted_held h short w = by_desk (option_map_or (λ (p : Port). p.desk.holds) (port_at w.ports h) false) where
  by_desk : Bool → Work
  by_desk true = w
  by_desk false = with_desk h (λ d. record d { holds = true }) (noting (entry.Held (end_of_node w.core h) short.0 short.1 ∷ []) w)
