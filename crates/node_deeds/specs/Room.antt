-- What is spare at the ends of a node, and what deeds lack there.
use Rattle.std.specs.Prelude.{◌≡◌, ℕ, nat_lt, if◌then◌else◌, List, [], ◌∷◌, slice_index, Option, Some, None}
use Rattle.std.specs.Option.{option_map_or}
use Rattle.link_laws.specs.machine.Machine.{spare}
use Rattle.node_machine.specs.Parts.{Port}
use Rattle.node_machine.specs.Carrying.{port_at}
use Rattle.node_deeds.specs.declared.room.Shortfall.{Shortfall}

-- what is spare at the end of the link with each host stands at its number
pub record AreSpares (spares : List ℕ) (ports : List Port) : Type 0 where
  pub same : (h : ℕ) → slice_index spares h ≡ option_map_or (λ (p : Port). spare p.side) (port_at ports h) 0

-- what is needed, and what is spare
abbrev pub lack_shown : Shortfall → ℕ × ℕ
lack_shown l = (l.need, l.spare)

-- a need that is above what is spare
abbrev pub short_of : ℕ → ℕ → Option (ℕ × ℕ)
short_of spare need = if nat_lt spare need then Some (need, spare) else None

-- the first, or else the second
abbrev pub or_else : Option (ℕ × ℕ) → Option (ℕ × ℕ) → Option (ℕ × ℕ)
or_else None second = second
or_else (Some lack) second = Some lack

-- the first of these needs that is above what is spare
abbrev pub lack_by : (ℕ → ℕ) → List (ℕ × ℕ) → Option (ℕ × ℕ)
lack_by spare [] = None
lack_by spare (n ∷ later) = or_else (short_of (spare n.0) n.1) (lack_by spare later)
