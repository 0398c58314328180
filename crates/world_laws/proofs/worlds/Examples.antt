-- A worked example of a world of nodes that settles, computed from its definitions: the rounds, their causes, and what is noted of them.
use Rattle.world_laws.proofs.Words.{Entry, Happening, Line, List, NodeWorld, Takes, [], end_c, end_h, entries_in, new_world, refl, world_after}
use Rattle.world_laws.proofs.Words.{world_rounds_to_settle, world_settling, world_settling_causes, ℕ, ◌∷◌, ◌≡◌}
use Rattle.hci_tables.specs.declared.command.Command.TheVariants as command
use Rattle.trace_model.specs.declared.entry.Entry.TheVariants as entry
use Rattle.trace_model.specs.declared.line.Line.TheVariants as line
use Rattle.journal_laws.specs.Records.{found_from}
use Rattle.gate_admin.specs.View.{hosts_where}
use Rattle.pipe_table.specs.PipeRows.{lowest_free}
use Rattle.node_machine.specs.world.World.Happening.{Ticks}

-- how many rounds a world goes through behind these lines where it settles with n at most, their causes, and what is noted of them
abbrev settled_behind : List ℕ → List Line → ℕ → ℕ × List Happening × List Entry
settled_behind hosts lines n = from (world_after (new_world hosts) lines) where
  from : NodeWorld → ℕ × List Happening × List Entry
  from w = (world_rounds_to_settle n w, world_settling_causes n w, entries_in (world_settling n w).1)

-- activation goes on until both ends are active
activation_settles : settled_behind (1 ∷ []) (line.Boot 0 ∷ line.Boot 1 ∷ line.Activate 1 1 0 ∷ []) 20 ≡ (
  2,
  Takes (end_c 1) ∷ Takes (end_h 1) ∷ Ticks ∷ Takes (end_c 1) ∷ Ticks ∷ [],
  entry.Took (end_c 1) (97 ∷ 0 ∷ 1 ∷ []) ∷
      entry.Command 0 (command.Sync 1 1) ∷
      entry.Emit (end_c 1) (98 ∷ 0 ∷ []) ∷
      entry.Took (end_h 1) (98 ∷ 0 ∷ []) ∷
      entry.Active (end_h 1) ∷
      entry.Emit (end_h 1) (96 ∷ []) ∷
      entry.Took (end_c 1) (96 ∷ []) ∷
      entry.Active (end_c 1) ∷ [],
)
unfolding found_from hosts_where lowest_free
activation_settles = refl
