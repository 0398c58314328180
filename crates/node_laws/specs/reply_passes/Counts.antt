-- How many commands were noted.
use Rattle.std.specs.Prelude.{ℕ, ◌+◌, List, [], ◌∷◌}
use Rattle.trace_model.specs.declared.entry.Entry.{Entry}
use Rattle.trace_model.specs.declared.entry.Entry.TheVariants as entry

-- the commands among entries, of all nodes, also those whose writes were cut
abbrev pub commands_noted : List Entry → ℕ
commands_noted [] = 0
commands_noted (entry.Command node c ∷ entries) = 1 + commands_noted entries
commands_noted (x ∷ entries) = commands_noted entries
