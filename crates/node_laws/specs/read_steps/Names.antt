-- Notices of creations name the hosts that they go to.
use Rattle.std.specs.Prelude.{◌≡◌, ℕ, ◌==◌, ◌&&◌, true, List, slice_index}
use Rattle.std.specs.List.{AllByRecursion}
use Rattle.trace_model.specs.declared.entry.Entry.{Entry}
use Rattle.trace_model.specs.declared.entry.Entry.TheVariants as entry
use Rattle.gate_answers.specs.Answers.{instruction_in}
use Rattle.history.specs.Filters.{same_end}
use Rattle.node_machine.specs.world.World.{end_c}
use Rattle.node_machine.specs.world.NodeFilters.{is_notice}

-- the notice of a creation that the controller sends to a host names this host as that of its pipe's destination
abbrev pub IsNamed : Entry → Type 0
IsNamed (entry.Sent e n pid message) =
    (h : ℕ) → (same_end e (end_c h) && pid == 1 && is_notice message) ≡ true → instruction_in message ≡ 18 → slice_index message 3 ≡ h
IsNamed _ = Unit {0}

-- so it is with all notices
abbrev pub AreNamed : List Entry → Type 0
AreNamed t = AllByRecursion IsNamed t
