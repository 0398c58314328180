-- Which schedules a world of nodes has.
use Rattle.std.specs.Prelude.{◌≡◌, ◌⊎◌, ℕ, ◌-◌, ◌^◌, ◌≤◌, ◌==◌, false, IsTrue, List, [], ◌∷◌, ◌++◌, length}
use Rattle.std.specs.List.{AllByRecursion}
use Rattle.trace_model.specs.Lines.{IsHost}
use Rattle.trace_model.specs.declared.entry.Entry.{Entry}
use Rattle.trace_model.specs.declared.line.Line.{Line}
use Rattle.trace_model.specs.declared.line.Line.TheVariants.{Send}
use Rattle.node_machine.specs.world.NodeFilters.{commands_in}

-- no host stands twice in a list
abbrev pub AreDifferent : List ℕ → Type 0
AreDifferent [] = Unit {0}
AreDifferent (h ∷ hosts) = AllByRecursion (λ k. (k == h) ≡ false) hosts × AreDifferent hosts

-- they are hosts, and no two of them are the same
pub record AreHosts (hosts : List ℕ) : Type 0 where
  pub all : AllByRecursion IsHost hosts
  pub different : AreDifferent hosts

-- a node is the controller or a host
abbrev pub IsNodeNumber : ℕ → Type 0
IsNodeNumber n = (n ≡ 0) ⊎ IsHost n

-- a line that sends a message does so at a host's end
abbrev pub IsSentByHost : Line → Type 0
IsSentByHost (Send e pid message) = IsTrue e.at_host
IsSentByHost _ = Unit {0}

-- No node has more commands than a journal counts.
abbrev pub IsFew : List Entry → Type 0
IsFew t = (front back : List Entry) (n : ℕ) → t ≡ front ++ back → length (commands_in front n) ≤ 2 ^ 32 - 1
