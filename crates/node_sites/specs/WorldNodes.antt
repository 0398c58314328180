-- What the world knows of a node that runs, controller or host.
use Rattle.std.specs.Prelude.{◌≡◌, ℕ, Bool, true, false, not, List, [], ◌++◌, map, None}
use Rattle.std.specs.List.{AllByRecursion}
use Rattle.swp_base.specs.InMemory.{Memory}
use Rattle.journal_laws.specs.Planned.{after_planned}
use Rattle.trace_model.specs.declared.entry.Entry.{Entry}
use Rattle.link_laws.specs.machine.Machine.{next_frame}
use Rattle.node_machine.specs.Parts.{Port, Work}
use Rattle.node_sites.specs.declared.noted.Noted.{Noted}
use Rattle.node_sites.specs.Numbers.{with_session_number, session_at}
use Rattle.node_core.specs.Running.{RunsAs}
use Rattle.node_core.specs.declared.node.Node.{Node}
use Rattle.node_sites.specs.Powers.{node_memory}

-- a node as a step of it begins, all of whose frames went out: over its memory, in which nothing was written yet
pub record BeginsOver (n : Node Memory) (w : Work) : Type 0 where
  pub runs : RunsAs n w.core w.ports
  pub sent : AllByRecursion (λ (p : Port). next_frame p.side ≡ None) w.ports
  pub fresh : AllByRecursion (λ (p : Port). (p.late ≡ false) × (p.ended ≡ false)) w.ports
  pub power : w.cut ≡ false
  pub plan : w.plan ≡ (node_memory n).plan
  pub writes : w.writes ≡ []

-- A node that was old has become new in a step behind which it is k: it runs on, or has lost its power, over a memory in which the step's
-- writes were made. These were noted, while there was memory for them, and nothing is said of them where there wasn't.
pub record HasGone (old new : Node Memory) (k : Work) (live : Bool) : Type 0 where
  pub power : k.cut ≡ not live
  pub memory : node_memory new ≡ after_planned k.writes (node_memory old)
  pub runs : live ≡ true → RunsAs new k.core k.ports

-- These were noted behind what was there, with the numbers of these sessions, while there was memory.
pub record IsNotedSo (n : Noted) (sessions : List ℕ) (start entries : List Entry) : Type 0 where
  pub are : n.short ≡ false → (n.sessions ≡ sessions) × (n.entries.items ≡ start ++ map (with_session_number (session_at sessions)) entries)

-- they are so noted as they are
abbrev pub IsNotedBehind : Noted → List Entry → List Entry → Type 0
IsNotedBehind n start entries = n.short ≡ false → n.entries.items ≡ start ++ entries
