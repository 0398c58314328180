use Rattle.world.proofs.Words.{IsMidway, Link, ◌+◌, ◌-◌, ◌≤◌}
use Rattle.link_laws.specs.machine.Machine.{LinkEnd as Machine}
use Rattle.world.proofs.Sending.{Sending}
use Rattle.world.proofs.steps.send_all.Given as goal

abbrev pub invariant-loop : goal.invariant-loop
invariant-loop l =
    ((k : Link) (m : Machine) → IsMidway l.initial.near l.initial.far l.initial.resets k m
    → Sending l.at l.near l.far l.resets k m l.initial.entries.items l.entries.items (12 - l.counter))
    × (l.resets ≤ l.initial.resets + l.counter)
