use Rattle.worked_nodes.proofs.Words.{AreHandedOn, Core, List, Port, RunsAs, due_as_far_as, suc, ℕ, ◌≡◌}
use Rattle.worked_nodes.proofs.Fetching.{HasSentBelow}
use Rattle.worked_nodes.proofs.library.send_all.Given as goal

abbrev pub invariant-loop-host : goal.invariant-loop-host
invariant-loop-host g l =
    ((core : Core) (ports : List Port) → RunsAs l.initial.controller core ports → (j : ℕ) × (l.host ≡ suc j)
    × HasSentBelow l.controller core l.host ports
    × AreHandedOn (g.S.Wires.is_full l.initial.wires) (g.S.Wires.is_full l.wires) (g.S.Wires.carried l.initial.wires) (g.S.Wires.carried l.wires)
    (due_as_far_as j ports))
    × (l.controller.store ≡ l.initial.controller.store)
