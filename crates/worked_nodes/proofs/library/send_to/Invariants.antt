use Rattle.worked_nodes.proofs.Words.{AreHandedOn, Core, List, Port, RunsAs, ℕ, ◌≡◌}
use Rattle.worked_nodes.proofs.Fetching.{IsSendingTo}
use Rattle.worked_nodes.proofs.library.send_to.Given as goal

abbrev pub invariant-loop : goal.invariant-loop
invariant-loop g l =
    ((core : Core) (ports : List Port) → RunsAs l.initial.controller core ports → (out : List (ℕ × List ℕ))
    × IsSendingTo l.controller core l.host ports l.counter out
    × AreHandedOn (g.S.Wires.is_full l.initial.wires) (g.S.Wires.is_full l.wires) (g.S.Wires.carried l.initial.wires) (g.S.Wires.carried l.wires) out)
    × (l.controller.store ≡ l.initial.controller.store)
