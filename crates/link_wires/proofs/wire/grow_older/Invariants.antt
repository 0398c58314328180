use Rattle.link_wires.proofs.Words.{List, OnWire, WireStandsFor, ◌-◌}
use Rattle.link_wires.proofs.Wires.{Aging}
use Rattle.link_wires.proofs.wire.grow_older.Given as goal

abbrev pub invariant-loop : goal.invariant-loop
invariant-loop l =
    (frames : List OnWire) → WireStandsFor l.initial.wire frames → Aging l.to frames l.wire l.initial.entries.items l.entries.items (l.end - l.counter)
