use Rattle.world.proofs.Words.{HasRepeated, HaveSent, Link, SidesStandFor, Taken, ◌*◌, ◌+◌, ◌≤◌}
use Rattle.world.proofs.repeats.take_frames.Given as goal

abbrev pub invariant-loop : goal.invariant-loop
invariant-loop l =
    ((k : Link) → SidesStandFor l.initial.near l.initial.far l.initial.resets l.at k → HaveSent k 320000
    → HasRepeated l.near l.far l.resets l.at k (Taken l.at) l.counter l.initial.entries.items l.entries.items)
    × (l.resets ≤ l.initial.resets + 12 * l.counter)
