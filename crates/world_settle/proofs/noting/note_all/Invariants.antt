use Rattle.std.proofs.Common.{◌≡◌, ◌++◌, true, false, take}
use Rattle.world_settle.proofs.noting.note_all.Given as goal

-- what was noted are the entries so far, unless the watch is short
abbrev pub invariant-loop-entry : goal.invariant-loop-entry
invariant-loop-entry g l =
    let noted = g.W.Watch.noted in
    let short = g.W.Watch.is_short in
    (short l.watch ≡ false → noted l.watch ≡ noted l.initial.watch ++ take l.entry-index l.entries)
    × (short l.initial.watch ≡ true → short l.watch ≡ true)
