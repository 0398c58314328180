use Rattle.flash_nv.proofs.Words.{ArePages, AreSteps, IsClean, IsFrontWritten, IsTrue, length, sectors, ◌%◌, ◌+◌, ◌-◌, ◌≡◌, ◌≤◌, ◌⊎◌}
use Rattle.flash_nv.proofs.sector.write_bytes.Given as goal

abbrev pub invariant-loop-done : goal.invariant-loop-done
invariant-loop-done g l = record {
  inside : l.done ≤ length l.bytes;
  edge : (l.done ≡ 0) ⊎ ((l.done ≡ length l.bytes) ⊎ ((l.at + l.done) % 256 ≡ 0));
  count : g.F.Flash.faults l.initial.flash ≤ g.F.Flash.faults l.flash;
  front : IsTrue g.F.Flash.tells → IsClean (g.F.Flash.cells l.initial.flash) → ArePages (g.F.Flash.cells l.initial.flash) l.initial.map.pages
      → IsFrontWritten (g.F.Flash.cells l.initial.flash) (g.F.Flash.cells l.flash) l.at l.bytes l.done;
  steps : IsTrue g.F.Flash.tells → IsClean (g.F.Flash.cells l.initial.flash) → ArePages (g.F.Flash.cells l.initial.flash) l.initial.map.pages
      → AreSteps (sectors l.at l.done) l.at l.bytes (g.F.Flash.cells l.initial.flash) l.initial.map (g.F.Flash.cells l.flash) l.map;
  pages : IsTrue g.F.Flash.tells → IsClean (g.F.Flash.cells l.initial.flash) → ArePages (g.F.Flash.cells l.initial.flash) l.initial.map.pages
      → ArePages (g.F.Flash.cells l.flash) l.map.pages;
}

abbrev pub decreases-loop-done : goal.decreases-loop-done
decreases-loop-done g l = length l.bytes - l.done
