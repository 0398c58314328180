use Rattle.flash_nv.proofs.Words.{ArePages, IsTrue, content_byte, length, slice_index, ℕ, ◌+◌, ◌-◌, ◌<◌, ◌≡◌, ◌≤◌}
use Rattle.flash_nv.proofs.sector.read_bytes.Given as goal

abbrev pub invariant-loop-done : goal.invariant-loop-done
invariant-loop-done g l = record {
  inside : l.done ≤ length l.buf;
  size : length l.buf ≡ length l.initial.buf;
  count : g.F.Flash.faults l.initial.flash ≤ g.F.Flash.faults l.flash;
  kept : IsTrue g.F.Flash.tells → g.F.Flash.cells l.flash ≡ g.F.Flash.cells l.initial.flash;
  bytes_are : IsTrue g.F.Flash.tells → ArePages (g.F.Flash.cells l.initial.flash) l.map.pages → (i : ℕ) → i < l.done
      → slice_index l.buf i ≡ content_byte (g.F.Flash.cells l.initial.flash) (l.at + i);
}

abbrev pub decreases-loop-done : goal.decreases-loop-done
decreases-loop-done g l = length l.buf - l.done
