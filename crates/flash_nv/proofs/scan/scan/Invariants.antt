use Rattle.flash_nv.proofs.Words.{ArePagesFound, IsTrue, ◌≡◌, ◌≤◌}
use Rattle.flash_nv.proofs.scan.scan.Given as goal

abbrev pub invariant-loop-page : goal.invariant-loop-page
invariant-loop-page g l = record {
  count : g.F.Flash.faults l.initial.flash ≤ g.F.Flash.faults l.flash;
  kept : IsTrue g.F.Flash.tells → g.F.Flash.cells l.flash ≡ g.F.Flash.cells l.initial.flash;
  found : IsTrue g.F.Flash.tells → ArePagesFound (g.F.Flash.cells l.initial.flash) l.page l.found.map.pages l.found.versions;
  next : l.found.map.next ≡ 0;
}
