use Rattle.flash_nv.proofs.Words.{ArePagesFound, Map, arith, slice_index, slice_set, subst, sym, ◌+◌, ◌∙◌}
use Rattle.flash_nv.proofs.ScanLemmas.{found_invalid, found_older, found_newer}
use Rattle.flash_nv.proofs.scan.Found.note.Goals as goal

pub returns-then-not-is_valid-clause-found : goal.returns-then-not-is_valid-clause-found
returns-then-not-is_valid-clause-found c = λ cells is found.
    found_invalid cells c.args.page c.args.header.now c.args.self.now.map.pages c.args.self.now.versions is (sym c.is_valid.ensures ∙ c.if-not-is_valid.true)
    found

pub returns-then-not-is_newer-clause-found : goal.returns-then-not-is_newer-clause-found
returns-then-not-is_newer-clause-found c = λ cells is found.
    let fits = c.fits-header 0 in
    found_older cells c.args.page c.args.header.now c.args.self.now.map.pages c.args.self.now.versions c.version_of-version.result is (omega arith)
    c.version_of-version.ensures (sym c.is_newer.ensures.newer ∙ c.if-not-is_newer.true) found

pub returns-clause-found : goal.returns-clause-found
returns-clause-found c = λ cells is found.
    let fits = c.fits-header 0 in
    let versions = slice_set c.args.self.now.versions (slice_index c.args.header.now 0) c.version_of-version.result in
    subst (λ (m : Map). ArePagesFound cells (c.args.page + 1) m.pages versions) (sym c.set_page.ensures)
    (found_newer cells c.args.page c.args.header.now c.args.self.now.map.pages c.args.self.now.versions c.version_of-version.result is (omega arith)
    c.is_newer.ensures.pages c.is_newer.ensures.versions (sym c.is_valid.ensures ∙ c.if-not-is_valid.false) c.version_of-version.ensures
    (sym c.is_newer.ensures.newer ∙ c.if-not-is_newer.false) found)
