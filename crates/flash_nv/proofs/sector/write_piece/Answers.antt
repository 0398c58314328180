use Rattle.flash_nv.proofs.Words.{ArePages, Map, arith, false, subst, sym, true}
use Rattle.flash_nv.proofs.PutLemmas.{not_ok}
use Rattle.flash_nv.proofs.ContentLemmas.{piece_written, piece_pages, piece_step}
use Rattle.flash_nv.proofs.sector.write_piece.Goals as goal

pub returns-in_err-put-clause-written : goal.returns-in_err-put-clause-written
returns-in_err-put-clause-written g c = λ tells clean are. rw (not_ok c.from_residual-in_err-put.result c.from_residual-in_err-put.ensures.0)
    (piece_written false (g.F.Flash.cells c.args.flash.now) (g.F.Flash.cells c.read_sector.new.flash) (g.F.Flash.cells c.put.new.flash) c.args.map.now.pages
    c.page.result c.free-page.result c.args.sector c.in_ok-version.version c.args.from c.args.bytes.now c.read_sector.new.whole c.lay.new.whole
    (c.in_ok-version.ensures.kept tells) (c.in_err-put.ensures.put tells) clean are c.page.ensures.page (c.in_ok-version.ensures.version tells) (omega arith)
    c.free-page.ensures.below c.ranges.sector.fits c.free-page.ensures.free (c.in_ok-version.ensures.bytes tells) c.lay.ensures.laid c.requires)

pub returns-clause-written : goal.returns-clause-written
returns-clause-written g c = λ tells clean are.
    piece_written true (g.F.Flash.cells c.args.flash.now) (g.F.Flash.cells c.read_sector.new.flash) (g.F.Flash.cells c.put.new.flash) c.args.map.now.pages
    c.page.result c.free-page.result c.args.sector c.in_ok-version.version c.args.from c.args.bytes.now c.read_sector.new.whole c.lay.new.whole
    (c.in_ok-version.ensures.kept tells) (c.in_ok-put.ensures.put tells) clean are c.page.ensures.page (c.in_ok-version.ensures.version tells) (omega arith)
    c.free-page.ensures.below c.ranges.sector.fits c.free-page.ensures.free (c.in_ok-version.ensures.bytes tells) c.lay.ensures.laid c.requires

pub returns-clause-pages : goal.returns-clause-pages
returns-clause-pages g c = λ tells clean are.
    subst (λ (m : Map). ArePages (g.F.Flash.cells c.put.new.flash) m.pages) (sym c.take.ensures)
    (piece_pages (g.F.Flash.cells c.args.flash.now) (g.F.Flash.cells c.read_sector.new.flash) (g.F.Flash.cells c.put.new.flash) c.args.map.now.pages
    c.page.result c.free-page.result c.args.sector c.in_ok-version.version c.args.from c.args.bytes.now c.lay.new.whole
    (c.in_ok-version.ensures.kept tells) (c.in_ok-put.ensures.put tells) (returns-clause-written g c tells clean are) are c.page.ensures.page
    (c.in_ok-version.ensures.version tells) (omega arith) c.free-page.ensures.below c.ranges.sector.fits c.page.ensures.len)

pub returns-clause-step : goal.returns-clause-step
returns-clause-step g c = λ tells are.
    piece_step (g.F.Flash.cells c.args.flash.now) (g.F.Flash.cells c.read_sector.new.flash) (g.F.Flash.cells c.put.new.flash) c.args.map.now
    c.take.new.self c.page.result c.free-page.result c.args.sector c.in_ok-version.version c.args.from c.args.bytes.now c.read_sector.new.whole
    c.lay.new.whole (c.in_ok-version.ensures.kept tells) (c.in_ok-put.ensures.put tells) are c.page.ensures.page (c.in_ok-version.ensures.version tells)
    c.ranges.sector.fits c.free-page.ensures c.take.ensures (c.in_ok-version.ensures.bytes tells) c.lay.ensures.laid
