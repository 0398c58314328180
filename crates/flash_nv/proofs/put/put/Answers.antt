use Rattle.flash_nv.proofs.Words.{ap, arith, false, is_ok, length}
use Rattle.flash_nv.proofs.PutLemmas.{made_length, not_ok, erase_put, bytes_put, header_put}
use Rattle.flash_nv.proofs.put.put.Goals as goal

pub returns-in_err-erase-clause-put : goal.returns-in_err-erase-clause-put
returns-in_err-erase-clause-put g c = λ tells. rw (not_ok c.from_residual.result c.from_residual.ensures.0)
    (erase_put false (g.F.Flash.cells c.args.flash.now) (g.F.Flash.cells c.erase.new.self) c.args.page c.args.sector c.args.version c.args.bytes.now
    c.requires (c.in_err-erase.ensures.changed tells))

pub program-requires : goal.program-requires
program-requires g c = record { page = c.args.page; below = c.requires; from = omega arith; to = omega (arith, c.told-bytes) }

pub returns-in_err-program-clause-put : goal.returns-in_err-program-clause-put
returns-in_err-program-clause-put g c = λ tells. rw (not_ok c.from_residual-in_err-program.result c.from_residual-in_err-program.ensures.0)
    (bytes_put false (g.F.Flash.cells c.args.flash.now) (g.F.Flash.cells c.erase.new.self) (g.F.Flash.cells c.program.new.self) c.args.page c.args.sector
    c.args.version c.args.bytes.now c.requires c.told-bytes (c.in_ok-erase.ensures.changed tells) (c.in_err-program.ensures.changed tells))

pub program-requires-2 : goal.program-requires-2
program-requires-2 g c = record {
  page = c.args.page;
  below = c.requires;
  from = omega arith;
  to = omega (arith, made_length c.args.sector c.args.version, ap length c.page_header.ensures);
}

pub returns-clause-put : goal.returns-clause-put
returns-clause-put g c = λ tells.
    header_put (is_ok c.program-2.result) (g.F.Flash.cells c.args.flash.now) (g.F.Flash.cells c.erase.new.self) (g.F.Flash.cells c.program.new.self)
    (g.F.Flash.cells c.program-2.new.self) c.args.page c.args.sector c.args.version c.args.bytes.now c.requires c.ranges.sector.fits c.told-bytes
    (λ j. let fits = c.fits-bytes j in omega arith) (c.in_ok-erase.ensures.changed tells) (c.in_ok-program.ensures.changed tells)
    (rw (← c.page_header.ensures) (c.program-2.ensures.changed tells))
