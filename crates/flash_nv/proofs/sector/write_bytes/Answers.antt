use Rattle.flash_nv.proofs.Words.{AreSteps, arith, false, length, min, sectors, slice_range, subst, ◌%◌, ◌+◌, ◌-◌, ◌/◌, ◌≡◌}
use Rattle.flash_nv.proofs.ContentLemmas.{front_more, front_beside, part-length, edge_more, at_edge, spent_before, steps_more}
use Rattle.flash_nv.proofs.sector.write_bytes.Goals as goal

pub loop-done-preserved : goal.loop-done-preserved
loop-done-preserved g c =
    let i = c.loop-done.invariant in
    let at = c.args.at in
    let bytes = c.args.bytes.now in
    let done = c.loop-done.done in
    let len = c.min-len.result in
    let place = at + done in
    let old = g.F.Flash.cells c.args.flash.now in
    let mid = g.F.Flash.cells c.loop-done.flash in
    let new = g.F.Flash.cells c.write_piece.new.flash in
    let is : len ≡ min (256 - place % 256) (length bytes - done) = c.min-len.ensures in
    record {
      inside = omega arith;
      edge = edge_more at done (length bytes) len is c.loop-done-test.true;
      count = omega (arith, i.count, c.in-Ok.ensures.count);
      front = λ tells clean are.
          front_more old mid new at bytes done len (place / 256) (place % 256) (omega arith) (omega arith) (omega (arith, c.loop-done-test.true))
          (omega arith) c.requires
          (part-length bytes done len (omega arith)) (i.front tells clean are)
          (c.in-Ok.ensures.written tells (i.front tells clean are).kept.clean (i.pages tells clean are));
      steps = λ tells clean are.
          steps_more old mid new c.args.map.now c.loop-done.map c.write_piece.new.map at bytes done len (place / 256) (place % 256) (omega arith) (omega arith)
          is c.loop-done-test.true (at_edge done (length bytes) (place % 256) c.loop-done-test.true i.edge) (part-length bytes done len (omega arith))
          (i.steps tells clean are) (c.in-Ok.ensures.step tells (i.pages tells clean are));
      pages = λ tells clean are. c.in-Ok.ensures.pages tells (i.front tells clean are).kept.clean (i.pages tells clean are);
    }

pub returns-in-Err-clause-kept : goal.returns-in-Err-clause-kept
returns-in-Err-clause-kept g c = λ tells clean are.
    let i = c.loop-done.invariant in
    let at = c.args.at in
    let bytes = c.args.bytes.now in
    let done = c.loop-done.done in
    let place = at + done in
    let is : c.min-len.result ≡ min (256 - place % 256) (length bytes - done) = c.min-len.ensures in
    front_beside false (g.F.Flash.cells c.args.flash.now) (g.F.Flash.cells c.loop-done.flash) (g.F.Flash.cells c.write_piece.new.flash) at bytes done
    (place / 256) (place % 256) (slice_range bytes done (done + c.min-len.result)) (omega arith)
    (omega (arith, part-length bytes done c.min-len.result (omega arith), c.loop-done-test.true)) (i.front tells clean are)
    (c.in-Err.ensures.written tells (i.front tells clean are).kept.clean (i.pages tells clean are))

pub returns-in-Err-clause-spent : goal.returns-in-Err-clause-spent
returns-in-Err-clause-spent g c = λ tells clean are why.
    let i = c.loop-done.invariant in
    let at = c.args.at in
    let bytes = c.args.bytes.now in
    let done = c.loop-done.done in
    let place = at + done in
    spent_before (g.F.Flash.cells c.args.flash.now) (g.F.Flash.cells c.loop-done.flash) (g.F.Flash.cells c.write_piece.new.flash) at bytes done (place / 256)
    (place % 256) (omega arith) (omega arith) c.loop-done-test.true c.requires
    (at_edge done (length bytes) (place % 256) c.loop-done-test.true i.edge) (i.front tells clean are)
    (c.in-Err.ensures.spent tells (i.pages tells clean are) why) (c.in-Err.ensures.same tells why)

pub returns-clause-steps : goal.returns-clause-steps
returns-clause-steps g c = λ tells clean are.
    let i = c.loop-done.invariant in
    subst (λ n. AreSteps (sectors c.args.at n) c.args.at c.args.bytes.now (g.F.Flash.cells c.args.flash.now) c.args.map.now
    (g.F.Flash.cells c.loop-done.flash) c.loop-done.map) (omega (arith, i.inside, c.loop-done-test.false)) (i.steps tells clean are)
