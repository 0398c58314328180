-- Bytes come to a node alone.
use Rattle.swp_words.proofs.Words.{HasRun, arith, drop, false, length, subst, take, true, ℕ, ◌++◌, ◌-◌}
use Rattle.swp_words.proofs.Alone.{waits_on, heard_more, is_cut}
use Rattle.swp_words.proofs.Recording.{on_err}
use Rattle.swp_words.proofs.lone.hear_bytes.Goals as goal

pub bytes-preserved : goal.bytes-preserved
bytes-preserved g c =
    let at : ℕ = c.bytes.at in
    let bytes = c.args.bytes.now in
    let kept = c.bytes.invariant in
    record {
      within = omega (arith, c.hear-heard.ensures.within, kept.within, c.bytes-test.true);
      counted = kept.counted;
      writes = omega (arith, kept.writes, c.make_room.ensures.count);
      memory = omega (arith, kept.memory, c.hear-heard.ensures.count);
      may = c.hear-heard.ensures.may c.if-heard.false;
      waits = λ o came earlier before h.
          let d = c.bytes.ending.end in
          let e = c.hear-heard.new.end in
          let now = g.K.Sink.written c.make_room.new.sink in
          let front = came ++ take at bytes in
          let n : ℕ = c.hear-heard.result.count in
          let w = waits_on g.N.Nv.writes g.K.Sink.tells o d false front earlier
          c.bytes.ending.out.items c.make_room.new.out.items before
          (g.K.Sink.written c.bytes.sink) now (kept.waits o came earlier before h) c.in_ok-make_room.ensures.wrote in
          heard_more g.N.Nv.writes g.K.Sink.tells o d e false came bytes at n earlier
          c.make_room.new.out.items c.hear-heard.new.out.items before now
          c.hear-heard.ensures.form c.hear-heard.ensures.number kept.within w
          (subst (λ s. HasRun g.N.Nv.writes o.content o.first e s
          (front ++ take n (take (length bytes - at) (drop at bytes)))
          ((earlier ++ w.sent) ++ c.hear-heard.new.out.items)) c.if-heard.false
          (c.hear-heard.ensures.run o.content front (earlier ++ w.sent) o.first w.run));
    }

pub returns-then-heard-clause-goes : goal.returns-then-heard-clause-goes
returns-then-heard-clause-goes g c o came earlier before h =
    let at : ℕ = c.bytes.at in
    let bytes = c.args.bytes.now in
    let kept = c.bytes.invariant in
    let d = c.bytes.ending.end in
    let e = c.hear-heard.new.end in
    let now = g.K.Sink.written c.make_room.new.sink in
    let front = came ++ take at bytes in
    let n : ℕ = c.hear-heard.result.count in
    let w = waits_on g.N.Nv.writes g.K.Sink.tells o d false front earlier c.bytes.ending.out.items
    c.make_room.new.out.items before
    (g.K.Sink.written c.bytes.sink) now (kept.waits o came earlier before h) c.in_ok-make_room.ensures.wrote in
    heard_more g.N.Nv.writes g.K.Sink.tells o d e true came bytes at n earlier
    c.make_room.new.out.items c.hear-heard.new.out.items before now
    c.hear-heard.ensures.form c.hear-heard.ensures.number kept.within w
    (subst (λ s. HasRun g.N.Nv.writes o.content o.first e s
    (front ++ take n (take (length bytes - at) (drop at bytes)))
    ((earlier ++ w.sent) ++ c.hear-heard.new.out.items)) c.if-heard.true
    (c.hear-heard.ensures.run o.content front (earlier ++ w.sent) o.first w.run))

pub returns-then-heard-clause-nv_fault : goal.returns-then-heard-clause-nv_fault
returns-then-heard-clause-nv_fault g c on =
    let rose = c.hear-heard.ensures.rose c.if-heard.true in
    let count = c.bytes.invariant.memory in
    omega (arith, rose, count)

pub returns-in_err-make_room-clause-ends : goal.returns-in_err-make_room-clause-ends
returns-in_err-make_room-clause-ends g c =
    on_err _ c.from_residual.result (λ o came earlier before h. (
      c.bytes.at,
      c.bytes.invariant.within,
      is_cut g.N.Nv.writes g.K.Sink.tells o c.bytes.ending.end false
          (came ++ take c.bytes.at c.args.bytes.now) earlier c.bytes.ending.out.items before
          (g.K.Sink.written c.bytes.sink) (g.K.Sink.written c.make_room.new.sink) (c.bytes.invariant.waits o came earlier before h)
          c.in_err-make_room.ensures.front,
    ))
