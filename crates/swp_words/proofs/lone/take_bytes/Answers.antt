-- A piece comes to a node alone.
use Rattle.swp_words.proofs.Words.{HasHeardAlone, IsCutAlone, IsWaitingAlone, ap, arith, false, length, length-take-le, most_bytes, refl, subst, take}
use Rattle.swp_words.proofs.Words.{take-take, take_all, true, ℕ, ◌++◌, ◌+◌, ◌∙◌, ◌≡◌, ◌≤◌}
use Rattle.swp_words.proofs.Alone.{waits, waits_no_more, is_cut, broken_in, stopped_in, too_long_in}
use Rattle.swp_words.proofs.lone.take_bytes.Goals as goal

pub returns-in-Err-clause-ends : goal.returns-in-Err-clause-ends
returns-in-Err-clause-ends g c given o bytes left before count some h =
    let d = c.args.ending.now.end in
    let e = c.hear_bytes.new.ending.end in
    let piece = c.args.piece.now in
    let was = g.K.Sink.written c.args.sink.now in
    let mid = g.K.Sink.written c.hear_bytes.new.sink in
    let few : ℕ = c.min-few.result in
    let small : few ≤ length piece = omega (arith, c.min-few.ensures) in
    let w = waits g.N.Nv.writes g.K.Sink.tells o d false bytes before was h c.args.ending.now.out.items
    c.requires.none in
    let cut = c.in-Err.ensures.ends o bytes h.written before w in
    let n : ℕ = cut.0 in
    let within : n ≤ few = omega (arith, cut.1, length-take-le few piece small) in
    broken_in g.N.Nv.writes g.K.Sink.tells o given d e bytes piece left before was mid n
    c.requires.size some h
    (subst (λ l. IsCutAlone g.N.Nv.writes g.K.Sink.tells o e (bytes ++ l) h.written before mid)
    (take-take n few piece within) cut.2)

pub returns-in-Err-put_out-clause-ends : goal.returns-in-Err-put_out-clause-ends
returns-in-Err-put_out-clause-ends g c given o bytes left before count some h =
    let d = c.args.ending.now.end in
    let e = c.hear_bytes.new.ending.end in
    let piece = c.args.piece.now in
    let was = g.K.Sink.written c.args.sink.now in
    let mid = g.K.Sink.written c.hear_bytes.new.sink in
    let few : ℕ = c.min-few.result in
    let small : few ≤ length piece = omega (arith, c.min-few.ensures) in
    let w = waits g.N.Nv.writes g.K.Sink.tells o d false bytes before was h c.args.ending.now.out.items
    c.requires.none in
    let now = g.K.Sink.written c.put_out.new.sink in
    let items = c.hear_bytes.new.ending.out.items in
    let stopped = c.in-Ok.heard.stopped in
    let n : ℕ = c.in-Ok.heard.count in
    let within : n ≤ few = omega (arith, c.in-Ok.ensures.within, length-take-le few piece small) in
    let k = subst (λ l. IsWaitingAlone g.N.Nv.writes g.K.Sink.tells o e stopped (bytes ++ l) h.written
    items before mid) (take-take n few piece within)
    (c.in-Ok.ensures.goes o bytes h.written before w) in
    broken_in g.N.Nv.writes g.K.Sink.tells o given d e bytes piece left before was now n
    c.requires.size some h
    (is_cut g.N.Nv.writes g.K.Sink.tells o e stopped (bytes ++ take n piece) h.written items before mid
    now k c.in-Err-put_out.ensures.front)

pub returns-then-heard-clause-ends : goal.returns-then-heard-clause-ends
returns-then-heard-clause-ends g c given o bytes left before count some h =
    let d = c.args.ending.now.end in
    let e = c.hear_bytes.new.ending.end in
    let piece = c.args.piece.now in
    let was = g.K.Sink.written c.args.sink.now in
    let mid = g.K.Sink.written c.hear_bytes.new.sink in
    let few : ℕ = c.min-few.result in
    let small : few ≤ length piece = omega (arith, c.min-few.ensures) in
    let w = waits g.N.Nv.writes g.K.Sink.tells o d false bytes before was h c.args.ending.now.out.items
    c.requires.none in
    let now = g.K.Sink.written c.put_out.new.sink in
    let items = c.hear_bytes.new.ending.out.items in
    let stopped = c.in-Ok.heard.stopped in
    let n : ℕ = c.in-Ok.heard.count in
    let within : n ≤ few = omega (arith, c.in-Ok.ensures.within, length-take-le few piece small) in
    let k = subst (λ l. IsWaitingAlone g.N.Nv.writes g.K.Sink.tells o e stopped (bytes ++ l) h.written
    items before mid) (take-take n few piece within)
    (c.in-Ok.ensures.goes o bytes h.written before w) in
    stopped_in g.N.Nv.writes g.K.Sink.tells o given e bytes piece left before now n c.requires.size some
    (subst (λ s. HasHeardAlone g.N.Nv.writes g.K.Sink.tells o e s (bytes ++ take n piece) before now)
    c.if-heard.true
    (waits_no_more g.N.Nv.writes g.K.Sink.tells o e stopped (bytes ++ take n piece) h.written items
    before mid now k c.in-Ok-put_out.ensures.wrote))

pub returns-then-few-piece-clause-ends : goal.returns-then-few-piece-clause-ends
returns-then-few-piece-clause-ends g c given o bytes left before count some h =
    let d = c.args.ending.now.end in
    let e = c.hear_bytes.new.ending.end in
    let piece = c.args.piece.now in
    let was = g.K.Sink.written c.args.sink.now in
    let mid = g.K.Sink.written c.hear_bytes.new.sink in
    let few : ℕ = c.min-few.result in
    let small : few ≤ length piece = omega (arith, c.min-few.ensures) in
    let w = waits g.N.Nv.writes g.K.Sink.tells o d false bytes before was h c.args.ending.now.out.items
    c.requires.none in
    let now = g.K.Sink.written c.put_out.new.sink in
    let items = c.hear_bytes.new.ending.out.items in
    let stopped = c.in-Ok.heard.stopped in
    let n : ℕ = c.in-Ok.heard.count in
    let within : n ≤ few = omega (arith, c.in-Ok.ensures.within, length-take-le few piece small) in
    let k = subst (λ l. IsWaitingAlone g.N.Nv.writes g.K.Sink.tells o e stopped (bytes ++ l) h.written
    items before mid) (take-take n few piece within)
    (c.in-Ok.ensures.goes o bytes h.written before w) in
    let all : n ≡ few = c.in-Ok.ensures.all c.if-heard.false ∙ length-take-le few piece small in
    let heard = subst (λ s. HasHeardAlone g.N.Nv.writes g.K.Sink.tells o e s (bytes ++ take n piece)
    before now) c.if-heard.false
    (waits_no_more g.N.Nv.writes g.K.Sink.tells o e stopped (bytes ++ take n piece) h.written items
    before mid now k c.in-Ok-put_out.ensures.wrote) in
    let most : length bytes + few ≡ most_bytes = omega (arith, c.min-few.ensures, c.if-few-piece.true, c.requires.few, count) in (
      refl,
      too_long_in g.N.Nv.writes g.K.Sink.tells o given e bytes piece left before now few
          c.requires.size some c.if-few-piece.true most
          (subst (λ m. HasHeardAlone g.N.Nv.writes g.K.Sink.tells o e false (bytes ++ take m piece)
          before now) all heard),
    )

pub returns-else-few-piece-clause-goes : goal.returns-else-few-piece-clause-goes
returns-else-few-piece-clause-goes g c o bytes before h =
    let d = c.args.ending.now.end in
    let e = c.hear_bytes.new.ending.end in
    let piece = c.args.piece.now in
    let was = g.K.Sink.written c.args.sink.now in
    let mid = g.K.Sink.written c.hear_bytes.new.sink in
    let few : ℕ = c.min-few.result in
    let small : few ≤ length piece = omega (arith, c.min-few.ensures) in
    let w = waits g.N.Nv.writes g.K.Sink.tells o d false bytes before was h c.args.ending.now.out.items
    c.requires.none in
    let now = g.K.Sink.written c.put_out.new.sink in
    let items = c.hear_bytes.new.ending.out.items in
    let stopped = c.in-Ok.heard.stopped in
    let n : ℕ = c.in-Ok.heard.count in
    let within : n ≤ few = omega (arith, c.in-Ok.ensures.within, length-take-le few piece small) in
    let k = subst (λ l. IsWaitingAlone g.N.Nv.writes g.K.Sink.tells o e stopped (bytes ++ l) h.written
    items before mid) (take-take n few piece within)
    (c.in-Ok.ensures.goes o bytes h.written before w) in
    let all : n ≡ few = c.in-Ok.ensures.all c.if-heard.false ∙ length-take-le few piece small in
    let whole : few ≡ length piece = omega (arith, small, c.if-few-piece.false) in
    subst (λ l. HasHeardAlone g.N.Nv.writes g.K.Sink.tells o e false (bytes ++ l) before now)
    (ap (λ m. take m piece) (all ∙ whole) ∙ take_all (length piece) piece (omega arith))
    (subst (λ s. HasHeardAlone g.N.Nv.writes g.K.Sink.tells o e s (bytes ++ take n piece) before now)
    c.if-heard.false
    (waits_no_more g.N.Nv.writes g.K.Sink.tells o e stopped (bytes ++ take n piece) h.written items
    before mid now k c.in-Ok-put_out.ensures.wrote))
