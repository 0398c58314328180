-- What a read gave is the piece that is taken.
use Rattle.std.proofs.Common.{◌≡◌, ◌≤◌, ◌<◌, length, take, subst, arith, length-take}
use Rattle.swp_words.proofs.Giving.{given_by}
use Rattle.swp_words.proofs.driver.drive.Goals as goal

pub returns-in-Err-take-clause-ends : goal.returns-in-Err-take-clause-ends
returns-in-Err-take-clause-ends g c told o input before under =
    let n = c.in-Ok.n in
    let buf = c.read.new.buf in
    let known = g.S.Source.end c.read.new.self in
    let some : 0 < n = omega arith in
    let given : known.given ≡ n = given_by (g.S.Source.end c.input.source) known n c.in-Ok.ensures.noted some in
    let few : length (take n buf) ≤ known.given = omega (arith, given, length-take n buf) in
    c.in-Err-take.ensures.ends known.given o input (g.S.Source.left c.read.new.self) before few
    (subst (λ l. g.J.Job.under_way g.K.Sink.tells o c.input.job input l before (g.K.Sink.written c.input.sink)) (c.in-Ok.ensures.read told)
    (c.input.invariant.under_way told o input before under))
