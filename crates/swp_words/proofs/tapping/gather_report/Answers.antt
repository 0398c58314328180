use Rattle.swp_words.proofs.Words.{IsFront, IsGathered, List, append_assoc, arith, length, length-append, report_line, report_of, subst, ℕ, ◌++◌, ◌≡◌, ◌≤◌}
use Rattle.swp_decode.specs.Texts.{hex_of, line_feed}
use Rattle.swp_words.specs.Taps.{report_head}
use Rattle.swp_words.proofs.Recording.{on_err, map_err, map_ok, enough_text, front_further}
use Rattle.swp_words.proofs.tapping.gather_report.Goals as goal

-- the parts of a line behind other lines
parts : (lines head digits feed : List ℕ) → ((lines ++ head) ++ digits) ++ feed ≡ lines ++ ((head ++ digits) ++ feed)
parts lines head digits feed = simp append_assoc

pub returns-in_err-gather_head-clause-ends : goal.returns-in_err-gather_head-clause-ends
returns-in_err-gather_head-clause-ends g c =
    on_err _ c.from_residual.result (λ least lines before h.
    front_further (report_line (report_of c.args.head c.args.body.now)) (enough_text h) (c.in_err-gather_head.ensures.ends least lines before h))

pub returns-in_err-gather_hex-clause-ends : goal.returns-in_err-gather_hex-clause-ends
returns-in_err-gather_hex-clause-ends g c =
    on_err _ c.from_residual-in_err-gather_hex.result (λ least lines before h.
    let head = report_head c.args.head in
    let body = c.args.body.now in
    let tells = g.K.Sink.tells in
    let after = g.K.Sink.written c.gather_hex.new.sink in
    let k = c.in_ok-gather_head.ensures.goes least lines before h in
    let enough : least ≤ length ((lines ++ head) ++ hex_of body) = omega (arith, enough_text k, length-append (lines ++ head) (hex_of body)) in
    let front = c.in_err-gather_hex.ensures.ends least (lines ++ head) before k in
    subst (λ l. IsFront tells least l before after) (parts lines head (hex_of body) line_feed) (front_further line_feed enough front))

pub returns-clause-goes : goal.returns-clause-goes
returns-clause-goes g c =
    map_ok _ _ c.gather.result (λ goes least lines before h.
    let head = report_head c.args.head in
    let body = c.args.body.now in
    let tells = g.K.Sink.tells in
    let k = c.in_ok-gather_hex.ensures.goes least (lines ++ head) before (c.in_ok-gather_head.ensures.goes least lines before h) in
    subst (λ l. IsGathered tells c.gather.new.text.items least l before (g.K.Sink.written c.gather.new.sink)) (parts lines head (hex_of body) line_feed)
    (goes least ((lines ++ head) ++ hex_of body) before k))
    c.gather.ensures.goes

pub returns-clause-ends : goal.returns-clause-ends
returns-clause-ends g c =
    map_err _ _ c.gather.result (λ ends least lines before h.
    let head = report_head c.args.head in
    let body = c.args.body.now in
    let tells = g.K.Sink.tells in
    let k = c.in_ok-gather_hex.ensures.goes least (lines ++ head) before (c.in_ok-gather_head.ensures.goes least lines before h) in
    subst (λ l. IsFront tells least l before (g.K.Sink.written c.gather.new.sink)) (parts lines head (hex_of body) line_feed)
    (ends least ((lines ++ head) ++ hex_of body) before k))
    c.gather.ensures.ends
