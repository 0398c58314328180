use Rattle.swp_tool.proofs.Words.{ap, arith, ended_line, eqb, sym, take, ◌++◌, ◌+◌, ◌∙◌}
use Rattle.schedule_text.proofs.Finding.{first_position}
use Rattle.swp_tool.proofs.Cutting.{cut_at, lacks_all}
use Rattle.swp_words.proofs.Taken.{left_of}
use Rattle.swp_tool.proofs.pieces.cut_line.Goals as goal

pub returns-in_err-end-clause-none : goal.returns-in_err-end-clause-none
returns-in_err-end-clause-none c =
    let at = first_position (λ b. eqb b 10) c.args.bytes.now c.memchr.result c.memchr.ensures in
    rw c.from_residual.ensures (lacks_all c.args.bytes.now (sym at ∙ c.in_err-end.was))

pub returns-clause-some : goal.returns-clause-some
returns-clause-some c =
    let bytes = c.args.bytes.now in
    let end = c.in_ok-end.end in
    let at = first_position (λ b. eqb b 10) bytes c.memchr.result c.memchr.ensures in
    let cut = cut_at bytes end (sym at ∙ c.in_ok-end.was) in
    cut.0 ∙ ap (λ l. ended_line (take end bytes) ++ l) (sym (left_of bytes (end + 1) (omega (arith, cut.2))))

pub returns-clause-lacks : goal.returns-clause-lacks
returns-clause-lacks c =
    let at = first_position (λ b. eqb b 10) c.args.bytes.now c.memchr.result c.memchr.ensures in
    (cut_at c.args.bytes.now c.in_ok-end.end (sym at ∙ c.in_ok-end.was)).1
