use Rattle.swp_frame.proofs.Words.{Frame, ap, arith, crc_of, get_or, length, refl, take, ◌*◌, ◌+◌, ◌-◌, ◌∙◌, ◌≡◌}
use Rattle.swp_frame.proofs.ContentLemmas.{last_two, crc_differs, crc_is_right, take_front}
use Rattle.swp_frame.proofs.content.judge_bytes.Goals as goal

pub returns-then-want-got-clause-judged : goal.returns-then-want-got-clause-judged
returns-then-want-got-clause-judged c = λ more.
    let bytes = c.args.bytes.now in
    let got : c.from_be_bytes-got.result ≡ 256 * get_or bytes (length bytes - 2) 0 + get_or bytes (length bytes - 1) 0 =
    last_two c.from_be_bytes-got.result (length bytes) bytes bytes c.split_at.result.1.now c.from_be_bytes-got.ensures
    c.split_at.ensures.by_index.2 refl refl (omega (arith, c.requires.few)) in
    crc_differs bytes c.crc-want.result c.from_be_bytes-got.result (c.crc-want.ensures ∙ ap crc_of c.split_at.ensures.front) got c.if-want-got.true

pub returns-clause-judged : goal.returns-clause-judged
returns-clause-judged c = λ more.
    let bytes = c.args.bytes.now in
    let want : c.crc-want.result ≡ crc_of (take (length bytes - 2) bytes) = c.crc-want.ensures ∙ ap crc_of c.split_at.ensures.front in
    let got : c.from_be_bytes-got.result ≡ 256 * get_or bytes (length bytes - 2) 0 + get_or bytes (length bytes - 1) 0 =
    last_two c.from_be_bytes-got.result (length bytes) bytes bytes c.split_at.result.1.now c.from_be_bytes-got.ensures
    c.split_at.ensures.by_index.2 refl refl (omega (arith, c.requires.few)) in
    ap Frame (take_front (length bytes - 2) bytes more (omega arith))
    ∙ crc_is_right bytes c.crc-want.result c.from_be_bytes-got.result want got c.if-want-got.false
