use Rattle.schedule_text.proofs.Names.{HoldsWords, [], byte_text, codes, decimal, encode_upper, end_text, subst, ◌∷◌}
use Rattle.schedule_text.proofs.write.write_frequent.Goals as goal

pub returns-in-Acked : goal.returns-in-Acked
returns-in-Acked c start h =
    let acked = codes "acked" in
    rw c.in-Acked.is
    (c.short_number.ensures start acked (end_text c.in-Acked.at ∷ decimal c.in-Acked.session ∷ [])
    (c.end_and_number.ensures start acked [] (c.push.ensures start [] h)))

pub returns-in-Turn : goal.returns-in-Turn
returns-in-Turn c start h =
    let turn = codes "turn" in
    let at = end_text c.in-Turn.at in
    rw c.in-Turn.is
    (subst (λ m. HoldsWords start (turn ∷ at ∷ byte_text c.in-Turn.pid ∷ encode_upper m ∷ []) c.byte_and_hex.new.self) c.as_slice-in-Turn.ensures
    (c.byte_and_hex.ensures start turn (at ∷ []) (c.end.ensures start turn [] (c.push-in-Turn.ensures start [] h))))

pub returns-in-Settled : goal.returns-in-Settled
returns-in-Settled c start h = rw c.in-Settled.is (c.short_number-in-Settled.ensures start (codes "settled") [] (c.push-in-Settled.ensures start [] h))
