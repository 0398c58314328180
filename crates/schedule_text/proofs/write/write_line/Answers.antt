use Rattle.schedule_text.proofs.Names.{HoldsWords, [], append_assoc, byte_text, codes, decimal, encode_upper, end_text, number_words, spaced, subst, ◌++◌, ◌∷◌}
use Rattle.schedule_text.proofs.GrowthLemmas.{holds_spaced, two_more, four_more}
use Rattle.schedule_text.proofs.write.write_line.Goals as goal

pub returns-in-Send : goal.returns-in-Send
returns-in-Send c start first more h =
    let send = codes "send" in
    let at = end_text c.in-Send.at in
    let pid = byte_text c.in-Send.pid in
    rw c.in-Send.is
    (subst (λ m. HoldsWords start (first ∷ (more ++ send ∷ at ∷ pid ∷ encode_upper m ∷ [])) c.byte_and_hex.new.self) c.as_slice.ensures
    (subst (λ ws. HoldsWords start (first ∷ ws) c.byte_and_hex.new.self) (four_more more send at pid (encode_upper c.as_slice.result.now))
    (c.byte_and_hex.ensures start first _ (c.end.ensures start first _
    (holds_spaced start first send more _ (c.push.ensures start (spaced (first ∷ more)) h))))))

pub returns-in-Deliver : goal.returns-in-Deliver
returns-in-Deliver c start first more h =
    rw c.in-Deliver.is
    (subst (λ ws. HoldsWords start (first ∷ ws) c.maybe.new.self)
    (two_more more (codes "deliver") (end_text c.in-Deliver.at) (number_words c.in-Deliver.count))
    (c.maybe.ensures start first _ (c.end-in-Deliver.ensures start first _
    (holds_spaced start first (codes "deliver") more _ (c.push-in-Deliver.ensures start (spaced (first ∷ more)) h)))))

pub returns-in-Lose : goal.returns-in-Lose
returns-in-Lose c start first more h =
    rw c.in-Lose.is
    (subst (λ ws. HoldsWords start (first ∷ ws) c.end-in-Lose.new.self) (append_assoc more (codes "lose" ∷ []) (end_text c.in-Lose.at ∷ []))
    (c.end-in-Lose.ensures start first _ (holds_spaced start first (codes "lose") more _ (c.push-in-Lose.ensures start (spaced (first ∷ more)) h))))

pub returns-in-Tick : goal.returns-in-Tick
returns-in-Tick c start first more h =
    rw c.in-Tick.is
    (subst (λ ws. HoldsWords start (first ∷ ws) c.maybe-in-Tick.new.self) (append_assoc more (codes "tick" ∷ []) (number_words c.in-Tick.times))
    (c.maybe-in-Tick.ensures start first _ (holds_spaced start first (codes "tick") more _ (c.push-in-Tick.ensures start (spaced (first ∷ more)) h))))

pub returns-in-Reset : goal.returns-in-Reset
returns-in-Reset c start first more h =
    rw c.in-Reset.is
    (subst (λ ws. HoldsWords start (first ∷ ws) c.maybe-in-Reset.new.self)
    (two_more more (codes "reset") (end_text c.in-Reset.at) (number_words c.in-Reset.window))
    (c.maybe-in-Reset.ensures start first _ (c.end-in-Reset.ensures start first _
    (holds_spaced start first (codes "reset") more _ (c.push-in-Reset.ensures start (spaced (first ∷ more)) h)))))

pub returns-in-Settle : goal.returns-in-Settle
returns-in-Settle c start first more h =
    rw c.in-Settle.is
    (subst (λ ws. HoldsWords start (first ∷ ws) c.short_number.new.self) (append_assoc more (codes "settle" ∷ []) (decimal c.in-Settle.rounds ∷ []))
    (c.short_number.ensures start first _ (holds_spaced start first (codes "settle") more _ (c.push-in-Settle.ensures start (spaced (first ∷ more)) h))))
