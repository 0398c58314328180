use Rattle.schedule_text.proofs.Names.{HoldsWords, [], byte_text, codes, encode_upper, end_text, subst, ◌∷◌}
use Rattle.schedule_text.specs.Entries.{lost_word}
use Rattle.schedule_text.proofs.write.write_words.Goals as goal

pub returns-in-Head : goal.returns-in-Head
returns-in-Head c = λ start h. rw c.in-Head.is (c.write_header.ensures start (codes ">") [] (c.entry.ensures start h))

pub returns-in-Echo : goal.returns-in-Echo
returns-in-Echo c = λ start h. rw c.in-Echo.is (c.write_by_parts.ensures start (codes ">") [] (c.entry-in-Echo.ensures start h))

pub returns-in-Command : goal.returns-in-Command
returns-in-Command c =
    λ start h. rw c.in-Command.is (c.write_command.ensures start (codes "command") (byte_text c.in-Command.node ∷ []) (c.write_node.ensures start h))

pub returns-in-No : goal.returns-in-No
returns-in-No c = λ start h. rw c.in-No.is (c.write_cause.ensures start (codes "no") [] (c.push-in-No.ensures start [] h))

pub returns-in-Up : goal.returns-in-Up
returns-in-Up c = λ start h. rw c.in-Up.is (c.end_and_number.ensures start (codes "up") [] (c.push.ensures start [] h))

pub returns-in-Down : goal.returns-in-Down
returns-in-Down c =
    λ start h.
    let down = codes "down" in
    let at = end_text c.in-Down.at in
    rw c.in-Down.is
    (subst (λ cause. HoldsWords start (down ∷ at ∷ cause ∷ []) c.word.new.self) c.cause_of_end.ensures
    (c.word.ensures start down (at ∷ []) (c.end.ensures start down [] (c.push-in-Down.ensures start [] h))))

pub returns-in-Lost : goal.returns-in-Lost
returns-in-Lost c =
    λ start h.
    let lost = codes "lost" in
    let at = end_text c.in-Lost.at in
    let bytes = c.bytes-in-Lost.result.now in
    rw c.in-Lost.is
    (subst (λ b. HoldsWords start (lost ∷ at ∷ encode_upper b ∷ lost_word c.in-Lost.cause ∷ []) c.word-in-Lost.new.self) c.bytes-in-Lost.ensures.value
    (subst (λ cause. HoldsWords start (lost ∷ at ∷ encode_upper bytes ∷ cause ∷ []) c.word-in-Lost.new.self) c.cause_of_loss.ensures
    (c.word-in-Lost.ensures start lost (at ∷ encode_upper bytes ∷ []) (c.frame.ensures start h))))
