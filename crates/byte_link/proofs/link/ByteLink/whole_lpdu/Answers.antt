-- A unit that is there whole is read at once.
use Rattle.std.proofs.Common.{◌≡◌, ◌∙◌, [], sym}
use Rattle.byte_link.proofs.UnderWay.{none_there, for_some, whole_stands, whole_gives}
use Rattle.byte_link.proofs.link.ByteLink.whole_lpdu.Goals as goal

pub returns-clause-stands : goal.returns-clause-stands
returns-clause-stands c =
    let empty : c.args.self.now.unit.items ≡ [] = none_there c.args.self.now.unit.items (sym c.is_empty.ensures ∙ c.if-not-is_empty.false) in
    for_some c.first_lpdu.result
    (λ lpdu u. λ seen stands. whole_stands c.args.self.now c.args.bytes.now lpdu.now seen c.if-self.false empty u stands) c.first_lpdu.ensures

pub returns-clause-answer : goal.returns-clause-answer
returns-clause-answer c =
    let empty : c.args.self.now.unit.items ≡ [] = none_there c.args.self.now.unit.items (sym c.is_empty.ensures ∙ c.if-not-is_empty.false) in
    for_some c.first_lpdu.result
    (λ lpdu u. λ seen stands. whole_gives c.args.self.now c.args.bytes.now lpdu.now seen c.if-self.false empty u stands) c.first_lpdu.ensures
