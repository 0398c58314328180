-- Nothing of a unit is there.
use Rattle.std.proofs.Common.{◌≡◌, ◌∙◌, ◌++◌, [], List, ℕ, take, append-nil, sym, ap, subst}
use Rattle.byte_link.specs.Kept.{IsPartial}
use Rattle.byte_link.proofs.UnderWay.{none_there}
use Rattle.byte_link.proofs.link.ByteLink.bytes_before_last.Goals as goal

pub returns-then-is_empty-clause-partial : goal.returns-then-is_empty-clause-partial
returns-then-is_empty-clause-partial c =
    let bytes : List ℕ = c.args.bytes.now in
    let none : c.args.self.now.unit.items ≡ [] = none_there c.args.self.now.unit.items (sym c.is_empty.ensures ∙ c.if-is_empty.true) in
    subst (λ all. IsPartial (take c.bytes_before_last_of.result all)) (append-nil bytes ∙ sym (ap (λ unit. unit ++ bytes) none))
    (c.bytes_before_last_of.ensures.partial [])
