-- Bytes with which no unit ends are taken at once.
use Rattle.std.proofs.Common.{◌++◌, length, take, arith}
use Rattle.byte_link.specs.Kept.{IsPartial}
use Rattle.byte_link.proofs.UnderWay.{still_partial, partial_there, stands_on, quiet_on, stands_lost, quiet_lost}
use Rattle.byte_link.proofs.link.ByteLink.pass.Goals as goal

pub returns-then-self-clause-stands : goal.returns-then-self-clause-stands
returns-then-self-clause-stands c seen stands =
    stands_lost c.args.self.now seen (take (length c.args.bytes.now) c.args.bytes.now) c.if-self.true stands

pub returns-then-self-clause-quiet : goal.returns-then-self-clause-quiet
returns-then-self-clause-quiet c seen stands = quiet_lost c.args.self.now seen (take (length c.args.bytes.now) c.args.bytes.now) c.if-self.true stands

pub returns-clause-stands : goal.returns-clause-stands
returns-clause-stands c seen stands =
    let link = c.args.self.now in
    let partial : IsPartial (link.unit.items ++ take c.min-few.result c.args.bytes.now) =
    still_partial link.unit.items c.args.bytes.now c.bytes_before_last-before.result c.min-few.result
    (partial_there link seen c.if-self.false stands) c.bytes_before_last-before.ensures.partial (omega arith) in
    stands_on link c.append.new.self seen (take c.min-few.result c.args.bytes.now) c.if-self.false c.append.ensures.lost c.append.ensures.unit
    partial stands

pub returns-clause-quiet : goal.returns-clause-quiet
returns-clause-quiet c seen stands =
    let link = c.args.self.now in
    let partial : IsPartial (link.unit.items ++ take c.min-few.result c.args.bytes.now) =
    still_partial link.unit.items c.args.bytes.now c.bytes_before_last-before.result c.min-few.result
    (partial_there link seen c.if-self.false stands) c.bytes_before_last-before.ensures.partial (omega arith) in
    quiet_on link seen (take c.min-few.result c.args.bytes.now) c.if-self.false partial stands
