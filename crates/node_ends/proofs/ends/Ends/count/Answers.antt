use Rattle.std.proofs.Common.{arith}
use Rattle.node_ends.proofs.Seated.{as_many}
use Rattle.node_ends.proofs.Opening.{opened}
use Rattle.node_ends.proofs.ends.Ends.count.Goals as goal

pub returns : goal.returns
returns c ports stands =
    omega (arith, c.len.ensures, as_many c.self.inside.pool c.self.inside.seats.items ports (opened c.self.view_is stands).each)
