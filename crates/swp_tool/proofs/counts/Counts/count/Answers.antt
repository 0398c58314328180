use Rattle.swp_tool.proofs.Summing.{of_no_kind}
use Rattle.swp_tool.proofs.counts.Counts.count.Goals as goal

pub returns-in_default : goal.returns-in_default
returns-in_default c =
    of_no_kind c.args.self.now c.args.entry.now c.in_default.not-Sent c.in_default.not-Got c.in_default.not-Acked c.in_default.not-Up
    c.in_default.not-Command
