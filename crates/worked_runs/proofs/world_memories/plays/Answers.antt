use Rattle.worked_runs.proofs.world_memories.plays.Goals as goal

pub returns-clause-stands : goal.returns-clause-stands
returns-clause-stands g c before at = (c.line_for-line.result, c.in-Ok.ensures.stands before at)
