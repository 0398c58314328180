use Rattle.swp_lpdu.proofs.read_lpdu.Goals as goal

pub returns-in-96-to-106-clause-short : goal.returns-in-96-to-106-clause-short
returns-in-96-to-106-clause-short c = rw (← c.bytes-bytes.ensures.value) c.read_act.ensures.short

pub returns-in-96-to-106-clause-too_long : goal.returns-in-96-to-106-clause-too_long
returns-in-96-to-106-clause-too_long c = rw (← c.bytes-bytes.ensures.value) c.read_act.ensures.too_long
