use Rattle.schedule_text.proofs.GrowthLemmas.{one_entry_more}
use Rattle.schedule_text.proofs.write.write_each.Goals as goal

pub loop-entry-preserved : goal.loop-entry-preserved
loop-entry-preserved c = λ start before h.
    one_entry_more start before c.args.entries.now c.entry-item.result c.loop-entry.entry-index _ c.loop-entry-test.true c.entry-item.is
    (c.write_whole.ensures start _ (c.loop-entry.invariant start before h))
