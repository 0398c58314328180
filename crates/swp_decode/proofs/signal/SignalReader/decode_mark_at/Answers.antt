use Rattle.swp_decode.proofs.Names.{ReadsSignal, ap, append-nil, subst, sym, ◌++◌, ◌+◌, ◌∙◌}
use Rattle.swp_decode.proofs.FurtherFrames.{quiet_more, quiet_none, quiet_line_at, readings_more}
use Rattle.swp_decode.proofs.signal.SignalReader.decode_mark_at.Goals as goal

pub returns-then-word-last-eq0-clause-quiet : goal.returns-then-word-last-eq0-clause-quiet
returns-then-word-last-eq0-clause-quiet c quiet =
    quiet_more c.args.word.now c.args.from c.args.last c.requires.order c.requires.within quiet c.if-word-last-eq0.true

pub returns-then-word-last-eq0-clause-items : goal.returns-then-word-last-eq0-clause-items
returns-then-word-last-eq0-clause-items c older behind quiet reads =
    sym (append-nil c.args.text.now.items)
    ∙ ap (λ lines. c.args.text.now.items ++ lines)
    (sym (quiet_line_at c.args.word.now c.args.wire c.args.place c.args.last older c.requires.within behind c.if-word-last-eq0.true))

pub returns-clause-quiet : goal.returns-clause-quiet
returns-clause-quiet c quiet = quiet_none c.args.word.now (c.args.last + 1)

pub returns-clause-reads : goal.returns-clause-reads
returns-clause-reads c older behind quiet reads =
    subst (ReadsSignal c.decode_mark.new.self) (readings_more c.args.place c.args.word.now.bits c.args.last older c.requires.within)
    (c.decode_mark.ensures.reads _ (c.read_between.ensures older behind quiet reads))
