use Rattle.swp_decode.proofs.Names.{ReadsSignal, Some, ap, append-nil, bit, readings_on, subst, sym, symbol_of, take, word_bits, ◌++◌, ◌+◌, ◌-◌, ◌∙◌}
use Rattle.swp_decode.proofs.FurtherFrames.{quiet_more, quiet_none, quiet_line_at, readings_more, silent_frame}
use Rattle.swp_decode.proofs.signal.SignalReader.hear_mark_at.Goals as goal

pub returns-then-word-last-eq0-clause-quiet : goal.returns-then-word-last-eq0-clause-quiet
returns-then-word-last-eq0-clause-quiet c quiet =
    quiet_more c.args.word.now c.args.from c.args.last c.requires.order c.requires.within quiet c.if-word-last-eq0.true

pub returns-then-word-last-eq0-clause-items : goal.returns-then-word-last-eq0-clause-items
returns-then-word-last-eq0-clause-items c older behind quiet reads =
    let word = c.args.word.now in
    let last = c.args.last in
    sym (append-nil c.args.frames.now.items)
    ∙ ap (λ frames. c.args.frames.now.items ++ frames)
    (sym (silent_frame c.args.wire (Some (symbol_of (bit word.bits (63 - last)))) (readings_on c.args.place (take last (word_bits word)) older)
    (quiet_line_at word c.args.wire c.args.place last older c.requires.within behind c.if-word-last-eq0.true)))

pub returns-clause-quiet : goal.returns-clause-quiet
returns-clause-quiet c quiet = quiet_none c.args.word.now (c.args.last + 1)

pub returns-clause-reads : goal.returns-clause-reads
returns-clause-reads c older behind quiet reads =
    subst (ReadsSignal c.hear_bit.new.self) (readings_more c.args.place c.args.word.now.bits c.args.last older c.requires.within)
    (c.hear_bit.ensures.reads _ (c.read_between.ensures older behind quiet reads))
