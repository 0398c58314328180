use Rattle.swp_decode.proofs.Names.{HasNoMark, ReadsSignal, ap, readings_on, subst, sym, symbols, take, word_bits, ◌+◌, ◌∙◌}
use Rattle.swp_frame.specs.Words.{IsPartBehind}
use Rattle.swp_decode.proofs.FurtherFrames.{readings_further, run_behind_readings, quiet_between}
use Rattle.swp_decode.proofs.signal.SignalReader.read_between.Goals as goal

pub returns-then-from-to : goal.returns-then-from-to
returns-then-from-to c older behind quiet reads =
    let word = c.args.word.now in
    let bits = word_bits word in
    let from = c.args.from in
    let to = c.args.to in
    let place = c.args.place in
    let before = readings_on place (take from bits) older in
    subst (ReadsSignal c.read_part.new.self)
    (ap (λ xs. readings_on (place + from) xs before) c.part.ensures.bits ∙ readings_further place from to 64 word.bits older c.requires.order c.requires.within)
    (c.read_part.ensures before reads
    (subst (IsPartBehind c.part.result) (sym (run_behind_readings place (take from bits) older)) (c.part.ensures.behind _ behind))
    (subst (HasNoMark (symbols before)) (sym c.part.ensures.bits) (quiet_between word place from to older c.requires.order c.requires.within behind quiet)))
