use Rattle.swp_words.proofs.Words.{ap, append_assoc, arith, common_steps, drop, length, sym, take, take-add, ◌++◌, ◌-◌, ◌∙◌, ◌≡◌}
use Rattle.swp_words.proofs.output.write_all.Goals as goal

pub loop-at-preserved : goal.loop-at-preserved
loop-at-preserved g c = record {
  in_range = grind (arith, common_steps);
  count = grind (arith, common_steps);
  wrote = λ t.
      let start = g.K.Sink.written c.args.sink.now in
      let bytes = c.args.bytes.now in
      let at = c.loop-at.at in
      let n = c.in_ok-at.field-0 in
      let rest : take (length bytes - at) (drop at bytes) ≡ drop at bytes = grind (arith, common_steps) in
      c.in_ok-at.ensures.wrote t ∙ ap (λ w. w ++ take n (take (length bytes - at) (drop at bytes))) (c.loop-at.invariant.wrote t)
      ∙ append_assoc start (take at bytes) _ ∙ ap (λ r. start ++ (take at bytes ++ take n r)) rest ∙ ap (λ w. start ++ w) (sym (take-add at n bytes));
}
