use Rattle.std.proofs.Common.{◌∙◌, ◌++◌, length, take, sym, ap, arith, length-drop, take-add}
use Rattle.std.proofs.lemmas.List.{take_rest}
use Rattle.swp_crc.specs.Running.{running_of}
use Rattle.swp_crc.proofs.crc.Goals as goal

pub fours-preserved : goal.fours-preserved
fours-preserved c =
    let bytes = c.args.bytes.now in
    let at = c.fours.read in
    record {
      within = omega (arith, c.in-Some.ensures.cases.2, ap length (take_rest bytes at), length-drop at bytes, c.fours.invariant.within);
      so_far = c.push_four.ensures (take at bytes) c.fours.invariant.so_far
          ∙ ap running_of (ap (λ xs. take at bytes ++ xs) (c.in-Some.ensures.cases.0 ∙ ap (take 4) (take_rest bytes at)) ∙ sym (take-add at 4 bytes));
    }
