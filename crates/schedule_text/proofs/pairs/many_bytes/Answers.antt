-- The byte of the next two digits.
use Rattle.std.proofs.lemmas.List.{take_more_set}
use Rattle.schedule_text.proofs.Names.{AllPass-from_list_all, IsPair, IsPairs, arith, is_hex_digit, length-set, refl, slice_index, subst, sym, take, ◌*◌, ◌+◌}
use Rattle.schedule_text.proofs.Names.{◌<◌, ◌∙◌}
use Rattle.schedule_text.proofs.PairsLemmas.{pairs_more}
use Rattle.schedule_text.proofs.pairs.many_bytes.Goals as goal

pub bytes-preserved : goal.bytes-preserved
bytes-preserved c =
    let digits = c.args.digits.now in
    let i = c.bytes.i in
    let byte = c.value_of.result * 16 + c.value_of-in-bytes.result in
    let all = AllPass-from_list_all is_hex_digit digits c.requires in
    let few : i < 16 = c.bytes-test.true in
    let pair : IsPair (slice_index digits (2 * i)) (slice_index digits (2 * i + 1)) byte = (
      c.value_of.result,
      c.value_of.ensures.value (all (2 * i) 0 (omega (arith, few))),
      (c.value_of-in-bytes.result, c.value_of-in-bytes.ensures.value (all (2 * i + 1) 0 (omega (arith, few))), refl),
    ) in (
      length-set c.bytes.bytes i byte ∙ c.bytes.invariant.0,
      subst (λ front. IsPairs (take (2 * (i + 1)) digits) front) (sym (take_more_set c.bytes.bytes i byte (omega (arith, few, c.bytes.invariant.0))))
          (pairs_more digits (take i c.bytes.bytes) i byte (omega (arith, few)) pair c.bytes.invariant.1),
    )
