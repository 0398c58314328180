use Rattle.std.proofs.Common.{◌+◌, ◌*◌, slice_set, length-set, ◌∙◌, arith}
use Rattle.hex.specs.Hex.{upper_digits}
use Rattle.hex.proofs.Pairs.{encode_step, encode_done}
use Rattle.schedule_text.proofs.text.write_digits.Goals as goal

pub bytes-preserved : goal.bytes-preserved
bytes-preserved c =
    let digits = c.bytes.digits in
    let first = slice_set digits (2 * c.bytes.i) c.digit.result in (
      length-set first (2 * c.bytes.i + 1) c.digit-in-bytes.result ∙ length-set digits (2 * c.bytes.i) c.digit.result ∙ c.bytes.invariant.0,
      encode_step upper_digits c.args.bytes.now digits c.bytes.i _ _ (omega arith) (omega (arith, c.bytes.invariant.0)) c.digit.ensures c.digit-in-bytes.ensures
          c.bytes.invariant.1,
    )

pub returns : goal.returns
returns c = encode_done upper_digits c.args.bytes.now c.bytes.digits c.bytes.i (omega arith) (omega (arith, c.bytes.invariant.0)) c.bytes.invariant.1
