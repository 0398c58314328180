use Rattle.swp_decode.proofs.Sixteen.{HavePlaces, all_where, sum_where, bits_s1, bits_s2, all_some}
use Rattle.swp_decode.proofs.many.sixteen_bits.Goals as goal

pub returns-then-neither-first-ne65535-clause-none : goal.returns-then-neither-first-ne65535-clause-none
returns-then-neither-first-ne65535-clause-none c bits has =
    let places : HavePlaces c.args.bytes.now _ _ _ _ = record {
      sixteen = c.told-bytes;
      neither = c.places_of-neither.ensures.value;
      first = c.places_of-first.ensures.value;
      second = c.places_of-second.ensures.value;
      both = c.places_of-both.ensures.value;
    } in
    c.if-neither-first-ne65535.true (sum_where places (all_some c.args.bytes.now bits c.fits-bytes has))

pub returns-clause-s1 : goal.returns-clause-s1
returns-clause-s1 c =
    let places : HavePlaces c.args.bytes.now _ _ _ _ = record {
      sixteen = c.told-bytes;
      neither = c.places_of-neither.ensures.value;
      first = c.places_of-first.ensures.value;
      second = c.places_of-second.ensures.value;
      both = c.places_of-both.ensures.value;
    } in
    bits_s1 places (all_where places c.if-neither-first-ne65535.false)

pub returns-clause-s2 : goal.returns-clause-s2
returns-clause-s2 c =
    let places : HavePlaces c.args.bytes.now _ _ _ _ = record {
      sixteen = c.told-bytes;
      neither = c.places_of-neither.ensures.value;
      first = c.places_of-first.ensures.value;
      second = c.places_of-second.ensures.value;
      both = c.places_of-both.ensures.value;
    } in
    bits_s2 places (all_where places c.if-neither-first-ne65535.false)
