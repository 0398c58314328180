use Rattle.std.proofs.Common.{eqb, subst, ◌<◌, ◌^◌, sym}
use Rattle.swp_decode.proofs.Sixteen.{places_number, places_small}
use Rattle.swp_decode.proofs.many.places_of.Goals as goal

pub returns-clause-value : goal.returns-clause-value
returns-clause-value c = places_number c.args.bytes.now c.args.byte c.told-bytes

pub returns-clause-small : goal.returns-clause-small
returns-clause-small c =
    subst (λ n. n < 2 ^ 16) (sym (places_number c.args.bytes.now c.args.byte c.told-bytes))
    (places_small c.args.bytes.now (λ x. eqb x c.args.byte) c.told-bytes)
