use Rattle.swp_decode.proofs.FurtherFrames.{low_bits-first, low_bits-none}
use Rattle.swp_decode.proofs.many.first_bits.Goals as goal

pub returns-clause-s1 : goal.returns-clause-s1
returns-clause-s1 c = low_bits-first c.args.read c.args.s1 c.requires

pub returns-clause-s2 : goal.returns-clause-s2
returns-clause-s2 c = low_bits-first c.args.read c.args.s2 c.requires

pub returns-then-read-eq0-clause-s1 : goal.returns-then-read-eq0-clause-s1
returns-then-read-eq0-clause-s1 c = low_bits-none c.args.read c.args.s1 0 c.if-read-eq0.true

pub returns-then-read-eq0-clause-s2 : goal.returns-then-read-eq0-clause-s2
returns-then-read-eq0-clause-s2 c = low_bits-none c.args.read c.args.s2 0 c.if-read-eq0.true
