-- Bytes with which no unit ends bring nothing.
use Rattle.std.proofs.Common.{take}
use Rattle.one_end.proofs.Bringing.{no_units}
use Rattle.one_end.proofs.reading.Reader.pass.Goals as goal

pub returns-in-Bytes-clause-quiet : goal.returns-in-Bytes-clause-quiet
returns-in-Bytes-clause-quiet c =
    rw c.in-Bytes.is λ number older s. no_units number (take c.pass-in-Bytes.result c.args.bytes.now) older (c.pass-in-Bytes.ensures.quiet older s)
