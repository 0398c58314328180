-- The LPDU of a unit is the frame that comes.
use Rattle.std.proofs.Common.{◌+◌, length, take}
use Rattle.byte_link.proofs.UnderWay.{for_some}
use Rattle.one_end.proofs.Bringing.{one_frame}
use Rattle.one_end.proofs.reading.Reader.whole_frame.Goals as goal

pub returns-in-Bytes-clause-brings : goal.returns-in-Bytes-clause-brings
returns-in-Bytes-clause-brings c =
    rw c.in-Bytes.is (for_some c.whole_lpdu.result
    (λ lpdu gives. λ number older s. one_frame number (take (length lpdu.now + 4) c.args.bytes.now) older lpdu.now (gives older s))
    c.whole_lpdu.ensures.answer)
