-- How many fragments of the messages that were sent on a link aren't acknowledged, as it is noted.
use Rattle.std.specs.Prelude.{ℕ, ◌+◌, List, drop, length}
use Rattle.hcp_packet.specs.Packets.{fragments_of}
use Rattle.trace_model.specs.declared.entry.Entry.{Entry}
use Rattle.trace_model.specs.declared.line.End.{End}
use Rattle.history.specs.Filters.{sent_in, acked_in}
use Rattle.node_machine.specs.world.World.{end_c, end_h}

-- the fragments of the messages that an end sent in a session behind those that are acknowledged
abbrev pub fragments_unacked : List Entry → End → ℕ → ℕ
fragments_unacked t e n = length (fragments_of (drop (acked_in t e n) (sent_in t e n)))

-- of both ends of the link with this host
abbrev pub fragments_noted : List Entry → ℕ → ℕ → ℕ
fragments_noted t h n = fragments_unacked t (end_c h) n + fragments_unacked t (end_h h) n
