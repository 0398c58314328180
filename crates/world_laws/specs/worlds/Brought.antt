-- What rounds have brought on a link, as it is noted.
use Rattle.std.specs.Prelude.{◌≡◌, ℕ, ◌≤◌, List, Some, length}
use Rattle.hcp_packet.specs.Packets.{good_of, IsFrontOf}
use Rattle.trace_model.specs.declared.entry.Entry.{Entry}
use Rattle.trace_model.specs.declared.line.End.{End}
use Rattle.history.specs.Filters.{sent_in, got_in, acked_in, session_number}
use Rattle.node_machine.specs.world.World.{end_c, end_h}

-- Of the messages that an end sent in a session, as earlier entries note it, the good ones are a front of what the other end got in
-- it, and all are acknowledged, both as later entries note it.
pub record HasBrought (earlier later : List Entry) (sender receiver : End) (n : ℕ) : Type 0 where
  pub got : IsFrontOf (good_of (sent_in earlier sender n)) (got_in later receiver n)
  pub acked : length (sent_in earlier sender n) ≤ acked_in later sender n

-- so it is at both ends of the link with this host
pub record BothBrought (earlier later : List Entry) (h n : ℕ) : Type 0 where
  pub to_host : HasBrought earlier later (end_c h) (end_h h) n
  pub to_controller : HasBrought earlier later (end_h h) (end_c h) n

-- both ends of the link with this host are up in the session with this number, as the entries of a bare world note it
pub record AreBothUpIn (t : List Entry) (h n : ℕ) : Type 0 where
  pub controller : session_number t (end_c h) ≡ Some n
  pub host : session_number t (end_h h) ≡ Some n
