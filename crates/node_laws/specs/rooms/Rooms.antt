-- What is read of blocks at the ends of a link.
use Rattle.std.specs.Prelude.{◌≡◌, ℕ, drop, List}
use Rattle.trace_model.specs.declared.entry.Entry.{Entry}
use Rattle.trace_model.specs.declared.line.End.{End}
use Rattle.link_laws.specs.machine.Machine.{spare, whole_acked}
use Rattle.link_laws.specs.messages.Links.{NumberedEnd, Link}
use Rattle.link_laws.specs.entries.Sessions.{number_now as own_session}
use Rattle.node_machine.specs.world.World.{end_c, end_h}
use Rattle.node_machine.specs.world.NodeFilters.{unacknowledged_in, spare_at}

-- the messages that are read to be unacknowledged in the session of an end, or in none, are those of its own that aren't
-- acknowledged whole
abbrev pub IsHeldRead : List Entry → End → NumberedEnd → Type 0
IsHeldRead t e near_end = unacknowledged_in t e (own_session near_end) ≡ drop (whole_acked near_end.side) near_end.side.sent

-- so it is with both ends of the link with this host
pub record AreHeldRead (t : List Entry) (h : ℕ) (l : Link) : Type 0 where
  pub controller : IsHeldRead t (end_c h) l.controller
  pub host : IsHeldRead t (end_h h) l.host

-- the blocks that both ends of the link with this host have to spare are those that are read
pub record AreSparesRead (t : List Entry) (h : ℕ) (l : Link) : Type 0 where
  pub controller : spare_at t (end_c h) ≡ spare l.controller.side
  pub host : spare_at t (end_h h) ≡ spare l.host.side
