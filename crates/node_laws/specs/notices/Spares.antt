-- What an end has, as it is read off entries, and the blocks that it has to spare.
use Rattle.std.specs.Prelude.{◌≡◌, List, []}
use Rattle.trace_model.specs.declared.entry.Entry.{Entry}
use Rattle.trace_model.specs.declared.line.End.{End}
use Rattle.shdlc_core.specs.declared.answers.LinkState.TheVariants.{Up}
use Rattle.link_laws.specs.machine.Machine.{whole_acked}
use Rattle.link_laws.specs.messages.Links.{NumberedEnd, number_of}
use Rattle.link_laws.specs.entries.Sessions.{number_now as own_session}
use Rattle.history.specs.Filters.{sent_in, acked_in}
use Rattle.node_machine.specs.world.World.{node_of}
use Rattle.node_machine.specs.world.NodeFilters.{session_now, aside_in}

-- What is read of an end is what it has: its session, and in it the messages that it sent and how many of them are acknowledged whole;
-- none in no session; and the block that is set aside.
pub record IsEndRead (t : List Entry) (e : End) (near_end : NumberedEnd) : Type 0 where
  pub session : session_now t e (node_of e) ≡ own_session near_end
  pub sent : near_end.side.shdlc.phase ≡ Up → sent_in t e (number_of near_end) ≡ near_end.side.sent
  pub acked : near_end.side.shdlc.phase ≡ Up → acked_in t e (number_of near_end) ≡ whole_acked near_end.side
  pub none : (near_end.side.shdlc.phase ≡ Up → ⊥) → near_end.side.sent ≡ []
  pub aside : aside_in t e ≡ near_end.side.aside
