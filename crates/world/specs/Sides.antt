-- What is kept of the two sides of a link, and for which links it stands: seen from one side, whose end stands as the controller's.
use Rattle.std.specs.Prelude.{◌≡◌, ℕ, ◌≤◌, List, [], length}
use Rattle.trace_model.specs.declared.entry.Entry.{Entry}
use Rattle.trace_model.specs.declared.line.End.{End}
use Rattle.link_laws.specs.sessions.Sessions.{OnWire}
use Rattle.link_laws.specs.machine.Machine.{LinkEnd as Machine}
use Rattle.link_laws.specs.messages.Links.{NumberedEnd, Link, EndEvent, happens_at_controller}
use Rattle.link_laws.specs.entries.Entries.{here_entries}
use Rattle.world.specs.declared.side.Side.{Side}
use Rattle.link_wires.specs.Notes.{side_of, AreNoted}
use Rattle.world.specs.Nodes.{NodeStandsFor}
use Rattle.link_wires.specs.Wires.{WireStandsFor}

-- one side, whose end may have frames to send
pub record SideHas (s : Side) (m : Machine) (emitted took : ℕ) (wire : List OnWire) : Type 0 where
  pub node : NodeStandsFor s.node m
  pub put_is : s.emitted ≡ emitted
  pub took_is : s.took ≡ took
  pub wire_is : WireStandsFor s.wire wire

-- one side, whose end has sent all its frames
pub record SideStandsFor (s : Side) (h : NumberedEnd) (wire : List OnWire) : Type 0 where
  pub has : SideHas s h.side h.emitted h.took wire
  pub idle : h.side.shdlc.due ≡ []

-- both sides
pub record LinkStandsFor (near far : Side) (resets : ℕ) (l : Link) : Type 0 where
  pub here : SideStandsFor near l.controller l.to_controller
  pub there : SideStandsFor far l.host l.to_host
  pub count : resets ≡ l.resets

-- both sides, where the end of the near one has become m in a step, and its frames weren't sent yet; at most twelve of them are
-- control frames
pub record IsMidway (near far : Side) (resets : ℕ) (l : Link) (m : Machine) : Type 0 where
  pub here : SideHas near m l.controller.emitted l.controller.took l.to_controller
  pub few : length m.shdlc.due ≤ 12
  pub there : SideStandsFor far l.host l.to_host
  pub count : resets ≡ l.resets

-- the two sides stand for the link after this happened at the end of the near one, and it is noted
pub record HasHappened (near far : Side) (resets : ℕ) (l : Link) (event : EndEvent) (at : End) (before now : List Entry) : Type 0 where
  pub stands : LinkStandsFor near far resets (happens_at_controller l event)
  pub noted : AreNoted at before now (here_entries (side_of at) l event)
