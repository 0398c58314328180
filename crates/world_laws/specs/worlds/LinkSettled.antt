-- What it is that the link of a host has settled.
use Rattle.std.specs.Prelude.{◌≡◌, ℕ, Some}
use Rattle.link_laws.specs.messages.Links.{talk_now}
use Rattle.lines_told.specs.messages.Recovery.{EarlierGot}
use Rattle.node_machine.specs.world.World.{Site, NodeWorld, site_at}

-- the link of a host has brought all that was sent before at both its ends
pub record LinkSettled (v : NodeWorld) (h : ℕ) (s : Site) : Type 0 where
  pub later : Site
  pub is : site_at v.sites h ≡ Some later
  pub to_host : EarlierGot (talk_now s.link.controller.side) (talk_now later.link.controller.side) (talk_now later.link.host.side)
  pub to_controller : EarlierGot (talk_now s.link.host.side) (talk_now later.link.host.side) (talk_now later.link.controller.side)
