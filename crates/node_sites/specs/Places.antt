-- What is kept of a host of the world, and for which states of the world it stands.
use Rattle.std.specs.Prelude.{◌≡◌}
use Rattle.node_machine.specs.world.World.{Site}
use Rattle.node_sites.specs.declared.places.HostSite.{HostSite}
use Rattle.node_sites.specs.Powers.{IsNodePlace}
use Rattle.node_sites.specs.LinksKept.{WiresStandFor}

-- a host with its memory and its link to the controller
pub record SiteIs (k : HostSite) (s : Site) : Type 0 where
  pub host : k.host ≡ s.host
  pub wires : WiresStandFor k.wires s.link
  pub place : IsNodePlace k.power s.memory s.node (λ h. s.link.host)
