-- Where a controller has notices that aren't answered.
use Rattle.std.specs.Prelude.{ℕ, List, map, Option, Some, None}
use Rattle.node_machine.specs.Parts.{Desk, Running, Port}
use Rattle.node_machine.specs.Carrying.{port_at}
use Rattle.node_machine.specs.world.World.{NodeWorld, Site, link_to, port_for}
use Rattle.node_laws.specs.links.Notices.{IsNoticedUp, OnFirst}

-- the ends of a controller between steps
abbrev pub ends_between : List Site → Running → List Port
ends_between sites r = map (λ (d : Desk). port_for (link_to sites d.host).controller d) r.desks

-- where a controller runs, its end of the link with any host has a notice that isn't answered only while it is up
abbrev pub IfNoticedUp : List Site → Option Running → Type 0
IfNoticedUp sites None = Unit {0}
IfNoticedUp sites (Some r) = (h : ℕ) → OnFirst IsNoticedUp (port_at (ends_between sites r) h)

-- so it is in a world
abbrev pub NoticesAreUp : NodeWorld → Type 0
NoticesAreUp w = IfNoticedUp w.sites w.controller
