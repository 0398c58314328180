-- How many RSETs were put on the links of a world, and how many fragments are acknowledged at their ends, behind so many steps of
-- nodes: a node sends at most twelve frames of SHDLC in a step, and a number N(R) modulo 8 acknowledges at most seven fragments.
use Rattle.std.specs.Prelude.{ℕ, ◌*◌, ◌≤◌, List}
use Rattle.std.specs.List.{AllByRecursion}
use Rattle.link_laws.specs.machine.Machine.{LinkEnd, LinkInput}
use Rattle.link_laws.specs.machine.Machine.LinkInput.{FromNode}
use Rattle.link_laws.specs.messages.Links.{Link}
use Rattle.node_machine.specs.Parts.{Port}
use Rattle.node_machine.specs.world.World.{Site, NodeWorld}

-- so many fragments of its session are acknowledged at an end, and no more
abbrev pub AcksWithin : ℕ → LinkEnd → Type 0
AcksWithin n e = e.shdlc.session.acked ≤ 7 * n

-- a link behind so many steps of nodes
pub record FewOn (n : ℕ) (l : Link) : Type 0 where
  pub resets : l.resets ≤ 12 * n
  pub controller : AcksWithin n l.controller.side
  pub host : AcksWithin n l.host.side

abbrev pub FewOnEach : ℕ → List Site → Type 0
FewOnEach n sites = AllByRecursion (λ (s : Site). FewOn n s.link) sites

-- a world behind so many steps of nodes: a tick and an activation are two for each link, any other thing that happens is one
abbrev pub FewBehind : ℕ → NodeWorld → Type 0
FewBehind n w = FewOnEach n w.sites

-- so it is at these ends of a node
abbrev pub AckWithin : ℕ → List Port → Type 0
AckWithin n ports = AllByRecursion (λ (p : Port). AcksWithin n p.side) ports

-- it comes to an end from outside its node
abbrev pub IsFromOutside : LinkInput → Type 0
IsFromOutside (FromNode t) = ⊥
IsFromOutside _ = Unit {0}
