-- What is read of the ends of a node at each turn of a step.
use Rattle.std.specs.Prelude.{◌≡◌, ℕ, false, if◌then◌else◌, drop, List, [], ◌++◌, Some, None}
use Rattle.trace_model.specs.declared.entry.Entry.{Entry}
use Rattle.trace_model.specs.declared.line.End.{End}
use Rattle.link_laws.specs.sessions.Sessions.{is_up}
use Rattle.link_laws.specs.machine.Machine.{spare, whole_acked}
use Rattle.link_laws.specs.messages.Links.{Comes, exchanged}
use Rattle.link_laws.specs.entries.Entries.{End as Side}
use Rattle.link_laws.specs.entries.Entries.End.{Host}
use Rattle.history.specs.Steps.{end_of, entries_for}
use Rattle.node_machine.specs.Parts.{Running, Port, Work}
use Rattle.node_machine.specs.Carrying.{port_at}
use Rattle.node_machine.specs.Node.{NodeInput}
use Rattle.node_machine.specs.world.World.{Site, node_of, near_end_in, arrival, work_of}
use Rattle.node_machine.specs.world.NodeFilters.{session_now, unacknowledged_in, aside_in, spare_at}
use Rattle.node_laws.specs.passes.Passing.{ComesTo}
use Rattle.node_laws.specs.passes.Steps.{comes_to_pass}

-- ## The turns of a step

-- This holds of a node at each turn of a step that begins so: its power is on as it begins to go through its ends, and turns lead from there.
abbrev pub HoldsInStep : (Work → Type 0) → NodeInput → Work → Type 0
HoldsInStep P input w = (comes_to_pass input w).cut ≡ false → (v : Work) → ComesTo (comes_to_pass input w) v → P v

-- a host as a step begins in which something comes to its end
abbrev pub host_begins_step : Site → Running → Comes → Work
host_begins_step s r comes =
    work_of r s.memory.plan (λ k. near_end_in (exchanged s.link) comes) (entries_for s.host (arrival Host (exchanged s.link) comes))

-- a host as its tick begins
abbrev pub host_tick_begins : Site → Running → Work
host_tick_begins s r = work_of r s.memory.plan (λ k. s.link.host) []

-- ## What is read

-- What is read of an end is what it has in the step: its session, while it is up, and the messages that aren't acknowledged; so, where
-- its blocks that are set aside are read, those that it has to spare.
pub record IsPortRead (t : List Entry) (e : End) (p : Port) : Type 0 where
  pub session : session_now t e (node_of e) ≡ (if is_up p.side.shdlc.phase then Some p.session else None)
  pub held : unacknowledged_in t e (session_now t e (node_of e)) ≡ drop (whole_acked p.side) p.side.sent
  pub spare : aside_in t e ≡ p.side.aside → spare_at t e ≡ spare p.side

-- So it is with each end of a controller, or of a host, where these entries were noted before the step.
abbrev pub ArePortsRead : Side → List Entry → Work → Type 0
ArePortsRead who t w = (k : ℕ) (p : Port) → port_at w.ports k ≡ Some p → IsPortRead (t ++ w.entries) (end_of k who) p
