-- A node between its steps and in them: for which states of its machine it stands, as far as the next step asks for it.
use Rattle.std.specs.Prelude.{◌≡◌, ℕ, ◌≤◌, ◌+◌, min, length, Bool, true, false, not, List, [], ◌++◌, map, Option, Some, None, IsTrue}
use Rattle.std.specs.List.{AllByRecursion}
use Rattle.std.specs.Option.{option_map_or}
use Rattle.trace_model.specs.declared.entry.Entry.{Entry}
use Rattle.link_laws.specs.machine.Machine.{LinkEnd, LinkInput, report, next_frame, frames_out, sent_all}
use Rattle.link_laws.specs.machine.Laws.{fetches, after_fetches, most_fetches}
use Rattle.node_machine.specs.Parts.{Core, Port, Work}
use Rattle.node_ends.specs.Desks.{age_at}
use Rattle.node_ends.specs.Ends.{EndsStandFor, IsHeldWhileOneWaits}
pub use Rattle.node_ends.specs.Inputs.{reset_refusal_at}
use Rattle.node_core.specs.declared.node.Node.{Node}
use Rattle.node_core.specs.declared.running.Ran.{Ran}
use Rattle.node_core.specs.declared.running.Ran.TheVariants.{Done, Stopped}
use Rattle.node_core.specs.Nodes.{CoreStandsFor, IsUsable}
use Rattle.node_core.specs.Noting.{unnumbered}
use Rattle.node_core.specs.Bringing.{Brings}
use Rattle.node_core.specs.Turning.{IsNodeInOrder, AreAtMostDue}

-- what is kept of an end between steps: neither the number of its session nor what was done to it in a step
abbrev pub between : Port → Port
between p = record p { session = 0; late = false; ended = false; turns = [] }

-- the notice of each end has had fewer than a hundred ticks
abbrev pub AreInTime : List Port → Type 0
AreInTime ports = AllByRecursion (λ (p : Port). age_at (Some p) ≤ 99) ports

-- while a message waits at an end, it is held
abbrev pub AreHeldWhileOneWaits : List Port → Type 0
AreHeldWhileOneWaits ports = AllByRecursion (λ (p : Port). IsHeldWhileOneWaits (Some p)) ports

-- no frame waits to be sent at any end
abbrev pub IsAllSent : List Port → Type 0
IsAllSent ports = AllByRecursion (λ (p : Port). next_frame p.side ≡ None) ports

-- no session ended in the step that begins
abbrev pub HasNoneEnded : List Port → Type 0
HasNoneEnded ports = AllByRecursion (λ (p : Port). (p.late ≡ false) × (p.ended ≡ false)) ports

-- A node that has its power, between two steps of it, or behind one while its frames go out.
pub record RunsAs {N : Type 0} (n : Node N) (core : Core) (ports : List Port) : Type 0 where
  pub usable : IsUsable n.store
  pub live : IsTrue n.store.journal.live
  pub node : core.node ≡ n.number
  pub stands : CoreStandsFor n core
  pub ends : EndsStandFor n.ends (map between ports)
  pub order : IsNodeInOrder core ports
  pub few : AreAtMostDue 5 ports
  pub in_time : AreInTime ports
  pub held : AreHeldWhileOneWaits ports

-- A node as a step of it begins: all frames of the step before went out. What was noted in this step stands behind the entries from
-- before, while there was memory for them.
pub record BeginsStep {N : Type 0} (n : Node N) (noted : List Entry) (short : Bool) (start : List Entry) (w : Work) : Type 0 where
  pub runs : RunsAs n w.core w.ports
  pub sent : IsAllSent w.ports
  pub none_ended : HasNoneEnded w.ports
  pub power : w.cut ≡ false
  pub noted_are : short ≡ false → noted ≡ start ++ map unnumbered w.entries

-- A node behind a step: it runs, unless it has lost its power.
pub record HasStepped {N : Type 0} (n : Node N) (noted : List Entry) (short : Bool) (start : List Entry) (w : Work) : Type 0 where
  pub power : w.cut ≡ not n.store.journal.live
  pub runs : w.cut ≡ false → RunsAs n w.core w.ports
  pub noted_are : short ≡ false → noted ≡ start ++ map unnumbered w.entries

-- A node that begins a step, with its watch, is behind it what f makes of it.
abbrev pub TakesStep : {N V : Type 0} → (N → ℕ → List ℕ → Bool → N → Type 0) → (V → List Entry) → (V → Bool) → Node N × V → Node N × V
    → (Work → Work) → Type 0
TakesStep writes noted short old new f = (start : List Entry) (w : Work) → BeginsStep old.0 (noted old.1) (short old.1) start w
    → Brings writes old.0.store.journal.nv new.0.store.journal.nv (HasStepped new.0 (noted new.1) (short new.1) start) f w

-- a step may begin
pub record MayStep {N : Type 0} (n : Node N) : Type 0 where
  pub core : Core
  pub ports : List Port
  pub runs : RunsAs n core ports
  pub sent : IsAllSent ports

-- whether it has its power still
abbrev pub ran_so : Bool → Ran
ran_so true = Done
ran_so false = Stopped

-- an end for which one more frame was refused on its way, which stops at FFFF
abbrev pub one_more_error : Port → Port
one_more_error p = record p { desk = record p.desk { errors = min 65535 (p.desk.errors + 1) } }

-- what a node finds as it boots, by what is kept of it
abbrev pub core_kept : {N : Type 0} → Node N → Core
core_kept n = record { node = n.number; journal = n.store.journal.state; tables = n.store.tables; command = None; init = None }

-- an end, where there is one, becomes active by this input
abbrev pub becomes_active_by : LinkInput → Option Port → Bool
becomes_active_by i port = option_map_or (λ (p : Port). (report p.side i).became_active) port false

-- The frames that are fetched of an end one after another are all that are due, at most five of them ACT frames. Behind them it has sent
-- all, and none is due.
pub record SendsOneByOne (e : LinkEnd) : Type 0 where
  pub frames : fetches (most_fetches e) e ≡ frames_out e
  pub rest : after_fetches (most_fetches e) e ≡ sent_all e
  pub none : next_frame (sent_all e) ≡ None
  pub few : length e.acts ≤ 5
