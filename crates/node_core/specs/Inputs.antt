-- What begins a step of a node: the input of its machine that it is, when it may come, and what it brings.
use Rattle.std.specs.Prelude.{◌≡◌, ℕ, ◌≤◌, Bool, false, List, Option, None, option_map, IfSome}
use Rattle.link_laws.specs.machine.Machine.{report}
use Rattle.link_end.specs.declared.report.ResetRefused.{ResetRefused}
use Rattle.link_end.specs.Reports.{report_told}
use Rattle.node_machine.specs.Parts.{Port}
use Rattle.node_machine.specs.Carrying.{port_at}
use Rattle.node_machine.specs.Node.{NodeInput}
use Rattle.node_machine.specs.Node.NodeInput.{AtEnd, TimePasses}
use Rattle.node_ends.specs.declared.inputs.LinkInput.{LinkInput as ToEnd}
use Rattle.node_ends.specs.declared.inputs.LinkInput.TheVariants as comes
use Rattle.node_ends.specs.Inputs.{input_of_end, MayComeAt, refusal_at}
use Rattle.node_core.specs.declared.inputs.Came.{Came}
use Rattle.node_core.specs.declared.inputs.NodeInput.{NodeInput as ToNode}
use Rattle.node_core.specs.declared.inputs.NodeInput.TheVariants.{At, Tick}
use Rattle.node_core.specs.Running.{becomes_active_by}
use Rattle.node_core.specs.Syncing.{sync_told}

-- what begins a step, as an input of the machine of the node
abbrev pub input_of_node : ToNode → NodeInput
input_of_node (At host what) = AtEnd host (input_of_end what)
input_of_node Tick = TimePasses

-- it may come to a node with these ends
abbrev pub MayComeToNode : ToNode → List Port → Type 0
MayComeToNode (At host what) ports = MayComeAt what (port_at ports host)
MayComeToNode Tick ports = Unit {0}

-- it is asked of a host: a reset with a window of 1 to 4 or none, or that activation begins or ends
abbrev pub IsAskedOf : ToEnd → Type 0
IsAskedOf (comes.Frame read) = ⊥
IsAskedOf (comes.Reset window) = IfSome window (λ (w : ℕ). (1 ≤ w) × (w ≤ 4))
IsAskedOf (comes.Start value) = Unit {0}
IsAskedOf comes.Stop = Unit {0}

-- why it is refused, where it is
abbrev pub refusal_by : ToNode → List Port → Option ResetRefused
refusal_by (At host what) ports = refusal_at what (port_at ports host)
refusal_by Tick ports = None

-- the identifier that it brings, with its host
abbrev pub sync_by : NodeInput → List Port → Option (ℕ × ℕ)
sync_by (AtEnd h i) ports = sync_told h (option_map (λ (p : Port). report_told (report p.side i)) (port_at ports h))
sync_by TimePasses ports = None

-- an end becomes active by it
abbrev pub makes_active : NodeInput → List Port → Bool
makes_active (AtEnd h i) ports = becomes_active_by i (port_at ports h)
makes_active TimePasses ports = false

-- that is what came
pub record IsWhatCame (input : NodeInput) (ports : List Port) (came : Came) : Type 0 where
  pub sync : came.sync ≡ sync_by input ports
  pub active : came.became_active ≡ makes_active input ports
