-- For which states of its machine a node stands that runs alone: the controller or host 02, with the link between them and no other.
use Rattle.std.specs.Prelude.{◌≡◌, List, [], ◌∷◌, Some, None}
use Rattle.swp_base.specs.declared.control_frames.Control.{Control}
use Rattle.link_laws.specs.machine.Machine.{LinkInput, frames_out, sent_all}
use Rattle.node_machine.specs.Parts.{Core, Port}
use Rattle.node_core.specs.declared.inputs.NodeInput.{NodeInput as ToNode}
use Rattle.node_core.specs.declared.node.Node.{Node}
use Rattle.node_core.specs.Inputs.{input_of_node, MayComeToNode, refusal_by}
use Rattle.node_core.specs.Running.{RunsAs}
use Rattle.lone_laws.specs.alone.Lone.{Lone, LoneCause, lone_input, node_input}

-- A node runs alone in this state once these frames have gone out.
pub record RunsAlone {N : Type 0} (n : Node N) (l : Lone) (frames : List Control) : Type 0 where
  pub core : Core
  pub port : Port
  pub runs : RunsAs n core (port ∷ [])
  pub host : port.desk.host ≡ 2
  pub node_is : l.node ≡ Some (record { core = core; desks = port.desk ∷ [] })
  pub number_is : l.number ≡ n.number
  pub link_is : l.link ≡ 2
  pub side_is : l.side ≡ sent_all port.side
  pub due : frames_out port.side ≡ frames

-- All its frames are out, and this comes to it as an input with which a step may begin, and that isn't refused.
pub record TakesAlone {N : Type 0} (n : Node N) (l : Lone) (c : LoneCause) (input : ToNode) : Type 0 where
  pub alone : RunsAlone n l []
  pub what : LinkInput
  pub comes : lone_input c ≡ Some what
  pub is : input_of_node input ≡ node_input 2 what
  pub may : MayComeToNode input (alone.port ∷ [])
  pub free : refusal_by input (alone.port ∷ []) ≡ None
