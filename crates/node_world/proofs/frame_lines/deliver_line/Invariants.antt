use Rattle.node_world.proofs.Words.{Header, MayPlay, NodeWorld, Takes, WorldIs, false, ◌≡◌}
use Rattle.trace_model.specs.declared.line.Line.TheVariants as line
use Rattle.node_world.proofs.RoundsGo.{Again}
use Rattle.node_world.proofs.frame_lines.deliver_line.Given as goal

-- the end has taken so many frames
abbrev pub invariant-loop : goal.invariant-loop
invariant-loop l =
    record {
      goes : (header : Header) (w : NodeWorld) → WorldIs l.initial.controller l.initial.sites w → MayPlay header (line.Deliver l.fn.at l.fn.count) w
          → Again l.controller l.sites 250000000 l.initial.noted.entries.items l.noted.entries.items w (Takes l.fn.at) l.counter;
      short : l.noted.short ≡ false;
    }
