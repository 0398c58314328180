use Rattle.node_sites.proofs.Words.{Core, Link, List, Port, RunsAs, WiresStandFor, most_fetches, node_memory, seen_from, ◌+◌, ◌-◌, ◌≡◌, ◌≤◌}
use Rattle.node_sites.specs.FramesOut.{SendsFrom}
use Rattle.node_sites.proofs.FramesGoOut.{Sending}
use Rattle.node_sites.proofs.sending.send_frames.Given as goal

-- so many frames are left at most
abbrev pub invariant-loop : goal.invariant-loop
invariant-loop l =
    record {
      goes : (core : Core) (ports : List Port) (p : Port) (m : Link) → SendsFrom (RunsAs l.initial.node core ports) l.at p ports
          → WiresStandFor l.initial.wires (seen_from l.at m)
          → Sending (RunsAs l.node core) l.wires l.at ports p m l.initial.entries.items l.entries.items (most_fetches p.side - l.counter);
      memory : node_memory l.node ≡ node_memory l.initial.node;
      grows : l.wires.resets ≤ l.initial.wires.resets + l.counter;
    }
