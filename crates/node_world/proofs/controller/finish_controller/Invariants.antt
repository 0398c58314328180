use Rattle.node_world.proofs.Words.{Core, HaveRoom, List, Port, RunsAs, SendsTo, Site, drop, false, node_memory, ◌≡◌}
use Rattle.node_world.proofs.SitesKept.{SendingOn}
use Rattle.node_world.proofs.controller.finish_controller.Given as goal

-- the frames to so many hosts went out
abbrev pub invariant-loop-i : goal.invariant-loop-i
invariant-loop-i l =
    record {
      goes : (core : Core) (ports : List Port) (hosts : List Site) → SendsTo (RunsAs l.initial.node core ports) ports l.initial.sites hosts
          → SendingOn (RunsAs l.node core) ports l.sites hosts l.initial.noted.entries.items l.noted.entries.items l.i;
      memory : node_memory l.node ≡ node_memory l.initial.node;
      room : HaveRoom (drop l.i l.sites);
      short : l.noted.short ≡ false;
    }
