use Rattle.node_world.proofs.Words.{eq-eqb, lines_played, ne_eqb, nodes_behind, ◌∙◌}
use Rattle.node_world.proofs.WorldsStepped.{found_behind, controller_kept, host_kept, host_is_there}
use Rattle.node_world.proofs.worlds.NodeWorld.into_memory.Goals as goal

pub returns-then-node-eq0-clause-memory : goal.returns-then-node-eq0-clause-memory
returns-then-node-eq0-clause-memory c header plays s node =
    controller_kept c.args.self header plays c.args.node s (eq-eqb c.args.node 0 c.if-node-eq0.true) c.into_nv.result
    (c.into_nv.ensures.nv ∙ c.into_memory.ensures)

pub returns-then-node-eq0-clause-found : goal.returns-then-node-eq0-clause-found
returns-then-node-eq0-clause-found c header plays s node =
    found_behind c.args.self header plays c.args.node s node c.into_nv.result
    (controller_kept c.args.self header plays c.args.node s (eq-eqb c.args.node 0 c.if-node-eq0.true) c.into_nv.result
    (c.into_nv.ensures.nv ∙ c.into_memory.ensures))

pub unreachable-requires : goal.unreachable-requires
unreachable-requires c =
    let r = c.requires.state in
    let none = c.in-None.ensures.place (nodes_behind r.0 (lines_played r.0 r.1)).sites (rw (← c.as_slice.ensures.value) at r.2.stands.sites) in
    host_is_there c.args.self r.0 r.1 c.args.node r.2 r.3 (ne_eqb c.args.node 0 c.if-node-eq0.false) none

pub returns-clause-memory : goal.returns-clause-memory
returns-clause-memory c header plays s node =
    let a = c.in-Some.ensures.place (nodes_behind header (lines_played header plays)).sites (rw (← c.as_slice.ensures.value) at s.stands.sites) in
    host_kept c.args.self header plays c.args.node c.in-Some.place s node (ne_eqb c.args.node 0 c.if-node-eq0.false) a c.remove.result
    c.remove.ensures.value c.into_nv-in-Some.result (c.into_nv-in-Some.ensures.nv ∙ c.into_memory-in-Some.ensures)

pub returns-clause-found : goal.returns-clause-found
returns-clause-found c header plays s node =
    let a = c.in-Some.ensures.place (nodes_behind header (lines_played header plays)).sites (rw (← c.as_slice.ensures.value) at s.stands.sites) in
    found_behind c.args.self header plays c.args.node s node c.into_nv-in-Some.result
    (host_kept c.args.self header plays c.args.node c.in-Some.place s node (ne_eqb c.args.node 0 c.if-node-eq0.false) a c.remove.result
    c.remove.ensures.value c.into_nv-in-Some.result (c.into_nv-in-Some.ensures.nv ∙ c.into_memory-in-Some.ensures))
