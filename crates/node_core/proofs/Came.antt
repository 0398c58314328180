-- What begins a step of a node.
use Rattle.node_core.proofs.Words.{AreAllDifferent, AreAtMostDue, AreFewDue, AreOfHosts, At, AtEnd, Core, Err, HasNoneEnded, IfSome, IsNodeInOrder, LinkInput}
use Rattle.node_core.proofs.Words.{List, MayComeAt, NodeInput, OnErr, Option, Plan, Port, ResetRefused, Result, Some, TimePasses, ToEnd, Work, [], all_come, ap}
use Rattle.node_core.proofs.Words.{arith, between, flat_map, input_of_end, input_of_node, is_outside, map, option_map_or, port_at, refl, refusal_at}
use Rattle.node_core.proofs.Words.{reset_few_due, subst, sym, sync_kept, synced, times_out, told_at, true, ℕ, ◌∷◌, ◌≡◌, ◌≤◌}
use Rattle.node_ends.proofs.Dues.{lpdu_few, start_few, stop_few}
use Rattle.node_ends.specs.declared.inputs.LinkInput.TheVariants.{Frame, Reset, Start, Stop}
use Rattle.node_core.specs.declared.inputs.NodeInput.{NodeInput as ToNode}
use Rattle.node_core.specs.declared.inputs.NodeInput.TheVariants.{Tick}
use Rattle.node_ends.specs.Inputs.{frame_said}
use Rattle.node_core.specs.Inputs.{MayComeToNode, refusal_by, sync_by}
use Rattle.node_core.proofs.Elsewhere.{host_at}
use Rattle.node_core.proofs.Refusing.{refused_is, refused_stays, tick_synced, late_few}
use Rattle.node_core.proofs.Resting.{MakesOneMore, MakeOneMore}
use Rattle.node_core.proofs.Staying.{come_order, late_order}
use Rattle.node_core.proofs.Stepping.{synced_is, sync_of_host, come_few}
use Rattle.node_core.proofs.Between.{kept_at}
use Rattle.node_core.proofs.SeenAsNode.{kept_refusal}

-- ## What may come

-- it comes from outside of the node
pub end_outside : (what : ToEnd) (o : Option Port) → MayComeAt what o → is_outside (input_of_end what) ≡ true
end_outside what o may = grind arith

-- it makes at most one more control frame
end_more : (what : ToEnd) (o : Option Port) → MayComeAt what o → MakesOneMore (input_of_end what)
end_more (Frame read) o may =
    let P : LinkInput → Type 0 = λ i. MakesOneMore i in subst P (ap frame_said (sym may.1)) (λ e. lpdu_few e may.0)
end_more (Reset window) o may = λ e. reset_few_due e window
end_more (Start value) o may = λ e. start_few e value
end_more Stop o may = stop_few

pub node_more : (input : ToNode) (ports : List Port) → MayComeToNode input ports → MakeOneMore (input_of_node input)
node_more (At host what) ports may = end_more what (port_at ports host) may
node_more Tick ports may = tt

-- what isn't kept of an end says nothing of it
pub kept_may : (input : ToNode) (ports : List Port) → MayComeToNode input ports → MayComeToNode input (map between ports)
kept_may (At host what) ports may =
    let P : Option Port → Type 0 = λ o. MayComeAt what o in subst P (sym (kept_at host ports)) (let h0 = port_at ports host in grind arith)
kept_may Tick ports may = tt

-- ## What is refused

pub kept_refused : (input : ToNode) (ports : List Port) → refusal_by input (map between ports) ≡ refusal_by input ports
kept_refused (At host (Frame read)) ports = refl
kept_refused (At host (Reset window)) ports = kept_refusal host ports
kept_refused (At host (Start value)) ports = refl
kept_refused (At host Stop) ports = refl
kept_refused Tick ports = refl

-- of what is refused nothing is noted
pub silent_refused : (core : Core) (ports : List Port) (h : ℕ) (what : ToEnd) (why : ResetRefused) → refusal_at what (port_at ports h) ≡ Some why
    → option_map_or (λ (p : Port). told_at core p (Some (input_of_end what))) (port_at ports h) [] ≡ []
silent_refused core ports h what why is = grind arith

-- so it is where that was answered
pub where_refused : {X Y Q : Type 0} (r : Result X Y) → ((why : Y) → r ≡ Err why → Q) → OnErr r Q
where_refused r so = grind arith

-- it leaves a step as it was
pub refused_same : (input : ToNode) (why : ResetRefused) (w : Work) → AreAllDifferent (map host_at w.ports) → HasNoneEnded w.ports
    → refusal_by input w.ports ≡ Some why → times_out (input_of_node input) (all_come (input_of_node input) w) ≡ w
refused_same (At host (Frame read)) why w differ none is = cc
refused_same (At host (Reset window)) why w differ none is =
    refused_stays host window why w differ none (refused_is window (port_at w.ports host) why is)
refused_same (At host (Start value)) why w differ none is = cc
refused_same (At host Stop) why w differ none is = cc
refused_same Tick why w differ none is = cc

-- ## What is brought

-- an identifier comes from a host that there is
pub sync_of_hosts : (input : NodeInput) (ports : List Port) → AreOfHosts ports
    → IfSome (sync_by input ports) (λ (pair : ℕ × ℕ). (1 ≤ pair.0) × (pair.0 ≤ 7))
sync_of_hosts (AtEnd h i) ports hosts = sync_of_host h i ports _ hosts refl
sync_of_hosts TimePasses ports hosts = tt

-- the identifiers that come are kept
pub synced_by : (core : Core) (input : NodeInput) (ports : List Port) → AreAllDifferent (map host_at ports)
    → flat_map (synced core input) ports ≡ sync_kept core.journal core.tables (sync_by input ports)
synced_by core (AtEnd h i) ports differ = synced_is core h i ports differ
synced_by core TimePasses ports differ = tick_synced core ports

-- ## Behind it

pub came_order : (input : NodeInput) (w : Work) → IsNodeInOrder w.core w.ports
    → IsNodeInOrder (times_out input (all_come input w)).core (times_out input (all_come input w)).ports
came_order input w order = late_order input (all_come input w) (come_order input w order)

five : (ports : List Port) → AreAtMostDue 4 ports → AreAtMostDue 5 ports
five [] few = tt
five (p ∷ ports) few = let f = few.0 in (omega (arith, f), five ports few.1)

pub came_few : (input : NodeInput) → MakeOneMore input → (w : Work) → AreAtMostDue 4 w.ports → AreFewDue (times_out input (all_come input w)).ports
came_few (AtEnd h i) more w few = come_few h i more w (five w.ports few)
came_few TimePasses more w few = late_few w.ports few

pub came_planned : (input : NodeInput) (w : Work) (plan : Option Plan)
    → times_out input (all_come input (record w { plan = plan })) ≡ record (times_out input (all_come input w)) { plan = plan }
came_planned input w plan = grind arith

pub came_written : (input : NodeInput) (w : Work) → (times_out input (all_come input w)).writes ≡ w.writes
came_written input w = grind arith
