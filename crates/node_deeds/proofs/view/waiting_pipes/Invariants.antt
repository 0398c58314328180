use Rattle.node_deeds.proofs.Words.{awaited_pipe, filter_map, length, take, ◌≡◌, ◌≤◌}
use Rattle.node_deeds.proofs.view.waiting_pipes.Given as goal

abbrev pub invariant-loop-desk : goal.invariant-loop-desk
invariant-loop-desk l = record {
  items : l.pipes.items ≡ filter_map awaited_pipe (take l.desk-index l.desks);
  few : length l.pipes.items ≤ l.desk-index;
}
