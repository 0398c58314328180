-- A step leaves a node in order.
use Rattle.node_core.proofs.Words.{AllByRecursion, AtEnd, Commits, Core, Deed, HciTables, IsNodeInOrder, List, NodeInput, Option, Port, Releases, Sends, State}
use Rattle.node_core.proofs.Words.{TimePasses, Work, [], all_come, all_done, all_owed, arith, done, flat_map, forgets, forgotten, has_come, input_at, left_over}
use Rattle.node_core.proofs.Words.{map, passes, refl, reset_late, settles, steps, subst, sym, sync_kept, synced, times_out, unless_cut, with_older, ℕ, ◌∙◌, ◌∷◌}
use Rattle.node_machine.proofs.Walks.{forgotten_hold, all_owed_hold, all_synced_hold}
use Rattle.node_core.proofs.Joining.{goes_on}
use Rattle.node_core.proofs.Quiet.{done_quiet}
use Rattle.node_core.proofs.Elsewhere.{same_links}
use Rattle.node_core.proofs.EndKinds.{same_kinds, all_kinds, come_kind, late_kind}
use Rattle.node_core.proofs.Ordering.{IsFine, in_order_at, with_task, done_sure, passes_fine}
use Rattle.node_core.proofs.Settling.{quiet_left}

-- ## Deeds that leave what is under way

-- a command is committed, a message sent, or a block freed
abbrev IsMild : Deed → Type 0
IsMild (Commits c) = Unit {0}
IsMild (Sends to m) = Unit {0}
IsMild (Releases asker) = Unit {0}
IsMild _ = ⊥

abbrev AreMild : List Deed → Type 0
AreMild deeds = AllByRecursion IsMild deeds

one_fine : (h : ℕ) (d : Deed) (w : Work) → IsMild d → IsFine w → IsFine (done h d w)
one_fine h d w mild f = record {
  sure = done_sure h d w f.sure;
  order = with_task w.core (done h d w).core (done h d w).ports (grind arith) (grind arith)
      (in_order_at w.core w.ports (done h d w).ports
      (same_kinds (done h d w).ports w.ports (same_links (done h d w).ports w.ports (done_quiet h d w))) f.order);
}

mild_fine : (h : ℕ) (deeds : List Deed) (w : Work) → AreMild deeds → IsFine w → IsFine (all_done h deeds w)
mild_fine h [] w mild f = f
mild_fine h (d ∷ deeds) w mild f =
    let next = one_fine h d w mild.0 f in
    subst (λ v. IsFine v) (sym (goes_on (all_done h deeds) (done h d w) next.sure.power)) (mild_fine h deeds (done h d w) mild.1 next)

then_fine : (f : Work → Work) (w : Work) → ((v : Work) → IsFine v → IsFine (f v)) → IsFine w → IsFine (unless_cut f w)
then_fine f w keeps fine = let P : Work → Type 0 = λ v. IsFine v in subst P (sym (goes_on f w fine.sure.power)) (keeps w fine)

-- ## Behind what came

left_fine : (w : Work) → IsFine w → IsFine (left_over w)
left_fine w f = record {
  sure = record { power = f.sure.power; plan = f.sure.plan };
  order = with_task w.core (left_over w).core (left_over w).ports (grind arith) (grind arith)
      (in_order_at w.core w.ports (left_over w).ports (same_kinds (left_over w).ports w.ports (same_links (left_over w).ports w.ports (quiet_left w))) f.order);
}

freed_mild : (ports : List Port) → AreMild (forgotten ports)
freed_mild ports = forgotten_hold (λ d. IsMild d) (λ asker. tt) ports

owed_mild : (ports : List Port) → AreMild (all_owed ports)
owed_mild ports = all_owed_hold (λ d. IsMild d) (λ asker. tt) (λ to r. tt) ports

synced_mild : (core : Core) (input : NodeInput) (ports : List Port) → AreMild (flat_map (synced core input) ports)
synced_mild core input ports = all_synced_hold (λ d. IsMild d) (λ host id. tt) core input ports

settled_fine : (syncs : List Deed) → AreMild syncs → (w : Work) → IsFine w → IsFine (settles syncs w)
settled_fine syncs mild w f =
    let left : List Port = map (forgets w.ports) w.ports in
    let freed = mild_fine 0 (forgotten w.ports) (left_over w) (freed_mild w.ports) (left_fine w f) in
    then_fine (all_done 0 (all_owed left)) (all_done 0 syncs (all_done 0 (forgotten w.ports) (left_over w)))
    (λ v fine. mild_fine 0 (all_owed left) v (owed_mild left) fine) (mild_fine 0 syncs (all_done 0 (forgotten w.ports) (left_over w)) mild freed)

-- a node is in order once it is settled what came
pub settles_fine : (s : State) (t : HciTables) (came : Option (ℕ × ℕ)) (w : Work) → IsFine w → IsFine (settles (sync_kept s t came) w)
settles_fine s t came w f = settled_fine (sync_kept s t came) (grind arith) w f

-- ## Whole steps

pub come_order : (input : NodeInput) (w : Work) → IsNodeInOrder w.core w.ports → IsNodeInOrder (all_come input w).core (all_come input w).ports
come_order input w order =
    in_order_at w.core w.ports (all_come input w).ports
    (all_kinds (λ (p : Port). has_come p (input_at input p)) (λ p. come_kind p (input_at input p)) w.ports) order

pub late_order : (input : NodeInput) (w : Work) → IsNodeInOrder w.core w.ports → IsNodeInOrder (times_out input w).core (times_out input w).ports
late_order (AtEnd h i) w order = order
late_order TimePasses w order =
    in_order_at w.core w.ports (map reset_late (map with_older w.ports))
    (all_kinds reset_late late_kind (map with_older w.ports) ∙ all_kinds with_older (λ p. refl) w.ports) order

-- a step keeps a node in order
pub steps_fine : (input : NodeInput) (w : Work) → IsFine w → IsFine (steps input w)
steps_fine input w f =
    let came : Work = times_out input (all_come input w) in
    let fine : IsFine came = record { sure = grind arith; order = late_order input (all_come input w) (come_order input w f.order) } in
    let syncs : List Deed = flat_map (synced w.core input) w.ports in
    then_fine passes (settles syncs came) passes_fine (settled_fine syncs (synced_mild w.core input w.ports) came fine)
