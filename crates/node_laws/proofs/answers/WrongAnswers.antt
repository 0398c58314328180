-- Small wrong histories of nodes aren't answered: for each of five facts of `Answered` one that it alone refuses.
use Rattle.node_laws.proofs.Words.{Gives, Held, List, NodeHistory, Occurrence, Takes, [], ap, arith, end_c, end_h, entries_in, refl, replicate, sym}
use Rattle.node_laws.proofs.Words.{true≢false, ℕ, ◌++◌, ◌∷◌, ◌≤◌}
use Rattle.trace_model.specs.declared.entry.Entry.TheVariants.{Acked, Got, Sent, Up}
use Rattle.journal_laws.specs.Records.{found_from}
use Rattle.gate_admin.specs.View.{hosts_where}
use Rattle.pipe_table.specs.PipeRows.{lowest_free}
use Rattle.node_laws.proofs.answers.OneFact.{RefusedByOnly, others_hold}
use Rattle.node_laws.proofs.answers.OneFact.Fact.{Ascending, Done, Heard, InTurn, Short}
use Rattle.node_laws.proofs.answers.Wrong.{is_empty, told, begins}
use Rattle.node_laws.proofs.answers.WrongWorlds.{descends, got, host_alone, host_takes, ok, told_of_two, unheard}

-- ## A message has its turn and didn't come

only_in_turn : RefusedByOnly (told unheard) InTurn
unfolding found_from hosts_where lowest_free
only_in_turn = (
  λ in_turn. true≢false (sym (ap is_empty (in_turn (entries_in unheard) [] (end_c 2) refl).1)),
  others_hold (told unheard) InTurn (tt, refl, refl, refl, refl, refl, refl, refl, refl),
)

-- ## A message came and has no turn, in an event in which its node makes no step

abbrev left : Occurrence
left = record { cause = Gives (end_h 3) (1, ok); entries = got 2 ∷ [] }

only_done : RefusedByOnly (told (begins ++ left ∷ [])) Done
unfolding found_from hosts_where lowest_free
only_done = (
  λ done. true≢false (sym (done begins [] left refl).0),
  others_hold (told (begins ++ left ∷ [])) Done (refl, refl, refl, tt, refl, refl, refl, refl, refl),
)

-- ## A message is held, and once there is room it has no turn

-- A host sends the longest message, and all its blocks are in use. ANY_OPEN_PIPE comes, and its answer finds none.
abbrev long : List ℕ
long = 65 ∷ replicate 4095 0

abbrev holds : List Occurrence
holds =
    host_alone
    ++ record { cause = Gives (end_h 2) (1, long); entries = Sent (end_h 2) 1 1 long ∷ [] }
    ∷ host_takes (Got (end_h 2) 1 0 (3 ∷ []) ∷ Held (end_h 2) 1 0 ∷ [])
    ∷ []

abbrev frees : Occurrence
frees = host_takes (Acked (end_h 2) 1 1 ∷ [])

only_short : RefusedByOnly (told (holds ++ frees ∷ [])) Short
unfolding found_from hosts_where lowest_free
only_short = (
  λ short. true≢false (sym (short holds [] frees refl).1.0),
  others_hold (told (holds ++ frees ∷ [])) Short (refl, refl, refl, refl, tt, refl, refl, refl, refl),
)

-- ## A message of host 03 has its turn before one of host 02

abbrev both_up : List Occurrence
both_up = begins ++ record { cause = Takes (end_c 3); entries = Up (end_c 3) 1 ∷ [] } ∷ []

abbrev of_two_hosts : NodeHistory
of_two_hosts = told_of_two (both_up ++ descends ∷ [])

only_ascending : RefusedByOnly of_two_hosts Ascending
unfolding found_from hosts_where lowest_free
only_ascending = (
  λ ascending. let low : 3 ≤ 2 = (ascending both_up [] descends refl 0).0.0 in omega (arith, low),
  others_hold of_two_hosts Ascending (refl, refl, refl, refl, refl, refl, refl, tt, refl),
)

-- ## An end comes up behind what its node sends

abbrev late : Occurrence
late = record { cause = Gives (end_h 2) (1, ok); entries = Sent (end_h 2) 1 1 ok ∷ Up (end_h 2) 1 ∷ [] }

only_heard : RefusedByOnly (told (host_alone ++ late ∷ [])) Heard
unfolding found_from hosts_where lowest_free
only_heard = (
  λ heard. true≢false (heard host_alone [] late [] (Up (end_h 2) 1 ∷ []) (Sent (end_h 2) 1 1 ok) refl refl 2 refl).0,
  others_hold (told (host_alone ++ late ∷ [])) Heard (refl, refl, refl, refl, refl, refl, refl, refl, tt),
)
