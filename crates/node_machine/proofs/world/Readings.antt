-- What is read off the entries of the worked examples is what the machines keep: at each node that runs, behind each line.
use Rattle.std.proofs.Common.{◌≡◌, refl, ℕ, List, [], ◌∷◌, ◌++◌}
use Rattle.std.specs.Prelude.{Bool, false, map, length, is_some, if◌then◌else◌, ◌==◌, Option, Some, None}
use Rattle.trace_model.specs.declared.entry.Entry.{Entry}
use Rattle.trace_model.specs.declared.line.Line.{Line}
use Rattle.journal_laws.specs.Records.{found_from}
use Rattle.journal_laws.specs.Journal.{count_of}
use Rattle.gate_admin.specs.View.{hosts_where}
use Rattle.pipe_table.specs.PipeRows.{lowest_free}
use Rattle.hci_tables.specs.Tables.{HciTables}
use Rattle.link_laws.specs.machine.Machine.{spare}
use Rattle.node_machine.specs.Parts.{Desk, Running}
use Rattle.node_machine.specs.world.World.{NodeWorld, Site, new_world, node_at, link_to, end_c, end_h}
use Rattle.node_machine.specs.world.Lines.{LineOutcome, line_step}
use Rattle.node_machine.specs.world.NodeHistories.{entries_in, occurrences_of}
use Rattle.node_machine.proofs.world.Schedules.{activation_and_first_pipe_lines, parameter_before_opening_lines, users_session_over_a_cut_lines}
use Rattle.node_machine.proofs.world.Schedules.{cut_in_first_write_lines, cut_in_second_write_13_lines, cut_in_second_write_FF_lines}
use Rattle.node_machine.proofs.world.Schedules.{cut_in_second_write_5A_lines, pipes_closed_by_a_cut_lines, creation_between_hosts_lines}
use Rattle.node_machine.proofs.world.Schedules.{notice_never_answered_lines, relay_and_strangers_lines}
use Rattle.node_machine.specs.world.NodeFilters.{commands_in, tables_in, spare_at, notice_in, order_in}

-- what is known of a node that runs: its tables and how many commands it keeps, what its ends have to spare, which of its hosts
-- have a notice to answer, and the command that waits
record Known : Type 0 where
  tables : HciTables
  count : ℕ
  spares : List ℕ
  noticed : List Bool
  order : Option (List ℕ)

abbrev hosts_at : NodeWorld → ℕ → List ℕ
hosts_at w n = if n == 0 then map (λ (s : Site). s.host) w.sites else n ∷ []

abbrev spare_of_machine : NodeWorld → ℕ → ℕ → ℕ
spare_of_machine w n h = if n == 0 then spare (link_to w.sites h).controller.side else spare (link_to w.sites h).host.side

-- as the machines keep it
abbrev kept : NodeWorld → ℕ → Option Running → Option Known
kept w n None = None
kept w n (Some r) = Some (record {
  tables = r.core.tables;
  count = count_of r.core.journal;
  spares = map (spare_of_machine w n) (hosts_at w n);
  noticed = map (λ (d : Desk). is_some d.notice) r.desks;
  order = r.core.command;
})

-- as it is read off the entries
abbrev read : NodeWorld → List Entry → ℕ → Option Running → Option Known
read w t n None = None
read w t n (Some r) = Some (record {
  tables = tables_in t n;
  count = length (commands_in t n);
  spares = map (λ h. spare_at t (if n == 0 then end_c h else end_h h)) (hosts_at w n);
  noticed = map (λ h. if n == 0 then is_some (notice_in t h) else false) (hosts_at w n);
  order = if n == 0 then None else order_in t n;
})

abbrev nodes_in : NodeWorld → List ℕ
nodes_in w = 0 ∷ map (λ (s : Site). s.host) w.sites

-- behind each line
abbrev all_kept : NodeWorld → List Line → List (List (Option Known))
all_kept w [] = []
all_kept w (line ∷ lines) =
    let o : NodeWorld × LineOutcome = line_step w line in map (λ n. kept o.0 n (node_at o.0 n)) (nodes_in o.0) ∷ all_kept o.0 lines

abbrev all_read : NodeWorld → List Entry → List Line → List (List (Option Known))
all_read w t [] = []
all_read w t (line ∷ lines) =
    let o : NodeWorld × LineOutcome = line_step w line in
    let now : List Entry = t ++ entries_in (occurrences_of o.1) in
    map (λ n. read o.0 now n (node_at o.0 n)) (nodes_in o.0) ∷ all_read o.0 now lines

-- so it is with these hosts, behind each of these lines
abbrev AreKept : List ℕ → List Line → Type 0
AreKept hosts lines = all_kept (new_world hosts) lines ≡ all_read (new_world hosts) [] lines

activation_and_first_pipe : AreKept (2 ∷ []) activation_and_first_pipe_lines
unfolding found_from hosts_where lowest_free
activation_and_first_pipe = refl

parameter_before_opening : AreKept (2 ∷ []) parameter_before_opening_lines
unfolding found_from hosts_where lowest_free
parameter_before_opening = refl

cut_in_first_write : AreKept (2 ∷ []) cut_in_first_write_lines
unfolding found_from hosts_where lowest_free
cut_in_first_write = refl

cut_in_second_write_13 : AreKept (2 ∷ []) cut_in_second_write_13_lines
unfolding found_from hosts_where lowest_free
cut_in_second_write_13 = refl

cut_in_second_write_FF : AreKept (2 ∷ []) cut_in_second_write_FF_lines
unfolding found_from hosts_where lowest_free
cut_in_second_write_FF = refl

cut_in_second_write_5A : AreKept (2 ∷ []) cut_in_second_write_5A_lines
unfolding found_from hosts_where lowest_free
cut_in_second_write_5A = refl

pipes_closed_by_a_cut : AreKept (2 ∷ []) pipes_closed_by_a_cut_lines
unfolding found_from hosts_where lowest_free
pipes_closed_by_a_cut = refl

creation_between_hosts : AreKept (1 ∷ 2 ∷ []) creation_between_hosts_lines
unfolding found_from hosts_where lowest_free
creation_between_hosts = refl

notice_never_answered : AreKept (1 ∷ 2 ∷ []) notice_never_answered_lines
unfolding found_from hosts_where lowest_free
notice_never_answered = refl

relay_and_strangers : AreKept (1 ∷ 2 ∷ 3 ∷ []) relay_and_strangers_lines
unfolding found_from hosts_where lowest_free
relay_and_strangers = refl

users_session_over_a_cut : AreKept (2 ∷ []) users_session_over_a_cut_lines
unfolding found_from hosts_where lowest_free
users_session_over_a_cut = refl
