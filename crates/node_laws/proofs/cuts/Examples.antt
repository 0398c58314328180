-- What is read of the controller in the worked examples of cuts computes.
use Rattle.node_laws.proofs.Words.{Bool, Line, LineStep, List, Occurrence, Reckoning, [], false, flat_map, is_some, length, new_world, occurrences_of}
use Rattle.node_laws.proofs.Words.{reckoning_in, refl, steps_from, take, true, ℕ, ◌∷◌, ◌≡◌}
use Rattle.journal_laws.specs.Records.{found_from}
use Rattle.gate_admin.specs.View.{hosts_where}
use Rattle.pipe_table.specs.PipeRows.{lowest_free}
use Rattle.node_machine.proofs.world.Schedules.{boot_cut_at_first_write_lines, boot_cut_at_second_write_lines, cut_in_first_write_lines}
use Rattle.node_machine.proofs.world.Schedules.{cut_in_second_write_13_lines, cut_in_second_write_FF_lines, cut_in_second_write_5A_lines}

abbrev events_of : List Line → List Occurrence
events_of lines = flat_map (λ (s : LineStep). occurrences_of s.outcome) (steps_from (new_world (2 ∷ [])) lines)

-- whether it runs, whether its last command is lost, whether a write is still to fail, and how many commands it has
abbrev seen : Reckoning → Bool × Bool × Bool × ℕ
seen r = (r.runs, r.lost, is_some r.memory.plan, length r.book.commands)

abbrev read : List Line → Bool × Bool × Bool × ℕ
read lines = seen (reckoning_in (events_of lines) 0)

-- Behind the cut the third command is lost, and the boot finds two.
cut_in_first_write : read (take 15 cut_in_first_write_lines) ≡ (false, true, false, 3)
unfolding found_from hosts_where lowest_free
cut_in_first_write = refl

booted_after_first_write : read (take 16 cut_in_first_write_lines) ≡ (true, false, false, 2)
unfolding found_from hosts_where lowest_free
booted_after_first_write = refl

-- so it is in the gate with another byte than 5A
cut_in_second_write_13 : read (take 15 cut_in_second_write_13_lines) ≡ (false, true, false, 3)
unfolding found_from hosts_where lowest_free
cut_in_second_write_13 = refl

cut_in_second_write_FF : read (take 15 cut_in_second_write_FF_lines) ≡ (false, true, false, 3)
unfolding found_from hosts_where lowest_free
cut_in_second_write_FF = refl

-- With 5A it isn't lost, and the boot finds three.
cut_in_second_write_5A : read (take 15 cut_in_second_write_5A_lines) ≡ (false, false, false, 3)
unfolding found_from hosts_where lowest_free
cut_in_second_write_5A = refl

booted_after_second_write : read (take 16 cut_in_second_write_5A_lines) ≡ (true, false, false, 3)
unfolding found_from hosts_where lowest_free
booted_after_second_write = refl

-- A boot that was cut leaves no command, and spends the plan.
boot_cut_at_first_write : read (take 2 boot_cut_at_first_write_lines) ≡ (false, false, false, 0)
unfolding found_from hosts_where lowest_free
boot_cut_at_first_write = refl

boot_cut_at_second_write : read (take 2 boot_cut_at_second_write_lines) ≡ (false, false, false, 0)
unfolding found_from hosts_where lowest_free
boot_cut_at_second_write = refl
