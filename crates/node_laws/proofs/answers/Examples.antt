-- Histories of worked examples are answered.
use Rattle.node_laws.proofs.Words.{Answered, [], refl, ◌∷◌}
use Rattle.journal_laws.specs.Records.{found_from}
use Rattle.gate_admin.specs.View.{hosts_where}
use Rattle.pipe_table.specs.PipeRows.{lowest_free}
use Rattle.node_machine.proofs.world.Schedules.{activation_and_first_pipe_lines, parameter_before_opening_lines}
use Rattle.node_machine.proofs.world.Schedules.{cut_in_first_write_lines, cut_in_second_write_5A_lines, pipes_closed_by_a_cut_lines}
use Rattle.node_machine.proofs.world.Schedules.{creation_between_hosts_lines, notice_never_answered_lines, relay_and_strangers_lines}
use Rattle.node_laws.proofs.answers.OneFact.{history_of_lines, lines_answered}

activation_and_first_pipe : Answered (history_of_lines (2 ∷ []) activation_and_first_pipe_lines)
unfolding found_from hosts_where lowest_free
activation_and_first_pipe = lines_answered (2 ∷ []) activation_and_first_pipe_lines refl (tt, tt) (refl, tt) refl

parameter_before_opening : Answered (history_of_lines (2 ∷ []) parameter_before_opening_lines)
unfolding found_from hosts_where lowest_free
parameter_before_opening = lines_answered (2 ∷ []) parameter_before_opening_lines refl (tt, tt) (refl, tt) refl

cut_in_first_write : Answered (history_of_lines (2 ∷ []) cut_in_first_write_lines)
unfolding found_from hosts_where lowest_free
cut_in_first_write = lines_answered (2 ∷ []) cut_in_first_write_lines refl (tt, tt) (refl, tt) refl

cut_in_second_write_5A : Answered (history_of_lines (2 ∷ []) cut_in_second_write_5A_lines)
unfolding found_from hosts_where lowest_free
cut_in_second_write_5A = lines_answered (2 ∷ []) cut_in_second_write_5A_lines refl (tt, tt) (refl, tt) refl

pipes_closed_by_a_cut : Answered (history_of_lines (2 ∷ []) pipes_closed_by_a_cut_lines)
unfolding found_from hosts_where lowest_free
pipes_closed_by_a_cut = lines_answered (2 ∷ []) pipes_closed_by_a_cut_lines refl (tt, tt) (refl, tt) refl

creation_between_hosts : Answered (history_of_lines (1 ∷ 2 ∷ []) creation_between_hosts_lines)
unfolding found_from hosts_where lowest_free
creation_between_hosts = lines_answered (1 ∷ 2 ∷ []) creation_between_hosts_lines refl ((refl, tt), (tt, tt)) (refl, (refl, tt)) refl

notice_never_answered : Answered (history_of_lines (1 ∷ 2 ∷ []) notice_never_answered_lines)
unfolding found_from hosts_where lowest_free
notice_never_answered = lines_answered (1 ∷ 2 ∷ []) notice_never_answered_lines refl ((refl, tt), (tt, tt)) (refl, (refl, tt)) refl

relay_and_strangers : Answered (history_of_lines (1 ∷ 2 ∷ 3 ∷ []) relay_and_strangers_lines)
unfolding found_from hosts_where lowest_free
relay_and_strangers =
    lines_answered (1 ∷ 2 ∷ 3 ∷ []) relay_and_strangers_lines refl ((refl, (refl, tt)), ((refl, tt), (tt, tt))) (refl, (refl, (refl, tt))) refl
