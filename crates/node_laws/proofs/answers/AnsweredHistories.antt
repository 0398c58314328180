-- Histories that are answered, computed: creations that end otherwise, a damaged frame, a message that is held, a late notice, a cut.
use Rattle.node_laws.proofs.Words.{Answered, Bool, Entry, List, NodeHistory, [], end_c, end_h, false, filter, node_entries, not, refl, same_bytes, true, ◌&&◌}
use Rattle.node_laws.proofs.Words.{◌==◌, ◌∷◌, ◌≡◌}
use Rattle.gate_admin.specs.View.{hosts_where}
use Rattle.journal_laws.specs.Records.{found_from}
use Rattle.node_machine.proofs.world.Schedules.{users_session_over_a_cut_lines}
use Rattle.pipe_table.specs.PipeRows.{lowest_free}
use Rattle.swp_base.specs.Bits.{bits_of_byte}
use Rattle.node_laws.proofs.answers.OneFact.{all_in_turn_still, answered, history_of_lines, lines_answered}
use Rattle.node_laws.proofs.answers.Schedules.{asked_reset_lines, cut_while_asked_lines, deletion_late_lines, errors_lines, forgotten_lines, held_lines}
use Rattle.node_laws.proofs.answers.Schedules.{host_held_lines, notice_late_lines}
use Rattle.swp_base.specs.declared.link_terms.Cause.TheVariants as cause
use Rattle.trace_model.specs.declared.entry.Entry.TheVariants as entry

-- ## Histories with two hosts in which creations end otherwise, or a message is held at a host, are answered

-- sessions of the controller's ends that end, messages that are held or dropped, and what the controller sends on pipe 00, or as 81
-- or 89
abbrev is_of_note : Entry → Bool
is_of_note (entry.Down e cause) = not e.at_host
is_of_note (entry.Held e need spare) = true
is_of_note (entry.Dropped e pid) = true
is_of_note (entry.Sent e n pid message) = not e.at_host && by_pipe (pid == 0) where
  by_message : Bool → Bool
  by_message true = true
  by_message false = same_bytes message (137 ∷ [])

  by_pipe : Bool → Bool
  by_pipe true = true
  by_pipe false = by_message (same_bytes message (129 ∷ []))
is_of_note _ = false

abbrev of_note : NodeHistory → List Entry
of_note t = filter is_of_note (node_entries t)

notice_late_is : of_note (history_of_lines (1 ∷ 2 ∷ []) notice_late_lines)
    ≡ entry.Down (end_c 1) cause.Asked ∷ entry.Sent (end_c 2) 1 1 (137 ∷ []) ∷ []
unfolding found_from hosts_where lowest_free
notice_late_is = refl

deletion_late : Answered (history_of_lines (1 ∷ 2 ∷ []) deletion_late_lines)
unfolding found_from hosts_where lowest_free
deletion_late = lines_answered (1 ∷ 2 ∷ []) deletion_late_lines refl ((refl, tt), (tt, tt)) (refl, (refl, tt)) refl

deletion_late_is : of_note (history_of_lines (1 ∷ 2 ∷ []) deletion_late_lines)
    ≡ entry.Down (end_c 1) cause.Asked ∷ []
unfolding found_from hosts_where lowest_free
deletion_late_is = refl

forgotten : Answered (history_of_lines (1 ∷ 2 ∷ []) forgotten_lines)
unfolding found_from hosts_where lowest_free
forgotten = lines_answered (1 ∷ 2 ∷ []) forgotten_lines refl ((refl, tt), (tt, tt)) (refl, (refl, tt)) refl

forgotten_is : of_note (history_of_lines (1 ∷ 2 ∷ []) forgotten_lines)
    ≡ entry.Down (end_c 2) cause.Asked ∷ []
unfolding found_from hosts_where lowest_free
forgotten_is = refl

asked_reset : Answered (history_of_lines (1 ∷ 2 ∷ []) asked_reset_lines)
unfolding found_from hosts_where lowest_free
asked_reset = lines_answered (1 ∷ 2 ∷ []) asked_reset_lines refl ((refl, tt), (tt, tt)) (refl, (refl, tt)) refl

asked_reset_is : of_note (history_of_lines (1 ∷ 2 ∷ []) asked_reset_lines)
    ≡ entry.Down (end_c 1) cause.Asked ∷ entry.Sent (end_c 2) 1 1 (129 ∷ []) ∷ entry.Dropped (end_c 2) 9 ∷ []
unfolding found_from hosts_where lowest_free
asked_reset_is = refl

cut_while_asked : Answered (history_of_lines (1 ∷ 2 ∷ []) cut_while_asked_lines)
unfolding found_from hosts_where lowest_free
cut_while_asked = lines_answered (1 ∷ 2 ∷ []) cut_while_asked_lines refl ((refl, tt), (tt, tt)) (refl, (refl, tt)) refl

host_held : Answered (history_of_lines (1 ∷ 2 ∷ []) host_held_lines)
unfolding found_from hosts_where lowest_free
host_held = lines_answered (1 ∷ 2 ∷ []) host_held_lines refl ((refl, tt), (tt, tt)) (refl, (refl, tt)) refl

host_held_is : of_note (history_of_lines (1 ∷ 2 ∷ []) host_held_lines)
    ≡ entry.Held (end_h 1) 1 0 ∷ entry.Down (end_c 1) cause.Asked ∷ entry.Dropped (end_c 1) 1 ∷ []
unfolding found_from hosts_where lowest_free
host_held_is = refl

-- ## A history with a damaged frame, in which REC_ERROR is read and set, is answered

errors : Answered (history_of_lines (2 ∷ []) errors_lines)
unfolding found_from hosts_where lowest_free bits_of_byte
errors =
    answered (history_of_lines (2 ∷ []) errors_lines)
    (all_in_turn_still (2 ∷ []) errors_lines refl (tt, tt) (refl, tt)) refl

errors_is : of_note (history_of_lines (2 ∷ []) errors_lines)
    ≡ entry.Sent (end_c 2) 1 0 (128 ∷ 0 ∷ []) ∷ entry.Sent (end_c 2) 1 0 (128 ∷ 0 ∷ 1 ∷ []) ∷ entry.Sent (end_c 2) 1 0 (128 ∷
    []) ∷ entry.Sent (end_c 2) 1 0 (128 ∷ 1 ∷ 2 ∷ []) ∷ []
unfolding found_from hosts_where lowest_free bits_of_byte
errors_is = refl

-- ## A message that is held for room is answered once there is room

abbrev is_held_entry : Entry → Bool
is_held_entry (entry.Held e need spare) = true
is_held_entry _ = false

held_is_told : filter is_held_entry (node_entries (history_of_lines (2 ∷ []) held_lines)) ≡ entry.Held (end_c 2) 128 127 ∷ []
unfolding found_from hosts_where lowest_free
held_is_told = refl

held : Answered (history_of_lines (2 ∷ []) held_lines)
unfolding found_from hosts_where lowest_free
held = lines_answered (2 ∷ []) held_lines refl (tt, tt) (refl, tt) refl

-- ## A notice that is never answered, while its link stays up: its asker gets ANY_E_TIMEOUT at the hundredth tick, and the link is reset

notice_late : Answered (history_of_lines (1 ∷ 2 ∷ []) notice_late_lines)
unfolding found_from hosts_where lowest_free
notice_late = lines_answered (1 ∷ 2 ∷ []) notice_late_lines refl ((refl, tt), (tt, tt)) (refl, (refl, tt)) refl

-- ## A user's session over a cut is answered

users_session_over_a_cut : Answered (history_of_lines (2 ∷ []) users_session_over_a_cut_lines)
unfolding found_from hosts_where lowest_free
users_session_over_a_cut = lines_answered (2 ∷ []) users_session_over_a_cut_lines refl (tt, tt) (refl, tt) refl
