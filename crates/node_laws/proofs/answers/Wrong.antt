-- Small wrong histories aren't answered: one for each fact.
use Rattle.node_laws.proofs.Words.{Answered, Bool, Booted, Boots, CutsEndParts, Entry, Held, List, NodeHistory, None, Occurred, Occurrence, Takes, Ticks, []}
use Rattle.node_laws.proofs.Words.{ap, arith, end_c, false, is_some, refl, sym, true, true≢false, ◌++◌, ◌∷◌, ◌≤◌}
use Rattle.swp_base.specs.declared.link_terms.Cause.TheVariants as cause
use Rattle.trace_model.specs.declared.entry.Entry.TheVariants.{Up, Down, Emit, Sent, Got, Took, Turn, Command, Cut}
use Rattle.trace_model.specs.declared.line.Line.TheVariants as line
use Rattle.hci_tables.specs.declared.command.Command.TheVariants as command
use Rattle.journal_laws.specs.Records.{found_from}
use Rattle.gate_admin.specs.View.{hosts_where}
use Rattle.pipe_table.specs.PipeRows.{lowest_free}
use Rattle.node_laws.proofs.answers.OneFact.{header_of_hosts}

abbrev pub is_empty : {X : Type 0} → List X → Bool
is_empty [] = true
is_empty (x ∷ xs) = false

-- a history with host 02 that has these events
abbrev pub told : List Occurrence → NodeHistory
told events = record { header = header_of_hosts (2 ∷ []); steps = record { line = line.Tick None; outcome = Occurred events } ∷ [] }

-- the controller boots, and its end comes up
abbrev pub boot : Occurrence
boot = record { cause = Boots 0; entries = Booted 0 0 ∷ [] }

abbrev pub comes_up : Occurrence
comes_up = record { cause = Takes (end_c 2); entries = Up (end_c 2) 1 ∷ [] }

abbrev pub begins : List Occurrence
begins = boot ∷ comes_up ∷ []

-- this is noted as the end takes a frame, and as time passes
abbrev pub takes : List Entry → Occurrence
takes entries = record { cause = Takes (end_c 2); entries = entries }

abbrev pub ticks : List Entry → Occurrence
ticks entries = record { cause = Ticks; entries = entries }

abbrev got : Entry
got = Got (end_c 2) 1 1 (3 ∷ [])

abbrev turn : Entry
turn = Turn (end_c 2) 1 (3 ∷ [])

-- a message has a turn and didn't come
turn_without_message : Answered (told (begins ++ takes (turn ∷ []) ∷ [])) → ⊥
unfolding found_from hosts_where lowest_free
turn_without_message a = true≢false (sym (ap is_empty (a.in_turn (Booted 0 0 ∷ Up (end_c 2) 1 ∷ turn ∷ []) [] (end_c 2) refl).1))

-- a message came and has no turn
message_without_turn : Answered (told (begins ++ takes (got ∷ []) ∷ [])) → ⊥
unfolding found_from hosts_where lowest_free
message_without_turn a = true≢false (sym ((a.done begins [] (takes (got ∷ [])) refl).0))

-- it has its turn and no reply
turn_without_reply : Answered (told (begins ++ takes (got ∷ turn ∷ []) ∷ [])) → ⊥
unfolding found_from hosts_where lowest_free
turn_without_reply a = true≢false (ap is_empty (a.replied begins [] (takes (got ∷ turn ∷ [])) (got ∷ []) [] turn refl refl).1)

-- a reply whose answers change places
answer_before_command : Answered (told (begins ++ takes (got ∷ turn ∷ Sent (end_c 2) 1 1 (128 ∷ 0 ∷ []) ∷ Command 0 (command.SetOpened 2 1 true) ∷
    []) ∷ [])) → ⊥
unfolding found_from hosts_where lowest_free
answer_before_command a = true≢false (ap begins_with_sent (a.replied begins [] (takes (got ∷ turn ∷ answers)) (got ∷ []) answers turn refl refl).1)
  where
    answers : List Entry
    answers = Sent (end_c 2) 1 1 (128 ∷ 0 ∷ []) ∷ Command 0 (command.SetOpened 2 1 true) ∷ []

    is_sent : Entry → Bool
    is_sent (Sent e n pid message) = true
    is_sent _ = false

    begins_with_sent : List Entry → Bool
    begins_with_sent [] = false
    begins_with_sent (x ∷ xs) = is_sent x

-- a message is held that didn't come
pub held_without_message : Answered (told (begins ++ takes (Held (end_c 2) 2 1 ∷ []) ∷ [])) → ⊥
unfolding found_from hosts_where lowest_free
held_without_message a = true≢false (sym (ap is_some (a.held begins [] (takes (Held (end_c 2) 2 1 ∷ [])) [] [] (Held (end_c 2) 2 1) refl refl).1))

-- a message is held, and there is room
held_with_room : Answered (told (begins ++ takes (got ∷ Held (end_c 2) 2 1 ∷ []) ∷ [])) → ⊥
unfolding found_from hosts_where lowest_free
held_with_room a = true≢false (sym ((a.short begins [] (takes (got ∷ Held (end_c 2) 2 1 ∷ [])) refl).0))

-- a message is sent that nobody asked for
pub sent_unasked : Answered (told (begins ++ ticks (Sent (end_c 2) 1 1 (129 ∷ []) ∷ []) ∷ [])) → ⊥
unfolding found_from hosts_where lowest_free
sent_unasked a = true≢false (sym (ap is_empty (a.due begins [] (ticks (Sent (end_c 2) 1 1 (129 ∷ []) ∷ [])) refl).0))

-- a new identifier isn't kept
sync_not_kept : Answered (told (begins ++ takes (Took (end_c 2) (97 ∷ 26 ∷ 43 ∷ []) ∷ []) ∷ [])) → ⊥
unfolding found_from hosts_where lowest_free
sync_not_kept a = true≢false (ap is_empty (a.due begins [] (takes (Took (end_c 2) (97 ∷ 26 ∷ 43 ∷ []) ∷ [])) refl).0)

-- an end is reset that has no late notice
pub reset_untimely : Answered (told (begins ++ ticks (Down (end_c 2) cause.Asked ∷ []) ∷ [])) → ⊥
unfolding found_from hosts_where lowest_free
reset_untimely a = true≢false ((a.reset begins [] (ticks (Down (end_c 2) cause.Asked ∷ [])) refl).0)

-- turns of a later end stand before those of an earlier one
turns_descend : Answered (told (begins ++ takes (Turn (end_c 3) 1 [] ∷ Turn (end_c 2) 1 [] ∷ []) ∷ [])) → ⊥
unfolding found_from hosts_where lowest_free
turns_descend a =
    let low : 3 ≤ 2 = (a.ascending begins [] (takes (Turn (end_c 3) 1 [] ∷ Turn (end_c 2) 1 [] ∷ [])) refl 0).0.0 in omega (arith, low)

-- a message comes behind an answer
got_behind_answer : Answered (told (begins ++ takes (Sent (end_c 2) 1 1 (129 ∷ []) ∷ got ∷ []) ∷ [])) → ⊥
unfolding found_from hosts_where lowest_free
got_behind_answer a =
    true≢false ((a.heard begins [] (takes (Sent (end_c 2) 1 1 (129 ∷ []) ∷ got ∷ [])) [] (got ∷ []) (Sent (end_c 2) 1 1 (129 ∷ [])) refl refl 0 refl).0)

-- a node whose power is cut puts a frame on its wire
emits_behind_cut : CutsEndParts (told (begins ++ takes (Cut 0 ∷ Emit (end_c 2) (193 ∷ []) ∷ []) ∷ [])) → ⊥
unfolding found_from hosts_where lowest_free
emits_behind_cut a = true≢false ((a begins [] (takes (Cut 0 ∷ Emit (end_c 2) (193 ∷ []) ∷ [])) [] (Emit (end_c 2) (193 ∷ []) ∷ []) 0 refl refl).0)
