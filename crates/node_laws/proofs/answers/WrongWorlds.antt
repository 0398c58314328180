-- Small wrong histories of nodes aren't legal: one for each fact of `LegalWorld`. Where other facts refuse one too, that is said.
use Rattle.node_laws.proofs.Words.{AnyOk, Booted, Boots, Dropped, Entry, FindsCommands, Gives, HciTables, Held, IsCut, LegalWorld, LineStep, List, NodeHistory}
use Rattle.node_laws.proofs.Words.{None, Occurred, Occurrence, PipeRow, Takes, ToldTables, [], ap, arith, end_c, end_h, entries_in, false, no_tables, refl, sym}
use Rattle.node_laws.proofs.Words.{true≢false, ℕ, ◌++◌, ◌∷◌, ◌≡◌, ◌≤◌}
use Rattle.swp_base.specs.declared.link_terms.Cause.TheVariants as cause
use Rattle.trace_model.specs.declared.entry.Entry.TheVariants.{Acked, Command, Cut, Down, Emit, Got, Sent, Took, Turn, Up}
use Rattle.trace_model.specs.declared.line.Line.TheVariants as line
use Rattle.hci_tables.specs.declared.command.Command.TheVariants as command
use Rattle.journal_laws.specs.Records.{found_from}
use Rattle.gate_admin.specs.View.{hosts_where}
use Rattle.pipe_table.specs.PipeRows.{lowest_free}
use Rattle.node_laws.proofs.answers.OneFact.{header_of_hosts}
use Rattle.node_laws.proofs.answers.Wrong.{is_empty, told, boot, comes_up, begins, takes, ticks, held_without_message, sent_unasked, reset_untimely}

-- a host boots, and its end comes up
abbrev pub boots_host : ℕ → Occurrence
boots_host h = record { cause = Boots h; entries = Booted h 0 ∷ [] }

abbrev host_up : ℕ → Occurrence
host_up h = record { cause = Takes (end_h h); entries = Up (end_h h) 1 ∷ [] }

-- host 02 takes a frame
abbrev pub host_takes : List Entry → Occurrence
host_takes entries = record { cause = Takes (end_h 2); entries = entries }

-- both ends of the link with host 02 come up
abbrev both_up : List Occurrence
both_up = boot ∷ boots_host 2 ∷ comes_up ∷ host_up 2 ∷ []

-- ANY_OK, for which nobody waits: it has its turn, and the controller drops it. A host sends it, and its frame is on its way.
abbrev pub ok : List ℕ
ok = 128 ∷ 0 ∷ []

abbrev pub sent : ℕ → Entry
sent h = Sent (end_h h) 1 1 ok

abbrev pub emitted : ℕ → Entry
emitted h = Emit (end_h h) (128 ∷ 129 ∷ 128 ∷ 0 ∷ [])

abbrev pub gives : ℕ → List Entry → Occurrence
gives h entries = record { cause = Gives (end_h h) (1, ok); entries = entries }

-- the controller gets it, and it has its turn
abbrev pub got : ℕ → Entry
got h = Got (end_c h) 1 1 ok

abbrev pub turn : ℕ → Entry
turn h = Turn (end_c h) 1 ok

abbrev pub dropped : ℕ → Entry
dropped h = Dropped (end_c h) 1

-- ## In order

-- the host sent nothing
abbrev unsent : List Occurrence
unsent = begins ++ takes (got 2 ∷ turn 2 ∷ dropped 2 ∷ []) ∷ []

got_what_no_host_sent : LegalWorld (told unsent) → ⊥
got_what_no_host_sent w = true≢false (sym (ap is_empty ((w.legal.in_order (entries_in unsent) [] refl).delivered (end_h 2) 1).1))

-- the controller hasn't got it yet
abbrev early : List Occurrence
early = both_up ++ gives 2 (sent 2 ∷ emitted 2 ∷ []) ∷ host_takes (Acked (end_h 2) 1 1 ∷ []) ∷ []

acknowledged_before_it_is_got : LegalWorld (told early) → ⊥
acknowledged_before_it_is_got w = true≢false (sym (ap is_empty ((w.legal.in_order (entries_in early) [] refl).acknowledged (end_h 2) 1).1))

-- nothing was sent; the controller's end isn't up, so the link isn't quiet
abbrev acked : List Occurrence
acked = boot ∷ boots_host 2 ∷ host_up 2 ∷ host_takes (Acked (end_h 2) 1 1 ∷ []) ∷ []

more_acknowledged_than_sent : LegalWorld (told acked) → ⊥
more_acknowledged_than_sent w =
    let few : 1 ≤ 0 = (w.legal.in_order (entries_in acked) [] refl).counted (end_h 2) 1 in omega (arith, few)

-- ## Complete

-- no frame was put on the wire, and the link is quiet
abbrev frameless : List Occurrence
frameless = both_up ++ gives 2 (sent 2 ∷ []) ∷ []

quiet_and_not_delivered : LegalWorld (told frameless) → ⊥
quiet_and_not_delivered w = true≢false (ap is_empty ((w.legal.complete.delivered frameless [] refl 2).to_controller 1 (grind arith)).got)

-- a session ends by packets that can't be joined
ends_by_packets_that_dont_join : LegalWorld (told (begins ++ takes (Down (end_c 2) cause.Chain ∷ []) ∷ [])) → ⊥
ends_by_packets_that_dont_join w = true≢false w.legal.complete.joined

-- ## Allowed

-- A pipe is made between two hosts without a whitelist. What is due and how the memories stand refuse it too, since nobody asked for it.
abbrev unlisted : PipeRow
unlisted = record { pid = 2; creator = 2; creator_gate = 16; dest = 3; dest_gate = 16; opened = false }

created_without_whitelist : LegalWorld (told (boot ∷ ticks (Command 0 (command.Create unlisted) ∷ []) ∷ [])) → ⊥
created_without_whitelist w = true≢false (sym (w.legal.allowed (Booted 0 0 ∷ []) [] (command.Create unlisted) refl))

-- ## Kept

-- A boot finds a command that was never written. Node 05 isn't of this world, so no other fact speaks of it.
abbrev boots_other : ℕ → Occurrence
boots_other k = record { cause = Boots 5; entries = Booted 5 k ∷ [] }

found_what_was_not_written : LegalWorld (told (boots_other 1 ∷ [])) → ⊥
found_what_was_not_written w = by_case (w.legal.kept.kept.found [] [] 5 1 refl) where
  by_case : FindsCommands [] 5 1 → ⊥
  by_case a = grind arith

-- ANY_OK is counted for a command that wasn't written
counted_what_was_not_written : LegalWorld (told (ticks (AnyOk 5 1 ∷ []) ∷ [])) → ⊥
counted_what_was_not_written w = let same : 1 ≡ 0 = w.legal.kept.kept.counted [] [] 5 1 refl in omega (arith, same)

-- a command that was answered isn't found; what is found refuses it too
abbrev answered_command : List Entry
answered_command = Command 5 (command.Sync 5 5) ∷ []

forgot_what_was_answered : LegalWorld (told (ticks (Command 5 (command.Sync 5 5) ∷ AnyOk 5 1 ∷ []) ∷ boots_other 0 ∷ [])) → ⊥
forgot_what_was_answered w =
    let few : 1 ≤ 0 = w.legal.kept.kept.answered answered_command [] [] 5 1 0 refl in omega (arith, few)

-- tables are told that no command made
abbrev tables : HciTables
tables = record no_tables { syncs = (2, 6699) ∷ [] }

abbrev tells : LineStep
tells = record { line = line.Tables 0; outcome = ToldTables 0 tables }

abbrev told_boot : List LineStep
told_boot = record { line = line.Boot 0; outcome = Occurred (boot ∷ []) } ∷ []

told_what_was_not_written : LegalWorld (record { header = header_of_hosts (2 ∷ []); steps = told_boot ++ tells ∷ [] }) → ⊥
told_what_was_not_written w =
    true≢false (sym (ap (λ (t : HciTables). is_empty t.syncs) (w.legal.kept.kept.told told_boot [] tells 0 tables refl refl)))

-- The power goes behind a command whose writes were all made, and the boot doesn't find it. Where the power goes refuses it too, and how
-- the memories stand, since no frame brought the identifier.
abbrev kept_command : List Occurrence
kept_command =
    begins ++ takes (Took (end_c 2) (97 ∷ 26 ∷ 43 ∷ []) ∷ Command 0 (command.Sync 2 6699) ∷ [])
    ∷ record { cause = IsCut 0; entries = Cut 0 ∷ [] } ∷ []

lost_what_was_written : LegalWorld (told (kept_command ++ boot ∷ [])) → ⊥
unfolding found_from hosts_where lowest_free
lost_what_was_written w =
    let same : 0 ≡ 1 = (w.legal.kept.found kept_command [] boot [] [] 0 0 refl refl refl).0 in omega (arith, same)

-- a node boots, and nothing is noted of it
abbrev unnoted : Occurrence
unnoted = record { cause = Boots 0; entries = [] }

boot_that_is_not_noted : LegalWorld (told (unnoted ∷ [])) → ⊥
unfolding found_from hosts_where lowest_free
boot_that_is_not_noted w = true≢false (ap is_empty (w.legal.kept.cut [] [] unnoted 0 refl refl).1)

-- A boot is noted that nobody asked for, and its memory is blank; where the power goes refuses it too.
abbrev blank : Occurrence
blank = ticks (Booted 0 0 ∷ [])

booted_from_a_blank_memory : LegalWorld (told (blank ∷ [])) → ⊥
unfolding found_from hosts_where lowest_free
booted_from_a_blank_memory w = true≢false (sym (ap is_empty ((w.legal.kept.boots (blank ∷ []) [] 0 refl refl).0 refl)))

-- ## Turns, and cuts

-- A message has its turn and didn't come: of legal nodes and of their answers the same fact refuses it, and no other one.
abbrev pub unheard : List Occurrence
unheard = begins ++ takes (turn 2 ∷ dropped 2 ∷ []) ∷ []

turn_without_message_of_nodes : LegalWorld (told unheard) → ⊥
turn_without_message_of_nodes w = true≢false (sym (ap is_empty (w.legal.in_turn (entries_in unheard) [] (end_c 2) refl).1))

-- Node 05 isn't of this world, so no fact but this one speaks of its power.
abbrev emits : Occurrence
emits = ticks (Cut 5 ∷ Emit (end_h 5) (193 ∷ []) ∷ [])

emits_without_power : LegalWorld (told (begins ++ emits ∷ [])) → ⊥
emits_without_power w = true≢false (w.ended begins [] emits [] (Emit (end_h 5) (193 ∷ []) ∷ []) 5 refl refl).0

-- ## Answered

-- A message comes and has no turn, in an event in which the controller makes no step.
abbrev left : Occurrence
left = gives 2 (sent 2 ∷ got 2 ∷ emitted 2 ∷ [])

came_and_had_no_turn : LegalWorld (told (both_up ++ left ∷ [])) → ⊥
unfolding found_from hosts_where lowest_free
came_and_had_no_turn w = true≢false (sym (w.answered.done both_up [] left refl).0)

-- ANY_OPEN_PIPE has its turn and no reply
abbrev opens : List ℕ
opens = 3 ∷ []

abbrev asked : List Occurrence
asked =
    both_up
    ++ record { cause = Gives (end_h 2) (1, opens); entries = Sent (end_h 2) 1 1 opens ∷ Emit (end_h 2) (128 ∷ 129 ∷ 3 ∷ []) ∷ [] } ∷ []

abbrev unanswered : Occurrence
unanswered = takes (Got (end_c 2) 1 1 opens ∷ Turn (end_c 2) 1 opens ∷ [])

had_its_turn_and_no_reply : LegalWorld (told (asked ++ unanswered ∷ [])) → ⊥
unfolding found_from hosts_where lowest_free
had_its_turn_and_no_reply w =
    true≢false (ap is_empty (w.answered.replied asked [] unanswered (Got (end_c 2) 1 1 opens ∷ []) [] (Turn (end_c 2) 1 opens) refl refl).1)

-- no message is there that could be held
held_and_never_came : LegalWorld (told (begins ++ takes (Held (end_c 2) 2 1 ∷ []) ∷ [])) → ⊥
held_and_never_came w = held_without_message w.answered

-- nobody asked for the message
sent_and_not_due : LegalWorld (told (begins ++ ticks (Sent (end_c 2) 1 1 (129 ∷ []) ∷ []) ∷ [])) → ⊥
sent_and_not_due w = sent_unasked w.answered

-- the end has no late notice
reset_and_not_due : LegalWorld (told (begins ++ ticks (Down (end_c 2) cause.Asked ∷ []) ∷ [])) → ⊥
reset_and_not_due w = reset_untimely w.answered

-- a message of host 03 has its turn before one of host 02
abbrev two_sent : List Occurrence
two_sent =
    both_up ++ boots_host 3 ∷ record { cause = Takes (end_c 3); entries = Up (end_c 3) 1 ∷ [] } ∷ host_up 3
    ∷ gives 2 (sent 2 ∷ emitted 2 ∷ []) ∷ gives 3 (sent 3 ∷ emitted 3 ∷ []) ∷ []

abbrev pub descends : Occurrence
descends = takes (got 2 ∷ got 3 ∷ turn 3 ∷ dropped 3 ∷ turn 2 ∷ dropped 2 ∷ [])

abbrev pub told_of_two : List Occurrence → NodeHistory
told_of_two events = record {
  header = header_of_hosts (2 ∷ 3 ∷ []);
  steps = record { line = line.Tick None; outcome = Occurred events } ∷ [];
}

turn_before_that_of_an_earlier_end : LegalWorld (told_of_two (two_sent ++ descends ∷ [])) → ⊥
turn_before_that_of_an_earlier_end w =
    let low : 3 ≤ 2 = (w.answered.ascending two_sent [] descends refl 0).0.0 in omega (arith, low)

-- a host's end comes up behind what it sends
abbrev pub host_alone : List Occurrence
host_alone = boot ∷ boots_host 2 ∷ host_up 2 ∷ []

abbrev late : Occurrence
late = gives 2 (sent 2 ∷ Up (end_h 2) 1 ∷ [])

came_up_behind_an_answer : LegalWorld (told (host_alone ++ late ∷ [])) → ⊥
came_up_behind_an_answer w = true≢false (w.answered.heard host_alone [] late [] (Up (end_h 2) 1 ∷ []) (sent 2) refl refl 2 refl).0
