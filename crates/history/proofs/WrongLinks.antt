-- Small wrong histories of one bare link aren't legal: one for each fact, and each is refused by that fact alone.
use Rattle.std.proofs.Common.{true≢false}
use Rattle.history.proofs.Words.{Bool, Cause, Caused, Entry, Event, Given, History, IsReadSettled, Legal, List, None, Taken, WasReset, [], all_entries, ap}
use Rattle.history.proofs.Words.{arith, false, is_some, opening_of, refl, sym, true, ℕ, ◌∷◌, ◌≡◌, ◌≤◌}
use Rattle.swp_base.specs.declared.link_terms.Cause.TheVariants as cause
use Rattle.trace_model.specs.declared.entry.Entry.TheVariants.{Down, Emit, Took, Sent, Got, Acked}
use Rattle.history.proofs.Examples.{end_c, end_h}
use Rattle.trace_model.specs.declared.line.Line.TheVariants as line

abbrev is_empty : {X : Type 0} → List X → Bool
is_empty [] = true
is_empty (x ∷ xs) = false

-- a history of the link with host 02 that has these events
abbrev told : List Event → History
told events = record {
  header = record { hci = false; hosts = record { items = 2 ∷ [] } };
  opening = opening_of 2;
  steps = record { line = line.Tick None; outcome = Caused events } ∷ [];
}

-- this causes an event, in which this is noted
abbrev event : Cause → List Entry → Event
event c entries = record { cause = c; entries = entries }

-- the host sends a message, whose frame is on its way
abbrev sends : Event
sends = event (Given (end_h 2) (1, 3 ∷ [])) (Sent (end_h 2) 0 1 (3 ∷ []) ∷ Emit (end_h 2) (128 ∷ 129 ∷ 3 ∷ []) ∷ [])

-- this is noted as the controller's end takes a frame
abbrev takes : List Entry → Event
takes entries = event (Taken (end_c 2)) entries

abbrev took : Entry
took = Took (end_c 2) (128 ∷ 129 ∷ 3 ∷ [])

-- the frame that answers it is on its way, so the link isn't quiet
abbrev answers : Entry
answers = Emit (end_c 2) (193 ∷ [])

abbrev first_byte : List (ℕ × List ℕ) → ℕ
first_byte [] = 0
first_byte ((pid, []) ∷ messages) = 0
first_byte ((pid, byte ∷ bytes) ∷ messages) = byte

-- ## In order

-- another message is got than was sent
abbrev other_got : History
other_got = told (sends ∷ takes (took ∷ Got (end_c 2) 0 1 (4 ∷ []) ∷ answers ∷ []) ∷ [])

got_what_was_not_sent : Legal other_got → ⊥
got_what_was_not_sent l =
    let same : 4 ≡ 3 = ap first_byte ((l.in_order (all_entries other_got) [] refl).delivered (end_h 2) 0).1 in omega (arith, same)

-- a message is acknowledged that isn't got yet
abbrev early_acked : History
early_acked = told (sends ∷ event (Taken (end_h 2)) (Acked (end_h 2) 0 1 ∷ []) ∷ [])

acknowledged_before_it_is_got : Legal early_acked → ⊥
acknowledged_before_it_is_got l = true≢false (sym (ap is_empty ((l.in_order (all_entries early_acked) [] refl).acknowledged (end_h 2) 0).1))

-- two messages are acknowledged where one was sent
abbrev two_acked : History
two_acked = told (sends ∷ takes (took ∷ Got (end_c 2) 0 1 (3 ∷ []) ∷ answers ∷ []) ∷ event (Taken (end_h 2)) (Acked (end_h 2) 0 2 ∷ []) ∷ [])

more_acknowledged_than_sent : Legal two_acked → ⊥
more_acknowledged_than_sent l =
    let few : 2 ≤ 1 = (l.in_order (all_entries two_acked) [] refl).counted (end_h 2) 0 in omega (arith, few)

-- ## Complete

-- a message is sent that is never put on the wire
abbrev frameless : List Event
frameless = event (Given (end_h 2) (1, 3 ∷ [])) (Sent (end_h 2) 0 1 (3 ∷ []) ∷ []) ∷ []

quiet_and_not_delivered : Legal (told frameless) → ⊥
quiet_and_not_delivered l = true≢false (ap is_empty (l.complete frameless [] refl (end_h 2) 0 (grind arith)).got)

-- a message is got, and its sender is never told
abbrev untold : List Event
untold = sends ∷ takes (took ∷ Got (end_c 2) 0 1 (3 ∷ []) ∷ []) ∷ []

quiet_and_not_acknowledged : Legal (told untold) → ⊥
quiet_and_not_acknowledged l = let same : 0 ≡ 1 = (l.complete untold [] refl (end_h 2) 0 (grind arith)).acked in omega (arith, same)

-- ## Settled

-- an end is reset and asks nobody
abbrev reset : Event
reset = event (WasReset (end_h 2) None) (Down (end_h 2) cause.Asked ∷ [])

settled_and_not_up : Legal (told (reset ∷ [])) → ⊥
settled_and_not_up l = true≢false (sym (ap is_some (l.settled [] reset [] [] (end_h 2) None refl settled).here)) where
  settled : IsReadSettled (opening_of 2) [] reset [] (end_h 2) None
  settled = record { cause = refl; other = refl; lossless = refl; alone = refl; to_here = refl; to_there = refl }

-- ## Joined

-- a session ends by packets that can't be joined
ends_by_packets_that_dont_join : Legal (told (takes (Down (end_c 2) cause.Chain ∷ []) ∷ [])) → ⊥
ends_by_packets_that_dont_join l = true≢false l.joined
