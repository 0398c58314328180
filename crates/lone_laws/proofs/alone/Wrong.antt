-- Small wrong histories of a node alone aren't answered: for each fact of `AnsweredAlone` one that it alone refuses.
use Rattle.std.proofs.Common.{true≢false}
use Rattle.lone_laws.proofs.Words.{AnsweredAlone, Ascending, Bool, Core, Done, Dropped, Due, Entry, Fact, FrameIsRefused, Heard, HeldFact, InTurn, List}
use Rattle.lone_laws.proofs.Words.{LoneEvent, None, Option, Replied, Sent, Short, Some, TickComes, [], ap, arith, end_c, false, formatted, is_some, no_tables}
use Rattle.lone_laws.proofs.Words.{refl, replicate, sym, true, ℕ, ◌++◌, ◌∷◌, ◌≡◌, ◌≤◌}
use Rattle.swp_base.specs.declared.link_terms.Cause.TheVariants as cause
use Rattle.swp_base.specs.declared.link_terms.FrameFault.TheVariants as fault
use Rattle.trace_model.specs.declared.entry.Entry.TheVariants.{Up, Down, Got, Acked, Turn, Held}
use Rattle.gate_admin.specs.View.{hosts_where}
use Rattle.pipe_table.specs.PipeRows.{lowest_free}
use Rattle.lone_laws.proofs.alone.Walks.{IsFound, RefusedByOnly, all_found, others_hold}
use Rattle.node_laws.proofs.answers.OneFact.Fact.{Reset}

-- A controller that knows of one pipe, which leads from host 02 to its loopback gate.
abbrev core : Core
core = record {
  node = 0;
  journal = formatted;
  tables = record no_tables { rows = record { pid = 2; creator = 2; creator_gate = 16; dest = 0; dest_gate = 4; opened = true } ∷ [] };
  command = None;
  init = None;
}

-- what happens as time passes, and as a frame was refused
abbrev ticks : List Entry → LoneEvent
ticks entries = record { cause = TickComes; entries = entries }

abbrev refused : List Entry → LoneEvent
refused entries = record { cause = FrameIsRefused fault.Broken; entries = entries }

abbrev is_empty : List Entry → Bool
is_empty [] = true
is_empty (x ∷ xs) = false

-- its end is up
abbrev begins : LoneEvent
begins = ticks (Up (end_c 2) 1 ∷ [])

-- ANY_OK, for which nobody waits: it has its turn, and is dropped
abbrev ok : List ℕ
ok = 128 ∷ 0 ∷ []

abbrev got : Entry
got = Got (end_c 2) 1 1 ok

abbrev turn : Entry
turn = Turn (end_c 2) 1 ok

abbrev dropped : Entry
dropped = Dropped (end_c 2) 1

right : AnsweredAlone core 2 (begins ∷ ticks (got ∷ turn ∷ dropped ∷ []) ∷ [])
unfolding hosts_where lowest_free
right = all_found core 2 (begins ∷ ticks (got ∷ turn ∷ dropped ∷ []) ∷ []) found where
  found : (g : Fact) → IsFound core 2 g (begins ∷ ticks (got ∷ turn ∷ dropped ∷ []) ∷ [])
  found InTurn = refl
  found _ = refl

-- ## Messages and their turns

-- a message has its turn and didn't come
turn_without_message : RefusedByOnly core 2 InTurn (begins ∷ ticks (turn ∷ dropped ∷ []) ∷ [])
unfolding hosts_where lowest_free
turn_without_message = (
  λ in_turn. true≢false (sym (ap none (in_turn (Up (end_c 2) 1 ∷ turn ∷ dropped ∷ []) [] (end_c 2) refl).1)),
  others_hold core 2 InTurn (begins ∷ ticks (turn ∷ dropped ∷ []) ∷ []) (tt, refl, refl, refl, refl, refl, refl, refl, refl),
) where
  none : {X : Type 0} → List X → Bool
  none [] = true
  none (x ∷ xs) = false

-- a message has its turn and no reply
turn_without_reply : RefusedByOnly core 2 Replied (begins ∷ ticks (got ∷ turn ∷ []) ∷ [])
unfolding hosts_where lowest_free
turn_without_reply = (
  λ replied. true≢false (ap is_empty (replied (begins ∷ []) [] (ticks (got ∷ turn ∷ [])) (got ∷ []) [] turn refl refl).1),
  others_hold core 2 Replied (begins ∷ ticks (got ∷ turn ∷ []) ∷ []) (refl, tt, refl, refl, refl, refl, refl, refl, refl),
)

-- a message comes and has no turn, in an event in which the node doesn't go through its end
message_without_turn : RefusedByOnly core 2 Done (begins ∷ refused (got ∷ []) ∷ [])
unfolding hosts_where lowest_free
message_without_turn = (
  λ done. true≢false (sym (done (begins ∷ []) [] (refused (got ∷ [])) refl)),
  others_hold core 2 Done (begins ∷ refused (got ∷ []) ∷ []) (refl, refl, refl, tt, refl, refl, refl, refl, refl),
)

-- turns at a later end stand before those at an earlier one
abbrev descends : LoneEvent
descends = ticks (got ∷ Got (end_c 3) 1 1 ok ∷ Turn (end_c 3) 1 ok ∷ dropped ∷ turn ∷ dropped ∷ [])

turns_descend : RefusedByOnly core 2 Ascending (begins ∷ descends ∷ [])
unfolding hosts_where lowest_free
turns_descend = (
  λ ascending. let low : 3 ≤ 2 = (ascending (begins ∷ []) [] descends refl 0).0.0 in omega (arith, low),
  others_hold core 2 Ascending (begins ∷ descends ∷ []) (refl, refl, refl, refl, refl, refl, refl, tt, refl),
)

-- something is acknowledged behind an answer
abbrev late : LoneEvent
late = ticks (got ∷ turn ∷ dropped ∷ Acked (end_c 2) 1 0 ∷ [])

heard_behind_an_answer : RefusedByOnly core 2 Heard (begins ∷ late ∷ [])
unfolding hosts_where lowest_free
heard_behind_an_answer = (
  λ heard. true≢false (heard (begins ∷ []) [] late (got ∷ turn ∷ []) (Acked (end_c 2) 1 0 ∷ []) dropped refl refl 0 refl).0,
  others_hold core 2 Heard (begins ∷ late ∷ []) (refl, refl, refl, refl, refl, refl, refl, refl, tt),
)

-- ## Outside turns

-- a message is sent that nobody asked for
abbrev unasked : LoneEvent
unasked = ticks (Sent (end_c 2) 1 1 (129 ∷ []) ∷ [])

sent_unasked : RefusedByOnly core 2 Due (begins ∷ unasked ∷ [])
unfolding hosts_where lowest_free
sent_unasked = (
  λ due. true≢false (sym (ap is_empty (due (begins ∷ []) [] unasked refl))),
  others_hold core 2 Due (begins ∷ unasked ∷ []) (refl, refl, refl, refl, refl, tt, refl, refl, refl),
)

-- the end is reset, and nobody asked for that
abbrev reset : LoneEvent
reset = ticks (Down (end_c 2) cause.Asked ∷ [])

reset_unasked : RefusedByOnly core 2 Reset (begins ∷ reset ∷ [])
unfolding hosts_where lowest_free
reset_unasked = (
  λ resets. true≢false (resets (begins ∷ []) [] reset refl),
  others_hold core 2 Reset (begins ∷ reset ∷ []) (refl, refl, refl, refl, refl, refl, tt, refl, refl),
)

-- ## Held messages

-- An event of the longest length comes on the pipe of the loopback gate, and goes back. A second one is held, since no block is spare until
-- the first one is acknowledged.
abbrev long : List ℕ
long = 66 ∷ replicate 4095 0

abbrev both_come : List Entry
both_come = Got (end_c 2) 1 2 long ∷ Got (end_c 2) 1 2 (66 ∷ []) ∷ Turn (end_c 2) 2 long ∷ Sent (end_c 2) 1 2 long ∷ []

abbrev fills : LoneEvent
fills = ticks (both_come ++ Held (end_c 2) 1 0 ∷ [])

-- it is noted as held once more
abbrev again : LoneEvent
again = ticks (Held (end_c 2) 1 0 ∷ [])

held_twice : RefusedByOnly core 2 HeldFact (begins ∷ fills ∷ again ∷ [])
unfolding hosts_where lowest_free
held_twice = (
  λ held. true≢false (held (begins ∷ fills ∷ []) [] again [] [] (Held (end_c 2) 1 0) refl refl).0,
  others_hold core 2 HeldFact (begins ∷ fills ∷ again ∷ []) (refl, refl, tt, refl, refl, refl, refl, refl, refl),
)

-- how many blocks are needed
abbrev blocks : Option (ℕ × ℕ) → ℕ
blocks None = 0
blocks (Some x) = x.0

-- it is noted as held for more than it lacks
abbrev too_much : LoneEvent
too_much = ticks (both_come ++ Held (end_c 2) 2 0 ∷ [])

held_for_more : RefusedByOnly core 2 HeldFact (begins ∷ too_much ∷ [])
unfolding hosts_where lowest_free
held_for_more = (
  λ held. let same : 1 ≡ 2 = ap blocks (held (begins ∷ []) [] too_much both_come [] (Held (end_c 2) 2 0) refl refl).1 in omega (arith, same),
  others_hold core 2 HeldFact (begins ∷ too_much ∷ []) (refl, refl, tt, refl, refl, refl, refl, refl, refl),
)

-- a message that didn't come is noted as held
abbrev holds_none : LoneEvent
holds_none = ticks (Held (end_c 2) 2 1 ∷ [])

held_without_message : RefusedByOnly core 2 HeldFact (begins ∷ holds_none ∷ [])
unfolding hosts_where lowest_free
held_without_message = (
  λ held. true≢false (sym (ap is_some (held (begins ∷ []) [] holds_none [] [] (Held (end_c 2) 2 1) refl refl).1)),
  others_hold core 2 HeldFact (begins ∷ holds_none ∷ []) (refl, refl, tt, refl, refl, refl, refl, refl, refl),
)

-- the first one is acknowledged, and the second one has no turn
abbrev frees : LoneEvent
frees = ticks (Acked (end_c 2) 1 1 ∷ [])

held_with_room : RefusedByOnly core 2 Short (begins ∷ fills ∷ frees ∷ [])
unfolding hosts_where lowest_free
held_with_room = (
  λ short. true≢false (sym (short (begins ∷ fills ∷ []) [] frees refl)),
  others_hold core 2 Short (begins ∷ fills ∷ frees ∷ []) (refl, refl, refl, refl, tt, refl, refl, refl, refl),
)
