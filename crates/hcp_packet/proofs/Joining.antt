-- Cutting messages into packets and joining them again.
use Rattle.std.proofs.Common.{◌≡◌, ℕ, zero, suc, ◌+◌, ◌-◌, ◌*◌, ◌/◌, ◌<◌, ◌≤◌, Bool, true, false, cond, eqb, leb, List, [], ◌∷◌, ◌++◌, length, take, drop, map}
use Rattle.std.proofs.Common.{refl, sym, ap, ◌∙◌, append_assoc, arith, length-drop, take-append-drop}
use Rattle.std.specs.Prelude.{Some, slice_get}
use Rattle.std.specs.List.{flat_map}
use Rattle.std.proofs.lemmas.List.{append-nil, take_all, drop-drop}
use Rattle.std.proofs.lemmas.List.Elements.{filter_map-append, filter-append}
use Rattle.std.proofs.lemmas.Grind.{common_steps, fold-append}
use Rattle.hcp_packet.specs.declared.Packet.{Packet}
use Rattle.hcp_packet.specs.Packets.{packet, packet_bytes, packet_of, parts_of, packet_count, packets_of, packet_at, under_way_after, under_way}
use Rattle.hcp_packet.specs.Packets.{message_ended_by, messages_after, messages_of, is_good, good_of, packets_in, good_messages_of, fragments_of, AreSendable}
use Rattle.hcp_packet.specs.Packets.{IsFrontOf}

-- what packets end that come behind others
messages_after-append : (before q r : List Packet) → messages_after before (q ++ r) ≡ messages_after before q ++ messages_after (before ++ q) r
messages_after-append before [] r = ap (λ b. messages_after b r) (sym (append-nil before))
messages_after-append before (p ∷ q) r =
    ap (λ ms. message_ended_by before p ++ ms) (messages_after-append (before ++ p ∷ []) q r)
    ∙ (ap (λ b. message_ended_by before p ++ (messages_after (before ++ p ∷ []) q ++ messages_after b r)) (append_assoc before (p ∷ []) q)
    ∙ sym (append_assoc (message_ended_by before p) (messages_after (before ++ p ∷ []) q) (messages_after (before ++ p ∷ q) r)))

-- the good messages of fragments, and those that come behind them
good_messages_of-append : (a b : List (List ℕ)) → good_messages_of (a ++ b) ≡ good_messages_of a ++ good_of (messages_after (packets_in a) (packets_in b))
good_messages_of-append a b =
    ap (λ q. good_of (messages_of q)) (filter_map-append packet_of a b)
    ∙ (ap good_of (messages_after-append [] (packets_in a) (packets_in b))
    ∙ filter-append (λ m. is_good m.1) (messages_of (packets_in a)) (messages_after (packets_in a) (packets_in b)))

pub good_messages_grow : (early late : List (List ℕ)) → IsFrontOf early late → IsFrontOf (good_messages_of early) (good_messages_of late)
good_messages_grow early late front =
    (good_of (messages_after (packets_in early) (packets_in front.0)), sym (good_messages_of-append early front.0) ∙ ap good_messages_of front.1)

-- one more packet, and what is under way
pub under_way-push : (pipe : ℕ) (before : List Packet) (p : Packet) → under_way pipe (before ++ p ∷ []) ≡ under_way_after pipe (under_way pipe before) p
under_way-push pipe before p = fold-append (under_way_after pipe) [] before (p ∷ [])

-- a pipe is itself
eqb_self : (n : ℕ) → eqb n n ≡ true
eqb_self n = grind (arith, common_steps)

-- a part that isn't the last
pub parts_of-more : (pipe n : ℕ) (left : List ℕ) → parts_of pipe (suc (suc n)) left ≡ packet false pipe (take 28 left) ∷ parts_of pipe (suc n) (drop 28 left)
parts_of-more pipe n left = ap (λ b. packet b pipe (take 28 left) ∷ parts_of pipe (suc n) (drop 28 left)) (grind (arith, common_steps))

-- The last parts of a message end it: it is what was under way on the pipe and what was left.
parts_joined : (pipe n : ℕ) (left : List ℕ) (before : List Packet) → length left ≤ 28 * suc n
    → messages_after before (parts_of pipe (suc n) left) ≡ (pipe, under_way pipe before ++ left) ∷ []
parts_joined pipe zero left before fits = ap (λ bytes. (pipe, under_way pipe before ++ bytes) ∷ []) (take_all 28 left (omega arith))
parts_joined pipe (suc n) left before fits =
    ap (messages_after before) (parts_of-more pipe n left)
    ∙ (parts_joined pipe n (drop 28 left) (before ++ packet false pipe (take 28 left) ∷ []) (omega (arith, length-drop 28 left))
    ∙ ap (λ bytes. (pipe, bytes) ∷ []) (
    ap (λ bytes. bytes ++ drop 28 left) (
    under_way-push pipe before (packet false pipe (take 28 left))
    ∙ ap (λ b. cond b (under_way pipe before ++ take 28 left) (under_way pipe before)) (eqb_self pipe))
    ∙ (append_assoc (under_way pipe before) (take 28 left) (drop 28 left)
    ∙ ap (λ bytes. under_way pipe before ++ bytes) (take-append-drop 28 left))))

-- Behind the last part of a message nothing is under way on its pipe, nor on others where nothing was.
parts_end : (pipe n : ℕ) (left : List ℕ) (before : List Packet) (q : ℕ) → (eqb pipe q ≡ false → under_way q before ≡ [])
    → under_way q (before ++ parts_of pipe (suc n) left) ≡ []
parts_end pipe zero left before q idle = under_way-push q before (packet true pipe (take 28 left)) ∙ ended (eqb pipe q) (under_way q before) idle
  where
    ended : (b : Bool) (bytes : List ℕ) → (b ≡ false → bytes ≡ []) → cond b [] bytes ≡ []
    ended true bytes idle = refl
    ended false bytes idle = idle refl
parts_end pipe (suc n) left before q idle =
    ap (λ ps. under_way q (before ++ ps)) (parts_of-more pipe n left)
    ∙ (ap (under_way q) (sym (append_assoc before (packet false pipe (take 28 left) ∷ []) (parts_of pipe (suc n) (drop 28 left))))
    ∙ parts_end pipe n (drop 28 left) (before ++ packet false pipe (take 28 left) ∷ []) q
    (λ other. under_way-push q before (packet false pipe (take 28 left))
    ∙ (ap (λ b. cond b (under_way q before ++ take 28 left) (under_way q before)) other ∙ idle other)))

-- a message that isn't empty has packets enough for its bytes
packet_count-suc : (len : ℕ) → 0 < len → (n : ℕ) × (packet_count len ≡ suc n) × (len ≤ 28 * suc n)
packet_count-suc len some = ((len + 27) / 28 - 1, omega arith, omega arith)

-- each message that was sent, as packets
abbrev pub packets_of_all : List (ℕ × List ℕ) → List Packet
packets_of_all sent = flat_map (λ m. packets_of m.0 m.1) sent

joined_behind : (sent : List (ℕ × List ℕ)) → AreSendable sent → (before : List Packet) → ((q : ℕ) → under_way q before ≡ [])
    → messages_after before (packets_of_all sent) ≡ sent
joined_behind [] sendable before idle = refl
joined_behind (m ∷ sent) sendable before idle =
    let count = packet_count-suc (length m.1) sendable.0.1 in
    ap (λ ps. messages_after before (ps ++ packets_of_all sent)) (ap (λ n. parts_of m.0 n m.1) count.1)
    ∙ (messages_after-append before (parts_of m.0 (suc count.0) m.1) (packets_of_all sent)
    ∙ (ap (λ ms. ms ++ messages_after (before ++ parts_of m.0 (suc count.0) m.1) (packets_of_all sent))
    (parts_joined m.0 count.0 m.1 before count.2 ∙ ap (λ bytes. (m.0, bytes ++ m.1) ∷ []) (idle m.0))
    ∙ ap (λ ms. m ∷ ms) (joined_behind sent sendable.1 (before ++ parts_of m.0 (suc count.0) m.1)
    (λ q. parts_end m.0 count.0 m.1 before q (λ other. idle q)))))

-- what is written is read again
pub packet_of-bytes_of : (p : Packet) → p.pipe < 112 → packet_of (packet_bytes p) ≡ Some p
packet_of-bytes_of p low = by_mark p.last p.pipe p.bytes.items low
  where
    by_mark : (last : Bool) (pipe : ℕ) (data_bytes : List ℕ) → pipe < 112
        → packet_of (packet_bytes (packet last pipe data_bytes)) ≡ Some (packet last pipe data_bytes)
    by_mark true pipe data_bytes low = grind (arith, common_steps)
    by_mark false pipe data_bytes low = grind (arith, common_steps)

pub packets_in-parts : (pipe n : ℕ) (left : List ℕ) → pipe < 112 → packets_in (map packet_bytes (parts_of pipe n left)) ≡ parts_of pipe n left
packets_in-parts pipe zero left low = refl
packets_in-parts pipe (suc n) left low =
    let read = packet_of-bytes_of (packet (eqb n 0) pipe (take 28 left)) low in
    let rest = packets_in-parts pipe n (drop 28 left) low in
    cc

packets_in-fragments : (sent : List (ℕ × List ℕ)) → AreSendable sent → packets_in (fragments_of sent) ≡ packets_of_all sent
packets_in-fragments [] sendable = refl
packets_in-fragments (m ∷ sent) sendable =
    filter_map-append packet_of (map packet_bytes (packets_of m.0 m.1)) (fragments_of sent)
    ∙ (ap (λ ps. ps ++ packets_in (fragments_of sent)) (packets_in-parts m.0 (packet_count (length m.1)) m.1 sendable.0.0)
    ∙ ap (λ ps. packets_of m.0 m.1 ++ ps) (packets_in-fragments sent sendable.1))

pub joined_again : (sent : List (ℕ × List ℕ)) → AreSendable sent → messages_of (packets_in (fragments_of sent)) ≡ sent
joined_again sent sendable = ap messages_of (packets_in-fragments sent sendable) ∙ joined_behind sent sendable [] (λ q. refl)

pub good_messages_are_a_front : (sent : List (ℕ × List ℕ)) (got : List (List ℕ)) → AreSendable sent → IsFrontOf got (fragments_of sent)
    → IsFrontOf (good_messages_of got) (good_of sent)
good_messages_are_a_front sent got sendable front =
    let grown = good_messages_grow got (fragments_of sent) front in
    (grown.0, grown.1 ∙ ap good_of (joined_again sent sendable))

pub whole_messages_have_come : (sent : List (ℕ × List ℕ)) (got : List (List ℕ)) → AreSendable sent → IsFrontOf (fragments_of sent) got
    → IsFrontOf (good_of sent) (good_messages_of got)
whole_messages_have_come sent got sendable front =
    let grown = good_messages_grow (fragments_of sent) got front in
    (grown.0, ap (λ ms. ms ++ grown.0) (sym (ap good_of (joined_again sent sendable))) ∙ grown.1)

-- how many parts there are
length-parts_of : (pipe n : ℕ) (left : List ℕ) → length (parts_of pipe n left) ≡ n
length-parts_of pipe zero left = refl
length-parts_of pipe (suc n) left = ap suc (length-parts_of pipe n (drop 28 left))

pub packets_are_counted : (pipe : ℕ) (message : List ℕ) → length (packets_of pipe message) ≡ packet_count (length message)
packets_are_counted pipe message = length-parts_of pipe (packet_count (length message)) message

-- a test at the only part and at a part that more follow
only_part : (m len : ℕ) → 28 * m < len → len ≤ 28 * suc m → eqb m 0 ≡ leb len 28
only_part zero len low high = let small : leb len 28 ≡ true = grind (arith, common_steps) in sym small
only_part (suc m) len low high =
    let more : eqb (suc m) 0 ≡ false = grind (arith, common_steps) in
    let large : leb len 28 ≡ false = grind (arith, common_steps) in
    more ∙ sym large

part_at : (pipe n : ℕ) (left : List ℕ) (k : ℕ) → 28 * k < length left → length left ≤ 28 * n → 28 * n < length left + 28
    → slice_get (parts_of pipe n left) k ≡ Some (packet_at pipe left (28 * k))
part_at pipe zero left k in_left fits all = absurd (omega arith)
part_at pipe (suc m) left zero in_left fits all = ap (λ b. Some (packet b pipe (take 28 left))) (only_part m (length left) (omega arith) fits)
part_at pipe (suc m) left (suc k) in_left fits all =
    let behind =
    part_at pipe m (drop 28 left) k (omega (arith, length-drop 28 left)) (omega (arith, length-drop 28 left)) (omega (arith, length-drop 28 left)) in
    let mark : leb (length (drop 28 left)) (28 * k + 28) ≡ leb (length left) (28 * suc k + 28) = grind (arith, common_steps, length-drop 28 left) in
    let bytes : drop (28 * k) (drop 28 left) ≡ drop (28 * suc k) left = drop-drop (28 * k) 28 left ∙ ap (λ i. drop i left) (omega arith) in
    behind ∙ (ap (λ b. Some (packet b pipe (take 28 (drop (28 * k) (drop 28 left))))) mark
    ∙ ap (λ bs. Some (packet (leb (length left) (28 * suc k + 28)) pipe (take 28 bs))) bytes)

pub packets_stand_in_place : (pipe : ℕ) (message : List ℕ) (k : ℕ) → 28 * k < length message
    → slice_get (packets_of pipe message) k ≡ Some (packet_at pipe message (28 * k))
packets_stand_in_place pipe message k in_message = part_at pipe (packet_count (length message)) message k in_message (omega arith) (omega arith)
