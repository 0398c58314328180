-- A sender of whole messages never causes a fault.
use Rattle.std.proofs.Common.{◌/◌, not, ◌&&◌, eqb, ltb, rules, length-take, length-drop}
use Rattle.link_laws.proofs.Words.{AreShort, Bool, IsFrontOf, IsTrue, List, Packet, [], ap, are_taken, arith, common_steps, drop, false, filter_map-append}
use Rattle.link_laws.proofs.Words.{fragments_of, given_by, join_step, length, length-append, map, packet_bytes, packet_count, packet_of, packets_in, packets_of}
use Rattle.link_laws.proofs.Words.{refl, subst, suc, sym, take, true, zero, ℕ, ◌++◌, ◌+◌, ◌-◌, ◌<◌, ◌∙◌, ◌∷◌, ◌≡◌, ◌≤◌}
use Rattle.hcp_packet.specs.Packets.{packet, parts_of, messages_of}
use Rattle.hcp_chain.specs.Joining.{so_far, others, is_fifth, grown, is_fault}
use Rattle.hcp_chain.proofs.GivenLemmas.{given_messages, last_step, more_step}
use Rattle.hcp_packet.proofs.Joining.{parts_of-more, packets_in-parts, packets_of_all}

-- ---- fragments

packets_in-fragments : (sent : List (ℕ × List ℕ)) → AreShort sent → packets_in (fragments_of sent) ≡ packets_of_all sent
packets_in-fragments [] short = refl
packets_in-fragments (m ∷ sent) short =
    let h0 = filter_map-append packet_of (map packet_bytes (packets_of m.0 m.1)) (fragments_of sent) in let h1 = fragments_of sent in
    let h2 = packets_in-parts m.0 (packet_count (length m.1)) m.1 short.0.0.0 in let h3 = packets_in-fragments sent short.1 in grind arith

-- ---- one packet that is taken

-- ---- one message

-- only the message of this pipe is under way, or none
record Alone (ms : List (ℕ × List ℕ)) (pipe : ℕ) (bytes : List ℕ) : Type 0 where
  few : length ms ≤ 1
  rest : others ms pipe ≡ []
  under_way : so_far ms pipe ≡ bytes

not_fifth : (ms : List (ℕ × List ℕ)) (pipe : ℕ) → length ms ≤ 1 → is_fifth ms pipe ≡ false
not_fifth ms pipe few = grind arith

not_long : (ms : List (ℕ × List ℕ)) (p : Packet) (bytes : List ℕ) → Alone ms p.pipe bytes → length bytes + length p.bytes.items ≤ 4096
    → ltb 4096 (length (grown ms p)) ≡ false
not_long ms p bytes alone fits =
    let len : length (grown ms p) ≡ length bytes + length p.bytes.items = length-append (so_far ms p.pipe) p.bytes.items
    ∙ ap (λ bs. length bs + length p.bytes.items) alone.under_way in
    grind (arith, common_steps, len)

itself : (pipe : ℕ) → eqb pipe pipe ≡ true
itself pipe = grind (arith, common_steps)

parts_taken : (pipe n : ℕ) (left bytes : List ℕ) (ms : List (ℕ × List ℕ)) (packets : List Packet) → Alone ms pipe bytes
    → length bytes + length left ≤ 4096 → are_taken ms (parts_of pipe (suc n) left ++ packets) ≡ are_taken [] packets
parts_taken pipe zero left bytes ms packets alone fits =
    let p = packet true pipe (take 28 left) in
    let step = last_step ms p (not_fifth ms pipe alone.few) (not_long ms p bytes alone (omega (arith, length-take 28 left))) refl in
    ap (λ s. not (is_fault s.0) && are_taken s.1 packets) step ∙ ap (λ ns. are_taken ns packets) alone.rest
parts_taken pipe (suc n) left bytes ms packets alone fits =
    let p = packet false pipe (take 28 left) in
    let step = more_step ms p (not_fifth ms pipe alone.few) (not_long ms p bytes alone (omega (arith, length-take 28 left))) refl in
    let next : others ms pipe ++ (pipe, grown ms p) ∷ [] ≡ (pipe, bytes ++ take 28 left) ∷ [] = grind arith in
    ap (λ ps. are_taken ms (ps ++ packets)) (parts_of-more pipe n left)
    ∙ (ap (λ s. not (is_fault s.0) && are_taken s.1 (parts_of pipe (suc n) (drop 28 left) ++ packets)) step
    ∙ (ap (λ ns. are_taken ns (parts_of pipe (suc n) (drop 28 left) ++ packets)) next
    ∙ parts_taken pipe n (drop 28 left) (bytes ++ take 28 left) ((pipe, bytes ++ take 28 left) ∷ []) packets (let h0 = (bytes ++ take 28 left) in grind arith)
    (omega (arith, length-append bytes (take 28 left), length-take 28 left, length-drop 28 left))))

-- ---- whole messages, and a front of them

packet_count-suc : (len : ℕ) → 0 < len → (n : ℕ) × (packet_count len ≡ suc n)
packet_count-suc len some = ((len + 27) / 28 - 1, omega arith)

all_taken : (sent : List (ℕ × List ℕ)) → AreShort sent → are_taken [] (packets_of_all sent) ≡ true
all_taken [] short = refl
all_taken (m ∷ sent) short =
    let count = packet_count-suc (length m.1) short.0.0.1 in
    ap (λ n. are_taken [] (parts_of m.0 n m.1 ++ packets_of_all sent)) count.1
    ∙ (parts_taken m.0 count.0 m.1 [] [] (packets_of_all sent) (grind arith) (omega (arith, short.0.1)) ∙ all_taken sent short.1)

front_taken : (front rest : List Packet) (ms : List (ℕ × List ℕ)) → are_taken ms (front ++ rest) ≡ true → are_taken ms front ≡ true
front_taken [] rest ms taken = refl
front_taken (p ∷ front) rest ms taken = by_fault (is_fault (join_step ms p).0) refl (λ t. front_taken front rest (join_step ms p).1 t)
  where
    by_fault : (b : Bool) → is_fault (join_step ms p).0 ≡ b
        → (are_taken (join_step ms p).1 (front ++ rest) ≡ true → are_taken (join_step ms p).1 front ≡ true)
        → (not (is_fault (join_step ms p).0) && are_taken (join_step ms p).1 front) ≡ true
    by_fault b e more = grind arith

pub no_fault : (sent : List (ℕ × List ℕ)) (got : List (List ℕ)) → AreShort sent → IsFrontOf got (fragments_of sent) → IsTrue (are_taken [] (packets_in got))
no_fault sent got short front =
    let all : packets_in got ++ packets_in front.0 ≡ packets_of_all sent = sym (filter_map-append packet_of got front.0)
    ∙ (ap packets_in front.1 ∙ packets_in-fragments sent short) in
    subst IsTrue (sym (front_taken (packets_in got) (packets_in front.0) [] (ap (are_taken []) all ∙ all_taken sent short))) (search rules)

pub all_given : (sent : List (ℕ × List ℕ)) (got : List (List ℕ)) → AreShort sent → IsFrontOf got (fragments_of sent)
    → given_by [] (packets_in got) ≡ messages_of (packets_in got)
all_given sent got short front = given_messages (packets_in got) (no_fault sent got short front)
