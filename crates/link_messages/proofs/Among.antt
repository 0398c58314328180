-- Messages of which so many fragments are acknowledged, and the fragments of messages.
use Rattle.std.proofs.Common.{length-append}
use Rattle.std.specs.Prelude.{nat_le}
use Rattle.std.proofs.lemmas.List.{drop-append-le}
use Rattle.std.proofs.Math.Seq.{drop-append-add}
use Rattle.std.proofs.lemmas.Bool.{leb-true}
use Rattle.std.proofs.lemmas.Grind.{flat_map-append, common_steps}
use Rattle.link_messages.proofs.Words.{Bool, List, Message, [], ap, arith, drop, false, le-leb, length, length-fragments, map, refl, rest_among, suc, true}
use Rattle.link_messages.proofs.Words.{whole_among, ℕ, ◌++◌, ◌+◌, ◌-◌, ◌<◌, ◌∙◌, ◌∷◌, ◌≡◌, ◌≤◌}
use Rattle.hcp_packet.specs.Packets.{packets_of, packet_count, packet_bytes, fragments_of, IsSendable}

abbrev fragments : Message → List (List ℕ)
fragments m = map packet_bytes (packets_of m.0 m.1)

pub fragments-push : (xs : List Message) (m : Message) → fragments_of (xs ++ m ∷ []) ≡ fragments_of xs ++ map packet_bytes (packets_of m.0 m.1)
fragments-push xs m = (flat_map-append fragments xs (m ∷ [])) ∙ ap (λ l. fragments_of xs ++ l) (grind (arith, common_steps))

-- the first message is acknowledged whole
pub whole-first : (m : Message) (ms : List Message) (n : ℕ) → packet_count (length m.1) ≤ n
    → (whole_among (m ∷ ms) n ≡ suc (whole_among ms (n - packet_count (length m.1)))) × (rest_among (m ∷ ms) n ≡ rest_among ms (n - packet_count (length m.1)))
whole-first m ms n low = let t = le-leb (packet_count (length m.1)) n low in (rw t, rw t)

-- it isn't
pub whole-none : (m : Message) (ms : List Message) (n : ℕ) → n < packet_count (length m.1) → (whole_among (m ∷ ms) n ≡ 0) × (rest_among (m ∷ ms) n ≡ n)
whole-none m ms n high = go (nat_le (packet_count (length m.1)) n) refl
  where
    go : (b : Bool) → nat_le (packet_count (length m.1)) n ≡ b → (whole_among (m ∷ ms) n ≡ 0) × (rest_among (m ∷ ms) n ≡ n)
    go true t = absurd (let l = leb-true (packet_count (length m.1)) n t in omega arith)
    go false t = (rw t, rw t)

-- where the fragments of the first message were all cut, those that wait are the others' ones
pub waiting-first : (m : Message) (ms : List Message) (cut : ℕ) → packet_count (length m.1) ≤ cut
    → drop cut (fragments_of (m ∷ ms)) ≡ drop (cut - packet_count (length m.1)) (fragments_of ms)
waiting-first m ms cut low =
    let places : cut ≡ length (fragments m) + (cut - packet_count (length m.1)) = omega (arith, (length-fragments m), low) in
    ap (λ n. drop n (fragments m ++ fragments_of ms)) places ∙ drop-append-add (fragments m) (fragments_of ms) (cut - packet_count (length m.1))

pub length-first : (m : Message) (ms : List Message) → length (fragments_of (m ∷ ms)) ≡ packet_count (length m.1) + length (fragments_of ms)
length-first m ms = length-append (fragments m) (fragments_of ms) ∙ ap (λ n. n + length (fragments_of ms)) (length-fragments m)

-- more fragments behind those that wait
pub waiting-push : (ms : List Message) (m : Message) (cut : ℕ) → cut ≤ length (fragments_of ms)
    → drop cut (fragments_of (ms ++ m ∷ [])) ≡ drop cut (fragments_of ms) ++ map packet_bytes (packets_of m.0 m.1)
waiting-push ms m cut low = ap (drop cut) (fragments-push ms m) ∙ drop-append-le cut (fragments_of ms) (fragments m) low

pub length-push : (ms : List Message) (m : Message) → length (fragments_of (ms ++ m ∷ [])) ≡ length (fragments_of ms) + packet_count (length m.1)
length-push ms m =
    ap length (fragments-push ms m) ∙ (length-append (fragments_of ms) (fragments m) ∙ ap (λ n. length (fragments_of ms) + n) (length-fragments m))

some_packets : (m : Message) → IsSendable m → 0 < packet_count (length m.1)
some_packets m sendable = let some = sendable.1 in omega arith

-- One more message that was given changes nothing of how many are acknowledged: those acknowledged are of the others.
pub whole-push : (ms : List Message) (m : Message) (n : ℕ) → IsSendable m → n ≤ length (fragments_of ms)
    → (whole_among (ms ++ m ∷ []) n ≡ whole_among ms n) × (rest_among (ms ++ m ∷ []) n ≡ rest_among ms n)
whole-push [] m n sendable low = let some = some_packets m sendable in whole-none m [] n (omega arith)
whole-push (x ∷ ms) m n sendable low = go (nat_le (packet_count (length x.1)) n) refl (λ k l. whole-push ms m k sendable l)
  where
    go : (b : Bool) → nat_le (packet_count (length x.1)) n ≡ b
        → ((k : ℕ) → k ≤ length (fragments_of ms) → (whole_among (ms ++ m ∷ []) k ≡ whole_among ms k) × (rest_among (ms ++ m ∷ []) k ≡ rest_among ms k))
        → (whole_among (x ∷ (ms ++ m ∷ [])) n ≡ whole_among (x ∷ ms) n) × (rest_among (x ∷ (ms ++ m ∷ [])) n ≡ rest_among (x ∷ ms) n)
    go true t more =
        let l = leb-true (packet_count (length x.1)) n t in
        let rest = more (n - packet_count (length x.1)) (omega (arith, length-first x ms, low)) in
        (rw t (ap suc rest.0), rw t rest.1)
    go false t more = (rw t, rw t)

-- how many fragments the messages have that are acknowledged whole
pub whole-length : (ms : List Message) (n : ℕ) → n ≤ length (fragments_of ms)
    → (length (fragments_of ms) ≡ n - rest_among ms n + length (fragments_of (drop (whole_among ms n) ms))) × (rest_among ms n ≤ n)
whole-length [] n low = (omega arith, omega arith)
whole-length (x ∷ ms) n low = go (nat_le (packet_count (length x.1)) n) refl (λ k l. whole-length ms k l)
  where
    go : (b : Bool) → nat_le (packet_count (length x.1)) n ≡ b
        → ((k : ℕ) → k ≤ length (fragments_of ms)
        → (length (fragments_of ms) ≡ k - rest_among ms k + length (fragments_of (drop (whole_among ms k) ms))) × (rest_among ms k ≤ k))
        → (length (fragments_of (x ∷ ms)) ≡ n - rest_among (x ∷ ms) n + length (fragments_of (drop (whole_among (x ∷ ms) n) (x ∷ ms))))
        × (rest_among (x ∷ ms) n ≤ n)
    go true t more =
        let l = leb-true (packet_count (length x.1)) n t in
        let rest = more (n - packet_count (length x.1)) (omega (arith, length-first x ms, low)) in
        (rw t (omega (arith, length-first x ms, rest.0, rest.1)), rw t (omega (arith, rest.1)))
    go false t more = (rw t (omega arith), rw t (omega arith))

-- acknowledging on: what is acknowledged of all is what was, and then what is of those that were left
pub whole-more : (ms : List Message) (n more : ℕ)
    → (whole_among ms (n + more) ≡ whole_among ms n + whole_among (drop (whole_among ms n) ms) (rest_among ms n + more))
    × (rest_among ms (n + more) ≡ rest_among (drop (whole_among ms n) ms) (rest_among ms n + more))
whole-more [] n more = (refl, refl)
whole-more (x ∷ ms) n more = go (nat_le (packet_count (length x.1)) n) refl (whole-more ms (n - packet_count (length x.1)) more)
  where
    go : (b : Bool) → nat_le (packet_count (length x.1)) n ≡ b
        → (whole_among ms (n - packet_count (length x.1) + more) ≡ whole_among ms (n - packet_count (length x.1)) + whole_among
        (drop (whole_among ms (n - packet_count (length x.1))) ms) (rest_among ms (n - packet_count (length x.1)) + more))
        × (rest_among ms (n - packet_count (length x.1) + more)
        ≡ rest_among (drop (whole_among ms (n - packet_count (length x.1))) ms) (rest_among ms (n - packet_count (length x.1)) + more))
        → (whole_among (x ∷ ms) (n + more) ≡ whole_among (x ∷ ms) n + whole_among (drop (whole_among (x ∷ ms) n) (x ∷ ms)) (rest_among (x ∷ ms) n + more))
        × (rest_among (x ∷ ms) (n + more) ≡ rest_among (drop (whole_among (x ∷ ms) n) (x ∷ ms)) (rest_among (x ∷ ms) n + more))
    go true t rest =
        let l = leb-true (packet_count (length x.1)) n t in
        let both = whole-first x ms (n + more) (omega arith) in
        let places : n + more - packet_count (length x.1) ≡ n - packet_count (length x.1) + more = omega arith in
        let joined : suc (whole_among ms (n - packet_count (length x.1)) + whole_among (drop (whole_among ms (n - packet_count (length x.1))) ms)
        (rest_among ms (n - packet_count (length x.1)) + more))
        ≡ suc (whole_among ms (n - packet_count (length x.1))) + whole_among (drop (whole_among ms (n - packet_count (length x.1))) ms)
        (rest_among ms (n - packet_count (length x.1)) + more) = omega arith in
        (rw t (both.0 ∙ (ap (λ k. suc (whole_among ms k)) places ∙ (ap suc rest.0 ∙ joined))), rw t (both.1 ∙ (ap (rest_among ms) places ∙ rest.1)))
    go false t rest = (rw t (omega arith), rw t refl)
