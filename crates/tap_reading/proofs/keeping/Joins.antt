-- One more fragment: whether all can be joined, the messages under way, and the news.
use Rattle.std.proofs.Common.{◌≡◌, ℕ, Bool, true, false, not, cond, ◌&&◌, List, [], ◌∷◌, ◌++◌, length, drop, Option, Some, None, refl, ap, sym, ◌∙◌}
use Rattle.std.proofs.Common.{append-nil, append_assoc}
use Rattle.hcp_packet.specs.declared.Packet.{Packet}
use Rattle.hcp_packet.specs.Packets.{packet_of, packets_in, good_of, is_good}
use Rattle.hcp_chain.specs.Joining.{join_step, message_in, is_fault, are_taken, given_by, open_after}

pub taken-append : (m : List (ℕ × List ℕ)) (q : List Packet) (p : Packet) → are_taken m (q ++ p ∷ [])
    ≡ (are_taken m q && not (is_fault (join_step (open_after m q) p).0))
taken-append m [] p = and_true (not (is_fault (join_step m p).0))
  where
    and_true : (b : Bool) → (b && true) ≡ b
    and_true true = refl
    and_true false = refl
taken-append m (x ∷ q) p =
    let y = join_step m x in
    ap (λ b. not (is_fault y.0) && b) (taken-append y.1 q p)
    ∙ sym (assoc (not (is_fault y.0)) (are_taken y.1 q) (not (is_fault (join_step (open_after y.1 q) p).0)))
  where
    assoc : (a b c : Bool) → ((a && b) && c) ≡ (a && (b && c))
    assoc true b c = refl
    assoc false b c = refl

pub open-append : (m : List (ℕ × List ℕ)) (q : List Packet) (p : Packet) → open_after m (q ++ p ∷ []) ≡ (join_step (open_after m q) p).1
open-append m [] p = refl
open-append m (x ∷ q) p = open-append (join_step m x).1 q p

given-append : (m : List (ℕ × List ℕ)) (q : List Packet) (p : Packet) → given_by m (q ++ p ∷ []) ≡ given_by m q ++ message_in (join_step (open_after m q) p).0
given-append m [] p = append-nil (message_in (join_step m p).0)
given-append m (x ∷ q) p =
    let y = join_step m x in
    ap (λ z. message_in y.0 ++ z) (given-append y.1 q p)
    ∙ sym (append_assoc (message_in y.0) (given_by y.1 q) (message_in (join_step (open_after y.1 q) p).0))

good-append : (xs ys : List (ℕ × List ℕ)) → good_of (xs ++ ys) ≡ good_of xs ++ good_of ys
good-append [] ys = refl
good-append (m ∷ xs) ys = go (is_good m.1) (good-append xs ys)
  where
    go : (b : Bool) → good_of (xs ++ ys) ≡ good_of xs ++ good_of ys → cond b (m ∷ good_of (xs ++ ys)) (good_of (xs ++ ys))
        ≡ cond b (m ∷ good_of xs) (good_of xs) ++ good_of ys
    go true q = ap (λ z. m ∷ z) q
    go false q = q

drop_front : {X : Type 0} (xs ys : List X) → drop (length xs) (xs ++ ys) ≡ ys
drop_front [] ys = refl
drop_front (x ∷ xs) ys = drop_front xs ys

-- the packets of one fragment more
abbrev pub packets_with : List Packet → Option Packet → List Packet
packets_with q None = q
packets_with q (Some p) = q ++ p ∷ []

pub packets-append : (xs : List (List ℕ)) (x : List ℕ) → packets_in (xs ++ x ∷ []) ≡ packets_with (packets_in xs) (packet_of x)
packets-append [] x = go (packet_of x) refl
  where
    go : (o : Option Packet) → packet_of x ≡ o → packets_in (x ∷ []) ≡ packets_with [] (packet_of x)
    go None q = rw q refl
    go (Some p) q = rw q refl
packets-append (y ∷ xs) x = go (packet_of y) (packet_of x) refl refl (packets-append xs x)
  where
    go : (o r : Option Packet) → packet_of y ≡ o → packet_of x ≡ r → packets_in (xs ++ x ∷ []) ≡ packets_with (packets_in xs) (packet_of x)
        → packets_in (y ∷ (xs ++ x ∷ [])) ≡ packets_with (packets_in (y ∷ xs)) (packet_of x)
    go None r p q h = rw p h
    go (Some z) None p q h = rw p (rw q (ap (λ v. z ∷ v) (h ∙ ap (packets_with (packets_in xs)) q)))
    go (Some z) (Some w) p q h = rw p (rw q (ap (λ v. z ∷ v) (h ∙ ap (packets_with (packets_in xs)) q)))

-- the good messages that come with it
abbrev pub news_of : List Packet → List Packet → List (ℕ × List ℕ)
news_of q r = cond (are_taken [] r) (drop (length (good_of (given_by [] q))) (good_of (given_by [] r))) []

pub news_none : (q : List Packet) → news_of q q ≡ []
news_none q = go (are_taken [] q)
  where
    all : {X : Type 0} (xs : List X) → drop (length xs) xs ≡ []
    all [] = refl
    all (x ∷ xs) = all xs

    go : (b : Bool) → cond b (drop (length (good_of (given_by [] q))) (good_of (given_by [] q))) [] ≡ []
    go true = all (good_of (given_by [] q))
    go false = refl

pub news_some : (q : List Packet) (p : Packet)
    → news_of q (q ++ p ∷ []) ≡ cond (are_taken [] q && not (is_fault (join_step (open_after [] q) p).0)) (good_of (message_in (join_step
    (open_after [] q) p).0)) []
news_some q p =
    let all : List (ℕ × List ℕ) = good_of (given_by [] q) in
    let more : List (ℕ × List ℕ) = good_of (message_in (join_step (open_after [] q) p).0) in
    let t : Bool = are_taken [] q && not (is_fault (join_step (open_after [] q) p).0) in
    ap (λ b. cond b (drop (length all) (good_of (given_by [] (q ++ p ∷ [])))) []) (taken-append [] q p)
    ∙ ap (λ z. cond t z []) (ap (λ z. drop (length all) (good_of z)) (given-append [] q p)
    ∙ (ap (drop (length all)) (good-append (given_by [] q) (message_in (join_step (open_after [] q) p).0)) ∙ drop_front all more))
