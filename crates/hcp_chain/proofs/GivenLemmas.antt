-- Joining packets one at a time gives the messages of the packets.
use Rattle.std.specs.Prelude.{IsTrue}
use Rattle.hcp_chain.proofs.Words.{Bool, List, Packet, [], ap, append-nil, arith, cond, eqb, false, length, ltb, not, refl, rules, subst, sym, true, ℕ, ◌&&◌}
use Rattle.hcp_chain.proofs.Words.{◌++◌, ◌∙◌, ◌∷◌, ◌≡◌}
use Rattle.hcp_packet.specs.Packets.{under_way, message_ended_by, messages_after, messages_of}
use Rattle.hcp_chain.specs.Joining.{Nothing, Message, so_far, others, is_fifth, grown, join_step, message_in, is_fault, are_taken, given_by}
use Rattle.hcp_packet.proofs.Joining.{under_way-push}

-- the messages under way after those of a pipe were taken out and others put behind
so_far-others : (pipe : ℕ) (g : List ℕ) (tail : List (ℕ × List ℕ)) (q : ℕ) → so_far tail q ≡ cond (eqb pipe q) g [] → (ms : List (ℕ × List ℕ))
    → so_far (others ms pipe ++ tail) q ≡ cond (eqb pipe q) g (so_far ms q)
so_far-others pipe g tail q here [] = here
so_far-others pipe g tail q here (m ∷ ms) = by_pipe (eqb m.0 pipe) (eqb m.0 q) refl refl (so_far-others pipe g tail q here ms)
  where
    by_pipe : (a b : Bool) → eqb m.0 pipe ≡ a → eqb m.0 q ≡ b → so_far (others ms pipe ++ tail) q ≡ cond (eqb pipe q) g (so_far ms q)
        → so_far (cond (not (eqb m.0 pipe)) (m ∷ others ms pipe) (others ms pipe) ++ tail) q ≡ cond (eqb pipe q) g (cond (eqb m.0 q) m.1 (so_far ms q))
    by_pipe a b p r more = grind arith

cond_same : (b : Bool) (bytes : List ℕ) → bytes ≡ cond b bytes bytes
cond_same b bytes = grind arith

-- the messages under way after a last packet and after another one
after_last : (ms : List (ℕ × List ℕ)) (before : List Packet) (p : Packet) → ((q : ℕ) → so_far ms q ≡ under_way q before) → p.last ≡ true → (q : ℕ)
    → so_far (others ms p.pipe) q ≡ under_way q (before ++ p ∷ [])
after_last ms before p stands last q =
    let rest = so_far-others p.pipe [] [] q (cond_same (eqb p.pipe q) []) ms in
    ap (λ xs. so_far xs q) (sym (append-nil (others ms p.pipe))) ∙ (rest ∙ (ap (λ bs. cond (eqb p.pipe q) [] bs) (stands q)
    ∙ (sym (ap (λ b. cond (eqb p.pipe q) (cond b [] (under_way q before ++ p.bytes.items)) (under_way q before)) last) ∙ sym (under_way-push q before p))))

after_more : (ms : List (ℕ × List ℕ)) (before : List Packet) (p : Packet) → ((q : ℕ) → so_far ms q ≡ under_way q before) → p.last ≡ false → (q : ℕ)
    → so_far (others ms p.pipe ++ (p.pipe, grown ms p) ∷ []) q ≡ under_way q (before ++ p ∷ [])
after_more ms before p stands more q =
    let rest = so_far-others p.pipe (grown ms p) ((p.pipe, grown ms p) ∷ []) q refl ms in
    rest ∙ (by_pipe (eqb p.pipe q) refl
    ∙ (sym (ap (λ b. cond (eqb p.pipe q) (cond b [] (under_way q before ++ p.bytes.items)) (under_way q before)) more) ∙ sym (under_way-push q before p)))
  where
    by_pipe : (b : Bool) → eqb p.pipe q ≡ b
        → cond (eqb p.pipe q) (grown ms p) (so_far ms q) ≡ cond (eqb p.pipe q) (under_way q before ++ p.bytes.items) (under_way q before)
    by_pipe b e = grind arith

not_true : (b : Bool) → IsTrue (not true && b) → ⊥
not_true b t = search rules

pub last_step : (ms : List (ℕ × List ℕ)) (p : Packet) → is_fifth ms p.pipe ≡ false → ltb 4096 (length (grown ms p)) ≡ false → p.last ≡ true
    → join_step ms p ≡ (Message p.pipe (grown ms p), others ms p.pipe)
last_step ms p fifth long last = grind arith

pub more_step : (ms : List (ℕ × List ℕ)) (p : Packet) → is_fifth ms p.pipe ≡ false → ltb 4096 (length (grown ms p)) ≡ false → p.last ≡ false
    → join_step ms p ≡ (Nothing, others ms p.pipe ++ (p.pipe, grown ms p) ∷ [])
more_step ms p fifth long last = grind arith

given_behind : (packets : List Packet) (ms : List (ℕ × List ℕ)) (before : List Packet) → ((q : ℕ) → so_far ms q ≡ under_way q before)
    → IsTrue (are_taken ms packets) → given_by ms packets ≡ messages_after before packets
given_behind [] ms before stands taken = refl
given_behind (p ∷ packets) ms before stands taken =
    by_step (is_fifth ms p.pipe) (ltb 4096 (length (grown ms p))) p.last refl refl refl (λ ns s t. given_behind packets ns (before ++ p ∷ []) s t)
  where
    by_step : (a b c : Bool) → is_fifth ms p.pipe ≡ a → ltb 4096 (length (grown ms p)) ≡ b → p.last ≡ c
        → ((ns : List (ℕ × List ℕ)) → ((q : ℕ) → so_far ns q ≡ under_way q (before ++ p ∷ [])) → IsTrue (are_taken ns packets)
        → given_by ns packets ≡ messages_after (before ++ p ∷ []) packets)
        → given_by ms (p ∷ packets) ≡ messages_after before (p ∷ packets)
    by_step true b c fifth long last more = absurd (let t : IsTrue (not true && are_taken [] packets) = rw fifth at taken in not_true (are_taken [] packets) t)
    by_step false true c fifth long last more = grind arith
    by_step false false true fifth long last more =
        let step : join_step ms p ≡ (Message p.pipe (grown ms p), others ms p.pipe) = last_step ms p fifth long last in
        let t : IsTrue (not false && are_taken (others ms p.pipe) packets) = subst (λ s. IsTrue (not (is_fault s.0) && are_taken s.1 packets)) step taken in
        let ended : message_ended_by before p ≡ (p.pipe, under_way p.pipe before ++ p.bytes.items) ∷ [] = grind arith in
        ap (λ s. message_in s.0 ++ given_by s.1 packets) step
        ∙ (ap (λ bs. (p.pipe, bs ++ p.bytes.items) ∷ given_by (others ms p.pipe) packets) (stands p.pipe)
        ∙ (ap (λ xs. (p.pipe, under_way p.pipe before ++ p.bytes.items) ∷ xs) (more (others ms p.pipe) (after_last ms before p stands last) t)
        ∙ ap (λ xs. xs ++ messages_after (before ++ p ∷ []) packets) (sym ended)))
    by_step false false false fifth long last more =
        let ns = others ms p.pipe ++ (p.pipe, grown ms p) ∷ [] in
        let step : join_step ms p ≡ (Nothing, ns) = more_step ms p fifth long last in
        let t : IsTrue (not false && are_taken ns packets) = subst (λ s. IsTrue (not (is_fault s.0) && are_taken s.1 packets)) step taken in
        let ended : message_ended_by before p ≡ [] = ap (λ b. cond b ((p.pipe, under_way p.pipe before ++ p.bytes.items) ∷ []) []) last in
        ap (λ s. message_in s.0 ++ given_by s.1 packets) step
        ∙ (more ns (after_more ms before p stands last) t ∙ ap (λ xs. xs ++ messages_after (before ++ p ∷ []) packets) (sym ended))

pub given_messages : (packets : List Packet) → IsTrue (are_taken [] packets) → given_by [] packets ≡ messages_of packets
given_messages packets taken = given_behind packets [] [] (λ q. refl) taken
