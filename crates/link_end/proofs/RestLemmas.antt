-- Whether an end is at rest, by what is kept of it.
use Rattle.std.proofs.Common.{◌↔◌}
use Rattle.std.proofs.lemmas.List.{length-map}
use Rattle.std.proofs.lemmas.Bool.{eq-eqb, ne_eqb}
use Rattle.link_end.proofs.Words.{Bool, End, EndStandsFor, IsTrue, List, Machine, PoolState, Queued, Up, [], ap, arith, false, length, length-drop, refl, sym}
use Rattle.link_end.proofs.Words.{true, whole_acked, whole_few, ◌-◌, ◌==◌, ◌∙◌, ◌∷◌, ◌≡◌}
use Rattle.link_laws.specs.machine.AtRest.{end_rests}
use Rattle.link_messages.specs.Outgoing.{queued_message}

-- so many messages wait as aren't acknowledged whole
kept_count : (k : End) (pool : PoolState) (m : Machine) → EndStandsFor k pool m → length k.outbox.queue.items ≡ length m.sent - whole_acked m
kept_count k pool m h =
    sym (length-map k.outbox.queue.items (queued_message pool))
    ∙ (ap length h.halfway.sends.messages ∙ length-drop (whole_acked m) m.sent)

none_of : (queue : List Queued) → length queue ≡ 0 → queue ≡ []
none_of [] none = refl
none_of (q ∷ queue) none = absurd (omega (arith, none))

-- no message waits where all are acknowledged whole, and only there
is_all : (k : End) (pool : PoolState) (m : Machine) → EndStandsFor k pool m → (b : Bool) → IsTrue b ↔ (k.outbox.queue.items ≡ [])
    → b ≡ (whole_acked m == length m.sent)
is_all k pool m h true e =
    let few = whole_few m.sent m.shdlc.session.acked in
    sym (eq-eqb (whole_acked m) (length m.sent) (omega (arith, ap length (e.0 refl), few, kept_count k pool m h)))
is_all k pool m h false e =
    sym (ne_eqb (whole_acked m) (length m.sent) (λ q. absurd (both (e.1 (none_of k.outbox.queue.items (omega (arith, q, kept_count k pool m h)))))))
  where
    both : false ≡ true → ⊥
    both is = cc

-- an end that is Up is at rest where no message waits
pub rests_up : (k : End) (pool : PoolState) (m : Machine) (b : Bool) → m.shdlc.phase ≡ Up → IsTrue b ↔ (k.outbox.queue.items ≡ [])
    → EndStandsFor k pool m → b ≡ end_rests m
rests_up k pool m b up e h = rw up (is_all k pool m h b e)
