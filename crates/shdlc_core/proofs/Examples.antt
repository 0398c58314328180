-- The machine computes the worked examples: inputs of one end, and what it sends after each of them.
use Rattle.shdlc_core.proofs.Words.{Control, Down, EndInput, EndState, I, List, None, Offer, Rej, Reset, Rnr, Rr, Rset, S, SetReady, Some, Srej, Take, Tick, Ua}
use Rattle.shdlc_core.proofs.Words.{Up, [], begun, end_step, false, new_end, refl, suc, take_answer, tick_answer, true, zero, ℕ, ◌∷◌, ◌≡◌}
use Rattle.swp_base.specs.declared.link_terms.Cause.TheVariants.{NoAnswer, Peer}
use Rattle.shdlc_core.specs.declared.answers.OfferRefused.TheVariants.{NotUp, QueueFull}
use Rattle.shdlc_core.specs.Machine.{all_fetched, all_frames, offer_refusal}

-- what is sent after each of these inputs
abbrev play : EndState → List EndInput → List (List Control)
play e [] = []
play e (i ∷ is) = all_frames (end_step e i).0 ∷ play (all_fetched (end_step e i).0) is

-- the end after these inputs
abbrev end_after : EndState → List EndInput → EndState
end_after e [] = e
end_after e (i ∷ is) = end_after (all_fetched (end_step e i).0) is

abbrev ticks : ℕ → List EndInput
ticks zero = []
ticks (suc n) = Tick ∷ ticks n

abbrev frag : List ℕ
frag = 129 ∷ 3 ∷ []

abbrev up : EndState
up = begun (new_end 4)

-- a lost frame: the receiver rejects once, and the sender sends again from there
sends_again_after_reject : play up (Offer frag ∷ Offer frag ∷ Offer frag ∷ Take (S Rr 1) ∷ Take (S Rej 1) ∷ [])
    ≡ (I 0 0 frag ∷ []) ∷ (I 1 0 frag ∷ []) ∷ (I 2 0 frag ∷ []) ∷ [] ∷ (I 1 0 frag ∷ I 2 0 frag ∷ []) ∷ []
sends_again_after_reject = refl

rejects_once : play up (Take (I 0 0 frag) ∷ Take (I 2 0 frag) ∷ Take (I 3 0 frag) ∷ Take (I 1 0 frag) ∷ Take (I 2 0 frag) ∷ [])
    ≡ (S Rr 1 ∷ []) ∷ (S Rej 1 ∷ []) ∷ [] ∷ (S Rr 2 ∷ []) ∷ (S Rr 3 ∷ []) ∷ []
rejects_once = refl

-- a lost RR: the fragment goes out again at the tenth tick, and the repeat is answered and not accepted
sends_again_at_tenth_tick : play up (Offer frag ∷ ticks 10) ≡ (I 0 0 frag ∷ []) ∷ [] ∷ [] ∷ [] ∷ [] ∷ [] ∷ [] ∷ [] ∷ [] ∷ [] ∷ (I 0 0 frag ∷ []) ∷ []
sends_again_at_tenth_tick = refl

repeat_is_answered : play up (Take (I 0 0 frag) ∷ Take (I 0 0 frag) ∷ []) ≡ (S Rr 1 ∷ []) ∷ (S Rr 1 ∷ []) ∷ []
repeat_is_answered = refl

repeat_is_not_accepted : (end_after up (Take (I 0 0 frag) ∷ Take (I 0 0 frag) ∷ [])).session.acc ≡ frag ∷ []
repeat_is_not_accepted = refl

-- busy and ready
busy_end_answers_rnr : play up (SetReady false ∷ Take (I 0 0 frag) ∷ SetReady true ∷ []) ≡ [] ∷ (S Rnr 0 ∷ []) ∷ (S Rr 0 ∷ []) ∷ []
busy_end_answers_rnr = refl

busy_stops_sending : play up (Offer frag ∷ Take (S Rnr 0) ∷ Offer frag ∷ Take (S Rr 0) ∷ [])
    ≡ (I 0 0 frag ∷ []) ∷ [] ∷ [] ∷ (I 0 0 frag ∷ I 1 0 frag ∷ []) ∷ []
busy_stops_sending = refl

-- in the busy state one fragment probes at each tenth tick
probes_with_one : all_frames (end_after up (Offer frag ∷ Offer frag ∷ Take (S Rnr 0) ∷ ticks 9)) ≡ []
probes_with_one = refl

probes_with_one_at_ten : all_frames (end_step (end_after up (Offer frag ∷ Offer frag ∷ Take (S Rnr 0) ∷ ticks 9)) Tick).0 ≡ I 0 0 frag ∷ []
probes_with_one_at_ten = refl

-- the sixtieth tick without an answer ends the session
five_tries : (end_after up (Offer frag ∷ ticks 59)).phase ≡ Up
five_tries = refl

no_answer : (tick_answer (end_after up (Offer frag ∷ ticks 59))).ended ≡ Some NoAnswer
no_answer = refl

no_answer_resets : all_frames (end_step (end_after up (Offer frag ∷ ticks 59)) Tick).0 ≡ Rset 4 0 ∷ []
no_answer_resets = refl

-- a reset and its resend
reset_is_sent_again : all_frames (end_step (end_after up (Reset 4 ∷ ticks 9)) Tick).0 ≡ Rset 4 0 ∷ []
reset_is_sent_again = refl

peer_reset_begins_anew : take_answer up (Rset 4 0) ≡ record { ended = Some Peer; began = true; acked = 0; accepted = None }
peer_reset_begins_anew = refl

peer_reset_is_accepted : play up (Take (Rset 4 0) ∷ []) ≡ (Ua ∷ []) ∷ []
peer_reset_is_accepted = refl

-- crossed resets
crossed : play up (Reset 4 ∷ Take (Rset 4 0) ∷ Take Ua ∷ []) ≡ (Rset 4 0 ∷ []) ∷ (Ua ∷ []) ∷ [] ∷ []
crossed = refl

crossed_is_up : (end_after up (Reset 4 ∷ Take (Rset 2 0) ∷ Take Ua ∷ [])).session.window ≡ 2
crossed_is_up = refl

-- five RSETs in vain
gives_up : tick_answer (end_after up (Reset 4 ∷ ticks 49)) ≡ record { ended = None; gave_up = Some 5 }
gives_up = refl

given_up_is_down : (end_after up (Reset 4 ∷ ticks 50)).phase ≡ Down
given_up_is_down = refl

-- the window is at most 4, and an RSET with window 0 is ignored
window_seven_is_four : (end_after (new_end 4) (Take (Rset 7 0) ∷ [])).session.window ≡ 4
window_seven_is_four = refl

window_zero_is_ignored : (end_after (new_end 4) (Take (Rset 0 0) ∷ [])).phase ≡ Down
window_zero_is_ignored = refl

-- SREJ and an N(R) that isn't valid change nothing
srej_is_ignored : end_after (end_after up (Offer frag ∷ [])) (Take (S Srej 1) ∷ []) ≡ end_after up (Offer frag ∷ [])
srej_is_ignored = refl

invalid_number_is_ignored : end_after (end_after up (Offer frag ∷ [])) (Take (I 0 2 frag) ∷ []) ≡ end_after up (Offer frag ∷ [])
invalid_number_is_ignored = refl

-- four fragments fill an end, and an end that isn't Up takes none
four_fill : offer_refusal (end_after up (Offer frag ∷ Offer frag ∷ Offer frag ∷ Offer frag ∷ [])) ≡ Some (QueueFull 4)
four_fill = refl

down_takes_none : offer_refusal (new_end 4) ≡ Some NotUp
down_takes_none = refl
