-- What a history must be. These facts speak of what was noted and what caused it, and know no machine.
use Rattle.std.specs.Prelude.{◌≡◌, ℕ, ◌≤◌, ◌==◌, ◌&&◌, Bool, true, false, if◌then◌else◌, List, [], ◌∷◌, ◌++◌, length, take, Option, Some, Result, Ok}
use Rattle.std.specs.List.{fold, list_any}
use Rattle.swp_base.specs.declared.control_frames.Control.{Control}
use Rattle.swp_base.specs.declared.control_frames.Control.TheVariants.{S, Rset}
use Rattle.swp_base.specs.declared.control_frames.Kind.TheVariants.{Rnr}
use Rattle.swp_base.specs.declared.link_terms.Cause.TheVariants.{Chain}
use Rattle.swp_lpdu.specs.declared.LpduFault.{LpduFault}
use Rattle.swp_lpdu.specs.Controls.{control_of}
use Rattle.trace_model.specs.declared.entry.Entry.{Entry}
use Rattle.trace_model.specs.declared.entry.Entry.TheVariants.{Up, Down, GaveUp, Emit}
use Rattle.trace_model.specs.declared.line.End.{End}
use Rattle.trace_model.specs.Ends.{other_end}
use Rattle.hcp_packet.specs.Packets.{good_of, IsFrontOf}
use Rattle.history.specs.Histories.{Event, History, all_entries, all_events, entries_of}
use Rattle.history.specs.Histories.Cause.{WasReset}
use Rattle.history.specs.Filters.{Saying, same_end, said, sent_in, got_in, acked_in, session_number, wire_to}
use Rattle.history.specs.Filters.Saying.{Begins, Puts, Loses}

-- ## In order

-- In each session each end has got a front of the good messages that the other sent, and the good ones among those that
-- are acknowledged to the sender are a front of what the other got. No more are acknowledged than were sent.
pub record IsInOrder (t : List Entry) : Type 0 where
  pub delivered : (e : End) (n : ℕ) → IsFrontOf (got_in t (other_end e) n) (good_of (sent_in t e n))
  pub acknowledged : (e : End) (n : ℕ) → IsFrontOf (good_of (take (acked_in t e n) (sent_in t e n))) (got_in t (other_end e) n)
  pub counted : (e : End) (n : ℕ) → acked_in t e n ≤ length (sent_in t e n)

-- that holds at each prefix of the history
abbrev pub Prefix : History → Type 0
Prefix t = (front back : List Entry) → all_entries t ≡ front ++ back → IsInOrder front

-- ## Complete

-- an LPDU is an RNR
abbrev pub is_rnr_lpdu : List ℕ → Bool
is_rnr_lpdu lpdu = by_reading (control_of lpdu) where
  by_reading : Result Control LpduFault → Bool
  by_reading (Ok (S Rnr nr)) = true
  by_reading _ = false

-- an LPDU is an RSET
abbrev pub is_rset_lpdu : List ℕ → Bool
is_rset_lpdu lpdu = by_reading (control_of lpdu) where
  by_reading : Result Control LpduFault → Bool
  by_reading (Ok (Rset window caps)) = true
  by_reading _ = false

-- on the link with this host a frame was lost
abbrev pub loses_on : ℕ → Option (End × Saying) → Bool
loses_on h (Some (e, Loses lpdu)) = e.link == h
loses_on h _ = false

-- on it an RNR was put on a wire
abbrev pub rejects_on : ℕ → Option (End × Saying) → Bool
rejects_on h (Some (e, Puts lpdu)) = (e.link == h) && is_rnr_lpdu lpdu
rejects_on h _ = false

-- on it an RSET was put on a wire
abbrev pub resets_on : ℕ → Option (End × Saying) → Bool
resets_on h (Some (e, Puts lpdu)) = (e.link == h) && is_rset_lpdu lpdu
resets_on h _ = false

-- an end of it came up with this number
abbrev pub begins_on : ℕ → ℕ → Option (End × Saying) → Bool
begins_on h n (Some (e, Begins k)) = (e.link == h) && (k == n)
begins_on h n _ = false

-- what was noted since an end of the link with this host first came up with a number
abbrev pub since_up : ℕ → ℕ → List Entry → List Entry
since_up h n [] = []
since_up h n (x ∷ t) = if begins_on h n (said x) then t else since_up h n t

-- a frame of the link was lost
abbrev pub has_lost : ℕ → List Entry → Bool
has_lost h t = list_any (λ x. loses_on h (said x)) t

-- RNR was put on a wire of it
abbrev pub has_rnr : ℕ → List Entry → Bool
has_rnr h t = list_any (λ x. rejects_on h (said x)) t

-- RSET was put on a wire of it
abbrev pub has_rset : ℕ → List Entry → Bool
has_rset h t = list_any (λ x. resets_on h (said x)) t

-- Both ends of a link are up with a number, since the first of them came up with it no frame was lost and no RNR put on it, and both
-- wires are empty.
pub record IsReadQuiet (t : List Entry) (e : End) (n : ℕ) : Type 0 where
  pub here : session_number t e ≡ Some n
  pub there : session_number t (other_end e) ≡ Some n
  pub lossless : has_lost e.link (since_up e.link n t) ≡ false
  pub ready : has_rnr e.link (since_up e.link n t) ≡ false
  pub to_here : wire_to t e ≡ []
  pub to_there : wire_to t (other_end e) ≡ []

-- what an end sent in a session has come, as far as it is good, and all of it is acknowledged
pub record IsDelivered (t : List Entry) (e : End) (n : ℕ) : Type 0 where
  pub got : got_in t (other_end e) n ≡ good_of (sent_in t e n)
  pub acked : acked_in t e n ≡ length (sent_in t e n)

-- a quiet link has delivered all
abbrev pub IsComplete : List Entry → Type 0
IsComplete t = (e : End) (n : ℕ) → IsReadQuiet t e n → IsDelivered t e n

-- that holds at the end of each event
abbrev pub Complete : History → Type 0
Complete t = (front back : List Event) → all_events t ≡ front ++ back → IsComplete (t.opening ++ entries_of front)

-- ## Settled

-- Whether an end waits for the answer to a reset, after an entry: it does once RSET went out of it, until its session begins or it gives up.
abbrev pub waits_after : End → Bool → Entry → Bool
waits_after e waits (Emit f lpdu) = if same_end f e && is_rset_lpdu lpdu then true else waits
waits_after e waits (Up f n) = if same_end f e then false else waits
waits_after e waits (GaveUp f tries) = if same_end f e then false else waits
waits_after e waits _ = waits

-- an end of a link whose nodes lose no power, and which isn't activated anew, waits for the answer to a reset
abbrev pub waits_in : List Entry → End → Bool
waits_in t e = fold (waits_after e) false t

-- After these events an end was reset while the other one didn't wait for the answer to a reset; since then, in these events behind it, no
-- frame of the link was lost and no other RSET put on it, and now both its wires are empty.
pub record IsReadSettled (opening : List Entry) (before : List Event) (reset : Event) (behind : List Event) (e : End) (window : Option ℕ) : Type 0 where
  pub cause : reset.cause ≡ WasReset e window
  pub other : waits_in (opening ++ entries_of before) (other_end e) ≡ false
  pub lossless : has_lost e.link (entries_of (reset ∷ behind)) ≡ false
  pub alone : has_rset e.link (entries_of behind) ≡ false
  pub to_here : wire_to (opening ++ entries_of (before ++ reset ∷ behind)) e ≡ []
  pub to_there : wire_to (opening ++ entries_of (before ++ reset ∷ behind)) (other_end e) ≡ []

-- both ends of a link are up with one number
pub record AreReadUpTogether (t : List Entry) (e : End) : Type 0 where
  pub number : ℕ
  pub here : session_number t e ≡ Some number
  pub there : session_number t (other_end e) ≡ Some number

-- a reset whose answer nothing kept back has brought both ends up
abbrev pub Settled : History → Type 0
Settled t =
    (before : List Event) (reset : Event) (behind back : List Event) (e : End) (window : Option ℕ)
    → all_events t ≡ before ++ (reset ∷ behind ++ back)
    → IsReadSettled t.opening before reset behind e window
    → AreReadUpTogether (t.opening ++ entries_of (before ++ reset ∷ behind)) e

-- an entry says that a session ended by packets that can't be joined
abbrev pub is_chain_fault : Entry → Bool
is_chain_fault (Down e Chain) = true
is_chain_fault _ = false

-- ## Legal

-- a legal history
pub record Legal (t : History) : Type 0 where
  pub in_order : Prefix t
  pub complete : Complete t
  pub settled : Settled t
  pub joined : list_any is_chain_fault (all_entries t) ≡ false
