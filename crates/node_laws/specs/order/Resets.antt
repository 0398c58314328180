-- A reset whose answer nothing withheld brings both ends of its link up, all as a history of nodes tells it: one that a line asks for, and
-- one in a tick, for a notice that is late.
use Rattle.std.specs.Prelude.{◌≡◌, ℕ, ◌==◌, ◌&&◌, ◌||◌, Bool, true, false, not, if◌then◌else◌, List, [], ◌∷◌, ◌++◌, Option, Some, Result, Ok, Err}
use Rattle.std.specs.List.{list_any}
use Rattle.swp_base.specs.declared.control_frames.Control.{Control}
use Rattle.swp_lpdu.specs.declared.LpduFault.{LpduFault}
use Rattle.swp_lpdu.specs.Controls.{control_of}
use Rattle.trace_model.specs.declared.entry.Entry.{Entry}
use Rattle.trace_model.specs.declared.entry.Entry.TheVariants as entry
use Rattle.trace_model.specs.declared.entry.LostCause.TheVariants as lost
use Rattle.trace_model.specs.declared.line.End.{End}
use Rattle.trace_model.specs.Ends.{other_end}
use Rattle.link_laws.specs.places.Wire.{is_act}
use Rattle.history.specs.Filters.{Saying, same_end, said}
use Rattle.history.specs.Filters.Saying.{Loses}
use Rattle.history.specs.Legal.{is_rset_lpdu, resets_on}
use Rattle.node_machine.specs.world.World.{Happening, end_c, end_h}
use Rattle.node_machine.specs.world.World.Happening.{Loses as LosesFrame, Ticks, Resets, Activates}
use Rattle.node_machine.specs.world.Lines.{Occurrence}
use Rattle.node_machine.specs.world.NodeHistories.{NodeHistory, entries_in, occurrences_in}
use Rattle.node_laws.specs.telling.Standing.{Readiness, Standing, standing_behind}
use Rattle.node_laws.specs.order.Told.{AreBothUp}
use Rattle.node_laws.specs.answers.Unasked.{is_reset_down}

-- the power of a node of the link with this host is cut
abbrev pub cuts_on : ℕ → Entry → Bool
cuts_on h (entry.Cut n) = (n == 0) || (n == h)
cuts_on h _ = false

-- what was read of bytes is a frame of activation
abbrev pub is_act_read : Result Control LpduFault → Bool
is_act_read (Ok c) = is_act c
is_act_read (Err fault) = false

-- an LPDU is a frame of activation
abbrev pub is_act_lpdu : List ℕ → Bool
is_act_lpdu lpdu = is_act_read (control_of lpdu)

-- on the link with this host a frame was lost that isn't of activation
abbrev pub drops_on : ℕ → Option (End × Saying) → Bool
drops_on h (Some (e, Loses lpdu)) = (e.link == h) && not (is_act_lpdu lpdu)
drops_on h _ = false

-- a frame is noted as lost or damaged by a line, and not for its age, nor since its wire was full
abbrev pub is_lost_by_line : Entry → Bool
is_lost_by_line (entry.Lost e lpdu lost.Age) = false
is_lost_by_line (entry.Lost e lpdu lost.Full) = false
is_lost_by_line (entry.Lost e lpdu cause) = true
is_lost_by_line _ = false

-- a line loses a frame of the link with this host, or damages it
abbrev pub loses_at : ℕ → Happening → Bool
loses_at h (LosesFrame e why) = e.link == h
loses_at h _ = false

-- where this happens a frame of that link is lost, but of activation: by a line only where it is a line that loses one
abbrev pub loses_one_in : ℕ → Happening → Entry → Bool
loses_one_in h c e = drops_on h (said e) && (loses_at h c || not (is_lost_by_line e))

-- so it is, or RSET is put on the link
abbrev pub spoils_in : ℕ → Happening → Entry → Bool
spoils_in h c e = loses_one_in h c e || resets_on h (said e)

-- there are no frames on a wire but of activation
abbrev pub IsFreeOfLinkFrames : List (List ℕ) → Type 0
IsFreeOfLinkFrames wire = list_any (λ lpdu. not (is_act_lpdu lpdu)) wire ≡ false

-- what withholds the answer to a reset of it
abbrev pub withholds_in : ℕ → Happening → Entry → Bool
withholds_in h c e = cuts_on h e || spoils_in h c e

-- an event does
abbrev pub withheld_in : ℕ → Occurrence → Bool
withheld_in h o = list_any (withholds_in h o.cause) o.entries

-- activation of it begins
abbrev pub opens_on : ℕ → Happening → Bool
opens_on h (Activates k sync power) = h == k
opens_on h _ = false

-- how ready this end of a link is, as the link stands
abbrev pub ready_at : End → Standing → Readiness
ready_at e x = if e.at_host then x.far else x.near

-- RSET goes out of this end
abbrev pub asks_at : End → Entry → Bool
asks_at e (entry.Emit f lpdu) = same_end f e && is_rset_lpdu lpdu
asks_at e _ = false

-- Behind an event in which an end of the link with this host was reset no frame of the link was lost but of activation, no other RSET put on
-- it, no power of its nodes cut and no activation of it begun, and now both its wires hold no frames but of activation.
pub record IsLeftAlone (before : List Occurrence) (reset : Occurrence) (behind : List Occurrence) (h : ℕ) : Type 0 where
  pub undisturbed : list_any (withheld_in h) behind ≡ false
  pub unopened : list_any (λ (o : Occurrence). opens_on h o.cause) behind ≡ false
  pub to_controller : IsFreeOfLinkFrames (standing_behind h (before ++ reset ∷ behind)).to_controller
  pub to_host : IsFreeOfLinkFrames (standing_behind h (before ++ reset ∷ behind)).to_host

-- Behind the events before it an end was reset, as a line asked for, while the other end of its link was active and not waiting, and kept
-- its power; and nothing has withheld the answer.
pub record IsUpheld (before : List Occurrence) (reset : Occurrence) (behind : List Occurrence) (e : End) (window : Option ℕ) : Type 0 where
  pub cause : reset.cause ≡ Resets e window
  pub active : (ready_at (other_end e) (standing_behind e.link before)).active ≡ true
  pub free : (ready_at (other_end e) (standing_behind e.link before)).waits ≡ false
  pub powered : list_any (cuts_on e.link) reset.entries ≡ false
  pub left : IsLeftAlone before reset behind e.link

-- Such a reset has brought both ends up with one number.
abbrev pub ResetNodes : NodeHistory → Type 0
ResetNodes t =
    (before : List Occurrence) (reset : Occurrence) (behind back : List Occurrence) (e : End) (window : Option ℕ)
    → occurrences_in t ≡ before ++ (reset ∷ behind ++ back) → IsUpheld before reset behind e window
    → AreBothUp (entries_in (before ++ reset ∷ behind)) e.link

-- what is noted behind the entry by which the session of an end ends as the end is reset
abbrev pub behind_reset_of : End → List Entry → List Entry
behind_reset_of e [] = []
behind_reset_of e (x ∷ t) = if is_reset_down e x then t else behind_reset_of e t

-- Behind the events before it a tick came in which the session of the controller's end of the link with this host ended by a reset, as
-- where its notice was late, while the host's end was active and not waiting. In that tick no frame of the link was lost behind that, as one
-- that is too old is lost before it, but of activation; the host's end put no RSET on it and no power of its nodes was cut; and nothing has
-- withheld the answer.
pub record IsUpheldInTick (before : List Occurrence) (tick : Occurrence) (behind : List Occurrence) (h : ℕ) : Type 0 where
  pub cause : tick.cause ≡ Ticks
  pub reset : list_any (is_reset_down (end_c h)) tick.entries ≡ true
  pub active : (standing_behind h before).far.active ≡ true
  pub free : (standing_behind h before).far.waits ≡ false
  pub powered : list_any (cuts_on h) tick.entries ≡ false
  pub lossless : list_any (loses_one_in h tick.cause) (behind_reset_of (end_c h) tick.entries) ≡ false
  pub alone : list_any (asks_at (end_h h)) tick.entries ≡ false
  pub left : IsLeftAlone before tick behind h

-- Such a tick has brought both ends up with one number.
abbrev pub TickResetNodes : NodeHistory → Type 0
TickResetNodes t =
    (before : List Occurrence) (tick : Occurrence) (behind back : List Occurrence) (h : ℕ)
    → occurrences_in t ≡ before ++ (tick ∷ behind ++ back) → IsUpheldInTick before tick behind h
    → AreBothUp (entries_in (before ++ tick ∷ behind)) h
