-- What a cause does to the link of a bare world, and the entries that it gives.
use Rattle.std.specs.Prelude.{ℕ, true, false, not, if◌then◌else◌, List, [], ◌∷◌}
use Rattle.std.specs.List.{flat_map}
use Rattle.swp_base.specs.declared.link_terms.FrameFault.TheVariants as fault
use Rattle.swp_lpdu.specs.Controls.{lpdu_of}
use Rattle.trace_model.specs.declared.entry.Entry.{Entry}
use Rattle.trace_model.specs.declared.entry.Entry.TheVariants as entry
use Rattle.trace_model.specs.declared.entry.LostCause.{LostCause}
use Rattle.trace_model.specs.declared.entry.LostCause.TheVariants as lost
use Rattle.trace_model.specs.declared.line.End.{End}
use Rattle.link_laws.specs.machine.Machine.Role.{Bare}
use Rattle.link_laws.specs.machine.Machine.Turn.{Give, Hold, FetchMessage}
use Rattle.link_laws.specs.messages.Links.{Link, Loss, EndEvent, Node, LinkEvent, new_link, happens}
use Rattle.link_laws.specs.messages.Links.Ending.{GoesOut}
use Rattle.link_laws.specs.messages.Links.Comes.{NextFrame, AsksReset, NoInput}
use Rattle.link_laws.specs.messages.Links.Loss.{OnDemand, Broken, Unread, TooOld, TooMany}
use Rattle.link_laws.specs.messages.Links.EndEvent.{Step, Lose}
use Rattle.link_laws.specs.messages.Links.LinkEvent.{AtController, AtHost, Ticks}
use Rattle.link_laws.specs.entries.Entries.{End as Side, Entry as Noted, event_entries}
use Rattle.link_laws.specs.entries.Entries.End.{Controller, Host}
use Rattle.link_laws.specs.entries.Entries.Entry.{Up, Down, Active, GaveUp, Acked, Got, Sent, Emit, Took, Lost, Tick, Restarted, Cut}
use Rattle.history.specs.Histories.{Cause, Event}
use Rattle.history.specs.Histories.Cause.{Given, Taken, WasLost, Ticked, WasReset, Readied}

-- ## Causes

-- it happens at this end
abbrev pub at : End → EndEvent → LinkEvent
at e event = if e.at_host then AtHost event else AtController event

-- a node that does nothing of its own
abbrev pub idle : Node
idle = record { turns = []; ending = GoesOut }

-- What a cause is on the link. The node of a bare end does nothing with a message that came but to fetch it.
abbrev pub event_of : Cause → LinkEvent
event_of (Given e m) = at e (Step NoInput (Give m ∷ []) GoesOut)
event_of (Taken e) = at e (Step NextFrame (FetchMessage ∷ []) GoesOut)
event_of (WasLost e why) = at e (Lose why)
event_of Ticked = Ticks idle [] idle
event_of (WasReset e window) = at e (Step (AsksReset window) [] GoesOut)
event_of (Readied e ready) = at e (Step NoInput (Hold (not ready) ∷ []) GoesOut)

-- ## Entries

-- an end of the link with this host
abbrev pub end_of : ℕ → Side → End
end_of h Controller = record { link = h; at_host = false }
end_of h Host = record { link = h; at_host = true }

-- why a frame was lost, as it is noted
abbrev pub lost_as : Loss → LostCause
lost_as OnDemand = lost.Asked
lost_as (Broken (fault.Length bits)) = lost.Length
lost_as (Broken (fault.Alignment bits)) = lost.Alignment
lost_as (Broken (fault.Crc want got)) = lost.Crc
lost_as (Broken fault.Broken) = lost.Broken
lost_as Unread = lost.Nothing
lost_as TooOld = lost.Age
lost_as TooMany = lost.Full

-- The entry of the transcript for what is noted of the link with this host; there is none of a tick, and on a bare link nothing is
-- noted of activation and of cuts.
abbrev pub entry_of : ℕ → Noted → List Entry
entry_of h (Up who n) = entry.Up (end_of h who) n ∷ []
entry_of h (Down who cause) = entry.Down (end_of h who) cause ∷ []
entry_of h (Active who) = entry.Active (end_of h who) ∷ []
entry_of h (GaveUp who tries) = entry.GaveUp (end_of h who) tries ∷ []
entry_of h (Acked who n count) = entry.Acked (end_of h who) n count ∷ []
entry_of h (Got who n m) = entry.Got (end_of h who) n m.0 m.1 ∷ []
entry_of h (Sent who n m) = entry.Sent (end_of h who) n m.0 m.1 ∷ []
entry_of h (Emit who frame) = entry.Emit (end_of h who) (lpdu_of frame) ∷ []
entry_of h (Took who frame) = entry.Took (end_of h who) (lpdu_of frame) ∷ []
entry_of h (Lost who frame why) = entry.Lost (end_of h who) (lpdu_of frame) (lost_as why) ∷ []
entry_of h Tick = []
entry_of h (Restarted who) = []
entry_of h (Cut who) = []

-- the entries of the transcript for all that is noted
abbrev pub entries_for : ℕ → List Noted → List Entry
entries_for h notes = flat_map (entry_of h) notes

-- ## Steps

-- both ends of a bare link are up in session 0
abbrev pub bare_link : Link
bare_link = new_link Bare Bare

-- the link after a cause
abbrev pub link_after : Link → Cause → Link
link_after l c = happens l (event_of c)

-- the event of a cause on the link with this host
abbrev pub event_at : ℕ → Link → Cause → Event
event_at h l c = record { cause = c; entries = entries_for h (event_entries l (event_of c)) }

-- the link after these causes, one after another
abbrev pub link_after_all : Link → List Cause → Link
link_after_all l [] = l
link_after_all l (c ∷ cs) = link_after_all (link_after l c) cs

-- the events of these causes, one after another
abbrev pub events_at : ℕ → Link → List Cause → List Event
events_at h l [] = []
events_at h l (c ∷ cs) = event_at h l c ∷ events_at h (link_after l c) cs
