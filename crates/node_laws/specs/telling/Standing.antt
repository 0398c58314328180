-- How the link with one host stands, as it is read off what is noted: the session of each end, whether the end is active and whether it
-- waits for the answer to a reset, and the frames on both wires.
use Rattle.std.specs.Prelude.{◌≡◌, ℕ, ◌==◌, Bool, true, false, if◌then◌else◌, List, [], ◌∷◌, ◌++◌, drop, Option, Some, None}
use Rattle.std.specs.List.{fold}
use Rattle.trace_model.specs.declared.entry.Entry.{Entry}
use Rattle.trace_model.specs.declared.entry.Entry.TheVariants as entry
use Rattle.trace_model.specs.declared.line.End.{End}
use Rattle.link_laws.specs.messages.Links.{Link, LinkEvent}
use Rattle.link_laws.specs.entries.Entries.{End as Side, Entry as Noted, event_entries}
use Rattle.link_laws.specs.entries.Entries.End.{Controller, Host}
use Rattle.link_laws.specs.entries.Entries.Entry.{Cut}
use Rattle.history.specs.Filters.{Saying, said}
use Rattle.history.specs.Filters.Saying.{Begins, Ends, Puts, Takes, Loses}
use Rattle.history.specs.Legal.{is_rset_lpdu}
use Rattle.history.specs.Steps.{entry_of}
use Rattle.node_machine.specs.world.World.{Happening}
use Rattle.node_machine.specs.world.World.Happening.{Activates}
use Rattle.node_machine.specs.world.Lines.{Occurrence}

-- whether activation of an end is done, and whether the end waits for the answer to a reset
pub record Readiness : Type 0 where
  pub active : Bool
  pub waits : Bool

-- as it is while its node is off, and once activation has begun
abbrev pub inactive : Readiness
inactive = record { active = false; waits = false }

-- the number of the session of each end, while it has one, how ready each end is, and the frames on their way to each end, first the one
-- that it takes next
pub record Standing : Type 0 where
  pub controller : Option ℕ
  pub host : Option ℕ
  pub near : Readiness
  pub far : Readiness
  pub to_controller : List (List ℕ)
  pub to_host : List (List ℕ)

-- nothing was noted yet
abbrev pub new_standing : Standing
new_standing = record { controller = None; host = None; near = inactive; far = inactive; to_controller = []; to_host = [] }

-- ## After an entry

-- activation of the end is done
abbrev pub made_active : Readiness → Readiness
made_active r = record r { active = true }

-- its session begins, or it gives up: it waits no longer
abbrev pub no_longer_waits : Readiness → Readiness
no_longer_waits r = record r { waits = false }

-- this frame goes out of it: it waits, if that is RSET
abbrev pub with_frame_out : List ℕ → Readiness → Readiness
with_frame_out frame r = record r { waits = if is_rset_lpdu frame then true else r.waits }

-- this was said of the controller's end
abbrev pub said_near : Saying → Standing → Standing
said_near (Begins n) x = record x { controller = Some n; near = no_longer_waits x.near }
said_near Ends x = record x { controller = None }
said_near (Puts frame) x = record x { to_host = x.to_host ++ frame ∷ []; near = with_frame_out frame x.near }
said_near (Takes frame) x = record x { to_controller = drop 1 x.to_controller }
said_near (Loses frame) x = record x { to_controller = drop 1 x.to_controller }
said_near _ x = x

-- this was said of the host's end
abbrev pub said_far : Saying → Standing → Standing
said_far (Begins n) x = record x { host = Some n; far = no_longer_waits x.far }
said_far Ends x = record x { host = None }
said_far (Puts frame) x = record x { to_controller = x.to_controller ++ frame ∷ []; far = with_frame_out frame x.far }
said_far (Takes frame) x = record x { to_host = drop 1 x.to_host }
said_far (Loses frame) x = record x { to_host = drop 1 x.to_host }
said_far _ x = x

-- this was said of one of its ends, or of another link
abbrev pub stands_said : ℕ → Standing → Option (End × Saying) → Standing
stands_said h x None = x
stands_said h x (Some (e, s)) = if e.link == h then (if e.at_host then said_far s x else said_near s x) else x

-- the end of the controller, or of the host, becomes so ready
abbrev pub becomes_at : Bool → (Readiness → Readiness) → Standing → Standing
becomes_at false f x = record x { near = f x.near }
becomes_at true f x = record x { far = f x.far }

-- what an entry tells of it, but for cuts of power
abbrev pub stands_told : ℕ → Standing → Entry → Standing
stands_told h x (entry.Active e) = if e.link == h then becomes_at e.at_host made_active x else x
stands_told h x (entry.GaveUp e tries) = if e.link == h then becomes_at e.at_host no_longer_waits x else x
stands_told h x e = stands_said h x (said e)

-- the power of the node of one of its ends is cut: that end has no session and isn't active, and both wires are empty
abbrev pub without_power : Side → Standing → Standing
without_power Controller x = record x { controller = None; near = inactive; to_controller = []; to_host = [] }
without_power Host x = record x { host = None; far = inactive; to_controller = []; to_host = [] }

-- the power of this node is cut
abbrev pub after_power : ℕ → ℕ → Standing → Standing
after_power h n x = if n == 0 then without_power Controller x else (if n == h then without_power Host x else x)

abbrev pub stands_noted : ℕ → Standing → Entry → Standing
stands_noted h x (entry.Cut n) = after_power h n x
stands_noted h x e = stands_told h x e

-- activation of the link begins: both wires are empty
abbrev pub with_empty_wires : Standing → Standing
with_empty_wires x = record x { to_controller = []; to_host = [] }

-- as an event begins: activation of the link with the host k empties its wires
abbrev pub as_event_begins : ℕ → Happening → Standing → Standing
as_event_begins h (Activates k sync power) x = if h == k then with_empty_wires x else x
as_event_begins h _ x = x

-- activation of the link has begun: no end is active, and none waits
abbrev pub with_inactive_ends : Standing → Standing
with_inactive_ends x = record x { near = inactive; far = inactive }

-- as an event ends: activation of the link with the host k has begun at both its ends
abbrev pub as_event_ends : ℕ → Happening → Standing → Standing
as_event_ends h (Activates k sync power) x = if h == k then with_inactive_ends x else x
as_event_ends h _ x = x

-- ## After entries

-- how the link with this host stands behind these entries, where it stood so before
abbrev pub standing : ℕ → Standing → List Entry → Standing
standing h x t = fold (stands_noted h) x t

-- how it stands behind these events, from the beginning on
abbrev pub standing_behind : ℕ → List Occurrence → Standing
standing_behind h events = fold (λ x o. as_event_ends h o.cause (standing h (as_event_begins h o.cause x) o.entries)) new_standing events

-- how it stands by what the law of one link notes
abbrev pub law_noted : ℕ → Standing → Noted → Standing
law_noted h x (Cut who) = without_power who x
law_noted h x n = fold (stands_told h) x (entry_of h n)

abbrev pub standing_by_law : ℕ → Standing → List Noted → Standing
standing_by_law h x notes = fold (law_noted h) x notes

-- these entries tell how the link stands as that law tells it of an event there
abbrev pub StandsOf : ℕ → Link → LinkEvent → List Entry → Type 0
StandsOf h l event t = (x : Standing) → standing h x t ≡ standing_by_law h x (event_entries l event)
