-- What a node sends, commits and resets outside turns, as it is read off events.
use Rattle.std.specs.Prelude.{ℕ, ◌+◌, ◌==◌, ◌&&◌, Bool, true, false, not, if◌then◌else◌, List, [], ◌∷◌, ◌++◌, is_some, Option, Result, Ok}
use Rattle.std.specs.List.{flat_map, filter, fold, list_any}
use Rattle.swp_base.specs.declared.control_frames.Control.{Control}
use Rattle.swp_base.specs.declared.control_frames.Control.TheVariants.{Act as ActFrame}
use Rattle.swp_base.specs.declared.control_frames.Act.TheVariants.{SyncId}
use Rattle.swp_base.specs.declared.link_terms.Cause.{Cause}
use Rattle.swp_base.specs.declared.link_terms.Cause.TheVariants.{Asked}
use Rattle.swp_lpdu.specs.declared.LpduFault.{LpduFault}
use Rattle.swp_lpdu.specs.Controls.{control_of}
use Rattle.trace_model.specs.declared.entry.Entry.{Entry}
use Rattle.trace_model.specs.declared.entry.Entry.TheVariants as entry
use Rattle.trace_model.specs.declared.line.End.{End}
use Rattle.hci_tables.specs.declared.command.Command.TheVariants.{Sync}
use Rattle.hci_tables.specs.Tables.{HciTables, is_kept_sync}
use Rattle.gate_answers.specs.declared.response.Response.TheVariants as response
use Rattle.history.specs.Filters.{same_end}
use Rattle.node_machine.specs.Parts.{Creation, Deed}
use Rattle.node_machine.specs.Parts.Deed.{Commits}
use Rattle.node_machine.specs.Node.{owed}
use Rattle.node_machine.specs.world.World.{Happening, node_of, end_c, sending, beginning}
use Rattle.node_machine.specs.world.World.Happening.{Gives, Inits, Ticks, Resets}
use Rattle.node_machine.specs.world.Lines.{Occurrence}
use Rattle.node_machine.specs.world.NodeHistories.{entries_in}
use Rattle.node_machine.specs.world.NodeFilters.{tables_in, is_notice, notice_in, session_now}
use Rattle.node_laws.specs.answers.Moments.{creation_read}

-- ## Sessions that end

-- an end was reset
abbrev pub is_own_reset : Cause → Bool
is_own_reset Asked = true
is_own_reset _ = false

-- the session of an end ends for a cause that passes a test
abbrev pub ends_session : (Cause → Bool) → End → Entry → Bool
ends_session test e (entry.Down f cause) = same_end f e && test cause
ends_session test e _ = false

-- it ends by a reset of the end
abbrev pub is_reset_down : End → Entry → Bool
is_reset_down e x = ends_session is_own_reset e x

-- any session ends
abbrev pub is_down : Entry → Bool
is_down (entry.Down e cause) = true
is_down _ = false

-- the entries of an event that tell of sessions that end
abbrev pub down_in : Occurrence → List Entry
down_in o = filter is_down o.entries

-- the session of the controller's end on the link with this host ends in an event
abbrev pub goes_down : Occurrence → ℕ → Bool
goes_down o h = list_any (ends_session (λ cause. true) (end_c h)) o.entries

-- ## Ages of notices

abbrev pub is_tick : Happening → Bool
is_tick Ticks = true
is_tick _ = false

-- a notice is sent to this host
abbrev pub notifies : ℕ → Entry → Bool
notifies h (entry.Sent e n pid message) = same_end e (end_c h) && pid == 1 && is_notice message
notifies h _ = false

-- the ticks since a notice was sent to this host, after an event
abbrev pub age_after : ℕ → ℕ → Occurrence → ℕ
age_after h age o = if list_any (notifies h) o.entries then 0 else (if is_tick o.cause then age + 1 else age)

-- the ticks since the last notice was sent to this host: while that isn't answered the controller runs
abbrev pub age_in : List Occurrence → ℕ → ℕ
age_in past h = fold (age_after h) 0 past

-- an event is the hundredth tick of the unanswered notice to this host, and the session there doesn't end otherwise
abbrev pub is_late_in : List Occurrence → Occurrence → ℕ → Bool
is_late_in past o h =
    is_tick o.cause && is_some (notice_in (entries_in past) h) && age_in past h == 99
    && not (list_any (ends_session (λ cause. not (is_own_reset cause)) (end_c h)) o.entries)

-- ## What is due

-- the creation for which this host is asked, and which waits behind all sessions that end in an event
abbrev pub still_asked : List Occurrence → Occurrence → ℕ → Option Creation
still_asked past o h = creation_read (entries_in past ++ down_in o) (notice_in (entries_in past) h)

-- ANY_E_NOT_CONNECTED to askers, where the session of the host that is asked ends, and then ANY_E_TIMEOUT where its notice is late
abbrev pub owed_in : List ℕ → List Occurrence → Occurrence → List Deed
owed_in hosts past o =
    flat_map (λ h. owed response.NotConnected (still_asked past o h)) (filter (λ h. goes_down o h && not (is_late_in past o h)) hosts)
    ++ flat_map (λ h. owed response.Timeout (still_asked past o h)) (filter (is_late_in past o) hosts)

-- a controller takes ACT_SYNC_ID, which doesn't ask for the last frame again, with an identifier that isn't the kept one
abbrev pub new_sync : HciTables → Entry → List Deed
new_sync t (entry.Took e lpdu) = if e.at_host then [] else by_frame (control_of lpdu) where
  by_frame : Result Control LpduFault → List Deed
  by_frame (Ok (ActFrame (SyncId id) false)) = if is_kept_sync t.syncs e.link id then [] else Commits (Sync e.link id) ∷ []
  by_frame _ = []
new_sync t _ = []

-- a host sends a message, or its init begins
abbrev pub begun_at : ℕ → Happening → List Deed
begun_at n (Gives e m) = if node_of e == n then sending n m else []
begun_at n (Inits e identity pipes) = if node_of e == n then beginning identity pipes else []
begun_at n _ = []

-- What a node does in an event before its first turn.
abbrev pub due : List ℕ → List Occurrence → Occurrence → ℕ → List Deed
due hosts past o n =
    begun_at n o.cause ++ (if n == 0 then flat_map (new_sync (tables_in (entries_in past) 0)) o.entries ++ owed_in hosts past o else [])

-- an end that is up is reset: a line asks for it, or a notice is late
abbrev pub is_reset_due : List Occurrence → Occurrence → End → Bool
is_reset_due past o e = by_cause o.cause where
  by_cause : Happening → Bool
  by_cause (Resets f window) = same_end f e && is_some (session_now (entries_in past) e (node_of e))
  by_cause Ticks = not e.at_host && is_late_in past o e.link
  by_cause _ = false
