-- What each line of a schedule causes, and when a history follows a schedule.
use Rattle.std.specs.Prelude.{◌≡◌, ℕ, nat_lt, min, if◌then◌else◌, true, false, List, [], ◌∷◌, ◌++◌, length, replicate, slice_index, Option, Some, None}
use Rattle.std.specs.Prelude.{unwrap_or}
use Rattle.swp_lpdu.specs.Controls.{lpdu_of}
use Rattle.swp_frame.specs.Stuffing.{frame_of}
use Rattle.trace_model.specs.declared.entry.Entry.{Entry}
use Rattle.trace_model.specs.declared.entry.Entry.TheVariants.{Up}
use Rattle.trace_model.specs.declared.entry.NoCause.{NoCause}
use Rattle.trace_model.specs.declared.entry.NoCause.TheVariants as no
use Rattle.trace_model.specs.declared.line.End.{End}
use Rattle.trace_model.specs.declared.line.Header.{Header}
use Rattle.trace_model.specs.declared.line.Line.{Line}
use Rattle.trace_model.specs.declared.line.Line.TheVariants as line
use Rattle.link_laws.specs.sessions.Sessions.{OnWire}
use Rattle.link_laws.specs.machine.Machine.{LinkEnd, Refused as EndRefused, give_refusal, reset_refusal}
use Rattle.link_laws.specs.machine.Machine.Refused.{NotUp, TooLong, Full, Inactive, IsWaiting}
use Rattle.link_laws.specs.messages.Links.{Link, exchanged}
use Rattle.link_laws.specs.messages.Links.Loss.{OnDemand}
use Rattle.link_laws.specs.entries.Entries.End.{Controller, Host}
use Rattle.history.specs.Histories.{Cause, Outcome, Step, History, events_of, causes_of, all_events}
use Rattle.history.specs.Histories.Cause.{Given, Taken, WasLost, Ticked, WasReset, Readied}
use Rattle.history.specs.Histories.Outcome.{Refused, Caused}
use Rattle.history.specs.Damage.{Verdict, verdict_on}
use Rattle.history.specs.Damage.Verdict.{Same, LostFor, Undetected}
use Rattle.history.specs.Steps.{end_of, bare_link, link_after_all, events_at}

-- the link as an end sees it, its own side as the controller's
abbrev pub seen_from : End → Link → Link
seen_from e l = if e.at_host then exchanged l else l

-- the machine of an end
abbrev pub machine_of : Link → End → LinkEnd
machine_of l e = (seen_from e l).controller.side

-- the frames that are on their way to it
abbrev pub frames_to : Link → End → List OnWire
frames_to l e = (seen_from e l).to_controller

-- ## Refusals

-- why an end of a bare link refuses, as it is noted; such an end is never inactive
abbrev pub noted_as : EndRefused → NoCause
noted_as NotUp = no.NotUp
noted_as (TooLong len) = no.TooLong
noted_as (Full need spare) = no.Full need spare
noted_as Inactive = no.Inactive
noted_as IsWaiting = no.Waiting

-- where an end refuses, the line is refused for it
abbrev pub as_noted : Option EndRefused → Option NoCause
as_noted None = None
as_noted (Some why) = Some (noted_as why)

-- no frame stands on a wire
abbrev pub if_empty : List OnWire → Option NoCause
if_empty [] = Some no.Empty
if_empty (x ∷ xs) = None

-- one of these places is past a frame of so many bits
abbrev pub if_beyond : ℕ → List ℕ → Option NoCause
if_beyond bits [] = None
if_beyond bits (place ∷ places) = if nat_lt place bits then if_beyond bits places else Some (no.Beyond bits)

-- no frame stands on a wire, or one of these places is past the first
abbrev pub if_out_of_reach : List OnWire → List ℕ → Option NoCause
if_out_of_reach [] places = Some no.Empty
if_out_of_reach (x ∷ xs) places = if_beyond (length (frame_of (lpdu_of x.frame))) places

-- Why a line is refused on a link: the first cause that applies. The lines of a world with nodes aren't in a bare one.
abbrev pub refusal : Link → Line → Option NoCause
refusal l (line.Send e pid message) = as_noted (give_refusal (machine_of l e) (pid, message))
refusal l (line.Deliver e count) = if_empty (frames_to l e)
refusal l (line.Lose e) = if_empty (frames_to l e)
refusal l (line.Damage e places) = if_out_of_reach (frames_to l e) places.items
refusal l (line.Tick times) = None
refusal l (line.Reset e window) = as_noted (reset_refusal (machine_of l e))
refusal l (line.Busy e) = None
refusal l (line.Ready e) = None
refusal l (line.Boot node) = None
refusal l (line.Cut node) = None
refusal l (line.Activate host sync power) = None
refusal l (line.Arm node nth fill) = None
refusal l (line.Init e identity pipes) = None
refusal l (line.Tables node) = None
refusal l (line.Settle rounds) = None

-- ## What a line causes

-- how many frames a line takes of those that stand on a wire as it begins: so many, or all
abbrev pub taken_of : Option ℕ → List OnWire → ℕ
taken_of None wire = length wire
taken_of (Some n) wire = min n (length wire)

-- what is read of the first frame of a wire where it was damaged at these places
abbrev pub first_verdict : List OnWire → List ℕ → Option Verdict
first_verdict [] places = None
first_verdict (x ∷ xs) places = Some (verdict_on (lpdu_of x.frame) places)

-- a damaged frame is taken as it was, or lost
abbrev pub damage_causes : End → Option Verdict → List Cause
damage_causes e None = []
damage_causes e (Some Same) = Taken e ∷ []
damage_causes e (Some (LostFor why)) = WasLost e why ∷ []
damage_causes e (Some (Undetected read)) = []

-- the causes of a line that isn't refused, one after another
abbrev pub causes_in : Link → Line → List Cause
causes_in l (line.Send e pid message) = Given e (pid, message) ∷ []
causes_in l (line.Deliver e count) = replicate (taken_of count (frames_to l e)) (Taken e)
causes_in l (line.Lose e) = WasLost e OnDemand ∷ []
causes_in l (line.Damage e places) = damage_causes e (first_verdict (frames_to l e) places.items)
causes_in l (line.Tick times) = replicate (unwrap_or times 1) Ticked
causes_in l (line.Reset e window) = WasReset e window ∷ []
causes_in l (line.Busy e) = Readied e false ∷ []
causes_in l (line.Ready e) = Readied e true ∷ []
causes_in l (line.Boot node) = []
causes_in l (line.Cut node) = []
causes_in l (line.Activate host sync power) = []
causes_in l (line.Arm node nth fill) = []
causes_in l (line.Init e identity pipes) = []
causes_in l (line.Tables node) = []
causes_in l (line.Settle rounds) = []

-- what becomes of a line on the link with this host
abbrev pub outcome_of : ℕ → Link → Line → Outcome
outcome_of h l line = decide (refusal l line) where
  decide : Option NoCause → Outcome
  decide (Some cause) = Refused cause
  decide None = Caused (events_at h l (causes_in l line))

-- the frame that was read, where it is another one
abbrev pub other_frame : Option Verdict → Option (List ℕ)
other_frame None = None
other_frame (Some Same) = None
other_frame (Some (LostFor why)) = None
other_frame (Some (Undetected read)) = Some read

-- The frame that is read in place of the first one on its way to an end, where a line damages that one so that its CRC doesn't
-- show it. Such a line has no outcome.
abbrev pub misread : Link → Line → Option (List ℕ)
misread l (line.Damage e places) = unless_refused (refusal l (line.Damage e places)) where
  unless_refused : Option NoCause → Option (List ℕ)
  unless_refused (Some cause) = None
  unless_refused None = other_frame (first_verdict (frames_to l e) places.items)
misread l _ = None

-- ## Schedules

-- both ends of the link of a bare world start up in session 0
abbrev pub opening_of : ℕ → List Entry
opening_of h = Up (end_of h Controller) 0 ∷ Up (end_of h Host) 0 ∷ []

-- the host of the link of a bare world
abbrev pub host_of : Header → ℕ
host_of header = slice_index header.hosts.items 0

-- the link after a line: the causes of its events, one after another
abbrev pub link_after_line : Link → Outcome → Link
link_after_line l outcome = link_after_all l (causes_of (events_of outcome))

-- the link after these lines, one after another
abbrev pub link_after_lines : ℕ → Link → List Line → Link
link_after_lines h l [] = l
link_after_lines h l (line ∷ lines) = link_after_lines h (link_after_line l (outcome_of h l line)) lines

-- the steps are those of the lines, each on the link that those before it left
abbrev pub StepsFollow : ℕ → Link → List Line → List Step → Type 0
StepsFollow h l [] [] = Unit {0}
StepsFollow h l [] (step ∷ steps) = ⊥
StepsFollow h l (line ∷ lines) [] = ⊥
StepsFollow h l (line ∷ lines) (step ∷ steps) =
    (step.line ≡ line) × (step.outcome ≡ outcome_of h l line) × (misread l line ≡ None)
    × StepsFollow h (link_after_line l step.outcome) lines steps

-- A history of a bare world follows a schedule: each line in order, refused exactly where `refusal` says so, and else followed by
-- exactly the events that it causes. No line damages a frame so that another one is read.
pub record Follows (header : Header) (lines : List Line) (t : History) : Type 0 where
  pub header_is : t.header ≡ header
  pub opening_is : t.opening ≡ opening_of (host_of header)
  pub steps_follow : StepsFollow (host_of header) bare_link lines t.steps

-- the link as a history leaves it: a fold over the causes of its events
abbrev pub link_at : History → Link
link_at t = link_after_all bare_link (causes_of (all_events t))

-- the history of a header alone
abbrev pub opened : Header → History
opened header = record { header = header; opening = opening_of (host_of header); steps = [] }

-- a history with one line more
abbrev pub with_step : History → Line → History
with_step t line = record t { steps = t.steps ++ record { line = line; outcome = outcome_of (host_of t.header) (link_at t) line } ∷ [] }
