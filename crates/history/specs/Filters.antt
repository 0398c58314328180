-- What can be read off the entries of a history: filters and folds, and nothing else.
use Rattle.std.specs.Prelude.{ℕ, ◌==◌, ◌&&◌, Bool, true, false, not, if◌then◌else◌, max, List, [], ◌∷◌, ◌++◌, drop, Option, Some, None}
use Rattle.std.specs.List.{filter_map, fold}
use Rattle.trace_model.specs.declared.entry.Entry.{Entry}
use Rattle.trace_model.specs.declared.entry.Entry.TheVariants as entry
use Rattle.trace_model.specs.declared.line.End.{End}
use Rattle.trace_model.specs.Ends.{other_end}
use Rattle.link_laws.specs.machine.Machine.{Message}

abbrev pub same_side : Bool → Bool → Bool
same_side true b = b
same_side false b = not b

-- the two are one end
abbrev pub same_end : End → End → Bool
same_end e f = (e.link == f.link) && same_side e.at_host f.at_host

-- what an entry says of a link at one of its ends
pub data Saying : Type 0 where
  -- a session with this number begins there, or the present one ends
  Begins : ℕ → Saying
  Ends : Saying
  -- a message was sent, or got, in the session with this number, or so many that were sent in it are acknowledged
  Sends : ℕ → Message → Saying
  Gets : ℕ → Message → Saying
  Counts : ℕ → ℕ → Saying
  -- a frame of these bytes is put on the wire by the end, taken by it, or lost on its way to it
  Puts : List ℕ → Saying
  Takes : List ℕ → Saying
  Loses : List ℕ → Saying

-- What an entry says of a link, and at which end; each entry is named, so that none is passed over unseen.
abbrev pub said : Entry → Option (End × Saying)
said (entry.Up e n) = Some (e, Begins n)
said (entry.Down e cause) = Some (e, Ends)
said (entry.Sent e n pid message) = Some (e, Sends n (pid, message))
said (entry.Got e n pid message) = Some (e, Gets n (pid, message))
said (entry.Acked e n count) = Some (e, Counts n count)
said (entry.Emit e lpdu) = Some (e, Puts lpdu)
said (entry.Took e lpdu) = Some (e, Takes lpdu)
said (entry.Lost e lpdu cause) = Some (e, Loses lpdu)
said (entry.Head header) = None
said (entry.Echo line) = None
said (entry.Active e) = None
said (entry.GaveUp e tries) = None
said (entry.Turn e pid message) = None
said (entry.Held e need spare) = None
said (entry.Ask host message) = None
said (entry.Dropped e pid) = None
said (entry.Command node command) = None
said (entry.AnyOk node count) = None
said (entry.InitSame e) = None
said (entry.InitMade e count) = None
said (entry.InitFailed e code) = None
said (entry.Cut node) = None
said (entry.Booted node count) = None
said (entry.Tables node tables) = None
said (entry.Settled rounds) = None
said (entry.No cause) = None

-- what is said of an end, if it is said of this one
abbrev pub at_end : End → Option (End × Saying) → Option Saying
at_end e None = None
at_end e (Some (f, saying)) = if same_end f e then Some saying else None

-- what an entry says of an end
abbrev pub said_of : End → Entry → Option Saying
said_of e entry = at_end e (said entry)

-- the message that was sent in this session
abbrev pub sent_by : ℕ → Option Saying → Option Message
sent_by n (Some (Sends k m)) = if k == n then Some m else None
sent_by n _ = None

-- the messages that an end sent in a session
abbrev pub sent_in : List Entry → End → ℕ → List Message
sent_in t e n = filter_map (λ entry. sent_by n (said_of e entry)) t

-- the message that was got in this session
abbrev pub got_in_session : ℕ → Option Saying → Option Message
got_in_session n (Some (Gets k m)) = if k == n then Some m else None
got_in_session n _ = None

-- the messages that an end got in a session
abbrev pub got_in : List Entry → End → ℕ → List Message
got_in t e n = filter_map (λ entry. got_in_session n (said_of e entry)) t

-- how many messages of the session are acknowledged after this was said, where so many were before
abbrev pub acked_after : ℕ → ℕ → Option Saying → ℕ
acked_after n before (Some (Counts k count)) = if k == n then max before count else before
acked_after n before _ = before

-- how many messages that an end sent in a session have been acknowledged: the greatest number noted
abbrev pub acked_in : List Entry → End → ℕ → ℕ
acked_in t e n = fold (λ before entry. acked_after n before (said_of e entry)) 0 t

-- the session of an end after this was said of it
abbrev pub session_after : Option ℕ → Option Saying → Option ℕ
session_after session (Some (Begins n)) = Some n
session_after session (Some Ends) = None
session_after session _ = session

-- the number of the session that an end has, if it is up
abbrev pub session_number : List Entry → End → Option ℕ
session_number t e = fold (λ session entry. session_after session (said_of e entry)) None t

-- The wire to an end after an entry, which says one thing of the end and another of the other end: what the other end puts
-- there stands behind what stands there, and what the end takes or what is lost on its way is the first frame.
abbrev pub wire_after : List (List ℕ) → Option Saying → Option Saying → List (List ℕ)
wire_after wire _ (Some (Puts lpdu)) = wire ++ lpdu ∷ []
wire_after wire (Some (Takes lpdu)) _ = drop 1 wire
wire_after wire (Some (Loses lpdu)) _ = drop 1 wire
wire_after wire _ _ = wire

-- The frames that are on their way to an end of a link whose nodes lose no power and which isn't activated anew, first the one
-- that it takes next.
abbrev pub wire_to : List Entry → End → List (List ℕ)
wire_to t e = fold (λ wire entry. wire_after wire (said_of e entry) (said_of (other_end e) entry)) [] t
