-- What the definition of a link keeps of a session is what the filters read.
use Rattle.std.specs.Prelude.{◌≡◌, ℕ, if◌then◌else◌, List, Option, Some, None}
use Rattle.std.specs.List.{fold}
use Rattle.shdlc_core.specs.declared.answers.LinkState.{LinkState}
use Rattle.shdlc_core.specs.declared.answers.LinkState.TheVariants.{Down as IsDown, Waiting as IsWaiting, Up as IsUp}
use Rattle.link_laws.specs.machine.Machine.{messages_got, whole_among}
use Rattle.link_laws.specs.messages.Links.{NumberedEnd, Talk, number_of}
use Rattle.link_laws.specs.entries.Entries.{End, Entry}
use Rattle.link_laws.specs.entries.Entries.Entry.{Up, Down, Cut}
use Rattle.link_laws.specs.entries.Filters.{same_link_end, sent_noted, got_noted, acked_noted}

-- the entries of an end in the session with a number say what is kept of it there: the messages sent and got, and how many are
-- acknowledged whole
pub record IsRead (t : List Entry) (who : End) (n : ℕ) (talk : Talk) : Type 0 where
  pub sent : sent_noted t who n ≡ talk.sent
  pub got : got_noted t who n ≡ messages_got talk.session
  pub acked : acked_noted t who n ≡ whole_among talk.sent talk.session.acked

-- the session of an end after one more entry: one with this number begins there, or its session ends, or its node loses power
abbrev pub hear : End → Option ℕ → Entry → Option ℕ
hear who s (Up w n) = if same_link_end w who then Some n else s
hear who s (Down w cause) = if same_link_end w who then None else s
hear who s (Cut w) = if same_link_end w who then None else s
hear who s _ = s

-- the number of the session that an end has behind these entries, where it has one
abbrev pub session_in : List Entry → End → Option ℕ
session_in t who = fold (hear who) None t

-- the number of the session that an end has, if it is up
abbrev pub number_now : NumberedEnd → Option ℕ
number_now h = by_phase h.side.shdlc.phase where
  by_phase : LinkState → Option ℕ
  by_phase IsUp = Some (number_of h)
  by_phase IsWaiting = None
  by_phase IsDown = None
