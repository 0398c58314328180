-- What a history of a world of nodes tells of one of its links.
use Rattle.std.specs.Prelude.{◌≡◌, ℕ, false, List, [], map, Some}
use Rattle.trace_model.specs.declared.entry.Entry.{Entry}
use Rattle.trace_model.specs.declared.line.End.{End}
use Rattle.shdlc_core.specs.Machine.{is_waiting}
use Rattle.link_laws.specs.machine.Machine.{LinkEnd, is_open, messages_got, whole_among}
use Rattle.swp_lpdu.specs.Controls.{lpdu_of}
use Rattle.link_laws.specs.sessions.Sessions.{OnWire}
use Rattle.link_laws.specs.sessions.Losses.{Losses, sans}
use Rattle.link_laws.specs.messages.Links.{Talk, Link, LinkEvent, talk_of}
use Rattle.link_laws.specs.messages.Quiet.{losses_of}
use Rattle.link_laws.specs.messages.Settled.{IsSettled, sure_of}
use Rattle.link_laws.specs.entries.Entries.{entries}
use Rattle.link_laws.specs.entries.Sessions.{number_now as session_at}
use Rattle.history.specs.Filters.{sent_in, got_in, acked_in}
use Rattle.history.specs.Legal.{IsDelivered, since_up, has_lost, has_rnr}
use Rattle.history.specs.Steps.{entries_for}
use Rattle.node_machine.specs.world.World.{end_c, end_h}
use Rattle.node_machine.specs.world.Lines.{Occurrence}
use Rattle.node_machine.specs.world.NodeHistories.{entries_in}
use Rattle.node_machine.specs.world.NodeFilters.{session_now}
use Rattle.node_laws.specs.links.Runs.{IsRunOf, new_line}
use Rattle.node_laws.specs.telling.Telling.{of_link}
use Rattle.node_laws.specs.telling.Standing.{Readiness, Standing, new_standing, standing, standing_behind, standing_by_law}

-- Some events of the law of one link, each of which may happen, make the link with this host of a new one, what these entries tell
-- of it is what that law notes of them, and so they tell how it stands, with all cuts of the power of its nodes: from the beginning on, and
-- in the same way from any other standing on, so that the law notes no cut where these entries tell of none.
pub record IsLinkTold (h : ℕ) (l : Link) (t : List Entry) : Type 0 where
  pub events : List LinkEvent
  pub run : IsRunOf events l
  pub told : of_link h t ≡ of_link h (entries_for h (entries new_line events))
  pub stands : standing h new_standing t ≡ standing_by_law h new_standing (entries new_line events)
  pub stands_from : (x : Standing) → standing h x t ≡ standing_by_law h x (entries new_line events)

-- The session of each end of the link with this host is the one that is read off these entries: the number of it where the end is up,
-- and none where it isn't, as while its node doesn't run.
pub record AreSessionsRead (t : List Entry) (h : ℕ) (l : Link) : Type 0 where
  pub controller : session_now t (end_c h) 0 ≡ session_at l.controller
  pub host : session_now t (end_h h) h ≡ session_at l.host

-- the bytes of the frames on a wire
abbrev pub frames_on : List OnWire → List (List ℕ)
frames_on w = map (λ (x : OnWire). lpdu_of x.frame) w

-- The frames on both wires of the link with this host are those that are read off these events.
pub record AreWiresRead (events : List Occurrence) (h : ℕ) (l : Link) : Type 0 where
  pub to_controller : (standing_behind h events).to_controller ≡ frames_on l.to_controller
  pub to_host : (standing_behind h events).to_host ≡ frames_on l.to_host

-- of an end, whether activation of it is done, and whether it waits for the answer to a reset
abbrev pub readiness_of : LinkEnd → Readiness
readiness_of e = record { active = is_open e.role; waits = is_waiting e.shdlc }

-- It is so with both ends of the link with this host, as it is read off these events.
pub record AreEndsRead (events : List Occurrence) (h : ℕ) (l : Link) : Type 0 where
  pub controller : (standing_behind h events).near ≡ readiness_of l.controller.side
  pub host : (standing_behind h events).far ≡ readiness_of l.host.side

-- what an end has of a session is what is read off these entries: the messages sent and got, and how many are acknowledged whole
pub record IsReadOff (t : List Entry) (e : End) (n : ℕ) (talk : Talk) : Type 0 where
  pub sent : sent_in t e n ≡ talk.sent
  pub got : got_in t e n ≡ messages_got talk.session
  pub acked : acked_in t e n ≡ whole_among talk.sent talk.session.acked

-- Each end of the link with this host has of each session what is read off these entries.
pub record AreReadOff (t : List Entry) (h : ℕ) (l : Link) : Type 0 where
  pub controller : (n : ℕ) → IsReadOff t (end_c h) n (talk_of l.controller n)
  pub host : (n : ℕ) → IsReadOff t (end_h h) n (talk_of l.host n)

-- no frame of a link but of activation was lost and no RNR made since the first of its ends came up in the session that goes on, and both
-- wires hold none but of activation
pub record IsUntroubled (l : Link) (n : Losses) : Type 0 where
  pub lost : n.lost ≡ false
  pub rnr : n.rnr ≡ false
  pub to_controller : sans l.to_controller ≡ []
  pub to_host : sans l.to_host ≡ []

-- both ends of the link with this host are up in the session with this number, as it is read off these entries
pub record AreUpWith (t : List Entry) (h n : ℕ) : Type 0 where
  pub controller : session_now t (end_c h) 0 ≡ Some n
  pub host : session_now t (end_h h) h ≡ Some n

-- Where both ends of the link with this host are up in one session and the link is still, all that each end sent in that session has
-- come, all as it is noted.
pub record HasDelivered (t : List Entry) (h : ℕ) (l : Link) : Type 0 where
  pub to_host : (n : ℕ) → AreUpWith t h n → (events : List LinkEvent) → IsRunOf events l → IsUntroubled l (losses_of new_line events)
      → IsDelivered t (end_c h) n
  pub to_controller : (n : ℕ) → AreUpWith t h n → (events : List LinkEvent) → IsRunOf events l → IsUntroubled l (losses_of new_line events)
      → IsDelivered t (end_h h) n

-- Both ends of the link with this host are up in the session with this number; since the first of them came up in it no frame of the
-- link was lost and no RNR put on it; and both its wires are empty: all as it is read off these events.
pub record IsStillInSession (events : List Occurrence) (h n : ℕ) : Type 0 where
  pub up : AreUpWith (entries_in events) h n
  pub lossless : has_lost h (since_up h n (entries_in events)) ≡ false
  pub ready : has_rnr h (since_up h n (entries_in events)) ≡ false
  pub to_controller : (standing_behind h events).to_controller ≡ []
  pub to_host : (standing_behind h events).to_host ≡ []

-- Where that is so, each end of that link got all good messages that the other sent in that session, and all that were sent are
-- acknowledged: all as it is read off these events.
pub record HasDeliveredAll (events : List Occurrence) (h : ℕ) : Type 0 where
  pub to_host : (n : ℕ) → IsStillInSession events h n → IsDelivered (entries_in events) (end_c h) n
  pub to_controller : (n : ℕ) → IsStillInSession events h n → IsDelivered (entries_in events) (end_h h) n

-- they are so in one session
pub record AreBothUp (t : List Entry) (h : ℕ) : Type 0 where
  pub number : ℕ
  pub up : AreUpWith t h number

-- Where a reset put the last RSET on the link, nothing kept its answer back, and no frame is on its way but those of activation, both
-- ends are up in one session, as it is noted.
abbrev pub HasSettled : List Entry → ℕ → Link → Type 0
HasSettled t h l = (events : List LinkEvent) → IsRunOf events l → IsSettled l (sure_of new_line events) → AreBothUp t h
