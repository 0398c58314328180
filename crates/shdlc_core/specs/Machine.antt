-- The machine of one end of an SHDLC link (ETSI TS 102 613, section 10), over whole lists: every fragment of the session
-- that was offered and every one that was accepted, with places in these lists. Frames carry numbers modulo 8; the machine
-- keeps none. It is a function, so it computes. The timers, the tries and the window of 4 are this project's own.
use Rattle.std.specs.Prelude.{ℕ, zero, suc, ◌+◌, ◌-◌, ◌%◌, ◌==◌, ◌&&◌, ◌||◌, nat_lt, nat_le, Bool, true, false, not, if◌then◌else◌, List, [], ◌∷◌, ◌++◌, length}
use Rattle.std.specs.Prelude.{slice_get, Option, Some, None, max, min}
use Rattle.swp_base.specs.declared.control_frames.Control.{Control}
use Rattle.swp_base.specs.declared.control_frames.Control.TheVariants.{I, S, Rset, Ua}
use Rattle.swp_base.specs.declared.control_frames.Kind.{Kind}
use Rattle.swp_base.specs.declared.control_frames.Kind.TheVariants.{Rr, Rej, Rnr, Srej}
use Rattle.swp_base.specs.declared.link_terms.Cause.TheVariants.{NoAnswer, Peer}
use Rattle.shdlc_core.specs.declared.answers.LinkState.{LinkState}
use Rattle.shdlc_core.specs.declared.answers.LinkState.TheVariants.{Down, Waiting, Up}
use Rattle.shdlc_core.specs.declared.answers.OfferRefused.{OfferRefused}
use Rattle.shdlc_core.specs.declared.answers.OfferRefused.TheVariants.{NotUp, QueueFull}
use Rattle.shdlc_core.specs.declared.answers.Taken.{Taken}
use Rattle.shdlc_core.specs.declared.answers.Ticked.{Ticked}
use Rattle.shdlc_core.specs.declared.answers.Due.{Due}
use Rattle.shdlc_core.specs.declared.answers.Due.TheVariants.{Rr as Rr_due, Rej as Rej_due, Rnr as Rnr_due, Rset as Rset_due, Ua as Ua_due}

-- the bytes that one I frame carries
abbrev pub Fragment : Type 0
Fragment = List ℕ

-- Everything that an end keeps of a session, and drops with it.
pub record Session : Type 0 where
  -- at most so many fragments are sent and unacknowledged
  pub window : ℕ
  -- every fragment offered in this session
  pub out : List Fragment
  -- every fragment accepted in this session
  pub acc : List Fragment
  -- the place in `out` of the first fragment that isn't acknowledged
  pub acked : ℕ
  -- the place in `out` of the fragment to be sent next
  pub next : ℕ
  -- one past the greatest place of `out` that was ever sent, also where it counts as not sent now
  pub reached : ℕ
  -- the other end's busy state: it answered RNR
  pub peer_busy : Bool
  -- the first fragment that isn't acknowledged is to be sent once more, though the other end is busy
  pub probe : Bool
  -- a gap was found and rejected, and isn't closed
  pub gap_open : Bool
  -- RNR was answered since this end became not ready
  pub answered_rnr : Bool

-- One end of a link.
pub record EndState : Type 0 where
  pub phase : LinkState
  -- the window that this end asks for, until a reset names another
  pub own_window : ℕ
  -- this end takes fragments
  pub ready : Bool
  -- the control frames that were made and not yet fetched, in the order in which they were made
  pub due : List Due
  -- ticks: in Up since the acknowledgement timer T2 started, and 0 while it doesn't run; in Waiting since the last RSET
  pub timer : ℕ
  -- in Up how often T2 made the end send again; in Waiting how often RSET was sent
  pub tries : ℕ
  -- in Waiting the window of the last RSET that was taken since it began, and 4 where none came
  pub peer_window : ℕ
  pub session : Session

-- a session starts with the numbers 0 and empty lists
abbrev pub new_session : ℕ → Session
new_session w =
    record {
      window = w;
      out = [];
      acc = [];
      acked = 0;
      next = 0;
      reached = 0;
      peer_busy = false;
      probe = false;
      gap_open = false;
      answered_rnr = false;
    }

-- what an end that isn't Up has of a session: nothing
abbrev pub no_session : Session
no_session = new_session 0

-- a new end is Down and ready, and nothing is to be sent
abbrev pub new_end : ℕ → EndState
new_end w =
    record {
      phase = Down;
      own_window = w;
      ready = true;
      due = [];
      timer = 0;
      tries = 0;
      peer_window = 4;
      session = no_session;
    }

-- T2 runs while something is sent and unacknowledged, or the other end is busy and something waits
abbrev pub runs_timer : Session → Bool
runs_timer s = nat_lt s.acked s.next || (s.peer_busy && nat_lt s.next (length s.out))

-- where T2 doesn't run it stands at 0, so that it starts at 0 when it begins to run
abbrev pub with_timer : EndState → EndState
with_timer e = record e { timer = if runs_timer e.session then e.timer else 0 }

-- what waits to be fetched once the session, where there is one, has ended: its frames are dropped with it
abbrev pub due_left : LinkState → List Due → List Due
due_left Up due = []
due_left Down due = due
due_left Waiting due = due

-- an end begins to wait: RSET is sent for the first time, and nothing of a session is kept
abbrev pub waiting_from : EndState → EndState
waiting_from e =
    record e {
      phase = Waiting;
      due = due_left e.phase e.due ++ Rset_due ∷ [];
      timer = 0;
      tries = 1;
      peer_window = 4;
      session = no_session;
    }

-- an end is Up in a new session with this window
abbrev pub up_with : EndState → ℕ → EndState
up_with e w = record e { phase = Up; timer = 0; tries = 0; session = new_session w }

-- ## Sending

-- An end takes no fragment for sending where it isn't Up, or where four that were offered aren't acknowledged yet.
abbrev pub offer_refusal : EndState → Option OfferRefused
offer_refusal e = by_phase e.phase where
  by_phase : LinkState → Option OfferRefused
  by_phase Down = Some NotUp
  by_phase Waiting = Some NotUp
  by_phase Up = if nat_lt (length e.session.out) (e.session.acked + 4) then None else Some (QueueFull 4)

-- fragments stand at the end of those that an end, which is Up, is to send in this session. How many wait is the caller's
-- affair: the window alone limits what is sent.
abbrev pub put_out : EndState → List Fragment → EndState
put_out e fragments = record e { session = record e.session { out = e.session.out ++ fragments } }

-- A fragment that is offered stands at the end of those to be sent. A refusal changes nothing.
abbrev pub offered : EndState → Fragment → EndState
offered e info = unless (offer_refusal e) where
  unless : Option OfferRefused → EndState
  unless None = put_out e (info ∷ [])
  unless (Some _) = e

-- The fragment to be sent next: one inside the window. In the other end's busy state nothing is sent but the probe.
abbrev pub fragment_due : Session → Option Fragment
fragment_due s =
    if (not s.peer_busy || s.probe) && nat_lt s.next (s.acked + s.window) then slice_get s.out s.next else None

-- the number that this end expects next, which each of its I and S frames carries as N(R)
abbrev pub expected : Session → ℕ
expected s = length s.acc % 8

-- the frame that a control frame is when it is fetched; RSET has the end's own window and no capability
abbrev pub control_due : EndState → Due → Control
control_due e Rr_due = S Rr (expected e.session)
control_due e Rej_due = S Rej (expected e.session)
control_due e Rnr_due = S Rnr (expected e.session)
control_due e Rset_due = Rset e.own_window 0
control_due e Ua_due = Ua

-- the session after the fragment to be sent next went out
abbrev pub sent_next : Session → Session
sent_next s = record s { next = s.next + 1; reached = max s.reached (s.next + 1); probe = false }

-- The frame that is sent now: first the control frames in the order in which they were made, then the fragments.
abbrev pub frame_due : EndState → Option Control
frame_due e = first e.due where
  as_frame : Option Fragment → Option Control
  as_frame None = None
  as_frame (Some info) = Some (I (e.session.next % 8) (expected e.session) info)

  first : List Due → Option Control
  first [] = as_frame (fragment_due e.session)
  first (d ∷ ds) = Some (control_due e d)

-- the end after that frame was fetched
abbrev pub fetched : EndState → EndState
fetched e = first e.due where
  sent : Option Fragment → EndState
  sent None = e
  sent (Some _) = record e { session = sent_next e.session }

  first : List Due → EndState
  first [] = sent (fragment_due e.session)
  first (d ∷ ds) = record e { due = ds }

-- ## Taking frames

-- The place that a taken N(R) means: the one from the first unacknowledged fragment to one past the last that was ever sent
-- in this session which has this number modulo 8. There is at most one, since these are at most five places. Where there
-- is none the number isn't valid, and the frame is ignored whole.
abbrev pub place_of : Session → ℕ → Option ℕ
place_of s nr =
    let x : ℕ = s.acked + (nr + (8 - s.acked % 8)) % 8 in
    if (x % 8 == nr) && nat_le x s.reached then Some x else None

-- A valid N(R) acknowledges all before its place. Where the acknowledged part grows, T2 starts again and the tries are 0.
abbrev pub acknowledged : EndState → ℕ → EndState
acknowledged e x =
    record e {
      session = record e.session { acked = x; next = max e.session.next x };
      timer = if nat_lt e.session.acked x then 0 else e.timer;
      tries = if nat_lt e.session.acked x then 0 else e.tries;
    }

-- RR also ends the other end's busy state
abbrev pub ready_again : EndState → ℕ → EndState
ready_again e x =
    let f : EndState = acknowledged e x in
    with_timer (record f { session = record f.session { peer_busy = false; probe = false } })

-- REJ ends it too, and all from its place on are sent again; T2 starts again
abbrev pub rejected : EndState → ℕ → EndState
rejected e x =
    let f : EndState = acknowledged e x in
    record f { timer = 0; session = record f.session { next = x; peer_busy = false; probe = false } }

-- RNR sets it, and all from its place on count as not sent; T2 starts again, and the tries are 0
abbrev pub made_busy : EndState → ℕ → EndState
made_busy e x =
    let f : EndState = acknowledged e x in
    record f { timer = 0; tries = 0; session = record f.session { next = x; peer_busy = true; probe = false } }

-- how far an N(S) is ahead of the number expected, modulo 8: 0 is the fragment expected, 1 to 3 show a gap, and 4 to 7 are
-- a repeat
abbrev pub ahead : Session → ℕ → ℕ
ahead s ns = (ns + (8 - expected s)) % 8

-- the fragment expected is accepted, the gap is closed, and RR is answered
abbrev pub accepted : EndState → Fragment → EndState
accepted e info =
    record e {
      due = e.due ++ Rr_due ∷ [];
      session = record e.session { acc = e.session.acc ++ info ∷ []; gap_open = false };
    }

-- a gap is answered by REJ, once while it is open
abbrev pub gap_found : EndState → EndState
gap_found e =
    if e.session.gap_open
    then e
    else record e { due = e.due ++ Rej_due ∷ []; session = record e.session { gap_open = true } }

-- a repeat is answered by RR
abbrev pub repeated : EndState → EndState
repeated e = record e { due = e.due ++ Rr_due ∷ [] }

-- an end that isn't ready answers RNR, and discards what came
abbrev pub discarded : EndState → EndState
discarded e = record e { due = e.due ++ Rnr_due ∷ []; session = record e.session { answered_rnr = true } }

-- what an end does with the fragment of an I frame
abbrev pub received : EndState → ℕ → Fragment → EndState
received e ns info =
    if e.ready
    then (if ahead e.session ns == 0 then accepted e info else (if nat_lt (ahead e.session ns) 4 then gap_found e else repeated e))
    else discarded e

-- the fragment that it accepts
abbrev pub fragment_accepted : EndState → ℕ → Fragment → Option Fragment
fragment_accepted e ns info = if e.ready && (ahead e.session ns == 0) then Some info else None

-- An RSET in Waiting is answered by UA; the end goes on waiting and its timer runs on. When Up or Down it starts a new
-- session at once and is answered by UA. The window of the session is the lesser of both; above 4 counts as 4. One with
-- window 0 is ignored.
abbrev pub reset_taken : EndState → ℕ → EndState
reset_taken e w = if w == 0 then e else by_phase e.phase where
  begun : EndState
  begun = up_with (record e { due = due_left e.phase e.due ++ Ua_due ∷ [] }) (min e.own_window (min w 4))

  by_phase : LinkState → EndState
  by_phase Waiting = record e { due = e.due ++ Ua_due ∷ []; peer_window = min w 4 }
  by_phase Up = begun
  by_phase Down = begun

-- UA in Waiting makes the end Up. The window is the lesser of its own and that of the last RSET taken while it waited.
abbrev pub accepted_reset : EndState → EndState
accepted_reset e = up_with e (min e.own_window e.peer_window)

-- What an end does with a frame. An Up end takes I and S frames and RSET, a Waiting one RSET and UA, a Down one RSET alone.
-- SREJ is ignored whole, and so is a frame whose N(R) isn't valid. Frames of activation and of CLT aren't for this layer.
abbrev pub taken : EndState → Control → EndState
taken e c = by_phase e.phase c where
  at_place : (EndState → ℕ → EndState) → Option ℕ → EndState
  at_place f None = e
  at_place f (Some x) = f e x

  supervised : Kind → ℕ → EndState
  supervised Rr nr = at_place ready_again (place_of e.session nr)
  supervised Rej nr = at_place rejected (place_of e.session nr)
  supervised Rnr nr = at_place made_busy (place_of e.session nr)
  supervised Srej nr = e

  by_phase : LinkState → Control → EndState
  by_phase Up (I ns nr info) = at_place (λ f x. received (acknowledged f x) ns info) (place_of e.session nr)
  by_phase Up (S kind nr) = supervised kind nr
  by_phase Waiting Ua = accepted_reset e
  by_phase _ (Rset window caps) = reset_taken e window
  by_phase _ _ = e

-- What an end answers to a frame: why its session ended, where it did; whether one began; how many fragments were newly
-- acknowledged; and the fragment that was accepted, where one was. Here nothing of this happened.
abbrev pub nothing_taken : Taken
nothing_taken = record { ended = None; began = false; acked = 0; accepted = None }

-- so many fragments were newly acknowledged by the place of an N(R)
abbrev pub newly_acked : Session → Option ℕ → ℕ
newly_acked s None = 0
newly_acked s (Some x) = x - s.acked

abbrev pub take_answer : EndState → Control → Taken
take_answer e c = by_phase e.phase c where
  if_valid : Option ℕ → Option Fragment → Option Fragment
  if_valid None f = None
  if_valid (Some x) f = f

  by_kind : Kind → ℕ → ℕ
  by_kind Srej nr = 0
  by_kind Rr nr = newly_acked e.session (place_of e.session nr)
  by_kind Rej nr = newly_acked e.session (place_of e.session nr)
  by_kind Rnr nr = newly_acked e.session (place_of e.session nr)

  by_phase : LinkState → Control → Taken
  by_phase Up (I ns nr info) =
      record nothing_taken {
        acked = newly_acked e.session (place_of e.session nr);
        accepted = if_valid (place_of e.session nr) (fragment_accepted e ns info);
      }
  by_phase Up (S kind nr) = record nothing_taken { acked = by_kind kind nr }
  by_phase Up (Rset window caps) = if window == 0 then nothing_taken else record nothing_taken { ended = Some Peer; began = true }
  by_phase Down (Rset window caps) = if window == 0 then nothing_taken else record nothing_taken { began = true }
  by_phase Waiting Ua = record nothing_taken { began = true }
  by_phase _ _ = nothing_taken

-- ## Time

-- T2 makes the end send all that isn't acknowledged again, as far as the window allows; in the other end's busy state the
-- first such fragment alone
abbrev pub sent_again : EndState → EndState
sent_again e =
    record e {
      timer = 0;
      tries = e.tries + 1;
      session = record e.session { next = e.session.acked; probe = e.session.peer_busy };
    }

-- RSET is sent again
abbrev pub asked_again : EndState → EndState
asked_again e = record e { due = e.due ++ Rset_due ∷ []; timer = 0; tries = e.tries + 1 }

-- the end gives up waiting
abbrev pub given_up : EndState → EndState
given_up e = record e { phase = Down; timer = 0; tries = 0 }

-- what one tick does to a timer that runs: at the tenth tick something is due, which may be done five times
pub data Timed : Type 0 where
  -- nothing yet
  Runs : Timed
  -- the ten ticks are over, and a try is left
  Over : Timed
  -- the ten ticks are over, and no try is left
  Spent : Timed

abbrev pub timed : EndState → Timed
timed e = if nat_lt (e.timer + 1) 10 then Runs else (if nat_lt e.tries 5 then Over else Spent)

-- One tick. Where T2 is over after five tries the session ends, RSET is sent and the end waits. In Waiting RSET is sent
-- again after each ten ticks, five times in all; ten ticks after the fifth the end is Down.
abbrev pub ticked : EndState → EndState
ticked e = by_phase e.phase where
  counted : EndState
  counted = record e { timer = e.timer + 1 }

  in_up : Timed → EndState
  in_up Runs = counted
  in_up Over = sent_again e
  in_up Spent = waiting_from e

  in_waiting : Timed → EndState
  in_waiting Runs = counted
  in_waiting Over = asked_again e
  in_waiting Spent = given_up e

  by_phase : LinkState → EndState
  by_phase Down = e
  by_phase Waiting = in_waiting (timed e)
  by_phase Up = if runs_timer e.session then in_up (timed e) else e

-- What an end answers to a tick: why its session ended, where it did, and how many RSETs it sent in vain where it gave up.
abbrev pub nothing_ticked : Ticked
nothing_ticked = record { ended = None; gave_up = None }

abbrev pub tick_answer : EndState → Ticked
tick_answer e = by_phase e.phase where
  in_up : Timed → Ticked
  in_up Spent = record nothing_ticked { ended = Some NoAnswer }
  in_up Runs = nothing_ticked
  in_up Over = nothing_ticked

  in_waiting : Timed → Ticked
  in_waiting Spent = record nothing_ticked { gave_up = Some e.tries }
  in_waiting Runs = nothing_ticked
  in_waiting Over = nothing_ticked

  by_phase : LinkState → Ticked
  by_phase Down = nothing_ticked
  by_phase Waiting = in_waiting (timed e)
  by_phase Up = if runs_timer e.session then in_up (timed e) else nothing_ticked

-- ## What the node asks for

-- A reset ends the session, where there is one, sends RSET with the window named and waits. It is refused, and nothing
-- changes, exactly in Waiting.
abbrev pub is_waiting : EndState → Bool
is_waiting e = test e.phase where
  test : LinkState → Bool
  test Waiting = true
  test Down = false
  test Up = false

abbrev pub reset_with : EndState → ℕ → EndState
reset_with e w = if is_waiting e then e else waiting_from (record e { own_window = w })

-- The end is Down, and nothing of the session is kept. Its own window and its readiness are no part of the session.
abbrev pub stopped : EndState → EndState
stopped e = record e { phase = Down; due = []; timer = 0; tries = 0; session = no_session }

-- The end is Up in a given session, with its own window: both ends of a bare link begin so.
abbrev pub begun : EndState → EndState
begun e = up_with (record e { due = [] }) e.own_window

-- The end takes fragments from now on, or takes none. Only a change counts. An end that becomes ready and has answered RNR
-- in this session since it became not ready sends RR; with that the answer is forgotten.
abbrev pub with_ready : EndState → Bool → EndState
with_ready e r = change e.ready r where
  changed : EndState
  changed = record e { ready = r; session = record e.session { answered_rnr = false } }

  change : Bool → Bool → EndState
  change true true = e
  change false false = e
  change true false = changed
  change false true = if e.session.answered_rnr then record changed { due = e.due ++ Rr_due ∷ [] } else changed

-- ## One step

-- what may come to an end
pub data EndInput : Type 0 where
  -- it is put Up in a given session
  Begin : EndInput
  -- a fragment is offered
  Offer : Fragment → EndInput
  -- a frame comes from the other end
  Take : Control → EndInput
  Tick : EndInput
  -- a reset is asked for, with this window
  Reset : ℕ → EndInput
  Stop : EndInput
  SetReady : Bool → EndInput
  -- the next frame to be sent is fetched
  NextOut : EndInput

-- what the end answers
pub data EndOutput : Type 0 where
  NoAnswerDue : EndOutput
  OfferTaken : EndOutput
  OfferIsRefused : OfferRefused → EndOutput
  TookFrame : Taken → EndOutput
  TookTick : Ticked → EndOutput
  TookReset : Bool → EndOutput
  FetchedFrame : Option Control → EndOutput

-- The machine: the end after an input, and its answer.
abbrev pub end_step : EndState → EndInput → EndState × EndOutput
end_step e Begin = (begun e, NoAnswerDue)
end_step e (Offer info) = (offered e info, answer (offer_refusal e)) where
  answer : Option OfferRefused → EndOutput
  answer None = OfferTaken
  answer (Some why) = OfferIsRefused why
end_step e (Take c) = (taken e c, TookFrame (take_answer e c))
end_step e Tick = (ticked e, TookTick (tick_answer e))
end_step e (Reset w) = (reset_with e w, TookReset (not (is_waiting e)))
end_step e Stop = (stopped e, NoAnswerDue)
end_step e (SetReady r) = (with_ready e r, NoAnswerDue)
end_step e NextOut = (fetched e, FetchedFrame (frame_due e))

-- the end after these inputs, one after another
abbrev pub shdlc_after_inputs : EndState → List EndInput → EndState
shdlc_after_inputs e [] = e
shdlc_after_inputs e (i ∷ is) = shdlc_after_inputs (end_step e i).0 is

-- what it answered to each of them
abbrev pub answers_to : EndState → List EndInput → List EndOutput
answers_to e [] = []
answers_to e (i ∷ is) = (end_step e i).1 ∷ answers_to (end_step e i).0 is

-- ## All that is to be sent

-- an end never has more frames to send at one moment: 8 control frames and 4 fragments
abbrev pub most_frames : ℕ
most_frames = 12

-- the frames that an end sends one after another, at most n, and the end after them; where nothing is due nothing changes
abbrev pub frames_of : ℕ → EndState → List Control
frames_of zero e = []
frames_of (suc n) e = with_first (frame_due e) (frames_of n (fetched e)) where
  with_first : Option Control → List Control → List Control
  with_first None later = []
  with_first (Some c) later = c ∷ later

abbrev pub after_frames : ℕ → EndState → EndState
after_frames zero e = e
after_frames (suc n) e = after_frames n (fetched e)

-- all frames that are due, and the end after they were sent
abbrev pub all_frames : EndState → List Control
all_frames e = frames_of most_frames e

abbrev pub all_fetched : EndState → EndState
all_fetched e = after_frames most_frames e
