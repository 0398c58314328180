-- What the code keeps of one end of a link, and for which states of the machine it stands: a queue of at most four fragments
-- and numbers modulo 8 stand for each session whose lists end so.
use Rattle.std.specs.Prelude.{ℕ, ◌+◌, ◌-◌, ◌%◌, ◌<◌, ◌≤◌, ◌≡◌, Bool, List, [], length, drop, IsSome}
use Rattle.swp_base.specs.declared.control_frames.Control.{Control}
use Rattle.swp_base.specs.declared.control_frames.Control.TheVariants.{I}
use Rattle.shdlc_core.specs.declared.answers.LinkState.{LinkState}
use Rattle.shdlc_core.specs.declared.answers.Due.{Due}
use Rattle.shdlc_core.specs.declared.answers.FragmentDue.{FragmentDue}
use Rattle.shdlc_core.specs.Machine.{EndState, Fragment, Session, frame_due}

-- what is kept for sending
pub record KeptSender : Type 0 where
  pub window : ℕ
  -- the fragments that were offered and aren't acknowledged
  pub queue : List Fragment
  -- the number modulo 8 of the first of them, or of the next one to be offered where there is none
  pub first : ℕ
  -- how many of them count as sent
  pub sent : ℕ
  -- how many of them were ever sent
  pub reach : ℕ
  pub peer_busy : Bool
  pub probe : Bool

-- what is kept for receiving
pub record KeptReceiver : Type 0 where
  -- the number modulo 8 of the fragment that is accepted next
  pub awaited : ℕ
  pub gap_open : Bool
  pub answered_rnr : Bool

-- what is kept of an end
pub record KeptEnd : Type 0 where
  pub phase : LinkState
  pub own_window : ℕ
  pub ready : Bool
  pub due : List Due
  pub timer : ℕ
  pub tries : ℕ
  pub peer_window : ℕ
  pub sender : KeptSender
  pub receiver : KeptReceiver

-- what is true of all that is kept for sending
pub record IsSender (k : KeptSender) : Type 0 where
  pub first : k.first < 8
  pub sent : k.sent ≤ k.reach
  pub reach : k.reach ≤ length k.queue
  pub queue : length k.queue ≤ 4

-- what is true of all that is kept of an end
pub record IsSoundEnd (k : KeptEnd) : Type 0 where
  pub due : length k.due ≤ 8
  pub timer : k.timer < 10
  pub tries : k.tries ≤ 5
  pub sender : IsSender k.sender
  pub awaited : k.receiver.awaited < 8

-- What is kept for sending stands for a session with this window w, these offered fragments, these places a, n and m of the
-- first unacknowledged one, of the next one and one past the last that was ever sent, and these flags of the other end.
pub record SenderStandsFor (k : KeptSender) (w : ℕ) (fragments : List Fragment) (a n m : ℕ) (busy once : Bool) : Type 0 where
  pub window : k.window ≡ w
  pub queue : k.queue ≡ drop a fragments
  pub offered : length fragments ≡ a + length k.queue
  pub first : k.first ≡ a % 8
  pub next : n ≡ a + k.sent
  pub reached : m ≡ a + k.reach
  pub peer_busy : k.peer_busy ≡ busy
  pub probe : k.probe ≡ once

abbrev pub SendsFor : KeptSender → Session → Type 0
SendsFor k s = SenderStandsFor k s.window s.out s.acked s.next s.reached s.peer_busy s.probe

-- What is kept for receiving stands for a session with these accepted fragments, with a gap that is open or not, in which RNR
-- was answered or not.
pub record ReceiverStandsFor (k : KeptReceiver) (fragments : List Fragment) (gap answered : Bool) : Type 0 where
  pub awaited : k.awaited ≡ length fragments % 8
  pub gap_open : k.gap_open ≡ gap
  pub answered_rnr : k.answered_rnr ≡ answered

abbrev pub ReceivesFor : KeptReceiver → Session → Type 0
ReceivesFor k s = ReceiverStandsFor k s.acc s.gap_open s.answered_rnr

-- what is kept stands for this state of the machine
pub record ShdlcStandsFor (k : KeptEnd) (e : EndState) : Type 0 where
  pub phase : k.phase ≡ e.phase
  pub own_window : k.own_window ≡ e.own_window
  pub ready : k.ready ≡ e.ready
  pub due : k.due ≡ e.due
  pub timer : k.timer ≡ e.timer
  pub tries : k.tries ≡ e.tries
  pub peer_window : k.peer_window ≡ e.peer_window
  pub sender : SendsFor k.sender e.session
  pub receiver : ReceivesFor k.receiver e.session

-- at most so many frames are fetched before something else comes to the end
abbrev pub frames_left : KeptEnd → ℕ
frames_left k = length k.due + (length k.sender.queue - k.sender.sent)

-- The next frame to be fetched is the I frame of a fragment.
pub record IsFragmentDue (k : KeptEnd) : Type 0 where
  pub due : k.due ≡ []
  pub kept : k.sender.sent < length k.sender.queue
  pub frame : (e : EndState) → ShdlcStandsFor k e → IsSome (frame_due e)

-- the I frame of a fragment that is to be sent
abbrev pub frame_shown : FragmentDue → Control
frame_shown f = I f.ns f.nr f.info.now
