-- What has happened at one end in the session of the moment, read off what came to it and what it answered.
use Rattle.std.specs.Prelude.{ℕ, ◌+◌, ◌<◌, ◌≤◌, ◌≡◌, ◌%◌, ◌||◌, Bool, true, false, if◌then◌else◌, List, [], ◌∷◌, ◌++◌, Some, is_some, option_to_list, slice_get}
use Rattle.std.specs.Prelude.{Contains}
use Rattle.swp_base.specs.declared.control_frames.Control.{Control}
use Rattle.swp_base.specs.declared.control_frames.Control.TheVariants.{I, S}
use Rattle.shdlc_core.specs.Machine.{EndState, EndInput, EndOutput, Fragment, Session, shdlc_after_inputs, end_step, new_end}
use Rattle.shdlc_core.specs.Machine.EndInput.{Begin, Offer, Reset, Stop}
use Rattle.shdlc_core.specs.Machine.EndOutput.{OfferTaken, TookFrame, TookTick, TookReset, FetchedFrame}

-- a session begins or ends at an input with this answer
abbrev pub is_break : EndInput → EndOutput → Bool
is_break Begin _ = true
is_break Stop _ = true
is_break _ (TookFrame t) = t.began || is_some t.ended
is_break _ (TookTick t) = is_some t.ended
is_break _ (TookReset asked) = asked
is_break _ _ = false

-- the fragment that is accepted at an answer
abbrev pub accepted_at : EndOutput → List Fragment
accepted_at (TookFrame t) = option_to_list t.accepted
accepted_at _ = []

-- the fragment that is taken for sending
abbrev pub offered_at : EndInput → EndOutput → List Fragment
offered_at (Offer info) OfferTaken = info ∷ []
offered_at _ _ = []

-- how many fragments are newly acknowledged
abbrev pub acked_at : EndOutput → ℕ
acked_at (TookFrame t) = t.acked
acked_at _ = 0

-- the place of the fragment that is sent, where one is: the number of those of the session that count as sent before it
abbrev pub sent_at : EndOutput → Session → List ℕ
sent_at (FetchedFrame (Some (I ns nr info))) s = s.next ∷ []
sent_at _ s = []

-- What has happened in the session of the moment.
pub record SessionHistory : Type 0 where
  -- the fragments that were accepted
  pub accepted : List Fragment
  -- the fragments that were taken for sending
  pub offered : List Fragment
  -- how many of these were acknowledged
  pub acked : ℕ
  -- the places of those that were sent, as often as they were sent
  pub sent : List ℕ

abbrev pub no_history : SessionHistory
no_history = record { accepted = []; offered = []; acked = 0; sent = [] }

-- The history after one more input to an end in this session, with this answer. Where a session begins or ends, what was
-- before is over.
abbrev pub with_answer : Session → SessionHistory → EndInput → EndOutput → SessionHistory
with_answer s h i a =
    if is_break i a
    then no_history
    else
    record {
      accepted = h.accepted ++ accepted_at a;
      offered = h.offered ++ offered_at i a;
      acked = h.acked + acked_at a;
      sent = h.sent ++ sent_at a s;
    }

-- the history after these inputs
abbrev pub history_after : EndState → SessionHistory → List EndInput → SessionHistory
history_after e h [] = h
history_after e h (i ∷ is) = history_after (end_step e i).0 (with_answer e.session h i (end_step e i).1) is

-- a session neither begins nor ends while these inputs come
abbrev pub IsOneSession : EndState → List EndInput → Type 0
IsOneSession e [] = Unit {0}
IsOneSession e (i ∷ is) = (is_break i (end_step e i).1 ≡ false) × IsOneSession (end_step e i).0 is

-- the one list begins with the other
abbrev pub Begins : List Fragment → List Fragment → Type 0
Begins whole front = (rest : List Fragment) × (whole ≡ front ++ rest)

-- the frame carries this number as N(R), if it carries one
abbrev pub CarriesNr : ℕ → Control → Type 0
CarriesNr n (I ns nr info) = nr ≡ n
CarriesNr n (S kind nr) = nr ≡ n
CarriesNr n _ = Unit {0}

-- a new end that asks for window w, after these inputs
abbrev pub shdlc_end_after : ℕ → List EndInput → EndState
shdlc_end_after w inputs = shdlc_after_inputs (new_end w) inputs

-- the history of its session of the moment
abbrev pub history_of : ℕ → List EndInput → SessionHistory
history_of w inputs = history_after (new_end w) no_history inputs

-- The I frame of a fragment that is sent now: its place is from the first unacknowledged fragment on, within the window, and
-- all before it were sent. Its N(S) is the place modulo 8.
pub record IsNextFragment (h : SessionHistory) (window ns : ℕ) (info : Fragment) : Type 0 where
  pub place : ℕ
  pub number : ns ≡ place % 8
  pub fragment : slice_get h.offered place ≡ Some info
  pub unacknowledged : h.acked ≤ place
  pub within : place < h.acked + window
  pub no_hole : (q : ℕ) → q < place → Contains h.sent q

-- each reset that is asked for names a window of 1 to 4
abbrev pub AskForWindows : List EndInput → Type 0
AskForWindows [] = Unit {0}
AskForWindows (Reset w ∷ is) = (1 ≤ w) × (w ≤ 4) × AskForWindows is
AskForWindows (_ ∷ is) = AskForWindows is
