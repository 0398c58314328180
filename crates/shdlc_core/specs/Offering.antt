-- An end whose fragments are offered a few at a time: it keeps at most four that aren't acknowledged, and the others wait. What
-- is kept then stands for a machine that was given all of them.
use Rattle.std.specs.Prelude.{◌≡◌, ◌+◌, ◌≤◌, Bool, true, false, List, [], ◌++◌, length, ◌⊎◌}
use Rattle.shdlc_core.specs.declared.answers.LinkState.{LinkState}
use Rattle.shdlc_core.specs.declared.answers.LinkState.TheVariants.{Down, Waiting, Up}
use Rattle.shdlc_core.specs.Machine.{EndState, Fragment, Session, no_session}
use Rattle.shdlc_core.specs.Kept.{KeptEnd, ShdlcStandsFor}

-- the machine of an end to which only these fragments were offered
abbrev pub with_out : EndState → List Fragment → EndState
with_out m fragments = record m { session = record m.session { out = fragments } }

-- the windows that an end has or may come to have are at most 4
pub record IsNarrow (m : EndState) : Type 0 where
  pub own : m.own_window ≤ 4
  pub peer : m.peer_window ≤ 4
  pub session : m.session.window ≤ 4

-- an end that isn't Up has nothing of a session
abbrev pub HasSession : LinkState → Session → Type 0
HasSession Up s = Unit {0}
HasSession Down s = s ≡ no_session
HasSession Waiting s = s ≡ no_session

-- What is kept, with these fragments that wait behind it, stands for this state of the machine, whose fragments are those that
-- were offered and then those that wait.
pub record StandsBefore (k : KeptEnd) (waiting : List Fragment) (m : EndState) : Type 0 where
  pub offered : List Fragment
  pub out : m.session.out ≡ offered ++ waiting
  pub kept : ShdlcStandsFor k (with_out m offered)
  pub narrow : IsNarrow m
  pub session : HasSession m.phase m.session

-- The same, and as many were offered as an end keeps: where any wait, four are offered and not acknowledged.
pub record StandsWith (k : KeptEnd) (waiting : List Fragment) (m : EndState) : Type 0 where
  pub stands : StandsBefore k waiting m
  pub full : (waiting ≡ []) ⊎ (length stands.offered ≡ m.session.acked + 4)

-- what waits still, where a session may be over: its fragments are dropped with it
abbrev pub left_waiting : Bool → List Fragment → List Fragment
left_waiting true waiting = []
left_waiting false waiting = waiting
