-- What a tap that has heard all frames of a link knows of an end that is Up.
use Rattle.std.specs.Prelude.{◌≡◌, Bool, true, ◌⊎◌, List, length, take}
use Rattle.shdlc_core.specs.declared.answers.LinkState.TheVariants.{Up}
use Rattle.shdlc_core.specs.Machine.{Session, Fragment}
use Rattle.link_laws.specs.sessions.Sessions.{NumberedShdlc, ShdlcLink, shdlc_number_of}
use Rattle.tap_reading.specs.Tap.{TapSide, listed_at}

-- the fragments of a session that were ever sent
abbrev pub ever_sent : Session → List Fragment
ever_sent s = take s.reached s.out

-- What the tap has of a side s, with t of the other side, is what its end has, while it is Up.
pub record IsTrackedBy (s t : TapSide) (end : NumberedShdlc) : Type 0 where
  -- the number of its session
  pub number : end.side.phase ≡ Up → s.number ≡ shdlc_number_of end
  -- how many fragments it has accepted in it
  pub count : end.side.phase ≡ Up → s.count ≡ length end.side.session.acc
  -- all that it has ever sent in it, as long as the other side has the same number
  pub list : end.side.phase ≡ Up → t.number ≡ s.number → listed_at s s.number ≡ ever_sent end.side.session

-- only a bare link begins with ends that are Up
abbrev pub StartsSo : Bool → ShdlcLink → Type 0
StartsSo bare l = (bare ≡ true) ⊎ (l.controller.side.phase ≡ Up → ⊥)
