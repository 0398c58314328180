-- What happens on a link where first the controller's end alone acts, then the host's end alone, and then no end takes a frame; and how
-- many more fragments count as acknowledged behind it.
use Rattle.std.specs.Prelude.{◌≡◌, ℕ, ◌+◌, ◌^◌, ◌<◌, ◌≤◌, List, [], ◌∷◌, ◌++◌}
use Rattle.link_laws.specs.machine.Machine.{LinkEnd, whole_acked}
use Rattle.link_laws.specs.messages.Links.{Link, EndEvent, LinkEvent}
use Rattle.link_laws.specs.messages.Links.Comes.{NextFrame}
use Rattle.link_laws.specs.messages.Links.EndEvent.{Step}
use Rattle.link_laws.specs.messages.Links.LinkEvent.{AtController, AtHost}

-- all these happen at the controller's end
abbrev pub AllAtController : List LinkEvent → Type 0
AllAtController [] = Unit {0}
AllAtController (AtController e ∷ es) = AllAtController es
AllAtController (_ ∷ es) = ⊥

-- all these happen at the host's end
abbrev pub AllAtHost : List LinkEvent → Type 0
AllAtHost [] = Unit {0}
AllAtHost (AtHost e ∷ es) = AllAtHost es
AllAtHost (_ ∷ es) = ⊥

-- no frame is taken
abbrev pub TakesNoFrame : EndEvent → Type 0
TakesNoFrame (Step NextFrame turns ending) = ⊥
TakesNoFrame _ = Unit {0}

-- in none of these a frame is taken; none ever is as time passes, or as activation begins
abbrev pub TakeNoFrames : List LinkEvent → Type 0
TakeNoFrames [] = Unit {0}
TakeNoFrames (AtController e ∷ es) = TakesNoFrame e × TakeNoFrames es
TakeNoFrames (AtHost e ∷ es) = TakesNoFrame e × TakeNoFrames es
TakeNoFrames (_ ∷ es) = TakeNoFrames es

-- the ends take frames one after the other: first the controller's end alone acts, then the host's end alone, and then none is taken
pub record AreTakenInTurn (events : List LinkEvent) : Type 0 where
  pub near : List LinkEvent
  pub far : List LinkEvent
  pub rest : List LinkEvent
  pub parts : events ≡ near ++ (far ++ rest)
  pub at_controller : AllAtController near
  pub at_host : AllAtHost far
  pub none_taken : TakeNoFrames rest

-- how many fragments of its session are acknowledged at either end
abbrev pub acked_at_controller : Link → ℕ
acked_at_controller l = l.controller.side.shdlc.session.acked

abbrev pub acked_at_host : Link → ℕ
acked_at_host l = l.host.side.shdlc.session.acked

-- so many are at most, at either end
pub record IsAckedWithin (b : ℕ) (l : Link) : Type 0 where
  pub controller : acked_at_controller l ≤ b
  pub host : acked_at_host l ≤ b

-- at either end so many more are at most, as a link has become another one
pub record AcksAtMost (near far : ℕ) (before later : Link) : Type 0 where
  pub controller : acked_at_controller later ≤ acked_at_controller before + near
  pub host : acked_at_host later ≤ acked_at_host before + far

-- no more messages count as acknowledged at an end, as the entries tell it, than fragments
abbrev pub CountsWithin : LinkEnd → Type 0
CountsWithin e = whole_acked e ≤ e.shdlc.session.acked

-- both fit 32 bits, at either end
pub record CountsFit (l : Link) : Type 0 where
  pub fragments_at_controller : acked_at_controller l < 2 ^ 32
  pub fragments_at_host : acked_at_host l < 2 ^ 32
  pub messages_at_controller : whole_acked l.controller.side < 2 ^ 32
  pub messages_at_host : whole_acked l.host.side < 2 ^ 32
