-- How many more fragments count as acknowledged at the ends of a world behind rounds of it, and in the midst of a round.
use Rattle.std.specs.Prelude.{◌≡◌, ℕ, ◌+◌, true, List, [], ◌∷◌, Some, is_some, replicate}
use Rattle.std.specs.List.{AllByRecursion}
use Rattle.hcp_packet.specs.Packets.{IsSendable}
use Rattle.trace_model.specs.declared.line.End.{End}
use Rattle.link_laws.specs.messages.Links.{IsWindow}
use Rattle.node_machine.specs.world.World.{Site, NodeWorld, Happening, site_at, world_step}
use Rattle.node_machine.specs.world.World.Happening.{Gives, Takes, Resets, Activates}
use Rattle.node_machine.specs.world.Lines.{all_happen}
use Rattle.node_laws.specs.acked.InTurn.{AcksAtMost, IsAckedWithin}
use Rattle.node_machine.specs.world.Rounds.{ends_take_all, rounds_of_world}

-- so many more are at most, at either end of the link of a host, as its world has become another one
pub record HostAcksAtMost (more : ℕ) (h : ℕ) (s : Site) (v : NodeWorld) : Type 0 where
  pub later : Site
  pub is : site_at v.sites h ≡ Some later
  pub acks : AcksAtMost more more s.link later.link

-- at each end of each link of a world so many are acknowledged at most
abbrev pub AreAckedWithin : ℕ → NodeWorld → Type 0
AreAckedWithin b w = AllByRecursion (λ (s : Site). IsAckedWithin b s.link) w.sites

-- a world in the midst of a round: these ends have taken all that stood on their wires, and then this one has taken so many frames
abbrev pub amid_round : NodeWorld → List End → End → ℕ → NodeWorld
amid_round w ends e k = (all_happen (ends_take_all w ends).0 (replicate k (Takes e))).0

-- ## Worlds that go through rounds

-- something happens in a world, or it goes through so many rounds
pub data Leg : Type 0 where
  Comes : Happening → Leg
  Rounds : ℕ → Leg

-- the world after these, one after another
abbrev pub world_after_legs : NodeWorld → List Leg → NodeWorld
world_after_legs w [] = w
world_after_legs w (Comes c ∷ legs) = world_after_legs (world_step w c).0 legs
world_after_legs w (Rounds r ∷ legs) = world_after_legs (rounds_of_world r w).0 legs

-- A message that is given isn't empty, and its pipe isn't reserved; a reset names a window from 1 to 4, or none; and activation begins
-- where the controller runs.
abbrev pub MayCome : NodeWorld → Happening → Type 0
MayCome w (Gives e m) = IsSendable m
MayCome w (Resets e window) = IsWindow window
MayCome w (Activates h sync power) = is_some w.controller ≡ true
MayCome w _ = Unit {0}

-- so do all of these
abbrev pub AllMayCome : NodeWorld → List Leg → Type 0
AllMayCome w [] = Unit {0}
AllMayCome w (Comes c ∷ legs) = MayCome w c × AllMayCome (world_step w c).0 legs
AllMayCome w (Rounds r ∷ legs) = AllMayCome (rounds_of_world r w).0 legs

-- how many frames are taken outside rounds, and how many rounds are gone through
abbrev pub taken_in : Happening → ℕ
taken_in (Takes e) = 1
taken_in _ = 0

abbrev pub frames_taken : List Leg → ℕ
frames_taken [] = 0
frames_taken (Comes c ∷ legs) = taken_in c + frames_taken legs
frames_taken (Rounds r ∷ legs) = frames_taken legs

abbrev pub rounds_gone : List Leg → ℕ
rounds_gone [] = 0
rounds_gone (Comes c ∷ legs) = rounds_gone legs
rounds_gone (Rounds r ∷ legs) = r + rounds_gone legs
