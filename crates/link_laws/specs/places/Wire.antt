-- The wire from one end of a link to the other: first in first out. Any frame on it may be lost, and none lives longer than
-- four ticks.
use Rattle.std.specs.Prelude.{ℕ, ◌+◌, nat_lt, Bool, true, false, not, ◌&&◌, if◌then◌else◌, List, [], ◌∷◌, ◌++◌, length, drop}
use Rattle.swp_base.specs.declared.control_frames.Control.{Control}
use Rattle.swp_base.specs.declared.control_frames.Control.TheVariants.{S, Rset, Act as ActFrame}
use Rattle.swp_base.specs.declared.control_frames.Kind.TheVariants.{Rnr}

abbrev pub is_rset : Control → Bool
is_rset (Rset window caps) = true
is_rset _ = false

abbrev pub is_rnr : Control → Bool
is_rnr (S Rnr nr) = true
is_rnr _ = false

-- a frame of activation
abbrev pub is_act : Control → Bool
is_act (ActFrame act again) = true
is_act _ = false

-- a frame on a wire, the ticks since it was put there, and its number where it is an RSET
pub record OnWire : Type 0 where
  pub frame : Control
  pub age : ℕ
  pub number : ℕ

-- a wire, the frame put first in front, with one more that isn't an RSET
abbrev pub with_frame : List OnWire → Control → List OnWire
with_frame wire c = wire ++ record { frame = c; age = 0; number = 0 } ∷ []

-- a wire holds 64 frames: one more pushes the first out
abbrev pub fits : List OnWire → List OnWire
fits wire = if nat_lt 64 (length wire) then drop 1 wire else wire

-- a tick makes each frame older by one
abbrev pub older : List OnWire → List OnWire
older [] = []
older (x ∷ xs) = record x { age = x.age + 1 } ∷ older xs

-- those that were four ticks old already are lost
abbrev pub aged_wire : List OnWire → List OnWire
aged_wire [] = []
aged_wire (x ∷ xs) = if nat_lt x.age 4 then record x { age = x.age + 1 } ∷ aged_wire xs else aged_wire xs

-- a wire without its frames of activation
abbrev pub sans : List OnWire → List OnWire
sans [] = []
sans (x ∷ xs) = if is_act x.frame then sans xs else x ∷ sans xs

-- ## What counts as lost

-- the first frame of a wire isn't one of activation
abbrev pub counts_first : List OnWire → Bool
counts_first [] = false
counts_first (x ∷ xs) = not (is_act x.frame)

-- a wire that is too long loses its first frame
abbrev pub overflows : List OnWire → Bool
overflows wire = nat_lt 64 (length wire) && counts_first wire

-- a frame grows too old
abbrev pub loses_aged : List OnWire → Bool
loses_aged [] = false
loses_aged (x ∷ xs) = if nat_lt x.age 4 then loses_aged xs else true
