-- The frames on a wire as they are kept.
use Rattle.std.specs.Prelude.{◌≡◌, ◌≤◌, false, List, length, map, Ok}
use Rattle.std.specs.List.{AllByRecursion}
use Rattle.circular_buffer.specs.Buffer.{Buffer}
use Rattle.swp_lpdu.specs.Controls.{lpdu_of, control_of}
use Rattle.link_laws.specs.sessions.Sessions.{OnWire, is_rset}
use Rattle.link_wires.specs.declared.wire.Flying.{Flying}

-- a frame on its way, as it is kept
abbrev pub kept_of : OnWire → Flying
kept_of x = record { lpdu = lpdu_of x.frame; age = x.age; number = x.number }

-- it is as an end makes it: its LPDU is read as this frame, and it has a number only where it is an RSET
abbrev pub IsMade : OnWire → Type 0
IsMade x = (control_of (lpdu_of x.frame) ≡ Ok x.frame) × (is_rset x.frame ≡ false → x.number ≡ 0)

-- what is kept are the frames of a wire
pub record WireStandsFor (kept : Buffer Flying) (wire : List OnWire) : Type 0 where
  pub frames : kept.items ≡ map kept_of wire
  pub capacity : kept.capacity ≡ 64
  pub few : length wire ≤ 64
  pub made : AllByRecursion IsMade wire
