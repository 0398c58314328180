-- What is kept of the world, and for which histories it stands.
use Rattle.std.specs.Prelude.{◌≡◌, ℕ, ◌+◌, ◌*◌, ◌≤◌, ◌<◌, ◌^◌, List, [], ◌∷◌, Some, None}
use Rattle.std.specs.List.{AllByRecursion}
use Rattle.trace_model.specs.declared.entry.Entry.{Entry}
use Rattle.trace_model.specs.declared.line.Header.{Header}
use Rattle.trace_model.specs.declared.line.Line.{Line}
use Rattle.trace_model.specs.Lines.{IsHeader}
use Rattle.link_laws.specs.messages.Links.{Link}
use Rattle.link_laws.specs.messages.Rsets.{FewRsets}
use Rattle.history.specs.Histories.{History}
use Rattle.history.specs.Follows.{Follows, link_at, misread, with_step}
use Rattle.history.specs.Legal.{Legal}
use Rattle.lines_told.specs.lines.Plays.{Play, IsPlayFor, lines_played, lines_said, rounds_played}
use Rattle.node_world.specs.Worlds.{AreFewWithParts}
use Rattle.world.specs.declared.bare_world.BareWorld.{BareWorld}
use Rattle.world.specs.declared.fault.WorldFault.{WorldFault}
use Rattle.world.specs.declared.fault.WorldFault.TheVariants.{Undetected, NoMemory}
use Rattle.world.specs.Sides.{LinkStandsFor}
use Rattle.world.specs.Lines.{HaveSent, damaged_by}

-- the header that the world was made of
abbrev pub bare_header : BareWorld → Header
bare_header w = w.header

-- what the last line caused, or before the first line the header
abbrev pub bare_entries : BareWorld → List Entry
bare_entries w = w.entries.items

-- a history with these lines more, one after another
abbrev pub with_steps : History → List Line → History
with_steps t [] = t
with_steps t (line ∷ lines) = with_steps (with_step t line) lines

-- how many RSETs plays have the link make at most: two a tick, of which a line that is said has 100 and a round one
abbrev pub most_rsets : List Play → ℕ
most_rsets plays = 200 * lines_said plays + 2 * rounds_played plays

-- The world stands for a history: it has this header, the history follows the lines that these plays come to and is legal, and both sides
-- are the link as the history leaves it. A line that is said gives at most one message, and a round none.
pub record WorldStandsFor (w : BareWorld) (header : Header) (plays : List Play) (t : History) : Type 0 where
  pub header_is : w.header ≡ header
  pub is_header : IsHeader header
  pub plays_are : AllByRecursion (IsPlayFor header) plays
  pub few : AreFewWithParts plays
  pub follows : Follows header (lines_played header plays) t
  pub legal : Legal t
  pub link : LinkStandsFor w.controller w.host w.resets (link_at t)
  pub sent : HaveSent (link_at t) (lines_said plays)
  pub resets : FewRsets (most_rsets plays) (link_at t)
  pub stepped : w.stepped ≡ lines_said plays
  pub rounds : w.rounds ≡ rounds_played plays

-- the world stands for a history in which fewer than 320,000 lines were said
pub record HasBareRoom (w : BareWorld) : Type 0 where
  pub plays : List Play
  pub history : History
  pub stands : WorldStandsFor w (bare_header w) plays history
  pub few : lines_said plays < 320000

-- or in which there were fewer rounds than a schedule has at most
pub record HasBareRoomToSettle (w : BareWorld) : Type 0 where
  pub plays : List Play
  pub history : History
  pub stands : WorldStandsFor w (bare_header w) plays history
  pub few : rounds_played plays < 400000000

-- so many of the lines that were stepped may count as so many rounds
pub record MayCountBare (w : BareWorld) (lines rounds : ℕ) : Type 0 where
  pub stepped : lines ≤ w.stepped
  pub room : w.rounds + rounds < 2 ^ 32

-- This is why a line stops the world: another frame is read in place of the damaged one, or there was no memory for a line
-- that does no such thing.
abbrev pub IsFaultOf : Link → Line → WorldFault → Type 0
IsFaultOf l line (Undetected sent read) = (misread l line ≡ Some read) × (damaged_by l line ≡ Some sent)
IsFaultOf l line NoMemory = misread l line ≡ None
