-- A frame as it is sent.
use Rattle.std.specs.Prelude.{◌≡◌, ◌≢◌, ℕ, Bool, List, [], ◌∷◌, ◌++◌, map, filter, None}
use Rattle.swp_frame.specs.declared.fed.Fed.{Fed}
use Rattle.swp_frame.specs.Signal.{Symbol, symbol_of, run_of, since_start}
use Rattle.swp_frame.specs.Stuffing.{start_of_frame, end_of_frame, frame_of}
use Rattle.swp_frame.specs.Verdicts.{answers_after, is_verdict}
use Rattle.frame_laws.specs.Spelling.{Spells}

-- the symbols of the frame of an LPDU
abbrev pub sent : List ℕ → List Symbol
sent lpdu = map symbol_of (frame_of lpdu)

-- bits that spell a content, between a start and an end of frame
abbrev pub framed : List Bool → List Bool
framed spelling = start_of_frame ++ spelling ++ end_of_frame

-- frames one directly behind another
abbrev pub all_framed : List (List Bool) → List Bool
all_framed [] = []
all_framed (spelling ∷ spellings) = framed spelling ++ all_framed spellings

-- these bits spell these contents, one each
abbrev pub SpellAll : List (List Bool) → List (List Bool) → Type 0
SpellAll [] [] = Unit {0}
SpellAll [] (content ∷ contents) = ⊥
SpellAll (spelling ∷ spellings) [] = ⊥
SpellAll (spelling ∷ spellings) (content ∷ contents) = Spells spelling content × SpellAll spellings contents

-- the verdicts that come with further bits, the oldest first, behind what was read
abbrev pub verdicts_behind : List Symbol → List Bool → List Fed
verdicts_behind seen bits = filter is_verdict (answers_after seen (map symbol_of bits))

-- no frame is open behind what was read, and no six 1 bits, with which a start of frame could end, stand last
pub record IsBetweenFrames (seen : List Symbol) : Type 0 where
  pub closed : since_start seen ≡ None
  pub apart : run_of seen ≢ 6
