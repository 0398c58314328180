-- The lines that a decoder writes.
use Rattle.std.specs.Prelude.{ℕ, ◌/◌, ◌%◌, List, [], ◌∷◌, ◌++◌, codes, decimal, true, Result, Ok, Err}
use Rattle.std.specs.Fmt.{digit_glyph}
use Rattle.swp_base.specs.declared.control_frames.Control.{Control}
use Rattle.swp_base.specs.declared.control_frames.Control.TheVariants.{I, S, Rset, Ua, Act, Clt}
use Rattle.swp_base.specs.declared.control_frames.Act.{Act as Activation}
use Rattle.swp_base.specs.declared.control_frames.Act.TheVariants.{Ready, SyncId, PowerMode}
use Rattle.swp_base.specs.declared.control_frames.Kind.{Kind}
use Rattle.swp_base.specs.declared.control_frames.Kind.TheVariants.{Rr, Rej, Rnr, Srej}
use Rattle.swp_base.specs.declared.link_terms.FrameFault.{FrameFault}
use Rattle.swp_base.specs.declared.link_terms.FrameFault.TheVariants.{Length, Alignment, Crc, Broken}
use Rattle.swp_lpdu.specs.declared.LpduFault.{LpduFault}
use Rattle.swp_lpdu.specs.declared.LpduFault.TheVariants.{Unknown, Short, TooLong}
use Rattle.swp_lpdu.specs.Controls.{control_of}
use Rattle.swp_frame.specs.declared.fed.Fed.{Fed}
use Rattle.swp_frame.specs.declared.fed.Fed.TheVariants.{Nothing, Frame, Refused}
use Rattle.swp_decode.specs.declared.line.Wire.{Wire}
use Rattle.swp_decode.specs.declared.line.Wire.TheVariants.{S1, S2}

-- bytes in hexadecimal, two digits each
abbrev pub hex_of : List ℕ → List ℕ
hex_of [] = []
hex_of (byte ∷ bytes) = digit_glyph true (byte / 16) ∷ digit_glyph true (byte % 16) ∷ hex_of bytes

-- two bytes in hexadecimal
abbrev pub hex_word : ℕ → List ℕ
hex_word n = hex_of (n / 256 ∷ n % 256 ∷ [])

abbrev pub wire_name : Wire → List ℕ
wire_name S1 = codes "s1 "
wire_name S2 = codes "s2 "

abbrev pub kind_word : Kind → List ℕ
kind_word Rr = codes "rr "
kind_word Rej = codes "rej "
kind_word Rnr = codes "rnr "
kind_word Srej = codes "srej "

abbrev pub act_words : Activation → List ℕ
act_words Ready = codes "ready"
act_words (SyncId id) = codes "syncid " ++ hex_word id
act_words (PowerMode power) = codes "power " ++ hex_of (power ∷ [])

abbrev pub control_words : Control → List ℕ
control_words (I ns nr info) = codes "i " ++ decimal ns ++ codes " " ++ decimal nr
control_words (S kind nr) = kind_word kind ++ decimal nr
control_words (Rset window caps) = codes "rset " ++ decimal window ++ codes " " ++ decimal caps
control_words Ua = codes "ua"
control_words (Act act again) = act_words act
control_words Clt = codes "clt"

-- what an LPDU says, in words
abbrev pub lpdu_words : Result Control LpduFault → List ℕ
lpdu_words (Ok control) = control_words control
lpdu_words (Err (Unknown byte)) = codes "unknown"
lpdu_words (Err (Short need got)) = codes "short"
lpdu_words (Err (TooLong got)) = codes "toolong"

abbrev pub fault_words : FrameFault → List ℕ
fault_words (Length bits) = codes "length " ++ decimal bits
fault_words (Alignment bits) = codes "alignment " ++ decimal bits
fault_words (Crc want got) = codes "crc " ++ hex_word want ++ codes " " ++ hex_word got
fault_words Broken = codes "broken"

-- what stands behind the wire and the place
abbrev pub verdict_words : Fed → List ℕ
verdict_words Nothing = []
verdict_words (Frame lpdu) = hex_of lpdu ++ codes " " ++ lpdu_words (control_of lpdu)
verdict_words (Refused fault) = fault_words fault

abbrev pub line_feed : List ℕ
line_feed = 10 ∷ []

abbrev pub whole_line : Wire → ℕ → Fed → List ℕ
whole_line wire start fed = wire_name wire ++ decimal start ++ codes " " ++ verdict_words fed ++ line_feed

-- what a verdict on one wire gives, of a frame that starts at this place: its line, or nothing
abbrev pub verdict_line : Wire → ℕ → Fed → List ℕ
verdict_line wire start Nothing = []
verdict_line wire start (Frame lpdu) = whole_line wire start (Frame lpdu)
verdict_line wire start (Refused fault) = whole_line wire start (Refused fault)
