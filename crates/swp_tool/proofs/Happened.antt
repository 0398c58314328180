-- What is told of a schedule with one line more, and that what it tells to have happened is noted of the history of what it comes to.
use Rattle.std.proofs.Common.{not}
use Rattle.swp_tool.proofs.Words.{Entry, Header, Line, List, Play, Round, Said, [], ap, append-nil, append_assoc, arith, entry_line, entry_lines, false}
use Rattle.swp_tool.proofs.Words.{filter-append, flat_map-append, fold, history_below, is_settling, lines_played, lines_played_of, opening_told, played_told}
use Rattle.swp_tool.proofs.Words.{plays_of, plays_of_line, replicate, round_behind, rounds_to_rest, schedule_told, suc, sym, told_below, told_of_line}
use Rattle.swp_tool.proofs.Words.{told_of_play, told_of_rounds, what_happened, zero, ℕ, ◌++◌, ◌∙◌, ◌∷◌, ◌≡◌}
use Rattle.trace_model.specs.declared.entry.Entry.TheVariants as entry
use Rattle.trace_model.specs.declared.line.Line.TheVariants as saying
use Rattle.lines_told.specs.lines.Plays.{told_behind, told_of_lines}
use Rattle.lines_told.proofs.lines.Told.{played_more, plays_more, round_first}
use Rattle.swp_tool.specs.Transcripts.{is_of_schedule}
use Rattle.swp_tool.proofs.Texts.{told_more}

-- ## One line more

-- what is played of lines behind these plays
abbrev pub plays_behind : Header → List Play → List Line → List Play
plays_behind header before lines = fold (λ (ps : List Play) (line : Line). ps ++ plays_of_line header ps line) before lines

lines_told-push : (header : Header) (lines : List Line) (line : Line) (before : List Play)
    → told_of_lines header before (lines ++ line ∷ [])
    ≡ told_of_lines header before lines ++ (entry.Echo line ∷ told_of_line header (plays_behind header before lines) line)
lines_told-push header [] line before = append-nil (entry.Echo line ∷ told_of_line header before line)
lines_told-push header (x ∷ lines) line before =
    let first : List Entry = entry.Echo x ∷ told_of_line header before x in
    let later : List Play = before ++ plays_of_line header before x in
    ap (λ (es : List Entry). first ++ es) (lines_told-push header lines line later)
    ∙ sym (append_assoc first (told_of_lines header later lines) (entry.Echo line ∷ told_of_line header (plays_behind header later lines) line))

pub schedule_told-push : (header : Header) (lines : List Line) (line : Line)
    → schedule_told header (lines ++ line ∷ [])
    ≡ schedule_told header lines ++ (entry.Echo line ∷ told_of_line header (plays_of header lines) line)
schedule_told-push header lines line =
    let more : List Entry = entry.Echo line ∷ told_of_line header (plays_of header lines) line in
    ap (λ (es : List Entry). entry.Head header ∷ (opening_told header ++ es)) (lines_told-push header lines line [])
    ∙ ap (λ (es : List Entry). entry.Head header ∷ es) (sym (append_assoc (opening_told header) (told_of_lines header [] lines) more))

-- the transcript of one line more, and of a header alone
pub schedule_text-push : (header : Header) (lines : List Line) (line : Line)
    → entry_lines (schedule_told header (lines ++ line ∷ []))
    ≡ entry_lines (schedule_told header lines)
    ++ (entry_line (entry.Echo line) ++ entry_lines (told_of_line header (plays_of header lines) line))
schedule_text-push header lines line =
    ap entry_lines (schedule_told-push header lines line)
    ∙ flat_map-append entry_line (schedule_told header lines) (entry.Echo line ∷ told_of_line header (plays_of header lines) line)

-- ## A line that lets no links settle

said_line : (header : Header) (before : List Play) (line : Line) → is_settling line ≡ false → plays_of_line header before line ≡ Said line ∷ []
said_line header before line still = grind arith

said_told : (header : Header) (before : List Play) (line : Line) → is_settling line ≡ false
    → told_of_line header before line ≡ told_below header (lines_played header before) line
said_told header before line still = grind arith

pub said_plays : (header : Header) (lines : List Line) (line : Line) → is_settling line ≡ false
    → plays_of header (lines ++ line ∷ []) ≡ plays_of header lines ++ Said line ∷ []
said_plays header lines line still =
    plays_more header lines line ∙ ap (λ (ps : List Play). plays_of header lines ++ ps) (said_line header (plays_of header lines) line still)

pub said_text-push : (header : Header) (lines : List Line) (line : Line) → is_settling line ≡ false
    → entry_lines (schedule_told header (lines ++ line ∷ []))
    ≡ entry_lines (schedule_told header lines)
    ++ (entry_line (entry.Echo line) ++ entry_lines (told_below header (lines_played_of header lines) line))
said_text-push header lines line still =
    schedule_text-push header lines line
    ∙ ap (λ (es : List Entry). entry_lines (schedule_told header lines) ++ (entry_line (entry.Echo line) ++ entry_lines es))
    (said_told header (plays_of header lines) line still)

-- ## What happened

happened-append : (xs ys : List Entry) → what_happened (xs ++ ys) ≡ what_happened xs ++ what_happened ys
happened-append xs ys = filter-append (λ (e : Entry). not (is_of_schedule e)) xs ys

module _ (header : Header) where
  -- what happened in the history of lines
  abbrev happened : List Line → List Entry
  happened lines = what_happened (played_told (history_below header lines))

  happened_first : happened [] ≡ what_happened (opening_told header)
  happened_first = grind arith

  happened_more : (lines : List Line) (line : Line) → happened (lines ++ line ∷ []) ≡ happened lines ++ what_happened (told_below header lines line)
  happened_more lines line =
      ap what_happened (told_more header lines line)
      ∙ happened-append (played_told (history_below header lines)) (entry.Echo line ∷ told_below header lines line)

  happened_all : (more before : List Line) → happened (before ++ more) ≡ happened before ++ what_happened (told_behind header before more)
  happened_all [] before = ap happened (append-nil before) ∙ sym (append-nil (happened before))
  happened_all (line ∷ more) before =
      let now : List Entry = told_below header before line in
      let later : List Line = before ++ line ∷ [] in
      let rest : List Entry = told_behind header later more in
      ap happened (sym (append_assoc before (line ∷ []) more))
      ∙ (happened_all more later
      ∙ (ap (λ (es : List Entry). es ++ what_happened rest) (happened_more before line)
      ∙ (append_assoc (happened before) (what_happened now) (what_happened rest)
      ∙ ap (λ (es : List Entry). happened before ++ es) (sym (happened-append now rest)))))

  -- behind one play more, and so many rounds
  happened_round : (plays : List Play) → happened (lines_played header (plays ++ Round ∷ []))
      ≡ happened (lines_played header plays) ++ what_happened (told_of_play header (lines_played header plays) Round)
  happened_round plays =
      let before : List Line = lines_played header plays in
      ap happened (played_more header plays Round) ∙ happened_all (round_behind header before) before

  happened_rounds : (n : ℕ) (plays : List Play) → happened (lines_played header (plays ++ replicate n Round))
      ≡ happened (lines_played header plays) ++ what_happened (told_of_rounds header plays n)
  happened_rounds zero plays =
      ap (λ (ps : List Play). happened (lines_played header ps)) (append-nil plays) ∙ sym (append-nil (happened (lines_played header plays)))
  happened_rounds (suc n) plays =
      let was : List Entry = happened (lines_played header plays) in
      let now : List Entry = told_of_play header (lines_played header plays) Round in
      let rest : List Entry = told_of_rounds header (plays ++ Round ∷ []) n in
      ap (λ (ps : List Play). happened (lines_played header ps)) (round_first plays n)
      ∙ (happened_rounds n (plays ++ Round ∷ [])
      ∙ (ap (λ (es : List Entry). es ++ what_happened rest) (happened_round plays)
      ∙ (append_assoc was (what_happened now) (what_happened rest)
      ∙ ap (λ (es : List Entry). was ++ es) (sym (happened-append now rest)))))

  -- behind one line more of a schedule
  happened_line : (before : List Play) (line : Line) → happened (lines_played header (before ++ plays_of_line header before line))
      ≡ happened (lines_played header before) ++ what_happened (told_of_line header before line)
  happened_line before (saying.Settle n) =
      let r : ℕ = rounds_to_rest header before n in
      let rounds : List Entry = told_of_rounds header before r in
      happened_rounds r before
      ∙ ap (λ (es : List Entry). happened (lines_played header before) ++ es)
      (sym (happened-append rounds (entry.Settled r ∷ []) ∙ append-nil (what_happened rounds)))
  happened_line before line = ap happened (played_more header before (Said line)) ∙ happened_more (lines_played header before) line

  happened_lines : (lines : List Line) (before : List Play) → happened (lines_played header (plays_behind header before lines))
      ≡ happened (lines_played header before) ++ what_happened (told_of_lines header before lines)
  happened_lines [] before = sym (append-nil (happened (lines_played header before)))
  happened_lines (line ∷ lines) before =
      let was : List Entry = happened (lines_played header before) in
      let now : List Entry = told_of_line header before line in
      let later : List Play = before ++ plays_of_line header before line in
      let rest : List Entry = told_of_lines header later lines in
      happened_lines lines later
      ∙ (ap (λ (es : List Entry). es ++ what_happened rest) (happened_line before line)
      ∙ (append_assoc was (what_happened now) (what_happened rest)
      ∙ ap (λ (es : List Entry). was ++ es) (sym (happened-append now rest))))

  -- what a schedule tells to have happened is noted of its history
  pub tells_history : (lines : List Line) → what_happened (schedule_told header lines) ≡ happened (lines_played_of header lines)
  tells_history lines =
      let told : List Entry = told_of_lines header [] lines in
      happened-append (opening_told header) told
      ∙ (ap (λ (es : List Entry). es ++ what_happened told) (sym happened_first) ∙ sym (happened_lines lines []))
