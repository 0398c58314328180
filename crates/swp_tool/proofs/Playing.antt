-- What a line adds to a replay.
use Rattle.std.specs.Option.{ForSome}
use Rattle.swp_tool.proofs.Words.{Bool, Halt, HaltsBefore, HaltsOn, HasFew, HasPlayed, HasRoomForLine, HasRoundsLeft, Header, IsAt, IsInGrammar, IsSomeAnd}
use Rattle.swp_tool.proofs.Words.{IsWorldAt, Line, List, MayFollow, None, Ok, Option, Play, Replay, Runs, Schedule, Some, Too_many, WasStepped, World, []}
use Rattle.swp_tool.proofs.Words.{and_line, and_said, ap, append_assoc, arith, cond, entry_lines, eqb-true, false, halt_of, is_settling, line_of, lines_played}
use Rattle.swp_tool.proofs.Words.{misread_below, plays_of_line, refl, rounds_to_rest, schedule_told, subst, sym, true, world_header, ℕ, ◌++◌, ◌+◌, ◌<◌, ◌==◌}
use Rattle.swp_tool.proofs.Words.{◌∙◌, ◌∷◌, ◌≡◌, ◌≤◌}
use Rattle.trace_model.specs.declared.line.Line.TheVariants as saying
use Rattle.lines_told.proofs.lines.Told.{at_most, none_said, played-append, said-append, so_many_rounds}
use Rattle.world.specs.declared.fault.WorldFault.{WorldFault}
use Rattle.world.specs.declared.fault.WorldFault.TheVariants as fault
use Rattle.world.specs.Worlds.{IsFaultThere}
use Rattle.schedule_text.specs.declared.read.Read.TheVariants as read
use Rattle.swp_tool.specs.declared.replay.Halt.TheVariants as halt
use Rattle.swp_tool.specs.Schedules.{most_lines}

-- it stands so below its own header
pub under_own_header : (w : World) (header : Header) (plays : List Play) → IsWorldAt w header plays → IsWorldAt w (world_header w) plays
under_own_header w header plays stands = grind arith

-- a world that was stepped by few lines has room for one more, and for its rounds
pub has_room : (w : World) (most : ℕ) → WasStepped w most → most < 20000 → HasRoomForLine w
has_room w most was few = record { plays = was.plays; stands = was.stands; few = omega (arith, was.few) }

pub has_rounds_left : (w : World) (most rounds : ℕ) → WasStepped w most → most < 20000 → rounds ≤ 20000 → HasRoundsLeft w rounds
has_rounds_left w most rounds was few long = (was.plays, was.stands, (let played = was.rounds in omega (arith, played, few, long)))

pub stepped_more : (w : World) (most : ℕ) → WasStepped w most → WasStepped w (most + 1)
stepped_more w most was = grind arith

-- a world that has just begun was stepped by no line
pub never_stepped : (w : World) (header : Header) → IsWorldAt w header [] → WasStepped w 0
never_stepped w header stands = grind arith

pub begun_few : (w : World) (most : ℕ) → WasStepped w 0 → ForSome (Some w) (λ v. WasStepped v most)
begun_few w most was v is = grind arith

-- a replay whose world was stepped by one line more has few still
pub few_more : {r : Replay} {w : World} {count : ℕ} → count < 20000 → r.world ≡ Some w → r.count ≡ count + 1 → WasStepped w (count + 1) → HasFew r
few_more {r} {w} {count} few world_is count_is was = record {
  count = omega (arith, few, count_is);
  steps = λ v is.
      let same : w ≡ v = cc in
      subst (λ n. WasStepped v n) (sym count_is) (subst (λ (x : World). WasStepped x (count + 1)) same was);
}

-- it is so behind a line that lets the links settle
pub stepped_settled : (w v : World) (most count : ℕ) (was : WasStepped w count) → most ≤ 20000
    → IsWorldAt v (world_header w) (was.plays ++ plays_of_line (world_header w) was.plays (saying.Settle most)) → WasStepped v (count + 1)
stepped_settled w v most count was long stands =
    let r : ℕ = rounds_to_rest (world_header w) was.plays most in
    let more : List Play = plays_of_line (world_header w) was.plays (saying.Settle most) in
    let said = was.few in
    let rounds = was.rounds in
    let said_sum = said-append was.plays more in
    let rounds_sum = played-append was.plays more in
    let none = none_said r in
    let many = so_many_rounds r in
    let low = at_most (world_header w) was.plays most in
    grind arith

-- there is room for its rounds
pub settles_few : (header : Header) (line : Line) (rounds : ℕ) → line ≡ saying.Settle rounds → MayFollow header line → rounds ≤ 20000
settles_few header line rounds is may = let within : MayFollow header (saying.Settle rounds) = subst (MayFollow header) is may in within.1

-- it damages no frame
same_both : (b : Bool) (o : Option (List ℕ)) → cond b o o ≡ o
same_both true o = refl
same_both false o = refl

pub settles_well : (header : Header) (lines : List Line) (rounds : ℕ) → misread_below header lines (saying.Settle rounds) ≡ None
settles_well header lines rounds = same_both header.hci None

-- a line that is no such one
pub settles_not : (line : Line) → ((rounds : ℕ) → line ≡ saying.Settle rounds → ⊥) → is_settling line ≡ false
settles_not line other = grind arith

-- before a header nothing was gathered
before_header : (w : Option World) (header : Option Header) (lines : List Line) (text : List ℕ) → header ≡ None → IsAt w header lines text
    → (lines ≡ []) × (text ≡ [])
before_header w header lines text none at = grind arith

-- a header was read
pub began : {r r' : Replay} {s : Schedule} {written : List ℕ} {w : World} {header : Header} → HasPlayed r s written → s.header ≡ None
    → IsWorldAt w header [] → r'.world ≡ Some w → r'.count ≡ r.count + 1 → r'.text.items ≡ r.text.items ++ entry_lines (schedule_told header [])
    → HasPlayed r' (and_said s (Ok (read.Header header))) written
began {r} {r'} {s} {written} {w} {header} h none stands world_is count_is text_is =
    let before = before_header r.world s.header s.lines (written ++ r.text.items) none h.at in
    let first = entry_lines (schedule_told header []) in
    let text_first : written ++ r'.text.items ≡ first =
    ap (λ l. written ++ l) text_is ∙ (sym (append_assoc written r.text.items first) ∙ ap (λ l. l ++ first) before.1) in
    let P : Option World → Type 0 = λ x. IsAt x (Some header) s.lines (written ++ r'.text.items) in
    let Q : List Line → Type 0 = λ x. Runs w header x (written ++ r'.text.items) in
    grind arith

-- ## Lines of a world

-- the header of a schedule whose world this is, and what the world stands for
record IsPlayedAt (w : World) (header : Option Header) (lines : List Line) (text : List ℕ) : Type 0 where
  of : Header
  is : header ≡ Some of
  runs : Runs w of lines text

-- the world went on by a line
pub went_on : {r r' : Replay} {s : Schedule} {written : List ℕ} {w w' : World} (line : Line) → HasPlayed r s written → r.world ≡ Some w
    → r'.world ≡ Some w' → r'.count ≡ r.count + 1
    → ((header : Header) (lines : List Line) (before : List ℕ) → Runs w header lines (before ++ r.text.items)
    → Runs w' header (lines ++ line ∷ []) (before ++ r'.text.items))
    → ((header : Header) (plays : List Play) → IsWorldAt w header plays → misread_below header (lines_played header plays) line ≡ None)
    → HasPlayed r' (and_said s (Ok (read.Line line))) written
went_on line h is is' count_is runs told = grind arith

-- why the replay halts where the world did
pub halts_on : (why : WorldFault) (header : Header) (lines : List Line) (line : Line) → IsFaultThere header lines line why
    → HaltsOn (halt_of why) (misread_below header lines line)
halts_on why header lines line is = grind arith

-- the world halted at a line
pub halted_there : {r : Replay} {s : Schedule} {written : List ℕ} {w : World} (line : Line) (why : Halt) → HasPlayed r s written → r.world ≡ Some w
    → ((header : Header) (plays : List Play) → IsWorldAt w header plays → HaltsOn why (misread_below header (lines_played header plays) line))
    → HaltsBefore why (and_said s (Ok (read.Line line)))
halted_there line why h is halts = grind arith

-- a line that is read below the header of a world is read below that of its schedule
read_there : (world : Option World) (header : Option Header) (lines : List Line) (text bytes : List ℕ) (line : Line) → IsAt world header lines text
    → IsSomeAnd world (λ w. line_of (Some (world_header w)) bytes ≡ Ok (read.Line line)) → line_of header bytes ≡ Ok (read.Line line)
read_there world header lines text bytes line at said = grind arith

-- it is what its bytes add to the schedule
pub line_said : {r : Replay} {s : Schedule} {written : List ℕ} (bytes : List ℕ) (line : Line) → HasPlayed r s written → r.count < 20000
    → IsSomeAnd r.world (λ w. line_of (Some (world_header w)) bytes ≡ Ok (read.Line line)) → and_said s (Ok (read.Line line)) ≡ and_line s bytes
line_said {r} {s} {written} bytes line h few said =
    let reads = read_there r.world s.header s.lines (written ++ r.text.items) bytes line h.at said in
    let short : s.count < 20000 = let count = h.count_is in omega (arith, count, few) in
    rw h.running (go s.header s.lines s.count (s.count == most_lines) refl short reads)
  where
    running : Option Header → List Line → ℕ → Schedule
    running header lines count = record { header = header; lines = lines; count = count; stop = None }

    go : (header : Option Header) (lines : List Line) (count : ℕ) (t : Bool) → (count == most_lines) ≡ t → count < 20000
        → line_of header bytes ≡ Ok (read.Line line) → and_said (running header lines count) (Ok (read.Line line))
        ≡ cond t (record { header = header; lines = lines; count = count + 1; stop = Some Too_many })
        (and_said (running header lines count) (line_of header bytes))
    go header lines count true e short reads = absurd (let same = eqb-true count most_lines e in omega (arith, same, short))
    go header lines count false e short reads = ap (and_said (running header lines count)) (sym reads)

-- ## What a world is given

-- the header of a world, where there is one
abbrev pub header_of_world : Option World → Option Header
header_of_world None = None
header_of_world (Some w) = Some (world_header w)

-- a line that was read below the header of a world may follow it
pub line_of_world : (world : Option World) (header : Option Header) (line : Line) → header ≡ header_of_world world
    → IsInGrammar header (read.Line line) → IsSomeAnd world (λ w. MayFollow (world_header w) line)
line_of_world world header line is fits = grind arith
