-- What is played of a schedule: its lines, and for each line that lets the links settle rounds until all are at rest. Each round comes to
-- lines like any others: each end whose node runs takes all that stands on its wire then, and time passes once.
use Rattle.std.specs.Prelude.{ℕ, zero, suc, ◌≤◌, ◌&&◌, Bool, not, if◌then◌else◌, List, [], ◌∷◌, ◌++◌, replicate, None}
use Rattle.std.specs.List.{fold}
use Rattle.trace_model.specs.declared.entry.Entry.{Entry}
use Rattle.trace_model.specs.declared.entry.Entry.TheVariants.{Head, Echo, Settled}
use Rattle.trace_model.specs.declared.line.End.{End}
use Rattle.trace_model.specs.declared.line.Header.{Header}
use Rattle.trace_model.specs.declared.line.Line.{Line}
use Rattle.trace_model.specs.declared.line.Line.TheVariants as saying
use Rattle.link_laws.specs.messages.Links.{Link}
use Rattle.link_laws.specs.messages.Rest.{is_clear, link_rests, steps_to_rest}
use Rattle.link_laws.specs.entries.Entries.End.{Controller, Host}
use Rattle.history.specs.Follows.{frames_to, host_of, link_after_lines}
use Rattle.history.specs.Steps.{end_of}
use Rattle.node_machine.specs.world.World.{NodeWorld, node_of}
use Rattle.node_machine.specs.world.Lines.{frames_at, is_running}
use Rattle.node_machine.specs.world.NodeHistories.{world_after}
use Rattle.node_machine.specs.world.Rounds.{ends_in_order, world_rests}
use Rattle.lines_told.specs.lines.Below.{IsPlayedLine, bare_link_behind, nodes_behind, opening_told, told_below}

-- a line that is said, or a round
pub data Play : Type 0 where
  Said : Line → Play
  Round : Play

-- ## The lines of a round

-- An end of a bare link takes all that stands on its wire, where a frame does.
abbrev pub taking_on : Link → End → List Line
taking_on l e = if is_clear (frames_to l e) then [] else saying.Deliver e None ∷ []

-- these ends do, one after another, and time passes once
abbrev pub round_on : ℕ → Link → List End → List Line
round_on h l [] = saying.Tick None ∷ []
round_on h l (e ∷ ends) = taking_on l e ++ round_on h (link_after_lines h l (taking_on l e)) ends

-- An end in a world of nodes takes all that stands on its wire, where its node runs and a frame does.
abbrev pub taking_in : NodeWorld → End → List Line
taking_in w e = if is_running w (node_of e) && not (is_clear (frames_at w e)) then saying.Deliver e None ∷ [] else []

-- these ends do, one after another, and time passes once
abbrev pub round_in : NodeWorld → List End → List Line
round_in w [] = saying.Tick None ∷ []
round_in w (e ∷ ends) = taking_in w e ++ round_in (world_after w (taking_in w e)) ends

-- The lines that a round comes to behind these lines: the controller's end of a link comes first, then the host's, and the links ascending.
abbrev pub round_behind : Header → List Line → List Line
round_behind header before =
    if header.hci
    then round_in (nodes_behind header before) (ends_in_order (nodes_behind header before))
    else round_on (host_of header) (bare_link_behind header before) (end_of (host_of header) Controller ∷ end_of (host_of header) Host ∷ [])

-- ## Plays

-- the lines that a play comes to behind these lines
abbrev pub lines_of_play : Header → List Line → Play → List Line
lines_of_play header before (Said line) = line ∷ []
lines_of_play header before Round = round_behind header before

-- the lines that plays come to, one after another
abbrev pub lines_played : Header → List Play → List Line
lines_played header plays = fold (λ (before : List Line) (play : Play). before ++ lines_of_play header before play) [] plays

-- a play that a world with this header may have
abbrev pub IsPlayFor : Header → Play → Type 0
IsPlayFor header (Said line) = IsPlayedLine header line
IsPlayFor header Round = Unit {0}

-- how many lines are said, and how many rounds there are
abbrev pub lines_said : List Play → ℕ
lines_said [] = 0
lines_said (Said line ∷ plays) = suc (lines_said plays)
lines_said (Round ∷ plays) = lines_said plays

abbrev pub rounds_played : List Play → ℕ
rounds_played [] = 0
rounds_played (Said line ∷ plays) = rounds_played plays
rounds_played (Round ∷ plays) = suc (rounds_played plays)

-- no more than a schedule has: 20,000 lines, or rounds of as many lines, each of 20,000
pub record AreFewPlays (plays : List Play) : Type 0 where
  pub said : lines_said plays ≤ 20000
  pub rounds : rounds_played plays ≤ 400000000

-- ## Settling

-- all links are at rest behind these plays
abbrev pub rests_behind : Header → List Play → Bool
rests_behind header plays =
    if header.hci
    then world_rests (nodes_behind header (lines_played header plays))
    else link_rests (bare_link_behind header (lines_played header plays))

-- the least number of rounds behind which all links are at rest, or n where none below n is
abbrev pub rounds_to_rest : Header → List Play → ℕ → ℕ
rounds_to_rest header plays n = steps_to_rest (rests_behind header) (λ (before : List Play). before ++ Round ∷ []) n plays

-- what is played of a line behind these plays
abbrev pub plays_of_line : Header → List Play → Line → List Play
plays_of_line header before (saying.Settle n) = replicate (rounds_to_rest header before n) Round
plays_of_line header before line = Said line ∷ []

-- what is played of the lines of a schedule, one after another
abbrev pub plays_of : Header → List Line → List Play
plays_of header lines = fold (λ (before : List Play) (line : Line). before ++ plays_of_line header before line) [] lines

-- the lines that a schedule comes to: without a line that lets the links settle, its own
abbrev pub lines_played_of : Header → List Line → List Line
lines_played_of header lines = lines_played header (plays_of header lines)

-- ## What is noted

-- what is noted of lines behind these, one after another
abbrev pub told_behind : Header → List Line → List Line → List Entry
told_behind header before [] = []
told_behind header before (line ∷ lines) = told_below header before line ++ told_behind header (before ++ line ∷ []) lines

-- what is noted of a play behind these lines
abbrev pub told_of_play : Header → List Line → Play → List Entry
told_of_play header before (Said line) = told_below header before line
told_of_play header before Round = told_behind header before (round_behind header before)

-- so many rounds behind these plays
abbrev pub told_of_rounds : Header → List Play → ℕ → List Entry
told_of_rounds header before zero = []
told_of_rounds header before (suc n) =
    told_of_play header (lines_played header before) Round ++ told_of_rounds header (before ++ Round ∷ []) n

-- What is noted below a line of a schedule behind these plays. Below one that lets the links settle it is what its rounds tell, and last how
-- many there were.
abbrev pub told_of_line : Header → List Play → Line → List Entry
told_of_line header before (saying.Settle n) =
    told_of_rounds header before (rounds_to_rest header before n) ++ Settled (rounds_to_rest header before n) ∷ []
told_of_line header before line = told_of_play header (lines_played header before) (Said line)

-- the lines of a schedule behind these plays, each with what is noted below it
abbrev pub told_of_lines : Header → List Play → List Line → List Entry
told_of_lines header before [] = []
told_of_lines header before (line ∷ lines) =
    (Echo line ∷ told_of_line header before line) ++ told_of_lines header (before ++ plays_of_line header before line) lines

-- all that is told of a schedule: its header, its opening, and its lines, each with what is noted below it
abbrev pub schedule_told : Header → List Line → List Entry
schedule_told header lines = Head header ∷ (opening_told header ++ told_of_lines header [] lines)
