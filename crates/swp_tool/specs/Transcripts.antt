-- The transcript of a history, below either header.
use Rattle.std.specs.Prelude.{◌≡◌, ℕ, Bool, true, false, not, if◌then◌else◌, List, [], ◌∷◌, ◌++◌, Option, Some, None, codes}
use Rattle.std.specs.List.{All, filter}
use Rattle.std.specs.Fmt.{decimal}
use Rattle.trace_model.specs.declared.entry.Entry.{Entry}
use Rattle.trace_model.specs.declared.entry.Entry.TheVariants as entry
use Rattle.trace_model.specs.declared.line.Header.{Header}
use Rattle.trace_model.specs.declared.line.Line.{Line}
use Rattle.schedule_text.specs.Entries.{entry_lines}
use Rattle.link_laws.specs.messages.Links.{Link}
use Rattle.history.specs.Histories.{Step, History, Outcome}
use Rattle.history.specs.Steps.{bare_link}
use Rattle.history.specs.Follows.{host_of, opening_of, outcome_of, link_after_line}
use Rattle.node_machine.specs.world.World.{new_world}
use Rattle.node_machine.specs.world.NodeHistories.{NodeHistory, steps_from}
use Rattle.node_laws.specs.answers.Headline.{PlayedHistory, IsPlayed, IsLegal}
use Rattle.node_laws.specs.answers.Headline.PlayedHistory.{OfLink, OfNodes}
use Rattle.told_laws.specs.texts.Ranges.{IsNumber, IsEntry}
use Rattle.lines_told.specs.lines.Plays.{lines_played_of, schedule_told}
use Rattle.told_laws.specs.told.Told.{entries_told}
use Rattle.told_laws.specs.told.NodesTold.{nodes_told}
use Rattle.swp_tool.specs.Schedules.{Stop, Schedule, schedule_in}

-- ## The history of a schedule

-- what becomes of lines on the link with this host, one after another
abbrev pub link_steps_from : ℕ → Link → List Line → List Step
link_steps_from h l [] = []
link_steps_from h l (line ∷ lines) =
    let o : Outcome = outcome_of h l line in record { line = line; outcome = o } ∷ link_steps_from h (link_after_line l o) lines

-- the one history of a bare link that follows these lines below this header
abbrev pub link_history : Header → List Line → History
link_history header lines =
    record { header = header; opening = opening_of (host_of header); steps = link_steps_from (host_of header) bare_link lines }

-- the one history of nodes that follows these lines below this header: what becomes of each line in turn
abbrev pub nodes_history : Header → List Line → NodeHistory
nodes_history header lines = record { header = header; steps = steps_from (new_world header.hosts.items) lines }

-- the one history that is played from these lines below this header
abbrev pub history_below : Header → List Line → PlayedHistory
history_below header lines = if header.hci then OfNodes (nodes_history header lines) else OfLink (link_history header lines)

-- ## Its text

-- all that is told of a history, below either header
abbrev pub played_told : PlayedHistory → List Entry
played_told (OfLink t) = entries_told t
played_told (OfNodes t) = nodes_told t

-- an entry says what the schedule says, or how many rounds a line had, and not what happened
abbrev pub is_of_schedule : Entry → Bool
is_of_schedule (entry.Head header) = true
is_of_schedule (entry.Echo line) = true
is_of_schedule (entry.Settled rounds) = true
is_of_schedule _ = false

-- the entries that tell what happened, in order
abbrev pub what_happened : List Entry → List Entry
what_happened entries = filter (λ (e : Entry). not (is_of_schedule e)) entries

-- the last line, with the number of lines of the schedule
abbrev pub done_line : ℕ → List ℕ
done_line count = codes "done " ++ decimal count ++ 10 ∷ []

-- A text is the transcript of these lines below this header: it tells the header, the lines, and below each what is noted of it. What it
-- tells to have happened is what is noted of one legal history, which is played from the lines that these come to: their own, where none
-- of them lets the links settle, and else the deliveries and ticks of its rounds in such a line's place.
pub record IsPlayedText (header : Header) (lines : List Line) (text : List ℕ) : Type 0 where
  pub history : PlayedHistory
  pub played : IsPlayed header (lines_played_of header lines) history
  pub legal : IsLegal history
  pub tells : what_happened (schedule_told header lines) ≡ what_happened (played_told history)
  pub text_is : text ≡ entry_lines (schedule_told header lines)

-- A text is the transcript of these lines below this header: nothing before a header.
abbrev pub IsTextBelow : Option Header → List Line → List ℕ → Type 0
IsTextBelow None lines text = text ≡ []
IsTextBelow (Some header) lines text = IsPlayedText header lines text

-- it is that of the lines of a schedule
abbrev pub IsTranscript : Schedule → List ℕ → Type 0
IsTranscript s text = IsTextBelow s.header s.lines text

-- A text is the transcript of the whole schedule that the bytes are, with its last line: what a replay writes that is done.
pub record IsDoneText (bytes text : List ℕ) : Type 0 where
  pub running : (schedule_in bytes).stop ≡ None
  pub lines_text : List ℕ
  pub transcript : IsTranscript (schedule_in bytes) lines_text
  pub text_is : text ≡ lines_text ++ done_line (schedule_in bytes).count

-- The schedule of the bytes stops at this line, for this reason, and the text is the transcript of the lines before it: what a replay
-- writes that is refused there, or that damage ends that the CRC doesn't show.
pub record StopsWithText (bytes : List ℕ) (why : Stop) (line : ℕ) (text : List ℕ) : Type 0 where
  pub stop : (schedule_in bytes).stop ≡ Some why
  pub line_is : (schedule_in bytes).count ≡ line
  pub transcript : IsTranscript (schedule_in bytes) text

-- ## What a text tells

-- the text of entries and the line that ends it, with this number of lines
abbrev pub whole_text : List Entry → ℕ → List ℕ
whole_text entries count = entry_lines entries ++ done_line count

-- A text tells these entries: it is theirs, and no other entries, each in its range, have it.
pub record TellsEntries (text : List ℕ) (entries : List Entry) : Type 0 where
  pub in_range : All IsEntry entries
  pub count : ℕ
  pub few : IsNumber count
  pub text_is : text ≡ whole_text entries count
  pub alone : (others : List Entry) (n : ℕ) → All IsEntry others → IsNumber n → text ≡ whole_text others n → others ≡ entries

-- A text tells what became of the lines of a schedule: their entries, which tell what happened in the legal history that is played from what
-- they come to.
pub record TellsPlayed (s : Schedule) (text : List ℕ) : Type 0 where
  pub header : Header
  pub header_is : s.header ≡ Some header
  pub history : PlayedHistory
  pub played : IsPlayed header (lines_played_of header s.lines) history
  pub legal : IsLegal history
  pub tells : what_happened (schedule_told header s.lines) ≡ what_happened (played_told history)
  pub told : TellsEntries text (schedule_told header s.lines)
