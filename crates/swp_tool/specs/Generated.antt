-- What a run with the words `gen N` has written: one line with the counts of what is noted of the schedule that is drawn from N.
use Rattle.std.specs.Prelude.{◌≡◌, ℕ, ◌-◌, ◌^◌, ◌≤◌, min, Bool, true, false, IsTrue, List, [], ◌∷◌, ◌++◌, length, map, take, codes}
use Rattle.std.specs.List.{filter}
use Rattle.std.specs.Fmt.{decimal}
use Rattle.trace_model.specs.declared.entry.Entry.{Entry}
use Rattle.trace_model.specs.declared.entry.Entry.TheVariants as entry
use Rattle.trace_model.specs.declared.line.Line.{Line}
use Rattle.drawn_schedule.specs.Schedule.{the_header, drawn_lines}
use Rattle.node_machine.specs.world.NodeHistories.{NodeHistory}
use Rattle.node_laws.specs.answers.Headline.{IsPlayed, IsLegal}
use Rattle.node_laws.specs.answers.Headline.PlayedHistory.{OfNodes}
use Rattle.lines_told.specs.lines.Plays.Play.{Said}
use Rattle.told_laws.specs.told.NodesTold.{nodes_told}
use Rattle.world.specs.Worlds.{IsWorldAt}
use Rattle.swp_words.specs.declared.status.Status.{Status}
use Rattle.swp_words.specs.declared.status.Status.TheVariants as status
use Rattle.swp_tool.specs.declared.counts.Counts.{Counts}
use Rattle.swp_tool.specs.declared.generating.Generating.{Generating}
use Rattle.swp_tool.specs.Transcripts.{nodes_history}

-- ## Counts

-- a message was sent, came, or is acknowledged with those before it
abbrev pub is_noted_sent : Entry → Bool
is_noted_sent (entry.Sent at session pid message) = true
is_noted_sent _ = false

abbrev pub is_noted_got : Entry → Bool
is_noted_got (entry.Got at session pid message) = true
is_noted_got _ = false

abbrev pub is_noted_acked : Entry → Bool
is_noted_acked (entry.Acked at session count) = true
is_noted_acked _ = false

-- an end came up
abbrev pub is_noted_up : Entry → Bool
is_noted_up (entry.Up at session) = true
is_noted_up _ = false

-- a node committed a command
abbrev pub is_noted_command : Entry → Bool
is_noted_command (entry.Command node command) = true
is_noted_command _ = false

-- how many entries of a kind there are; a count stands still at 18,446,744,073,709,551,615
abbrev pub count_of_kind : (Entry → Bool) → List Entry → ℕ
count_of_kind kind entries = min (length (filter kind entries)) (2 ^ 64 - 1)

-- these are the counts of these entries
pub record AreCountsOf (c : Counts) (entries : List Entry) : Type 0 where
  pub sent : c.sent ≡ count_of_kind is_noted_sent entries
  pub got : c.got ≡ count_of_kind is_noted_got entries
  pub acked : c.acked ≡ count_of_kind is_noted_acked entries
  pub up : c.up ≡ count_of_kind is_noted_up entries
  pub commands : c.commands ≡ count_of_kind is_noted_command entries

-- ## The run

-- the world stands behind these lines of the schedule, and all that is told of their history was counted
pub record HasCounted (g : Generating) (lines : List Line) : Type 0 where
  pub stands : IsWorldAt g.world the_header (map Said lines)
  pub counts : AreCountsOf g.counts (nodes_told (nodes_history the_header lines))

-- ## The line

-- the line that tells the number from which a schedule is drawn, how many lines it has, and these counts
abbrev pub told_line : ℕ → ℕ → ℕ → ℕ → ℕ → ℕ → List ℕ
told_line n sent got acked up commands =
    codes "gen " ++ decimal n ++ codes " lines 2061 sent " ++ decimal sent ++ codes " got " ++ decimal got ++ codes " acked " ++ decimal acked
    ++ codes " up " ++ decimal up ++ codes " commands " ++ decimal commands ++ 10 ∷ []

-- the one with the counts of these entries
abbrev pub summary_line : ℕ → List Entry → List ℕ
summary_line n entries =
    told_line n (count_of_kind is_noted_sent entries) (count_of_kind is_noted_got entries) (count_of_kind is_noted_acked entries)
    (count_of_kind is_noted_up entries) (count_of_kind is_noted_command entries)

-- A text is the summary of a legal history that is played from the schedule that is drawn from n: its counts are those of all that is
-- told of it.
pub record IsSummary (n : ℕ) (text : List ℕ) : Type 0 where
  pub history : NodeHistory
  pub played : IsPlayed the_header (drawn_lines n) (OfNodes history)
  pub legal : IsLegal (OfNodes history)
  pub text_is : text ≡ summary_line n (nodes_told history)

-- it is a front of one
pub record IsFrontOfSummary (n : ℕ) (text : List ℕ) : Type 0 where
  pub whole : List ℕ
  pub summary : IsSummary n whole
  pub long : ℕ
  pub front : text ≡ take long whole

-- ## How it ends

-- the word `gen` and a number from 0 to 4,294,967,295, without sign or leading zero
abbrev pub IsGen : ℕ → List (List ℕ) → Type 0
IsGen n words = (n ≤ 4294967295) × (words ≡ codes "gen" ∷ decimal n ∷ [])

-- How such a run ended: on Done the summary was written, on a fault of writing a front of it, and nothing without memory. Whether the
-- sink tells what was written comes first: without it there is such a text, and nothing is said of where it went.
abbrev pub Generated : Bool → Status → ℕ → List ℕ → List ℕ → Type 0
Generated tells status.Done n before after = (text : List ℕ) × IsSummary n text × (IsTrue tells → after ≡ before ++ text)
Generated tells status.WriteFault n before after = (text : List ℕ) × IsFrontOfSummary n text × (IsTrue tells → after ≡ before ++ text)
Generated tells status.NoMemory n before after = IsTrue tells → after ≡ before
Generated tells status.BadWords n before after = ⊥
Generated tells (status.BadSchedule line why) n before after = ⊥
Generated tells (status.Undetected line) n before after = ⊥
Generated tells status.ReadFault n before after = ⊥
Generated tells status.NvFault n before after = ⊥
Generated tells (status.TooMany count) n before after = ⊥
Generated tells (status.BadImage why) n before after = ⊥

-- how it can end
abbrev pub IsOfGen : Status → Type 0
IsOfGen status.Done = Unit {0}
IsOfGen status.WriteFault = Unit {0}
IsOfGen status.NoMemory = Unit {0}
IsOfGen status.BadWords = ⊥
IsOfGen (status.BadSchedule line why) = ⊥
IsOfGen (status.Undetected line) = ⊥
IsOfGen status.ReadFault = ⊥
IsOfGen status.NvFault = ⊥
IsOfGen (status.TooMany count) = ⊥
IsOfGen (status.BadImage why) = ⊥
