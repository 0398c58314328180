-- What holds of what a world was made to play, in the words of the laws: its history is legal, and what a node committed is kept.
use Rattle.std.specs.Prelude.{◌≡◌, ◌≤◌, ℕ, List, [], ◌∷◌, ◌++◌, None}
use Rattle.trace_model.specs.declared.entry.Entry.{Entry}
use Rattle.trace_model.specs.declared.entry.Entry.TheVariants as entry
use Rattle.trace_model.specs.declared.line.Header.{Header}
use Rattle.journal_laws.specs.Journal.{count}
use Rattle.hci_tables.specs.Tables.{close}
use Rattle.hci_store.specs.Image.{image_fault, tables_of}
use Rattle.node_machine.specs.world.NodeFilters.{tables_in}
use Rattle.node_machine.specs.world.NodeHistories.{FollowsNodes, NodeHistory, node_entries}
use Rattle.node_machine.specs.world.NodeLegal.{FindsCommands}
use Rattle.node_laws.specs.answers.Headline.{IsLegal, IsPlayed, PlayedHistory}
use Rattle.lines_told.specs.lines.Plays.{Play, lines_played}

-- These plays have a history below this header, of a bare link or of nodes: it follows the lines that they come to, and is legal.
pub record HaveLegalHistory (header : Header) (plays : List Play) : Type 0 where
  pub history : PlayedHistory
  pub played : IsPlayed header (lines_played header plays) history
  pub legal : IsLegal history

-- A boot over this memory of a node, put next behind these entries, finds what `Kept` says: all commands of the node, or all but the last one
-- where the power went in that one's writes, and no fewer than any ANY_OK of the node counted. Nothing is wrong with the memory, and its tables,
-- all pipes closed, are those that are read off the entries with that boot behind them.
pub record IsFoundAsKept (t : List Entry) (node : ℕ) (content : List ℕ) : Type 0 where
  pub found : ℕ
  pub commands : FindsCommands t node found
  pub answered : (front back : List Entry) (k : ℕ) → t ≡ front ++ (entry.AnyOk node k ∷ back) → k ≤ found
  pub sound : image_fault content ≡ None
  pub count_is : count content ≡ found
  pub tables_are : close (tables_of content) ≡ tables_in (t ++ entry.Booted node found ∷ []) node

-- so it is behind the entries of the history that follows the lines of these plays
pub record IsKeptBehind (header : Header) (plays : List Play) (node : ℕ) (content : List ℕ) : Type 0 where
  pub history : NodeHistory
  pub follows : FollowsNodes header (lines_played header plays) history
  pub found : IsFoundAsKept (node_entries history) node content
