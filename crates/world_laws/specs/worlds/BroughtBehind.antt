-- What has come behind plays, where a world settles, as it is noted.
use Rattle.std.specs.Prelude.{◌≡◌, ◌+◌, ◌*◌, ◌≤◌, ℕ, true, false, List, ◌++◌, Some, replicate}
use Rattle.trace_model.specs.declared.line.Header.{Header}
use Rattle.history.specs.Follows.{Follows, host_of}
use Rattle.history.specs.Histories.{History, all_entries}
use Rattle.node_machine.specs.world.NodeHistories.{FollowsNodes, NodeHistory, node_entries}
use Rattle.node_machine.specs.world.World.{Site, site_at}
use Rattle.node_laws.specs.order.Told.{AreUpWith}
use Rattle.lines_told.specs.lines.Below.{nodes_behind}
use Rattle.lines_told.specs.lines.Plays.{Play, lines_played}
use Rattle.lines_told.specs.lines.Plays.Play.{Round}
use Rattle.world_laws.specs.worlds.Brought.{AreBothUpIn, BothBrought}
use Rattle.world_laws.specs.worlds.NotedFragments.{fragments_noted}
use Rattle.world_laws.specs.worlds.Undisturbed.{AreLeftReady, ArePoweredNotes, AreUndisturbedNotes, AreUnheldNotes, entries_since}

-- Behind these plays a world settled in r rounds, of n at most. F fragments of the messages that were sent both ways on a link in the session in
-- which both its ends are up aren't acknowledged before, and 24 (F + 1) ≤ n. In what is noted of the rounds no session of the link ends, no frame of
-- it is lost, and no power of its nodes is cut; and its ends take fragments: no message is held at them before the rounds or in them, or, in a bare
-- world, no line left them busy. Then all good messages that were sent before are got, and all that were sent before are acknowledged. All of it is
-- as the histories of the plays note it.
pub record BringsAll (header : Header) (plays : List Play) (n r : ℕ) : Type 0 where
  pub nodes : header.hci ≡ true → (t later : NodeHistory) → FollowsNodes header (lines_played header plays) t
      → FollowsNodes header (lines_played header (plays ++ replicate r Round)) later → (h : ℕ) (s : Site)
      → site_at (nodes_behind header (lines_played header plays)).sites h ≡ Some s → (k : ℕ)
      → AreUpWith (node_entries t) h k → AreUnheldNotes (node_entries t) (entries_since (node_entries t) (node_entries later)) h
      → ArePoweredNotes (entries_since (node_entries t) (node_entries later)) h
      → 24 * (fragments_noted (node_entries t) h k + 1) ≤ n → BothBrought (node_entries t) (node_entries later) h k
  pub bare : header.hci ≡ false → (t later : History) → Follows header (lines_played header plays) t
      → Follows header (lines_played header (plays ++ replicate r Round)) later → (k : ℕ) → AreBothUpIn (all_entries t) (host_of header) k
      → AreLeftReady (lines_played header plays) (host_of header)
      → AreUndisturbedNotes (entries_since (all_entries t) (all_entries later)) (host_of header)
      → 24 * (fragments_noted (all_entries t) (host_of header) k + 1) ≤ n → BothBrought (all_entries t) (all_entries later) (host_of header) k
