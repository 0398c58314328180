-- What a history of a world of nodes is, whatever schedule it follows.
use Rattle.std.specs.Prelude.{◌≡◌, ℕ, false, List, ◌++◌}
use Rattle.std.specs.List.{list_any}
use Rattle.trace_model.specs.declared.entry.Entry.{Entry}
use Rattle.history.specs.Legal.{IsInOrder, is_chain_fault}
use Rattle.node_machine.specs.world.Lines.{Occurrence}
use Rattle.node_machine.specs.world.NodeHistories.{NodeHistory, node_entries, occurrences_in}
use Rattle.node_machine.specs.world.NodeLegal.{Allowed, AreInTurn}
use Rattle.node_laws.specs.cuts.Histories.{KeptExactly}
use Rattle.node_laws.specs.order.Told.{HasDeliveredAll}
use Rattle.node_laws.specs.order.Resets.{ResetNodes, TickResetNodes}

-- At each moment messages are in order.
abbrev pub PrefixNodes : NodeHistory → Type 0
PrefixNodes t = (front back : List Entry) → node_entries t ≡ front ++ back → IsInOrder front

-- At the end of each event a link that is still has delivered all, and a reset whose answer nothing kept back has brought both ends up: one
-- that a line asked for, and one in a tick. All of it is read off the events until then. No session ends by packets that can't be joined.
pub record CompleteNodes (t : NodeHistory) : Type 0 where
  pub delivered : (front back : List Occurrence) → occurrences_in t ≡ front ++ back → (h : ℕ) → HasDeliveredAll front h
  pub upheld : ResetNodes t
  pub upheld_in_ticks : TickResetNodes t
  pub joined : list_any is_chain_fault (node_entries t) ≡ false

-- A legal history of nodes. Of the answers it says that messages have their turns in the order in which they came.
pub record LegalNodes (t : NodeHistory) : Type 0 where
  pub in_order : PrefixNodes t
  pub complete : CompleteNodes t
  pub allowed : Allowed (node_entries t)
  pub kept : KeptExactly t
  pub in_turn : AreInTurn (node_entries t)
