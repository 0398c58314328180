-- What is noted where a link is at rest.
use Rattle.std.specs.Prelude.{◌≡◌, ℕ, List, [], Some, length}
use Rattle.trace_model.specs.declared.entry.Entry.{Entry}
use Rattle.history.specs.Filters.{sent_in, acked_in, session_number, wire_to}
use Rattle.node_machine.specs.world.World.{end_c, end_h}
use Rattle.node_machine.specs.world.Lines.{Occurrence}
use Rattle.node_machine.specs.world.NodeHistories.{entries_in}
use Rattle.node_machine.specs.world.NodeFilters.{session_now}
use Rattle.node_laws.specs.telling.Standing.{standing_behind}

-- As these events of a world of nodes tell it, both wires of the link with this host are empty, and at an end that is up in a session as many
-- messages count as acknowledged in it as were sent.
pub record AreNotedQuiet (events : List Occurrence) (h : ℕ) : Type 0 where
  pub to_controller : (standing_behind h events).to_controller ≡ []
  pub to_host : (standing_behind h events).to_host ≡ []
  pub controller : (n : ℕ) → session_now (entries_in events) (end_c h) 0 ≡ Some n
      → acked_in (entries_in events) (end_c h) n ≡ length (sent_in (entries_in events) (end_c h) n)
  pub host : (n : ℕ) → session_now (entries_in events) (end_h h) h ≡ Some n
      → acked_in (entries_in events) (end_h h) n ≡ length (sent_in (entries_in events) (end_h h) n)

-- so it is as these entries of a bare world tell it
pub record AreNotedQuietInBare (t : List Entry) (h : ℕ) : Type 0 where
  pub to_controller : wire_to t (end_c h) ≡ []
  pub to_host : wire_to t (end_h h) ≡ []
  pub controller : (n : ℕ) → session_number t (end_c h) ≡ Some n → acked_in t (end_c h) n ≡ length (sent_in t (end_c h) n)
  pub host : (n : ℕ) → session_number t (end_h h) ≡ Some n → acked_in t (end_h h) n ≡ length (sent_in t (end_h h) n)
