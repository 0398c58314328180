-- When two controllers decide alike.
use Rattle.std.specs.Prelude.{◌≡◌, ℕ, true}
use Rattle.std.specs.Option.{option_map}
use Rattle.hci_tables.specs.declared.command.Command.{Command}
use Rattle.node_machine.specs.Parts.{NodeView}
use Rattle.node_machine.specs.Controller.{creation_of}
use Rattle.node_laws.specs.views.Views.{IsSameView}

-- Two controllers know the same as a message of the host h has its turn: their tables, for which commands there is room, which links are
-- up, whether a creation of h waits, what their gates go by where its link is up, and which creation the notice to h is about.
pub record KnowsTheSame (v u : NodeView) (h : ℕ) : Type 0 where
  pub tables : v.own.tables ≡ u.own.tables
  pub room : (x : Command) → v.own.has_room x ≡ u.own.has_room x
  pub links : (k : ℕ) → v.up k ≡ u.up k
  pub asks : v.asks h ≡ u.asks h
  pub view : v.up h ≡ true → IsSameView (v.links h) (u.links h)
  pub notice : option_map creation_of (v.notice h) ≡ option_map creation_of (u.notice h)
