-- Which deeds of one message a node may do.
use Rattle.std.specs.Prelude.{ℕ, List, [], ◌∷◌, Option, Some, None}
use Rattle.journal_laws.specs.declared.state.State.{State}
use Rattle.hci_tables.specs.declared.command.Command.{Command}
use Rattle.hci_tables.specs.Commands.{IsCommand}
use Rattle.node_machine.specs.Parts.{Init, Deed}
use Rattle.node_machine.specs.Parts.Deed.{Commits, Asks, Orders, Hears, GoesOn, Ends}
use Rattle.node_machine.specs.Orders.{IsOnOrder}
use Rattle.node_laws.specs.kept.Finds.{FindsRoom}
use Rattle.node_laws.specs.kept.Books.{IsPlain}

-- a command may be recorded and finds room in this journal, if one may still be committed
abbrev pub MayCommit : Option State → Command → Type 0
MayCommit None c = ⊥
MayCommit (Some s) c = IsCommand c × FindsRoom s c

-- a host is asked for one
abbrev pub MayAsk : Option State → Command → Type 0
MayAsk None c = ⊥
MayAsk (Some s) c = IsCommand c

-- The deeds of one message commit or ask for one command at most, and a host's init stays with its command.
abbrev pub MayBeDone : Option State → Option (List ℕ) → Option Init → List Deed → Type 0
MayBeDone s command init [] = IsOnOrder command init
MayBeDone s command init (Commits c ∷ deeds) = MayCommit s c × MayBeDone None command init deeds
MayBeDone s command init (Asks to message c ∷ deeds) = MayAsk s c.command × MayBeDone None command init deeds
MayBeDone s command init (Orders message ∷ deeds) = MayBeDone s (Some message) init deeds
MayBeDone s command init (Hears ∷ deeds) = MayBeDone s None init deeds
MayBeDone s command init (GoesOn i ∷ deeds) = MayBeDone s command (Some i) deeds
MayBeDone s command init (Ends e ∷ deeds) = IsPlain e × MayBeDone s command None deeds
MayBeDone s command init (_ ∷ deeds) = MayBeDone s command init deeds
