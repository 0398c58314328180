-- What holds of each answer of a node, in the words of its hosts.
use Rattle.std.specs.Prelude.{◌≡◌, ◌⊎◌, ℕ, ◌&&◌, Bool, true, false, not, List, [], ◌∷◌, Some, IsTrue}
use Rattle.hci_tables.specs.Tables.{is_opened}
use Rattle.tables_laws.specs.gate.Rules.{IsAskedFor}
use Rattle.link_laws.specs.machine.Machine.{Message}
use Rattle.node_machine.specs.Parts.{Creation, Deed, NodeView}
use Rattle.node_machine.specs.Parts.Deed.{Commits, Sends, SaysOk, Asks, Orders}
use Rattle.node_laws.specs.answers.Rows.{far_host, waiting_for}

-- a message is relayed: it goes on as it came, on an opened pipe whose other end is at the host to which it goes, and whose link is up
pub record IsRelay (v : NodeView) (h : ℕ) (m : Message) (to : ℕ) (sent : Message) : Type 0 where
  pub same : sent ≡ m
  pub opened : IsTrue (is_opened v.own.tables h m.0)
  pub far : far_host v h m ≡ to
  pub up : IsTrue (v.up to)

-- it goes to the host that asked for the creation for whose answer a notice waits
pub record IsForAsker (v : NodeView) (h to : ℕ) : Type 0 where
  pub creation : Creation
  pub waits : waiting_for v h ≡ Some creation
  pub asker : creation.asker ≡ to

-- A message that a controller sends goes back to its host, is relayed, or goes to the host that asked for a creation.
abbrev pub IsSentAsAllowed : NodeView → ℕ → Message → Deed → Type 0
IsSentAsAllowed v h m (Sends to sent) = (to ≡ h) ⊎ (IsRelay v h m to sent ⊎ IsForAsker v h to)
IsSentAsAllowed v h m _ = Unit {0}

-- A host is asked for a creation only where its whitelist holds the creator, which is the host of the message, and it is connected.
abbrev pub IsAskedAsAllowed : NodeView → ℕ → Deed → Type 0
IsAskedAsAllowed v h (Asks to notice c) = (c.asker ≡ h) × IsAskedFor v.own.tables (v.links h) h to c.command
IsAskedAsAllowed v h _ = Unit {0}

-- Nothing is committed behind a message that is sent, and ANY_OK is said behind a commit and a message, once for each.
abbrev pub commits_first : Bool → Bool → List Deed → Bool
commits_first begun sent [] = true
commits_first begun sent (Commits c ∷ deeds) = not sent && commits_first true sent deeds
commits_first begun sent (Sends to m ∷ deeds) = commits_first begun true deeds
commits_first begun sent (Orders m ∷ deeds) = commits_first begun true deeds
commits_first begun sent (SaysOk ∷ deeds) = (begun && sent) && commits_first false sent deeds
commits_first begun sent (_ ∷ deeds) = commits_first begun sent deeds
