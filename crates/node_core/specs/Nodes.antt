-- What is kept of a node, and for which states of its machine it stands.
use Rattle.std.specs.Prelude.{◌≡◌, ℕ, ◌≤◌, Bool, false, not, List, [], ◌∷◌, ◌++◌, map, take, Option, option_map, IsSome, IfSome, IsTrue}
use Rattle.trace_model.specs.declared.entry.Entry.{Entry}
use Rattle.node_machine.specs.Parts.{Core, Port, Work}
use Rattle.hci_store.specs.Stored.{Stored}
use Rattle.node_deeds.specs.Shown.{ordered_by}
use Rattle.node_deeds.specs.Hosts.{init_running}
use Rattle.node_ends.specs.Ends.{KeptEnds, EndsStandFor, got_at}
use Rattle.node_core.specs.declared.node.Node.{Node}
use Rattle.node_core.specs.declared.node.InBuffer.{InBuffer}
use Rattle.node_core.specs.Noting.{unnumbered}
use Rattle.node_core.specs.Bringing.{Brings}

-- what a node that has its power keeps for all its ends
pub record CoreStandsFor {N : Type 0} (n : Node N) (c : Core) : Type 0 where
  pub journal : c.journal ≡ n.store.journal.state
  pub tables : c.tables ≡ n.store.tables
  pub command : option_map ordered_by c.command ≡ n.tasks.command
  pub init : c.init ≡ init_running n.tasks.init

-- a store may be used while it is live: it was started, and its bank in use is of version 02
pub record IsUsable {N : Type 0} (s : Stored N) : Type 0 where
  pub started : IsTrue s.journal.live → IsSome s.journal.state.in_use
  pub version : IsTrue s.journal.live → s.journal.state.version ≡ 2

-- A node in a step, with what was noted in it: behind the entries from before, while there was memory for them.
pub record IsInStep {N : Type 0} (n : Node N) (noted : List Entry) (short : Bool) (start : List Entry) (w : Work) : Type 0 where
  pub node : w.core.node ≡ n.number
  pub core : w.cut ≡ false → CoreStandsFor n w.core
  pub ends : EndsStandFor n.ends w.ports
  pub noted_are : short ≡ false → noted ≡ start ++ map unnumbered w.entries
  pub power : w.cut ≡ not n.store.journal.live

-- What is done to a node that is in a step, with its watch, is what f makes of the step, and what that notes is noted behind the rest. A watch
-- shows what was noted, and whether there was no memory for an entry, by the words of its trait.
abbrev pub Carries : {N V : Type 0} → (V → List Entry) → (V → Bool) → Node N × V → Node N × V → (Work → Work) → Type 0
Carries noted short old new f = (start : List Entry) (w : Work) → IsInStep old.0 (noted old.1) (short old.1) start w
    → IsInStep new.0 (noted new.1) (short new.1) start (f w)

-- the same, where writes may fail
abbrev pub CarriesOut : {N V : Type 0} → (N → ℕ → List ℕ → Bool → N → Type 0) → (V → List Entry) → (V → Bool) → Node N × V → Node N × V
    → (Work → Work) → Type 0
CarriesOut writes noted short old new f = (start : List Entry) (w : Work) → IsInStep old.0 (noted old.1) (short old.1) start w
    → Brings writes old.0.store.journal.nv new.0.store.journal.nv (IsInStep new.0 (noted new.1) (short new.1) start) f w

-- the same, where nothing is noted
abbrev pub CarriesUnseen : {N : Type 0} → Node N → Node N → (Work → Work) → Type 0
CarriesUnseen old new f = (noted : List Entry) (short : Bool) (start : List Entry) (w : Work) → IsInStep old noted short start w
    → IsInStep new noted short start (f w)

-- the same for a step of which P holds
abbrev pub CarriesWhere : {N V : Type 0} → (Work → Type 0) → (V → List Entry) → (V → Bool) → Node N × V → Node N × V → (Work → Work) → Type 0
CarriesWhere P noted short old new f = (start : List Entry) (w : Work) → IsInStep old.0 (noted old.1) (short old.1) start w → P w
    → IsInStep new.0 (noted new.1) (short new.1) start (f w)

abbrev pub CarriesOutWhere : {N V : Type 0} → (N → ℕ → List ℕ → Bool → N → Type 0) → (Work → Type 0) → (V → List Entry) → (V → Bool) → Node N × V
    → Node N × V → (Work → Work) → Type 0
CarriesOutWhere writes P noted short old new f = (start : List Entry) (w : Work) → IsInStep old.0 (noted old.1) (short old.1) start w → P w
    → Brings writes old.0.store.journal.nv new.0.store.journal.nv (IsInStep new.0 (noted new.1) (short new.1) start) f w

-- a node is in some step, with its watch, of which this holds
abbrev pub IsInSomeStep : {N V : Type 0} → (V → List Entry) → (V → Bool) → Node N × V → (Work → Type 0) → Type 0
IsInSomeStep noted short now P = (start : List Entry) × (w : Work) × IsInStep now.0 (noted now.1) (short now.1) start w × P w

-- such a message waits at its end, and lies in the front of this buffer
abbrev pub IsInBuffer : KeptEnds → List ℕ → InBuffer → Type 0
IsInBuffer e buffer m = (m.len ≤ 4096) × ((ports : List Port) → EndsStandFor e ports → got_at ports m.host ≡ (m.pipe, take m.len buffer) ∷ [])

-- the same, where there is one
abbrev pub LiesInBuffer : KeptEnds → List ℕ → Option InBuffer → Type 0
LiesInBuffer e buffer o = IfSome o (IsInBuffer e buffer)
