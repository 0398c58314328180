-- What is asked of an end of a node whose frames go out.
use Rattle.std.specs.Prelude.{◌≡◌, ℕ, ◌==◌, true, List, Some}
use Rattle.std.specs.List.{AllByRecursion}
use Rattle.trace_model.specs.declared.line.End.{End}
use Rattle.link_laws.specs.machine.Machine.{sent_all}
use Rattle.node_machine.specs.Parts.{Port}
use Rattle.node_machine.specs.Carrying.{port_at}

-- no other end is on the link with this host
abbrev pub IsOnly : ℕ → Port → List Port → Type 0
IsOnly h p ports = AllByRecursion (λ (q : Port). (q.desk.host == h) ≡ true → q ≡ p) ports

-- an end whose frames went out
abbrev pub sent_port : Port → Port
sent_port p = record p { side = sent_all p.side }

-- a node runs so, and this is its one end of a link
pub record SendsFrom (Runs : Type 0) (at : End) (p : Port) (ports : List Port) : Type 0 where
  pub runs : Runs
  pub here : port_at ports at.link ≡ Some p
  pub only : IsOnly at.link p ports
