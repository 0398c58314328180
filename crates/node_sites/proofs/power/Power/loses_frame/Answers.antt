use Rattle.node_sites.proofs.Words.{Desk, IsNodePlace, Memory, Node, None, NumberedEnd, On, Option, Running, RunsAs, Some, ap, map, port_for, sym, ℕ, ◌∙◌}
use Rattle.node_sites.proofs.Powers.{counted, plain, while_off}
use Rattle.node_sites.proofs.power.Power.loses_frame.Goals as goal

-- a node that runs
record Runs (n : Node Memory) (near : ℕ → NumberedEnd) : Type 0 where
  r : Running
  runs : RunsAs n r.core (map (λ (d : Desk). port_for (near d.host) d) r.desks)

runs_here : (n : Node Memory) (m : Memory) (node : Option Running) (near : ℕ → NumberedEnd) → IsNodePlace (On n) m node near → Runs n near
runs_here n m (Some r) near place = record { r = r; runs = place.1 }
runs_here n m None near place = absurd place

pub refused-requires : goal.refused-requires
refused-requires c =
    let q = c.requires.state in
    let here = runs_here c.in-On.node q.0 q.1 q.2 (rw c.in-On.is at q.3) in
    record { runs = (here.r.core, _, here.runs) }

pub returns-then-not-is_refusal : goal.returns-then-not-is_refusal
returns-then-not-is_refusal c m node near why place cause =
    plain m near c.args.host why c.args.self.now node (sym (c.is_refusal.ensures why cause) ∙ c.if-not-is_refusal.true) place

pub returns-in-On : goal.returns-in-On
returns-in-On c m node near why place cause =
    counted m near c.args.host why c.in-On.node c.refused.new.self node (sym (c.is_refusal.ensures why cause) ∙ c.if-not-is_refusal.false)
    (ap (λ s. s.journal.nv) c.refused.ensures.store) c.refused.ensures.runs (rw c.in-On.is at place)

pub returns-in_default : goal.returns-in_default
returns-in_default c m node near why place cause = while_off m near c.args.host why c.args.self.now node c.in_default.not-On place
