use Rattle.node_core.proofs.Words.{IfSome, Node, Ok, RunsAs, Some, has_sent, next_frame, port_at, subst, sym, with_port, ℕ, ◌≡◌}
use Rattle.swp_lpdu.specs.Controls.{lpdu_of, control_of}
use Rattle.node_core.proofs.host.Host.next_out.Goals as goal

pub returns-clause-runs : goal.returns-clause-runs
returns-clause-runs g c core ports runs =
    let F : Node g.row.N.Denot → Type 0 = λ n. RunsAs n core ports → RunsAs c.next_out.new.self core (with_port n.number has_sent ports) in
    let P : ℕ → Type 0 = λ h. RunsAs c.next_out.new.self core (with_port h has_sent ports) in
    subst F c.self.view_is (λ r. subst P c.number-host.ensures (c.next_out.ensures.runs core ports r)) runs

pub returns-clause-read : goal.returns-clause-read
returns-clause-read g c core ports p runs is =
    let F : Node g.row.N.Denot → Type 0 = λ n. RunsAs n core ports → port_at ports n.number ≡ Some p
    → IfSome (next_frame p.side) (λ x. control_of (lpdu_of x) ≡ Ok x) in
    let P : ℕ → Type 0 = λ h. port_at ports h ≡ Some p in
    subst F c.self.view_is (λ r there. c.next_out.ensures.read core ports p r (subst P (sym c.number-host.ensures) there)) runs is
