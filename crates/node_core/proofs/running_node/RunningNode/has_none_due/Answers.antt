use Rattle.node_core.proofs.Words.{List, Port, Some, ap, between, map, option_map, slice_get, sym, ◌∙◌, ◌≡◌}
use Rattle.node_core.proofs.Elsewhere.{hosts_differ}
use Rattle.node_core.proofs.Between.{placed, kept_at}
use Rattle.node_core.proofs.SeenAsNode.{seen_runs}
use Rattle.node_core.proofs.running_node.RunningNode.has_none_due.Goals as goal

pub returns : goal.returns
returns g c core ports p runs is =
    let r = seen_runs c.self.view_is runs in
    let kept : List Port = map between ports in
    let e = c.self.inside.node.ends in
    let here : option_map (λ (q : Port). q.desk.host) (slice_get kept c.match-self.near) ≡ Some c.args.host =
    sym (c.host.ensures kept r.ends) ∙ (c.in-Some.is ∙ ap Some c.if-there-host.false) in
    let at = placed c.match-self.near c.args.host (λ (q : Port). q) kept (hosts_differ e.pool e.seats kept r.ends.hosts r.ends.each) here in
    c.is_idle.ensures kept (between p) r.ends (at.1 ∙ (kept_at c.args.host ports ∙ ap (option_map between) is))
