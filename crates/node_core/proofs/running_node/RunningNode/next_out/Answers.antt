use Rattle.node_core.proofs.Words.{ap, between, map, option_map, refl, ◌∙◌}
use Rattle.node_core.proofs.Between.{kept_at, kept_frame_at, sent_runs}
use Rattle.node_core.proofs.SeenAsNode.{seen_runs}
use Rattle.node_core.proofs.running_node.RunningNode.next_out.Goals as goal

pub returns-clause-answer : goal.returns-clause-answer
returns-clause-answer g c core ports runs =
    let r = seen_runs c.self.view_is runs in c.next_out.ensures.answer (map between ports) r.ends ∙ kept_frame_at c.args.host ports

pub returns-clause-runs : goal.returns-clause-runs
returns-clause-runs g c core ports runs =
    let r = seen_runs c.self.view_is runs in sent_runs c.args.host r (c.next_out.ensures.stands (map between ports) r.ends) refl refl refl

pub returns-clause-read : goal.returns-clause-read
returns-clause-read g c core ports p runs is =
    let r = seen_runs c.self.view_is runs in
    c.next_out.ensures.read (map between ports) (between p) r.ends (kept_at c.args.host ports ∙ ap (option_map between) is)
