use Rattle.node_core.proofs.Words.{Err, HasStepped, HostRefused, Init, IsAsked, IsInStep, Node, None, Ok, Result, RunsAs, Some, Work, [], all_done, ap}
use Rattle.node_core.proofs.Words.{beginning, between, give_refusal, if_waiting, is_some, not, option_map, port_at, refl, refused_as, sending, subst, sym, ◌∙◌}
use Rattle.node_core.proofs.Words.{◌∷◌, ◌≡◌}
use Rattle.node_core.proofs.Between.{at_rest, rests_in_step, kept_at, ends_kept}
use Rattle.node_core.proofs.Asking.{not_zero, asked_in_step, has_begun_so}
use Rattle.node_core.proofs.Sendings.{was_ok, where_ok, begun_so}
use Rattle.node_core.proofs.running_node.RunningNode.init.Goals as goal

pub returns-in-Err-clause-refusal : goal.returns-in-Err-clause-refusal
returns-in-Err-clause-refusal g c core ports p runs at =
    let noted = g.W.Watch.noted c.args.watch.now in
    let short = g.W.Watch.is_short c.args.watch.now in
    let F : Node g.row.N.Denot → Type 0 = λ n. RunsAs n core ports → port_at ports n.number ≡ Some p
    → refused_as (Err c.in-Err.why) ≡ if_waiting (is_some core.command) (give_refusal p.side (1, 3 ∷ [])) in
    let whole : F c.self.inside.node = λ r here. (
    ap (λ (x : Result (Unit {0}) HostRefused). refused_as x) (sym c.in-Err.is)
    ∙ c.give_step.ensures.refusal noted short noted (at_rest core ports) (between p) (rests_in_step noted short r)
    (kept_at c.self.inside.node.number ports ∙ ap (option_map between) here)) in
    subst F c.self.view_is whole runs at

pub returns-clause-refusal : goal.returns-clause-refusal
returns-clause-refusal g c core ports p runs at =
    let noted = g.W.Watch.noted c.args.watch.now in
    let short = g.W.Watch.is_short c.args.watch.now in
    let F : Node g.row.N.Denot → Type 0 = λ n. RunsAs n core ports → port_at ports n.number ≡ Some p
    → None ≡ if_waiting (is_some core.command) (give_refusal p.side (1, 3 ∷ [])) in
    let whole : F c.self.inside.node = λ r here. (
    ap (λ (x : Result (Unit {0}) HostRefused). refused_as x) (sym (was_ok c.give_step.result c.in_default.not-Err))
    ∙ c.give_step.ensures.refusal noted short noted (at_rest core ports) (between p) (rests_in_step noted short r)
    (kept_at c.self.inside.node.number ports ∙ ap (option_map between) here)) in
    subst F c.self.view_is whole runs at

pub returns-clause-begun : goal.returns-clause-begun
returns-clause-begun g c start w asked =
    let t = c.give_step in
    let ok = was_ok t.result c.in_default.not-Err in
    let F : Node g.row.N.Denot → Type 0 = λ n. IsAsked n (g.W.Watch.noted c.args.watch.now) (g.W.Watch.is_short c.args.watch.now) start w
    → HasStepped (record c.run_init.new.self { ends = c.begin_step.new.self }) (g.W.Watch.noted t.new.watch) (g.W.Watch.is_short t.new.watch) start
    (all_done n.number (beginning c.args.identity.now c.args.pipes.now) w) in
    subst F c.self.view_is (λ a. by ok a) asked
  where
    by : c.give_step.result ≡ Ok tt → IsAsked c.self.inside.node (g.W.Watch.noted c.args.watch.now) (g.W.Watch.is_short c.args.watch.now) start w
        → HasStepped (record c.run_init.new.self { ends = c.begin_step.new.self })
        (g.W.Watch.noted c.give_step.new.watch) (g.W.Watch.is_short c.give_step.new.watch) start
        (all_done c.self.inside.node.number (beginning c.args.identity.now c.args.pipes.now) w)
    by ok a =
        let t = c.give_step in
        let r = c.run_init in
        let h = c.self.inside.node.number in
        let noted = g.W.Watch.noted t.new.watch in
        let short = g.W.Watch.is_short t.new.watch in
        let nonzero = not_zero h (rw (c.self.view_is) c.requires.some) in
        let i : Init = record { identity = c.args.identity.now; pipes = c.args.pipes.now; answered = 0 } in
        let first : Work = all_done h (sending h (1, 3 ∷ [])) w in
        let given = where_ok ok t.ensures.given in
        let P : Work → Type 0 = λ v. IsInStep r.new.self noted short start v in
        let u = asked_in_step a in
        let begun = subst P (begun_so h i w (u.power ∙ ap not a.runs.live)) (r.ensures.runs_it h noted short start first (given start w u)) in
        has_begun_so {n2 = record r.new.self { ends = c.begin_step.new.self }} c.args.identity.now c.args.pipes.now a nonzero begun
        (r.ensures.store ∙ t.ensures.store) (λ ports e. ends_kept c.begin_step.new.self ports (c.begin_step.ensures ports e)) refl refl refl
