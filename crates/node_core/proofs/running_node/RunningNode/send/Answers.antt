use Rattle.node_core.proofs.Words.{Err, HasStepped, HostRefused, IsAsked, Node, None, Ok, Port, Result, RunsAs, Some, all_done, ap, between, give_refusal}
use Rattle.node_core.proofs.Words.{if_waiting, is_command_message, is_some, option_map, port_at, refl, refused_as, sending, subst, sym, ◌&&◌, ◌==◌, ◌∙◌, ◌≡◌}
use Rattle.node_core.proofs.Between.{at_rest, rests_in_step, kept_at, ends_kept}
use Rattle.node_core.proofs.Asking.{not_zero, asked_in_step, has_sent_so}
use Rattle.node_core.proofs.Sendings.{was_ok, where_ok}
use Rattle.node_core.proofs.running_node.RunningNode.send.Goals as goal

pub returns-in-Err-clause-refusal : goal.returns-in-Err-clause-refusal
returns-in-Err-clause-refusal g c core ports p runs at =
    let noted = g.W.Watch.noted c.args.watch.now in
    let short = g.W.Watch.is_short c.args.watch.now in
    let F : Node g.row.N.Denot → Type 0 = λ n. RunsAs n core ports → port_at ports n.number ≡ Some p
    → refused_as (Err c.in-Err.why) ≡ if_waiting ((c.args.pipe == 1 && is_command_message c.args.message.now) && is_some core.command)
    (give_refusal p.side (c.args.pipe, c.args.message.now)) in
    let whole : F c.self.inside.node = λ r here. (
    ap (λ (x : Result (Unit {0}) HostRefused). refused_as x) (sym c.in-Err.is)
    ∙ c.give_step.ensures.refusal noted short noted (at_rest core ports) (between p) (rests_in_step noted short r)
    (kept_at c.self.inside.node.number ports ∙ ap (option_map between) here)) in
    subst F c.self.view_is whole runs at

pub returns-clause-refusal : goal.returns-clause-refusal
returns-clause-refusal g c core ports p runs at =
    let noted = g.W.Watch.noted c.args.watch.now in
    let short = g.W.Watch.is_short c.args.watch.now in
    let F : Node g.row.N.Denot → Type 0 = λ n. RunsAs n core ports → port_at ports n.number ≡ Some p
    → None ≡ if_waiting ((c.args.pipe == 1 && is_command_message c.args.message.now) && is_some core.command)
    (give_refusal p.side (c.args.pipe, c.args.message.now)) in
    let whole : F c.self.inside.node = λ r here. (
    ap (λ (x : Result (Unit {0}) HostRefused). refused_as x) (sym (was_ok c.give_step.result c.in_default.not-Err))
    ∙ c.give_step.ensures.refusal noted short noted (at_rest core ports) (between p) (rests_in_step noted short r)
    (kept_at c.self.inside.node.number ports ∙ ap (option_map between) here)) in
    subst F c.self.view_is whole runs at

pub returns-clause-given : goal.returns-clause-given
returns-clause-given g c start w asked =
    let t = c.give_step in
    let ok = was_ok t.result c.in_default.not-Err in
    let F : Node g.row.N.Denot → Type 0 = λ n. IsAsked n (g.W.Watch.noted c.args.watch.now) (g.W.Watch.is_short c.args.watch.now) start w
    → HasStepped (record c.give_step.new.self { ends = c.begin_step.new.self }) (g.W.Watch.noted t.new.watch) (g.W.Watch.is_short t.new.watch) start
    (all_done n.number (sending n.number (c.args.pipe, c.args.message.now)) w) in
    subst F c.self.view_is (λ a. by ok a) asked
  where
    by : c.give_step.result ≡ Ok tt → IsAsked c.self.inside.node (g.W.Watch.noted c.args.watch.now) (g.W.Watch.is_short c.args.watch.now) start w
        → HasStepped (record c.give_step.new.self { ends = c.begin_step.new.self })
        (g.W.Watch.noted c.give_step.new.watch) (g.W.Watch.is_short c.give_step.new.watch) start
        (all_done c.self.inside.node.number (sending c.self.inside.node.number (c.args.pipe, c.args.message.now)) w)
    by ok a =
        let t = c.give_step in
        let nonzero = not_zero c.self.inside.node.number (rw (c.self.view_is) c.requires.some) in
        let taken : (p : Port) → port_at w.ports c.self.inside.node.number ≡ Some p
        → None ≡ if_waiting ((c.args.pipe == 1 && is_command_message c.args.message.now) && is_some w.core.command)
        (give_refusal p.side (c.args.pipe, c.args.message.now)) =
        λ p at. ap (λ (x : Result (Unit {0}) HostRefused). refused_as x) (sym ok)
        ∙ t.ensures.refusal (g.W.Watch.noted c.args.watch.now) (g.W.Watch.is_short c.args.watch.now) start w p (asked_in_step a) at in
        let given = where_ok ok t.ensures.given in
        has_sent_so {n2 = record t.new.self { ends = c.begin_step.new.self }} c.args.pipe c.args.message.now a nonzero taken
        (given start w (asked_in_step a)) t.ensures.store (λ ports e. ends_kept c.begin_step.new.self ports (c.begin_step.ensures ports e)) refl refl refl
