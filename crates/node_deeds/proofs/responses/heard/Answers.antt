use Rattle.node_deeds.proofs.Words.{Hears, KeptInit, None, Option, Some, [], ap, append-nil, cond, deeds_shown, eqb, handled_by, heard_deeds, host_core}
use Rattle.node_deeds.proofs.Words.{init_deeds, init_running, init_shown, learned_of, own_view, subst, sym, ◌++◌, ◌∙◌, ◌∷◌, ◌≡◌}
use Rattle.node_deeds.specs.declared.deeds.Deed.TheVariants as deed
use Rattle.node_deeds.proofs.responses.heard.Goals as goal

pub returns-in-Some-init-clause-deeds : goal.returns-in-Some-init-clause-deeds
returns-in-Some-init-clause-deeds g c = λ pipe message.
    let s = c.args.store.now in
    let host = c.args.host in
    let i = init_shown c.in-Some-init.init in
    let code = c.args.code in
    let value = c.args.value.now in
    let a = handled_by host (Some i) pipe message in
    let core = host_core host s.journal.state s.tables (Some i) in
    let learns = cond (eqb code 0) (learned_of core c.in-Some.order value) [] in
    let at : deeds_shown a c.go_on.new.deeds.items ≡ heard_deeds core code value c.args.tasks.now.command =
    c.go_on.ensures.deeds pipe message
    ∙ (ap (λ kept. deeds_shown a c.learn_if_ok.new.deeds.items
    ++ init_deeds (own_view (host_core host kept.journal.state kept.tables (Some i))) code value (Some i)) c.learn_if_ok.ensures.unchanged
    ∙ (ap (λ ds. ds ++ init_deeds (own_view core) code value (Some i))
    (c.learn_if_ok.ensures.deeds a (Some i)
    ∙ ap (λ items. deeds_shown a items ++ learns) (c.push.ensures.items ∙ ap (λ items. items ++ deed.Hears ∷ []) c.requires.none))
    ∙ ap (heard_deeds core code value) (sym c.in-Some.is))) in
    subst
    (λ (o : Option KeptInit). deeds_shown (handled_by host (init_running o) pipe message) c.go_on.new.deeds.items
    ≡ heard_deeds (host_core host s.journal.state s.tables (init_running o)) code value c.args.tasks.now.command)
    (sym c.in-Some-init.is) at

pub returns-in_default-init-clause-deeds : goal.returns-in_default-init-clause-deeds
returns-in_default-init-clause-deeds g c = λ pipe message.
    let s = c.args.store.now in
    let host = c.args.host in
    let code = c.args.code in
    let value = c.args.value.now in
    let a = handled_by host None pipe message in
    let core = host_core host s.journal.state s.tables None in
    let learns = cond (eqb code 0) (learned_of core c.in-Some.order value) [] in
    let at : deeds_shown a c.learn_if_ok.new.deeds.items ≡ heard_deeds core code value c.args.tasks.now.command =
    c.learn_if_ok.ensures.deeds a None
    ∙ (ap (λ items. deeds_shown a items ++ learns) (c.push.ensures.items ∙ ap (λ items. items ++ deed.Hears ∷ []) c.requires.none)
    ∙ (sym (append-nil (Hears ∷ learns)) ∙ ap (heard_deeds core code value) (sym c.in-Some.is))) in
    subst
    (λ (o : Option KeptInit). deeds_shown (handled_by host (init_running o) pipe message) c.learn_if_ok.new.deeds.items
    ≡ heard_deeds (host_core host s.journal.state s.tables (init_running o)) code value c.args.tasks.now.command)
    (sym c.in_default-init.is) at
