use Rattle.node_deeds.proofs.Words.{Some, [], ap, deed_shown, deeds_shown, handled_by, host_core, init_shown, is_same, map-append, own_view, sym, ◌++◌, ◌∙◌}
use Rattle.node_deeds.proofs.Words.{◌∷◌}
use Rattle.node_deeds.specs.declared.deeds.InitEnd.TheVariants.{Same}
use Rattle.node_deeds.specs.declared.deeds.Deed.TheVariants as kept
use Rattle.node_deeds.proofs.HostWalks.{init_same, init_next}
use Rattle.node_deeds.proofs.responses.go_on.Goals as goal

pub returns-then-is_same-clause-deeds : goal.returns-then-is_same-clause-deeds
returns-then-is_same-clause-deeds g c = λ pipe message.
    let s = c.args.store.now in
    let host = c.args.host in
    let i = init_shown c.args.init.now in
    let value = c.args.value.now in
    let a = handled_by host (Some i) pipe message in
    let old = c.args.deeds.now.items in
    let same = ap (λ t. is_same (own_view (host_core host s.journal.state t (Some i))) i value) (sym c.tables.ensures)
    ∙ (sym (c.is_same.ensures s.journal.state (Some i)) ∙ c.if-is_same.true) in
    ap (deeds_shown a) c.push-then-is_same.ensures.items
    ∙ (map-append (deed_shown a) old (kept.Ends Same ∷ [])
    ∙ ap (λ ds. deeds_shown a old ++ ds)
    (init_same (host_core host s.journal.state s.tables (Some i)) i c.args.code value c.if-code-ne0.false same c.requires.some))

pub returns-else-is_same-clause-deeds : goal.returns-else-is_same-clause-deeds
returns-else-is_same-clause-deeds g c = λ pipe message.
    let s = c.args.store.now in
    let host = c.args.host in
    let i = init_shown c.args.init.now in
    let value = c.args.value.now in
    let a = handled_by host (Some i) pipe message in
    let differs = ap (λ t. is_same (own_view (host_core host s.journal.state t (Some i))) i value) (sym c.tables.ensures)
    ∙ (sym (c.is_same.ensures s.journal.state (Some i)) ∙ c.if-is_same.false) in
    c.send_next.ensures.deeds pipe message
    ∙ ap (λ ds. deeds_shown a c.args.deeds.now.items ++ ds)
    (init_next (host_core host s.journal.state s.tables (Some i)) i c.args.code value c.if-code-ne0.false differs)
