use Rattle.node_deeds.proofs.Words.{Ok, Sends, [], ap, body_in, cond, eq-eqb, gate_in, heard_deeds, host_core, host_kind_deeds, init_running, is_gate, pipe_at}
use Rattle.node_deeds.proofs.Words.{sym, ◌&&◌, ◌∙◌, ◌∷◌}
use Rattle.gate_loopback.specs.Loopback.{posts_back}
use Rattle.node_deeds.proofs.host.heard_of.Goals as goal

pub returns-in-Ok-Event-default-clause-deeds : goal.returns-in-Ok-Event-default-clause-deeds
returns-in-Ok-Event-default-clause-deeds g c =
    let s = c.args.store.now in
    let d = c.args.desk.now in
    let pipe = c.args.pipe in
    let message = c.args.message.now in
    let init = init_running c.args.tasks.now.init in
    let arm = c.in-Ok-Event-default in
    let header = sym c.read_header.ensures.header ∙ (arm.is ∙ ap (λ kind. Ok (kind, arm._instruction)) arm.field-0-0-is) in
    c.posted.ensures.deeds init
    ∙ (ap (λ t. cond (is_gate 4 (gate_in (pipe_at t.rows pipe) d.host) && posts_back message) (Sends d.host (pipe, message) ∷ []) []) c.tables.ensures
    ∙ ap (host_kind_deeds (host_core d.host s.journal.state s.tables init) d.errors c.args.tasks.now.command (pipe, message)) (sym header))

pub returns-then-pipe-eq-ADMINISTRATION_PIPE-clause-deeds : goal.returns-then-pipe-eq-ADMINISTRATION_PIPE-clause-deeds
returns-then-pipe-eq-ADMINISTRATION_PIPE-clause-deeds g c =
    let s = c.args.store.now in
    let d = c.args.desk.now in
    let pipe = c.args.pipe in
    let message = c.args.message.now in
    let init = init_running c.args.tasks.now.init in
    let order = c.args.tasks.now.command in
    let core = host_core d.host s.journal.state s.tables init in
    let arm = c.in-Ok-Response-default in
    let header = sym c.read_header.ensures.header ∙ (arm.is ∙ ap (λ kind. Ok (kind, arm.code)) arm.field-0-0-is) in
    c.heard.ensures.deeds pipe message
    ∙ (ap (λ value. heard_deeds core arm.code value order) c.body_in.ensures
    ∙ (ap (λ b. cond b (heard_deeds core arm.code (body_in message) order) []) (sym (eq-eqb pipe 1 c.if-pipe-eq-ADMINISTRATION_PIPE.true))
    ∙ ap (host_kind_deeds core d.errors order (pipe, message)) (sym header)))
