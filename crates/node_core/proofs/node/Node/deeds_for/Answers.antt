use Rattle.node_core.proofs.Words.{Desk, Handling, List, Message, Stored, ap, controller_deeds, deeds_of, deeds_shown, desk_shown, end_view, handling}
use Rattle.node_core.proofs.Words.{host_deeds, init_running, not, option_map, own_view, subst, sym, view_of, ℕ, ◌∙◌, ◌≡◌}
use Rattle.node_deeds.specs.Shown.{AreSeen}
use Rattle.node_core.proofs.HavingTurns.{no_some, at_controller, at_host}
use Rattle.node_core.proofs.Deciders.{handled_idle, looks_at, some_desk, own_number}
use Rattle.node_core.proofs.node.Node.deeds_for.Goals as goal

pub returns-then-self-eq0-clause-deeds : goal.returns-then-self-eq0-clause-deeds
returns-then-self-eq0-clause-deeds g c noted full start w u order =
    let h = c.args.host in
    let m : Message = (c.args.pipe, c.args.message.now) in
    let t = c.put_controller_deeds in
    let k = u.core (u.power ∙ ap not c.requires.live) in
    let node = u.node ∙ c.if-self-eq0.true in
    let S : List Desk → Type 0 = λ ds. AreSeen c.seen-seen.result.up ds w.ports in
    let seen = subst S (sym c.as_slice.ensures.value) (c.seen-seen.ensures.seen w.ports u.ends order.hosts) in
    let A : Handling → Type 0 = λ a. deeds_shown a t.new.deeds.items ≡ controller_deeds (view_of w.core w.ports) h m in
    at_controller w.core w.ports h m node
    ∙ sym (subst A (sym (handled_idle c.args.self.now m c.if-self-eq0.true (sym k.init ∙ order.task.1 node)))
    (t.ensures.deeds w.core w.ports (record { journal = k.journal; tables = k.tables }) seen))

pub returns-then-self-eq0-clause-same : goal.returns-then-self-eq0-clause-same
returns-then-self-eq0-clause-same g c = ap (λ (s : Stored g.row.N.Denot). record c.args.self.now { store = s }) c.put_controller_deeds.ensures.unchanged

pub returns-in_default-clause-deeds : goal.returns-in_default-clause-deeds
returns-in_default-clause-deeds g c noted full start w u order =
    let none = no_some c.desk.result c.in_default.not-Some in
    absurd (some_desk u c.if-self-eq0.false order (ap (option_map (λ (d : Desk). desk_shown d)) (sym none) ∙ c.desk.ensures w.ports u.ends))

pub put_host_deeds-requires-clause-some : goal.put_host_deeds-requires-clause-some
put_host_deeds-requires-clause-some g c =
    let r = c.requires.may in
    (own_number c.in-Some.desk r.3.ports r.5.hosts
    (ap (option_map (λ (d : Desk). desk_shown d)) (sym c.in-Some.is) ∙ c.desk.ensures r.3.ports r.4.ends)).0

pub put_host_deeds-requires-clause-host : goal.put_host_deeds-requires-clause-host
put_host_deeds-requires-clause-host g c =
    let r = c.requires.may in
    (own_number c.in-Some.desk r.3.ports r.5.hosts
    (ap (option_map (λ (d : Desk). desk_shown d)) (sym c.in-Some.is) ∙ c.desk.ensures r.3.ports r.4.ends)).1

pub returns-clause-deeds : goal.returns-clause-deeds
returns-clause-deeds g c noted full start w u order =
    let m : Message = (c.args.pipe, c.args.message.now) in
    let t = c.put_host_deeds in
    let node = c.args.self.now in
    let l = looks_at c.in-Some.desk c.has_link-is_up.result u c.requires.live c.if-self-eq0.false order
    (ap (option_map (λ (d : Desk). desk_shown d)) (sym c.in-Some.is) ∙ c.desk.ensures w.ports u.ends) (c.has_link-is_up.ensures w.ports u.ends) in
    let H : ℕ → Handling = λ n. record { node = n; init = init_running node.tasks.init; message = m } in
    let A : ℕ → Type 0 = λ n. deeds_shown (H n) t.new.deeds.items ≡ host_deeds (own_view w.core) (end_view l.port) m in
    let P : ℕ → Type 0 = λ h. deeds_of w.core w.ports h m ≡ deeds_shown (handling node m) t.new.deeds.items in
    subst P (sym (c.requires.own c.if-self-eq0.false)) (at_host w.core w.ports node.number m l.port (λ none. c.if-self-eq0.false (sym u.node ∙ none)) l.at
    ∙ sym (subst A l.host (t.ensures.deeds w.core l.port l.is)))

pub returns-clause-same : goal.returns-clause-same
returns-clause-same g c = ap (λ (s : Stored g.row.N.Denot). record c.args.self.now { store = s }) c.put_host_deeds.ensures.unchanged
