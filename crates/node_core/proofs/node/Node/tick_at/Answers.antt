use Rattle.node_core.proofs.Words.{AreNotes, AtEnd, EndsStandFor, IsInStep, LinkReport, List, Port, Some, Tick, [], after_input, all_come, ap, entries_for}
use Rattle.node_core.proofs.Words.{got_at, has_come, if◌then◌else◌, map, option_map, own_side, port_at, refl, report, report_told, slice_get, subst, sym, told}
use Rattle.node_core.proofs.Words.{unnumbered, whole_acked, with_port, ℕ, ◌∙◌, ◌≡◌}
use Rattle.node_core.proofs.Doing.{host_at}
use Rattle.node_core.proofs.HavingTurns.{no_some}
use Rattle.node_core.proofs.Elsewhere.{hosts_differ}
use Rattle.node_core.proofs.Arriving.{comes_to, brought_is, acked_is}
use Rattle.node_core.proofs.Ticking.{at_is_with, found_there, same_host, is_some_there, is_none_there}
use Rattle.node_core.proofs.node.Node.tick_at.Goals as goal

pub returns-in_default-clause-carried : goal.returns-in_default-clause-carried
returns-in_default-clause-carried g c start w p u is =
    is_some_there (λ (q : Port). q.desk.host) (slice_get w.ports c.args.i) p
    (sym (no_some c.host.result c.in_default.not-Some) ∙ c.host.ensures w.ports u.ends) is

pub returns-in_default-told-clause-carried : goal.returns-in_default-told-clause-carried
returns-in_default-told-clause-carried g c start w p u is =
    is_some_there (λ (q : Port). report_told (report q.side Tick)) (slice_get w.ports c.args.i) p
    (sym (no_some c.tick.new.told c.in_default-told.not-Some) ∙ c.tick.ensures.answer w.ports u.ends) is

pub returns-in_default-told-clause-none : goal.returns-in_default-told-clause-none
returns-in_default-told-clause-none g c start w u none =
    is_none_there (λ (q : Port). q.desk.host) (slice_get w.ports c.args.i) c.in-Some.host (sym c.in-Some.is ∙ c.host.ensures w.ports u.ends) none

pub returns-clause-carried : goal.returns-clause-carried
returns-clause-carried g c start w p u is =
    let i = c.args.i in
    let h = c.in-Some.host in
    let differ = hosts_differ c.args.self.now.ends.pool c.args.self.now.ends.seats w.ports u.ends.hosts u.ends.each in
    let same = same_host h w.ports i p (sym c.in-Some.is ∙ c.host.ensures w.ports u.ends) is in
    let E : List Port → Type 0 = λ ports. EndsStandFor c.tick.new.self ports in
    let stands = subst (λ m. EndsStandFor c.tick.new.self (with_port m (λ q. has_come q (Some Tick)) w.ports)) (sym same)
    (subst E (at_is_with i (λ q. has_come q (Some Tick)) w.ports p differ is) (c.tick.ensures.stands w.ports u.ends)) in
    let told_is = sym c.in-Some-told.is ∙ (c.tick.ensures.answer w.ports u.ends ∙ (ap (option_map (λ (q : Port). report_told (report q.side Tick))) is
    ∙ sym (ap (option_map (λ (q : Port). report_told (report q.side Tick))) (ap (port_at w.ports) same ∙ found_there i w.ports p differ is)))) in
    let R : ℕ → Type 0 = λ m. IsInStep (record c.args.self.now { ends = c.tick.new.self }) (g.W.Watch.noted c.note_input.new.watch)
    (g.W.Watch.is_short c.note_input.new.watch) start (all_come (AtEnd m Tick) w) in
    subst R same (comes_to h Tick c.in-Some-told.report u stands told_is
    (λ q at told_so.
    let P : ℕ → Type 0 = λ n. AreNotes (g.W.Watch.is_short c.args.watch.now) (g.W.Watch.is_short c.note_input.new.watch)
    (g.W.Watch.noted c.args.watch.now) (g.W.Watch.noted c.note_input.new.watch)
    (map unnumbered (entries_for n (told (own_side w.core) q.session (report q.side Tick) (whole_acked (after_input q.side Tick))))) in
    let G : LinkReport → Type 0 = λ r. (report q.side Tick).got
    ≡ (if r.got then got_at (with_port h (λ x. has_come x (Some Tick)) w.ports) h else []) in
    subst P (sym (host_at h w.ports q at))
    (c.note_input.ensures.notes (with_port h (λ x. has_come x (Some Tick)) w.ports) w.core (report q.side Tick) q.session
    (whole_acked (after_input q.side Tick)) stands u.node told_so (acked_is w.ports h Tick q at)
    (subst G (sym told_so) (brought_is c.tick.new.self w.ports h Tick q refl stands at)))))

pub returns-clause-none : goal.returns-clause-none
returns-clause-none g c start w u none =
    is_none_there (λ (q : Port). q.desk.host) (slice_get w.ports c.args.i) c.in-Some.host (sym c.in-Some.is ∙ c.host.ensures w.ports u.ends) none
