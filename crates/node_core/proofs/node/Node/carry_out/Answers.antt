use Rattle.node_core.proofs.Words.{[], not, sym, ◌++◌, ◌∙◌, ◌≡◌, Asks, Drops, Ends, Entry, Give, Hears, Host, IsAnswered, IsInStep, List, Node, None, Orders}
use Rattle.node_core.proofs.Words.{Release, Releases, SaysOk, Sends, SetsErrors, Tells, ap, done, end_of, end_shown, ends_of, goes_on_with, handling}
use Rattle.node_core.proofs.Words.{init_running, refl, subst, turn_at, ℕ, ◌∷◌}
use Rattle.node_machine.specs.Parts.About.{Removed}
use Rattle.node_machine.specs.Carrying.{notified}
use Rattle.node_deeds.specs.Shown.{creation_of_row}
use Rattle.node_deeds.specs.declared.deeds.Deed.TheVariants as kept
use Rattle.node_core.proofs.Steps.{plain_noted, plainly, desk_changed, of_deed, silent_turn}
use Rattle.trace_model.specs.declared.entry.Entry.TheVariants as entry
use Rattle.journal_laws.specs.Journal.{count_of}
use Rattle.node_core.proofs.Tasks.{command_changed, going_cut, going_writes, going_anyway}
use Rattle.node_core.proofs.node.Node.carry_out.Goals as goal

pub returns-in-PassesOn-clause-carried : goal.returns-in-PassesOn-clause-carried
returns-in-PassesOn-clause-carried g c start w u =
    of_deed c.args.host (handling c.args.self.now (c.args.pipe, c.args.message.now)) c.args.deed.now (kept.PassesOn c.in-PassesOn.to) c.in-PassesOn.is
    (plainly g.N.Nv.writes (done c.args.host (Sends c.in-PassesOn.to (c.args.pipe, c.args.message.now))) u c.requires.live c.send.ensures.store
    (c.send.ensures.carried start w u) refl refl (λ plan. refl))

pub returns-in-Sends-clause-carried : goal.returns-in-Sends-clause-carried
returns-in-Sends-clause-carried g c start w u =
    let s = c.send-in-Sends in
    let P : List ℕ → Type 0 = λ bytes. IsInStep s.new.self (g.W.Watch.noted s.new.watch) (g.W.Watch.is_short s.new.watch) start
    (turn_at c.in-Sends.to (Give (c.in-Sends.on, bytes)) w) in
    of_deed c.args.host (handling c.args.self.now (c.args.pipe, c.args.message.now)) c.args.deed.now
    (kept.Sends c.in-Sends.to c.in-Sends.on c.in-Sends.answer) c.in-Sends.is
    (plainly g.N.Nv.writes (done c.args.host (Sends c.in-Sends.to (c.in-Sends.on, c.in-Sends.answer.items))) u c.requires.live s.ensures.store
    (subst P c.as_slice.ensures.value (s.ensures.carried start w u)) refl refl (λ plan. refl))

pub returns-in-SaysOk-clause-carried : goal.returns-in-SaysOk-clause-carried
returns-in-SaysOk-clause-carried g c start w u =
    let is : entry.AnyOk c.args.self.now.number c.kept-count.result ≡ entry.AnyOk w.core.node (count_of w.core.journal) =
    ap (λ (n : ℕ). entry.AnyOk n c.kept-count.result) (sym u.node)
    ∙ (ap (λ (n : ℕ). entry.AnyOk w.core.node n) (c.kept-count.ensures ∙ ap count_of (sym (u.core (u.power ∙ ap not c.requires.live)).journal))) in
    of_deed c.args.host (handling c.args.self.now (c.args.pipe, c.args.message.now)) c.args.deed.now kept.SaysOk c.in-SaysOk.is
    (plainly g.N.Nv.writes (done c.args.host (SaysOk)) u c.requires.live refl
    (plain_noted (entry.AnyOk w.core.node (count_of w.core.journal)) refl u c.note.ensures.stays
    (λ kept. c.note.ensures.noted kept ∙ ap (λ (e : Entry). g.W.Watch.noted c.args.watch.now ++ e ∷ []) is)) refl refl (λ plan. refl))

pub returns-in-Asks-clause-carried : goal.returns-in-Asks-clause-carried
returns-in-Asks-clause-carried g c start w u =
    of_deed c.args.host (handling c.args.self.now (c.args.pipe, c.args.message.now)) c.args.deed.now (kept.Asks c.in-Asks.row) c.in-Asks.is
    (plainly g.N.Nv.writes (done c.args.host (Asks c.in-Asks.row.dest (18 ∷ ends_of c.in-Asks.row) (creation_of_row c.in-Asks.row)))
    u c.requires.live c.ask.ensures.store
    (c.ask.ensures.carried start w u) refl refl (λ plan. refl))

pub returns-in-Releases-clause-carried : goal.returns-in-Releases-clause-carried
returns-in-Releases-clause-carried g c start w u =
    of_deed c.args.host (handling c.args.self.now (c.args.pipe, c.args.message.now)) c.args.deed.now (kept.Releases c.in-Releases.asker) c.in-Releases.is
    (plainly g.N.Nv.writes (done c.args.host (Releases c.in-Releases.asker)) u c.requires.live refl
    (silent_turn c.in-Releases.asker Release (λ p. refl) u (c.release.ensures w.ports u.ends)) refl refl (λ plan. refl))

pub returns-in-Tells-clause-carried : goal.returns-in-Tells-clause-carried
returns-in-Tells-clause-carried g c start w u =
    let s = c.notify in
    let P : List ℕ → Type 0 = λ bytes. IsInStep s.new.self (g.W.Watch.noted s.new.watch) (g.W.Watch.is_short s.new.watch) start
    (notified c.in-Tells.to Removed bytes w) in
    of_deed c.args.host (handling c.args.self.now (c.args.pipe, c.args.message.now)) c.args.deed.now (kept.Tells c.in-Tells.to c.in-Tells.told) c.in-Tells.is
    (plainly g.N.Nv.writes (done c.args.host (Tells c.in-Tells.to c.in-Tells.told.items)) u c.requires.live s.ensures.store
    (subst P c.as_slice-in-Tells.ensures.value (s.ensures.carried start w u)) refl refl (λ plan. refl))

pub returns-in-IsAnswered-clause-carried : goal.returns-in-IsAnswered-clause-carried
returns-in-IsAnswered-clause-carried g c start w u =
    of_deed c.args.host (handling c.args.self.now (c.args.pipe, c.args.message.now)) c.args.deed.now kept.IsAnswered c.in-IsAnswered.is
    (plainly g.N.Nv.writes (done c.args.host IsAnswered) u c.requires.live refl
    (desk_changed c.args.host (λ d. record d { notice = None }) u (c.set_notice.ensures w.ports u.ends)) refl refl (λ plan. refl))

pub returns-in-Drops-clause-carried : goal.returns-in-Drops-clause-carried
returns-in-Drops-clause-carried g c start w u =
    of_deed c.args.host (handling c.args.self.now (c.args.pipe, c.args.message.now)) c.args.deed.now (kept.Drops c.in-Drops.on) c.in-Drops.is
    (plainly g.N.Nv.writes (done c.args.host (Drops c.in-Drops.on)) u c.requires.live (ap (λ (n : Node g.row.N.Denot). n.store) c.drop_message.ensures.same)
    (c.drop_message.ensures.carried start w u) refl refl (λ plan. refl))

pub returns-in-SetsErrors-clause-carried : goal.returns-in-SetsErrors-clause-carried
returns-in-SetsErrors-clause-carried g c start w u =
    of_deed c.args.host (handling c.args.self.now (c.args.pipe, c.args.message.now)) c.args.deed.now (kept.SetsErrors c.in-SetsErrors.errors) c.in-SetsErrors.is
    (plainly g.N.Nv.writes (done c.args.host (SetsErrors c.in-SetsErrors.errors)) u c.requires.live refl
    (desk_changed c.args.host (λ d. record d { errors = c.in-SetsErrors.errors }) u (c.set_errors.ensures w.ports u.ends)) refl refl (λ plan. refl))

pub returns-in-Orders-clause-carried : goal.returns-in-Orders-clause-carried
returns-in-Orders-clause-carried g c start w u =
    let s = c.order in
    let P : List ℕ → Type 0 = λ bytes. IsInStep s.new.self (g.W.Watch.noted s.new.watch) (g.W.Watch.is_short s.new.watch) start
    (done c.args.host (Orders bytes) w) in
    of_deed c.args.host (handling c.args.self.now (c.args.pipe, c.args.message.now)) c.args.deed.now (kept.Orders c.in-Orders.order) c.in-Orders.is
    (plainly g.N.Nv.writes (done c.args.host (Orders c.in-Orders.order.items)) u c.requires.live s.ensures.store
    (subst P c.as_slice-in-Orders.ensures.value (s.ensures.carried start w u)) refl refl (λ plan. refl))

pub returns-in-Hears-clause-carried : goal.returns-in-Hears-clause-carried
returns-in-Hears-clause-carried g c start w u =
    of_deed c.args.host (handling c.args.self.now (c.args.pipe, c.args.message.now)) c.args.deed.now kept.Hears c.in-Hears.is
    (plainly g.N.Nv.writes (done c.args.host Hears) u c.requires.live refl (command_changed _ None u refl refl) refl refl (λ plan. refl))

pub returns-in-GoesOn-clause-carried : goal.returns-in-GoesOn-clause-carried
returns-in-GoesOn-clause-carried g c start w u =
    let init = init_running c.args.self.now.tasks.init in
    let answered = c.in-GoesOn.answered in
    of_deed c.args.host (handling c.args.self.now (c.args.pipe, c.args.message.now)) c.args.deed.now (kept.GoesOn answered) c.in-GoesOn.is
    (plainly g.N.Nv.writes (done c.args.host (goes_on_with init answered)) u c.requires.live c.go_on.ensures.store
    (c.go_on.ensures.carried c.args.host (g.W.Watch.noted c.args.watch.now) (g.W.Watch.is_short c.args.watch.now) start w u)
    (going_cut c.args.host init answered w) (going_writes c.args.host init answered w) (going_anyway c.args.host init answered w))

pub returns-in-Ends-clause-carried : goal.returns-in-Ends-clause-carried
returns-in-Ends-clause-carried g c start w u =
    let end = c.in-Ends.end in
    of_deed c.args.host (handling c.args.self.now (c.args.pipe, c.args.message.now)) c.args.deed.now (kept.Ends end) c.in-Ends.is
    (plainly g.N.Nv.writes (done c.args.host (Ends (end_shown (end_of c.args.self.now.number Host) end))) u c.requires.live c.end_init.ensures.store
    (c.end_init.ensures.carried c.args.host start w u) refl refl (λ plan. refl))
