use Rattle.node_deeds.proofs.Words.{Tells, [], ap, arith, controller_core, deeds_shown, has, hosts_where, map, sym, ℕ, ◌++◌, ◌∙◌, ◌∷◌, ◌≡◌}
use Rattle.node_deeds.specs.declared.deeds.Deed.TheVariants as kept
use Rattle.node_deeds.proofs.Control.{decision_commits}
use Rattle.node_deeds.proofs.replies.put_decision.Goals as goal

pub returns-then-room-clause-deeds : goal.returns-then-room-clause-deeds
returns-then-room-clause-deeds g c =
    let s = c.args.store.now in
    let is = c.in-Commit in
    let room = sym c.room.ensures.room ∙ c.if-room.true in
    let three : c.push-then-room-2.new.self.items ≡ kept.Commits is.command ∷ kept.Sends c.args.host c.args.pipe is.answer ∷ kept.SaysOk ∷ [] = grind arith in
    λ a. c.tell_hosts.ensures.told a
    ∙ (ap (λ items. deeds_shown a items ++ map (λ (told : ℕ). Tells told is.notice.items) (hosts_where (has is.tell))) three
    ∙ decision_commits (controller_core s.journal.state s.tables) c.args.host c.args.pipe c.args.decision is.command is.answer is.tell is.notice
    is.is room)
