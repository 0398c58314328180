use Rattle.node_core.proofs.Words.{Give, Some, turn_at}
use Rattle.node_deeds.specs.Shown.{about_shown}
use Rattle.node_core.proofs.Steps.{desk_changed}
use Rattle.node_core.proofs.node.Node.notify.Goals as goal

pub returns-clause-carried : goal.returns-clause-carried
returns-clause-carried g c start w u =
    let sent = c.send.ensures.carried start w u in
    desk_changed c.args.host (λ d. record d { notice = Some (record { about = about_shown c.args.about; age = 0 }) }) sent
    (c.set_notice.ensures (turn_at c.args.host (Give (1, c.args.message.now)) w).ports sent.ends)
