use Rattle.std.proofs.lemmas.Result.{on_ok_weaker}
use Rattle.node_sites.proofs.Words.{as_told, beginning, sending, ℕ}
use Rattle.node_sites.proofs.Numbered.{as_noted}
use Rattle.node_sites.proofs.NodesRun.{bare, asked_so, asked_bare, gives_so, beginning_writes, sending_writes}
use Rattle.node_sites.proofs.nodes.give.Goals as goal

pub returns-in-Send-clause-refusal : goal.returns-in-Send-clause-refusal
returns-in-Send-clause-refusal c core ports p runs here = rw c.in-Send.is (c.send.ensures.refusal core ports p runs here)

pub returns-in-Send-clause-given : goal.returns-in-Send-clause-given
returns-in-Send-clause-given c w begins =
    let e = c.send.ensures in
    let n = c.args.node.now in
    let noted = as_told c.args.noted.now.sessions c.args.noted.now.entries.items in
    rw c.in-Send.is (on_ok_weaker c.send.result
    (λ given. gives_so n.number (sending n.number (c.in-Send.pipe, c.in-Send.message.now)) begins e.store
    (sending_writes n.number c.in-Send.pipe c.in-Send.message.now w) (given noted (bare w) (asked_bare noted c.args.noted.now.short begins)))
    e.given)

pub returns-in-Send-clause-noted : goal.returns-in-Send-clause-noted
returns-in-Send-clause-noted c sessions start w begins told =
    let n : ℕ = c.args.node.now.number in
    rw c.in-Send.is (on_ok_weaker c.send.result
    (λ given. as_noted c.send.new.watch sessions start _ (given (as_told sessions start) w (asked_so begins told)).noted_are)
    c.send.ensures.given)

pub returns-in-Init-clause-refusal : goal.returns-in-Init-clause-refusal
returns-in-Init-clause-refusal c core ports p runs here = rw c.in-Init.is (c.init.ensures.refusal core ports p runs here)

pub returns-in-Init-clause-given : goal.returns-in-Init-clause-given
returns-in-Init-clause-given c w begins =
    let e = c.init.ensures in
    let n = c.args.node.now in
    let noted = as_told c.args.noted.now.sessions c.args.noted.now.entries.items in
    rw c.in-Init.is (on_ok_weaker c.init.result
    (λ begun. gives_so n.number (beginning c.in-Init.identity.now c.in-Init.pipes.now) begins e.store
    (beginning_writes n.number c.in-Init.identity.now c.in-Init.pipes.now w begins.power)
    (begun noted (bare w) (asked_bare noted c.args.noted.now.short begins)))
    e.begun)

pub returns-in-Init-clause-noted : goal.returns-in-Init-clause-noted
returns-in-Init-clause-noted c sessions start w begins told =
    let n : ℕ = c.args.node.now.number in
    rw c.in-Init.is (on_ok_weaker c.init.result
    (λ begun. as_noted c.init.new.watch sessions start _ (begun (as_told sessions start) w (asked_so begins told)).noted_are)
    c.init.ensures.begun)
