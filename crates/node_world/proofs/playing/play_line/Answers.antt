use Rattle.node_world.proofs.Words.{HostsPlayed, List, OnOk, ap, is_damaging, line_step, on_ok_weaker, rules, subst, sym, true≢false, ℕ, ◌∙◌, ◌≡◌}
use Rattle.trace_model.specs.declared.line.Line.TheVariants as line
use Rattle.node_world.proofs.LinesGo.{is_there, within}
use Rattle.node_world.proofs.HostsInWorlds.{init_played, never_busy, never_ready, never_settles, send_played}
use Rattle.node_world.proofs.playing.play_line.Goals as goal

pub host_line-requires-clause-state : goal.host_line-requires-clause-state
host_line-requires-clause-state c =
    let s = c.requires.state in
    let may = rw c.in-Send.is at s.3 in
    (s.1, s.2.sites, within may, is_there c.in-Send.at.link may may.is_line.may_follow.known)

pub host_line-requires-clause-host : goal.host_line-requires-clause-host
host_line-requires-clause-host c =
    let may = rw c.in-Send.is at c.requires.state.3 in
    may.is_line.may_follow.sender may.is_header.nodes

pub host_line-requires-clause-may : goal.host_line-requires-clause-may
host_line-requires-clause-may c =
    let s = c.requires.state in
    let may = rw c.in-Send.is at s.3 in
    let e : c.as_slice.result.now ≡ c.in-Send.message = search rules in
    rw e (may.is_line.may_follow.pipe, may.is_line.may_follow.some)

pub returns-in-Send-clause-stands : goal.returns-in-Send-clause-stands
returns-in-Send-clause-stands c header w world may mask_is =
    let now = rw c.in-Send.is at may in
    let H : List ℕ → Type 0 = λ m. OnOk c.host_line.result (HostsPlayed c.host_line.new.sites c.host_line.new.noted.entries.items
    (line_step w (line.Send c.in-Send.at c.in-Send.pid m))) in
    on_ok_weaker c.host_line.result (send_played c.args.controller.now c.args.sites.now c.host_line.new.sites c.host_line.new.noted.entries.items header w world
    c.args.line.now c.in-Send.at c.in-Send.pid c.in-Send.message c.in-Send.is may)
    (subst H (search rules) (c.host_line.ensures.stands w world.sites (within now) (is_there c.in-Send.at.link now now.is_line.may_follow.known)))

pub host_line-requires-in-Init-clause-state : goal.host_line-requires-in-Init-clause-state
host_line-requires-in-Init-clause-state c =
    let s = c.requires.state in
    let may = rw c.in-Init.is at s.3 in
    (s.1, s.2.sites, within may, is_there c.in-Init.at.link may may.is_line.may_follow.1.known)

pub host_line-requires-in-Init-clause-host : goal.host_line-requires-in-Init-clause-host
host_line-requires-in-Init-clause-host c = (rw c.in-Init.is at c.requires.state.3).is_line.may_follow.1.host

pub host_line-requires-in-Init-clause-may : goal.host_line-requires-in-Init-clause-may
host_line-requires-in-Init-clause-may c =
    let s = c.requires.state in
    let may = rw c.in-Init.is at s.3 in
    let e : c.as_slice-in-Init.result.now ≡ c.in-Init.pipes.items = search rules in
    rw e may.is_line.may_follow.1.few

pub returns-in-Init-clause-stands : goal.returns-in-Init-clause-stands
returns-in-Init-clause-stands c header w world may mask_is =
    let now = rw c.in-Init.is at may in
    let e : c.as_slice-in-Init.result.now ≡ c.in-Init.pipes.items = search rules in
    on_ok_weaker c.host_line-in-Init.result (init_played c.args.controller.now c.args.sites.now c.host_line-in-Init.new.sites
    c.host_line-in-Init.new.noted.entries.items header w world c.args.line.now c.in-Init.at c.in-Init.identity c.in-Init.pipes c.in-Init.is may)
    (rw e at (c.host_line-in-Init.ensures.stands w world.sites (within now) (is_there c.in-Init.at.link now now.is_line.may_follow.1.known)))

pub deliver_line-requires-clause-state : goal.deliver_line-requires-clause-state
deliver_line-requires-clause-state c =
    let s = c.requires.state in
    (s.0, s.1, s.2, rw c.in-Deliver.is at s.3)

pub returns-in-Deliver-clause-stands : goal.returns-in-Deliver-clause-stands
returns-in-Deliver-clause-stands c header w world may mask_is =
    rw c.in-Deliver.is (c.deliver_line.ensures.stands header w world (rw c.in-Deliver.is at may))

pub lose_line-requires-clause-state : goal.lose_line-requires-clause-state
lose_line-requires-clause-state c =
    let s = c.requires.state in
    (s.0, s.1, s.2, rw c.in-Lose.is at s.3)

pub returns-in-Lose-clause-stands : goal.returns-in-Lose-clause-stands
returns-in-Lose-clause-stands c header w world may mask_is = rw c.in-Lose.is (c.lose_line.ensures.stands header w world (rw c.in-Lose.is at may))

pub tick_line-requires-clause-state : goal.tick_line-requires-clause-state
tick_line-requires-clause-state c =
    let s = c.requires.state in
    (s.0, s.1, s.2, rw c.in-Tick.is at s.3)

pub returns-in-Tick-clause-stands : goal.returns-in-Tick-clause-stands
returns-in-Tick-clause-stands c header w world may mask_is = rw c.in-Tick.is (c.tick_line.ensures.stands header w world (rw c.in-Tick.is at may))

pub reset_line-requires-clause-state : goal.reset_line-requires-clause-state
reset_line-requires-clause-state c =
    let s = c.requires.state in
    (s.0, s.1, s.2, rw c.in-Reset.is at s.3)

pub returns-in-Reset-clause-stands : goal.returns-in-Reset-clause-stands
returns-in-Reset-clause-stands c header w world may mask_is = rw c.in-Reset.is (c.reset_line.ensures.stands header w world (rw c.in-Reset.is at may))

pub boot_line-requires-clause-state : goal.boot_line-requires-clause-state
boot_line-requires-clause-state c =
    let s = c.requires.state in
    (s.0, s.1, s.2, rw c.in-Boot.is at s.3)

pub returns-in-Boot-clause-stands : goal.returns-in-Boot-clause-stands
returns-in-Boot-clause-stands c header w world may mask_is =
    rw c.in-Boot.is (c.boot_line.ensures.stands header w world (rw c.in-Boot.is at may) mask_is)

pub returns-in-Cut-clause-stands : goal.returns-in-Cut-clause-stands
returns-in-Cut-clause-stands c header w world may mask_is = rw c.in-Cut.is (c.cut_line.ensures.stands header w world (rw c.in-Cut.is at may))

pub activate_line-requires-clause-state : goal.activate_line-requires-clause-state
activate_line-requires-clause-state c =
    let s = c.requires.state in
    (s.0, s.1, s.2, rw c.in-Activate.is at s.3)

pub returns-in-Activate-clause-stands : goal.returns-in-Activate-clause-stands
returns-in-Activate-clause-stands c header w world may mask_is =
    rw c.in-Activate.is (c.activate_line.ensures.stands header w world (rw c.in-Activate.is at may))

pub arm_line-requires-clause-state : goal.arm_line-requires-clause-state
arm_line-requires-clause-state c =
    let s = c.requires.state in
    (s.0, s.1, s.2, rw c.in-Arm.is at s.3)

pub returns-in-Arm-clause-stands : goal.returns-in-Arm-clause-stands
returns-in-Arm-clause-stands c header w world may mask_is = rw c.in-Arm.is (c.arm_line.ensures.stands header w world (rw c.in-Arm.is at may))

pub returns-in-Tables-clause-stands : goal.returns-in-Tables-clause-stands
returns-in-Tables-clause-stands c header w world may mask_is = rw c.in-Tables.is (c.tables_line.ensures.stands w world may.goes_on)

pub returns-in-Damage-clause-stands : goal.returns-in-Damage-clause-stands
returns-in-Damage-clause-stands c header w world may mask_is = absurd (true≢false (sym (ap is_damaging c.in-Damage.is) ∙ c.requires.sound))

pub returns-in-Busy-clause-stands : goal.returns-in-Busy-clause-stands
returns-in-Busy-clause-stands c header w world may mask_is = absurd (never_busy c.args.line.now c.in-Busy.at c.in-Busy.is may)

pub returns-in-Ready-clause-stands : goal.returns-in-Ready-clause-stands
returns-in-Ready-clause-stands c header w world may mask_is = absurd (never_ready c.args.line.now c.in-Ready.at c.in-Ready.is may)

pub returns-in-Settle-clause-stands : goal.returns-in-Settle-clause-stands
returns-in-Settle-clause-stands c header w world may mask_is = absurd (never_settles c.args.line.now c.in-Settle.rounds c.in-Settle.is may)
