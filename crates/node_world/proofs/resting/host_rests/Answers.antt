use Rattle.node_world.proofs.Words.{is_clear, true, ◌≡◌}
use Rattle.node_world.proofs.LinksRest.{clear, far_is, far_wire_stands, host_is_new, host_says, near_wire_stands, not_clear}
use Rattle.node_world.proofs.resting.host_rests.Goals as goal

pub returns-then-standing-ne0 : goal.returns-then-standing-ne0
returns-then-standing-ne0 c s is may =
    near_wire_stands s (not_clear s.link.to_controller c.standing.result (c.standing.ensures s.link is.wires) c.if-standing-ne0.true)

pub returns-then-standing-ne0-2 : goal.returns-then-standing-ne0-2
returns-then-standing-ne0-2 c s is may =
    let near : is_clear s.link.to_controller ≡ true =
    clear s.link.to_controller c.standing.result (c.standing.ensures s.link is.wires) c.if-standing-ne0.false in
    far_wire_stands s near (not_clear s.link.to_host c.standing-2.result (c.standing-2.ensures s.link is.wires) c.if-standing-ne0-2.true)

pub returns-in-On : goal.returns-in-On
returns-in-On c s is may =
    let near : is_clear s.link.to_controller ≡ true =
    clear s.link.to_controller c.standing.result (c.standing.ensures s.link is.wires) c.if-standing-ne0.false in
    let far : is_clear s.link.to_host ≡ true = clear s.link.to_host c.standing-2.result (c.standing-2.ensures s.link is.wires) c.if-standing-ne0-2.false in
    far_is s c.is_at_rest.result near far (host_says c.args.site.now s c.in-On.node c.is_at_rest.result is c.in-On.is may c.is_at_rest.ensures)

pub returns-in-Off : goal.returns-in-Off
returns-in-Off c s is may =
    let near : is_clear s.link.to_controller ≡ true =
    clear s.link.to_controller c.standing.result (c.standing.ensures s.link is.wires) c.if-standing-ne0.false in
    let far : is_clear s.link.to_host ≡ true = clear s.link.to_host c.standing-2.result (c.standing-2.ensures s.link is.wires) c.if-standing-ne0-2.false in
    far_is s true near far (host_is_new c.args.site.now s _ is c.in-Off.is may)
