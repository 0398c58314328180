use Rattle.link_wires.proofs.Results.{on_ok}
use Rattle.node_sites.proofs.Links.{near_goes_out, far_goes_out, near_put, far_put}
use Rattle.node_sites.proofs.wires.Wires.put.Goals as goal

pub returns-then-at-clause-stands : goal.returns-then-at-clause-stands
returns-then-at-clause-stands c l frame w is read =
    on_ok c.put_frame.result (c.put_frame.ensures.stands l frame (far_goes_out c.args.at c.if-at.true w) is read)
    (λ r. (far_put l frame c.args.at c.if-at.true w r.0, r.1))

pub returns-else-at-clause-stands : goal.returns-else-at-clause-stands
returns-else-at-clause-stands c l frame w is read =
    on_ok c.put_frame-else-at.result (c.put_frame-else-at.ensures.stands l frame (near_goes_out c.args.at c.if-at.false w) is read)
    (λ r. (near_put l frame c.args.at c.if-at.false w r.0, r.1))
