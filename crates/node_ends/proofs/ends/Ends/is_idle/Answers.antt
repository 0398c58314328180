use Rattle.node_ends.proofs.Words.{Machine, Port, Some, ap, ap₂, arith, subst, sym, without_got, ◌∙◌, ◌≡◌}
use Rattle.node_ends.proofs.Opening.{opened}
use Rattle.node_ends.proofs.Seated.{lent_here}
use Rattle.link_end.specs.Idle.{IsIdle}
use Rattle.node_ends.specs.Ends.{HasNoneDue}
use Rattle.node_ends.proofs.ends.Ends.is_idle.Goals as goal

none_due : (m : Machine) → IsIdle (without_got m) → HasNoneDue m
none_due m idle = record {
  frames = idle.frames;
  sent = ap₂ (λ s acts. record m { shdlc = s; acts = acts }) (ap (λ (e : Machine). e.shdlc) idle.sent) (ap (λ (e : Machine). e.acts) idle.sent);
}

pub returns : goal.returns
returns c ports p stands is quiet =
    let l = lent_here c.args.i c.index-seat.result.now (let n = c.len.ensures in let t = c.if-i-len.false in omega (arith, n, t)) c.index-seat.ensures
    (opened c.self.view_is stands) in
    let same : l.port ≡ p = (let both : Some l.port ≡ Some p = sym l.port_is ∙ is in cc) in
    subst (λ (q : Port). HasNoneDue q.side) same
    (none_due l.port.side (c.is_idle.ensures c.self.inside.pool (without_got l.port.side) l.stands.holds.stands quiet))
