use Rattle.node_ends.proofs.Words.{AddsNew, subst}
use Rattle.node_ends.proofs.Making.{new_ends}
use Rattle.node_ends.proofs.ends.Ends.make.Goals as goal

pub returns : goal.returns
returns c =
    new_ends c.in_ok-pool.pool c.args.role c.args.hosts.now c.add_seats.new.seats.items c.in_ok-pool.ensures c.requires.few c.requires.different
    (subst (λ l. AddsNew c.args.role c.args.hosts.now l c.add_seats.new.seats.items) c.in_ok-seats.ensures.items c.in_ok-add_seats.ensures)

pub invariant_of-result : goal.invariant_of-result
invariant_of-result c =
    let made =
    new_ends c.in_ok-pool.pool c.args.role c.args.hosts.now c.add_seats.new.seats.items c.in_ok-pool.ensures c.requires.few c.requires.different
    (subst (λ l. AddsNew c.args.role c.args.hosts.now l c.add_seats.new.seats.items) c.in_ok-seats.ensures.items c.in_ok-add_seats.ensures) in
    (_, made)
