-- Messages that a node gave to its ends aren't empty, and their pipes aren't reserved.
use Rattle.std.proofs.Common.{List, [], ◌∷◌, map}
use Rattle.std.specs.List.{AllByRecursion}
use Rattle.hcp_packet.specs.Packets.{AreSendable}
use Rattle.node_machine.specs.Parts.{Core, Port}
use Rattle.node_ends.specs.declared.seat.Seat.{Seat}
use Rattle.node_ends.specs.Ends.{SeatsStandFor}
use Rattle.node_core.specs.declared.node.Node.{Node}
use Rattle.node_core.specs.Running.{RunsAs, between}

of_seats : {N : Type 0} (n : Node N) (seats : List Seat) (ports : List Port) → SeatsStandFor n.ends.pool seats (map between ports)
    → AllByRecursion (λ (p : Port). AreSendable p.side.sent) ports
of_seats n [] [] a = tt
of_seats n (s ∷ seats) [] a = tt
of_seats n [] (p ∷ ports) a = absurd a
of_seats n (s ∷ seats) (p ∷ ports) a = (a.0.holds.stands.halfway.sends.all, of_seats n seats ports a.1)

pub given_messages : {N : Type 0} (n : Node N) (core : Core) (ports : List Port) → RunsAs n core ports
    → AllByRecursion (λ (p : Port). AreSendable p.side.sent) ports
given_messages n core ports runs = of_seats n n.ends.seats ports runs.ends.each
