-- A message that waits at an end of a node may be sent.
use Rattle.node_core.proofs.Words.{AllByRecursion, AreOfHosts, AreSendable, IfSome, List, PoolState, Port, Seat, SeatsStandFor, [], arith}
use Rattle.node_core.proofs.Words.{got_at, port_at, ℕ, ◌==◌, ◌∷◌, ◌≤◌}
use Rattle.node_ends.proofs.Sendable.{got_sendable}

-- the end of the link with a host is one of them
pub found_all : (P : Port → Type 0) (ports : List Port) (h : ℕ) → AllByRecursion P ports → IfSome (port_at ports h) P
found_all P [] h all = tt
found_all P (p ∷ ports) h all = let h0 = p.desk.host == h in let h1 = found_all P ports h all.1 in grind arith

each_sendable : (pool : PoolState) (seats : List Seat) (ports : List Port) → SeatsStandFor pool seats ports
    → AllByRecursion (λ (p : Port). AreSendable p.side.got) ports
each_sendable pool [] [] g = tt
each_sendable pool [] (p ∷ ports) g = absurd g
each_sendable pool (s ∷ seats) [] g = absurd g
each_sendable pool (s ∷ seats) (p ∷ ports) g = (got_sendable p.side g.0.reached, each_sendable pool seats ports g.1)

pub got_at_sendable : (pool : PoolState) (seats : List Seat) (ports : List Port) (h : ℕ) → SeatsStandFor pool seats ports → AreSendable (got_at ports h)
got_at_sendable pool seats ports h g = let h0 = port_at ports h in let h1 = found_all _ ports h (each_sendable pool seats ports g) in grind arith

pub hosts_low : (ports : List Port) → AreOfHosts ports → AllByRecursion (λ (p : Port). p.desk.host ≤ 7) ports
hosts_low [] all = tt
hosts_low (p ∷ ports) all = (all.0.1, hosts_low ports all.1)
