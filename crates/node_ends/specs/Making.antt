-- New ends of a node, to which nothing has happened yet.
use Rattle.std.specs.Prelude.{◌≡◌, ◌≢◌, ℕ, ◌+◌, ◌*◌, ◌++◌, false, List, [], ◌∷◌, length, None}
use Rattle.std.specs.List.{AllByRecursion}
use Rattle.swp_base.specs.declared.link_terms.Role.{Role as Named}
use Rattle.block_pool.specs.Pool.{PoolState, used_of}
use Rattle.link_laws.specs.machine.Machine.{new_link_end}
use Rattle.link_end.specs.Roles.{new_role}
use Rattle.link_end.specs.Ends.{EndStandsFor, IsFree, Accounts}
use Rattle.node_machine.specs.Parts.{Port}
use Rattle.node_machine.specs.Node.{new_desk}
use Rattle.node_ends.specs.declared.seat.Seat.{Seat}

-- a new end of the link with this host
abbrev pub new_port : Named → ℕ → Port
new_port role h = record { desk = new_desk h; side = new_link_end (new_role role); session = 0; late = false; ended = false; turns = [] }

-- a new end with the owners of the place k, for each pool in which they use nothing
pub record IsNewSeat (role : Named) (k h : ℕ) (s : Seat) : Type 0 where
  pub stands : (pool : PoolState) → IsFree pool (2 * k) (2 * k + 1) → EndStandsFor s.side pool (new_link_end (new_role role))
  pub accounts : (pool : PoolState) → used_of pool (2 * k + 1) ≡ 0 → Accounts s.side pool None
  pub sender : s.side.outbox.owner ≡ 2 * k
  pub receiver : s.side.inbox.joiner.owner ≡ 2 * k + 1
  pub waiting : s.waiting ≡ None
  pub desk : s.desk ≡ record { host = h; notice = None; holds = false; errors = 0 }
  pub late : s.late ≡ false
  pub ended : s.ended ≡ false
  pub acked : s.acked ≡ 0
  pub aside : s.aside ≡ 0

-- new ends of the links with these hosts, from the place k on
abbrev pub AreNewFrom : Named → ℕ → List ℕ → List Seat → Type 0
AreNewFrom role k [] [] = Unit {0}
AreNewFrom role k [] (s ∷ seats) = ⊥
AreNewFrom role k (h ∷ hosts) [] = ⊥
AreNewFrom role k (h ∷ hosts) (s ∷ seats) = IsNewSeat role k h s × AreNewFrom role (k + 1) hosts seats

-- new ends of the links with these hosts were put behind those before
abbrev pub AddsNew : Named → List ℕ → List Seat → List Seat → Type 0
AddsNew role hosts before now = (made : List Seat) × (now ≡ before ++ made) × AreNewFrom role (length before) hosts made

-- no two of these hosts are the same
abbrev pub AreAllDifferent : List ℕ → Type 0
AreAllDifferent [] = Unit {0}
AreAllDifferent (h ∷ hosts) = AllByRecursion (λ (g : ℕ). g ≢ h) hosts × AreAllDifferent hosts
