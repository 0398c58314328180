-- What holds of a node holds where a broken frame is counted at one of its ends.
use Rattle.std.proofs.Common.{arith, ◌≡◌, ℕ, ◌+◌, min, eqb, List, Option, Some}
use Rattle.std.specs.List.{AllByRecursion}
use Rattle.link_laws.specs.messages.Links.{Loss}
use Rattle.node_machine.specs.Parts.{Desk, Running}
use Rattle.node_machine.specs.Node.{with_error}
use Rattle.node_machine.specs.world.World.{counts}
use Rattle.node_laws.proofs.Each.{all_changed}

pub errors_all : (P : Desk → Type 0) → ((d : Desk) (n : ℕ) → P d → P (record d { errors = n })) → (h : ℕ) (desks : List Desk) → AllByRecursion P desks
    → AllByRecursion P (with_error h desks)
errors_all P one h desks a =
    all_changed P (λ d. eqb d.host h) (λ d. record d { errors = min 65535 (d.errors + 1) }) (λ d p. one d (min 65535 (d.errors + 1)) p) desks a

pub by_counts : (P : Option Running → Type 0) (why : Loss) (h : ℕ) (o : Option Running) → P o
    → ((r : Running) → o ≡ Some r → P (Some (record r { desks = with_error h r.desks }))) → P (counts why h o)
by_counts P why h o same more = grind arith
