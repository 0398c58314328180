-- What a node does in a step while it doesn't know which of its writes fails: whatever write was to fail, if it fits what happened.
use Rattle.std.specs.Prelude.{◌≡◌, ℕ, Bool, true, false, List, [], ◌++◌, length, Option, None}
use Rattle.swp_base.specs.InMemory.{Plan}
use Rattle.journal_laws.specs.Writes.{Write, AreMade}
use Rattle.journal_laws.specs.Planned.{fails_within}
use Rattle.node_machine.specs.Parts.{Work}
use Rattle.node_machine.specs.Carrying.{plan_behind}

-- The writes of the commits that went through, and those of the one that didn't, where there is one: so they were made.
abbrev pub WereMade : {N : Type 0} → (N → ℕ → List ℕ → Bool → N → Type 0) → List Write → List Write → N → Bool → N → Type 0
WereMade writes sure torn old false new = (torn ≡ []) × AreMade writes sure old true new
WereMade {N} writes sure torn old true new = (mid : N) × AreMade writes sure old true mid × AreMade writes torn mid false new

-- a plan foretells that
abbrev pub Foretells : Option Plan → List Write → List Write → Bool → Type 0
Foretells plan sure torn false = fails_within (length sure) plan ≡ false
Foretells plan sure torn true =
    (fails_within (length sure) plan ≡ false) × (fails_within (length torn) (plan_behind sure plan) ≡ true)

-- and what is left of it
abbrev pub plan_left : Bool → List Write → Option Plan → Option Plan
plan_left false sure plan = plan_behind sure plan
plan_left true sure plan = None

-- What a node did brought its memory from old to new, and is what the definition f says of w under each plan that foretells what
-- became of its writes.
pub record Brings {N : Type 0} (writes : N → ℕ → List ℕ → Bool → N → Type 0) (old new : N) (Stands : Work → Type 0) (f : Work → Work)
    (w : Work) : Type 0 where
  pub after : Work
  pub stands : Stands after
  pub sure : List Write
  pub torn : List Write
  pub written : after.writes ≡ w.writes ++ (sure ++ torn)
  pub made : WereMade writes sure torn old after.cut new
  pub is : (plan : Option Plan) → Foretells plan sure torn after.cut
      → f (record w { plan = plan }) ≡ record after { plan = plan_left after.cut sure plan }
