-- Deeds that were decided may be done.
use Rattle.node_core.proofs.Words.{AreDecided, AreDoableInTurn, AreGranted, Handling, IsGranted, IsSendable, List, None, Work, [], arith}
use Rattle.node_core.proofs.Words.{deed_shown, deeds_shown, done, goes_on_with, ℕ, ◌∷◌, ◌≡◌}
use Rattle.node_deeds.specs.declared.deeds.Deed.{Deed}
use Rattle.node_deeds.specs.declared.deeds.Deed.TheVariants as kept

-- an init that goes on runs still, and where none does only an answer is heard
going : (a : Handling) (answered : ℕ) (w : Work) → IsGranted a.init (goes_on_with a.init answered) w → w.core.init ≡ a.init
going a answered w granted = grind arith

pub all_doable : (h : ℕ) (a : Handling) (deeds : List Deed) (w : Work) → IsSendable a.message → AreDecided deeds
    → AreGranted h a.init (deeds_shown a deeds) w → AreDoableInTurn h a deeds w
all_doable h a [] w sendable decided allowed = tt
all_doable h a (d ∷ deeds) w sendable decided allowed = (
  (grind arith),
  all_doable h a deeds (done h (deed_shown a d) (record w { plan = None })) sendable decided.1 allowed.1,
)
