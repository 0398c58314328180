-- The turns of a pass of a controller, and what is asked of it as the pass begins.
use Rattle.std.specs.Prelude.{◌≡◌, ℕ, List, ◌∷◌, ◌++◌}
use Rattle.std.specs.List.{AllByRecursion}
use Rattle.trace_model.specs.declared.entry.Entry.{Entry}
use Rattle.node_machine.specs.Parts.{Work}
use Rattle.node_machine.specs.Turns.{passes}
use Rattle.node_laws.specs.passes.Passing.{ComesTo}
use Rattle.node_laws.specs.answers.Answered.{IsHeldFor, IsReplied}
use Rattle.node_laws.specs.answers.Moments.{Moment, until}
use Rattle.node_laws.specs.replies.Known.{HasRoomForAll, IsNoAnswer, MessagesAreRead}

-- Of a controller whose pass begins, before which these entries were noted in the world: in its turns any command finds room, and the messages
-- that wait are read.
pub record BeginsPass (t : List Entry) (w : Work) : Type 0 where
  pub room : (v : Work) → ComesTo w v → HasRoomForAll v
  pub messages : MessagesAreRead (t ++ w.entries) w.ports

-- each message that has its turn in the pass is replied to, and each that is noted as held is held for what it lacks, whatever follows that
-- is no answer of the controller
abbrev pub AreRepliedIn : List ℕ → List Entry → Work → Type 0
AreRepliedIn hosts t w =
    (front back rest : List Entry) (x : Entry) (m : Moment)
    → (passes w).entries ≡ w.entries ++ (front ++ (x ∷ back)) → until m ≡ (t ++ w.entries) ++ front → AllByRecursion IsNoAnswer rest
    → IsReplied hosts m x (back ++ rest) × IsHeldFor hosts m x (back ++ rest)
