-- What a node does to an end has nothing to do with the messages that came there and wait.
use Rattle.std.specs.Prelude.{IfErr, OnErr}
use Rattle.std.proofs.lemmas.List.{set-get_or}
use Rattle.node_ends.proofs.Words.{Give, KeptEnds, List, Machine, Message, PoolState, Result, Seat, SendRefused, SetAside, ap, ap₂, arith, length}
use Rattle.node_ends.proofs.Words.{slice_index_or, slice_set, turn, without_got, ℕ, ◌∙◌, ◌≡◌}
use Rattle.link_end.specs.Reports.{give_told}
use Rattle.node_ends.specs.Ends.{TellsLengthOf}

pub give_without : (m : Machine) (x : Message) → turn (without_got m) (Give x) ≡ without_got (turn m (Give x))
give_without m x = grind arith

pub give_got : (m : Machine) (x : Message) → (turn m (Give x)).got ≡ m.got
give_got m x = grind arith

pub aside_without : (m : Machine) → turn (without_got m) SetAside ≡ without_got (turn m SetAside)
aside_without m = grind arith

pub aside_got : (m : Machine) → (turn m SetAside).got ≡ m.got
aside_got m = grind arith

-- ## Answers

-- the length that is told of a message that is too long is its own
pub told_length : {r : Result (Unit {0}) SendRefused} (m : Machine) (x : Message) → r ≡ give_told m x → IfErr r (TellsLengthOf (length x.1))
told_length m x told = grind arith

-- ## Refusals change nothing

abbrev kept_ends : PoolState → List Seat → KeptEnds
kept_ends pool seats = record { pool = pool; seats = seats }

pub where_refused : {A B : Type 0} (r : Result (Unit {0}) SendRefused) → (A → B) → OnErr r A → OnErr r B
where_refused r f a = grind arith

-- an end that is written back as it was
pub none_written : {old new : PoolState} {seats : List Seat} {shown : KeptEnds} (i : ℕ) (s t : Seat) → s ≡ slice_index_or seats i s → new ≡ old → t ≡ s
    → kept_ends old seats ≡ shown → kept_ends new (slice_set seats i t) ≡ shown
none_written {old} {new} {seats} i s t is pool same shown = ap₂ kept_ends pool (ap (slice_set seats i) (same ∙ is) ∙ set-get_or seats i s) ∙ shown
