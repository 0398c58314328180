-- The faults of the memory of a node, one thing after another.
use Rattle.node_core.proofs.Words.{Bool, CountsFaults, Stored, arith, sym, true, true≢false, ℕ, ◌∙◌, ◌≡◌, ◌≤◌}
use Rattle.swp_base.specs.Outside.{Rose}
use Rattle.node_core.specs.Running.{ran_so}
use Rattle.node_core.specs.declared.running.Ran.{Ran}

-- nothing is done to a store that may be used
pub faults_stay : {N : Type 0} (faults : N → ℕ) {s t : Stored N} → s.journal.live ≡ true → t ≡ s → CountsFaults faults s t
faults_stay faults live same = grind arith

-- one thing after another is done to it
pub faults_then : {N : Type 0} (faults : N → ℕ) {a b c : Stored N} → CountsFaults faults a b → CountsFaults faults b c → CountsFaults faults a c
faults_then faults one more = grind arith

-- a command was kept
pub faults_kept : {N : Type 0} (faults : N → ℕ) {s t : Stored N} → faults s.journal.nv ≤ faults t.journal.nv → t.journal.live ≡ true
    → CountsFaults faults s t
faults_kept faults count live = record { count = count; rose = λ dead. absurd (true≢false (sym live ∙ dead)) }

-- a write of it failed
pub faults_rose : {N : Type 0} (faults : N → ℕ) {s t : Stored N} → faults s.journal.nv ≤ faults t.journal.nv
    → Rose (faults s.journal.nv) (faults t.journal.nv) → CountsFaults faults s t
faults_rose faults count rose = record { count = count; rose = λ dead. rose }

pub ran_is : {r : Ran} {a b : Bool} → r ≡ ran_so a → r ≡ ran_so b → a ≡ b
ran_is {r} {a} {b} p q = let h0 = sym p ∙ q in grind arith
