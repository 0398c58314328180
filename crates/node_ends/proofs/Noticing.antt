-- What is kept of an end beside it, as a step changes it.
use Rattle.std.specs.Prelude.{nat_le}
use Rattle.node_ends.proofs.Words.{Bool, Desk, DeskOf, IfSome, IsYoung, List, None, Option, Port, Reset, Some, Unanswered, after_input, ap, arith, asker_at}
use Rattle.node_ends.proofs.Words.{creation_of_row, desk_shown, false, forgets, forgotten_at, if◌then◌else◌, is_late, is_over_at, not, notice_shown, option_map}
use Rattle.node_ends.proofs.Words.{option_map_or, refl, reset_late, row_noticed, true, without_notice, ℕ, ◌&&◌, ◌<◌, ◌∙◌, ◌≡◌}
use Rattle.node_machine.specs.Controller.{creation_in}
use Rattle.node_machine.specs.Parts.{Creation, Notice}
use Rattle.node_deeds.specs.Shown.{awaited_row}
use Rattle.node_ends.specs.Desks.{has_hundred_ticks}

young : (o : Option Unanswered) → option_map_or (λ (n : Notice). n.age) (option_map notice_shown o) 0 < 255 → IfSome o (λ (n : Unanswered). n.age < 255)
young o low = grind arith

pub is_young : (d : Desk) (p : Port) → desk_shown d ≡ p.desk → IsYoung (Some p) → IfSome d.notice (λ (n : Unanswered). n.age < 255)
is_young d p is low = grind arith

pub without_same : (p : Port) → ((without_notice p).side ≡ p.side) × ((without_notice p).late ≡ p.late) × ((without_notice p).ended ≡ p.ended)
without_same p = grind arith

due_is : (o : Option Unanswered) → has_hundred_ticks o ≡ option_map_or (λ (n : Notice). nat_le 100 n.age) (option_map notice_shown o) false
due_is o = grind arith

pub late_is : (d : Desk) (p : Port) (ended : Bool) → desk_shown d ≡ p.desk → ended ≡ p.ended → (has_hundred_ticks d.notice && not ended) ≡ is_late p
late_is d p ended is e = grind arith

pub not_late : (p : Port) → is_late p ≡ false → p ≡ reset_late p
not_late p q = rw q refl

pub now_late : (p : Port) → is_late p ≡ true → record p { side = after_input p.side (Reset None); late = true } ≡ reset_late p
now_late p q = rw q refl

-- who asked for a pipe
abbrev pub asker : Creation → ℕ
asker c = c.asker

asks : (o : Option Unanswered) → option_map asker (option_map creation_of_row (row_noticed o)) ≡ option_map asker (creation_in (option_map notice_shown o))
asks o = grind arith

pub asker_is : (d : Desk) (p : Port) → desk_shown d ≡ p.desk → option_map asker (option_map creation_of_row (awaited_row d)) ≡ asker_at (Some p)
asker_is d p is = asks d.notice ∙ ap (λ (x : DeskOf). option_map (λ (c : Creation). c.asker) (creation_in x.notice)) is

-- which ends forget
pub forgets_none : (ports : List Port) (p : Port) → asker_at (Some p) ≡ None → forgets ports p ≡ p
forgets_none ports p none = grind arith

pub forgets_by : (ports : List Port) (p : Port) (h : ℕ) (b : Bool) → asker_at (Some p) ≡ Some h → is_over_at ports h ≡ b
    → forgets ports p ≡ (if b then forgotten_at p else p)
forgets_by ports p h b some over = grind arith

pub none_at_all : {A : Type 0} (o : Option A) → ((x : A) → o ≡ Some x → ⊥) → o ≡ None
none_at_all o none = grind arith
