-- Steps that are drawn one behind another.
use Rattle.std.proofs.Common.{◌≡◌, ℕ, suc, ◌+◌, ◌%◌, List, [], ◌∷◌, ◌++◌, refl, sym, ap, ◌∙◌, subst, arith, append_assoc, append-nil}
use Rattle.trace_model.specs.declared.line.Line.{Line}
use Rattle.drawn_schedule.specs.Schedule.{step_line, Drawn, one_step_more, so_many_steps, next_number, drawn_of}

-- ## Steps

pub no_steps : (n : ℕ) → so_many_steps n 0 ≡ record { x = n; lines = [] }
unfolding so_many_steps
no_steps n = refl

-- before the first step
pub first_number : (n : ℕ) → n ≡ (so_many_steps n 0).x
first_number n = sym (ap (λ (d : Drawn). d.x) (no_steps n))

next_step : (n k : ℕ) → so_many_steps n (suc k) ≡ one_step_more (so_many_steps n k)
unfolding so_many_steps
next_step n k = refl

pub one_step : (n k : ℕ) → so_many_steps n (k + 1) ≡ one_step_more (so_many_steps n k)
one_step n k =
    let same : k + 1 ≡ suc k = omega arith in
    subst (λ j. so_many_steps n j ≡ one_step_more (so_many_steps n k)) (sym same) (next_step n k)

pub step_number : (n k x : ℕ) → x ≡ (so_many_steps n k).x → next_number (next_number x) ≡ (so_many_steps n (k + 1)).x
step_number n k x ex = ap (λ y. next_number (next_number y)) ex ∙ ap (λ (d : Drawn). d.x) (sym (one_step n k))

-- the lines of one step more
pub no_lines : (n : ℕ) (lines : List Line) → lines ≡ lines ++ (so_many_steps n 0).lines
no_lines n lines = sym (ap (λ (d : Drawn). lines ++ d.lines) (no_steps n) ∙ append-nil lines)

pub step_lines : (n k x : ℕ) (before lines : List Line) → x ≡ (so_many_steps n k).x → lines ≡ before ++ (so_many_steps n k).lines
    → lines ++ step_line (drawn_of (next_number x) % 16) (1 + drawn_of (next_number (next_number x)) % 3) ∷ [] ≡ before ++ (so_many_steps n (k + 1)).lines
step_lines n k x before lines ex el =
    let steps = so_many_steps n k in
    let said = step_line (drawn_of (next_number steps.x) % 16) (1 + drawn_of (next_number (next_number steps.x)) % 3) in
    ap (λ y. lines ++ step_line (drawn_of (next_number y) % 16) (1 + drawn_of (next_number (next_number y)) % 3) ∷ []) ex
    ∙ ap (λ l. l ++ said ∷ []) el ∙ append_assoc before steps.lines (said ∷ []) ∙ ap (λ (d : Drawn). before ++ d.lines) (sym (one_step n k))
