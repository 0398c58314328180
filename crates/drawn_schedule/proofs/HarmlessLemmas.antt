-- The lines that are drawn may be played.
use Rattle.std.proofs.Common.{◌≡◌, ℕ, zero, suc, ◌+◌, ◌%◌, ◌==◌, Bool, true, false, cond, nat_le, List, [], ◌∷◌, ◌++◌, refl}
use Rattle.std.specs.List.{AllByRecursion, list_all}
use Rattle.trace_model.specs.declared.line.Line.{Line}
use Rattle.trace_model.specs.declared.line.Line.TheVariants as line
use Rattle.drawn_schedule.specs.Schedule.{first_lines, step_line, so_many_steps, drawn_lines, next_number, drawn_of, is_harmless, IsHarmless}
use Rattle.drawn_schedule.proofs.ReadLemmas.{AreGood, good_lines}

abbrev Harmless : List Line → Type 0
Harmless lines = AllByRecursion (λ l. is_harmless l ≡ true) lines

join : (xs ys : List Line) → Harmless xs → Harmless ys → Harmless (xs ++ ys)
join [] ys a b = b
join (x ∷ xs) ys a b = (a.0, join xs ys a.1 b)

either : (t : Bool) (a b : Line) → is_harmless a ≡ true → is_harmless b ≡ true → is_harmless (cond t a b) ≡ true
either true a b x y = x
either false a b x y = y

harmless_step : (d h : ℕ) → is_harmless (step_line d h) ≡ true
harmless_step d h =
    either (nat_le d 4) _ _ refl
    (either (nat_le d 9) _ _ refl (either (nat_le d 11) _ _ refl (either (d == 12) _ _ refl (either (d == 13) _ _ refl (either (d == 14) _ _ refl refl)))))

harmless_steps : (n k : ℕ) → Harmless (so_many_steps n k).lines
unfolding so_many_steps
harmless_steps n zero = tt
harmless_steps n (suc k) =
    join (so_many_steps n k).lines _ (harmless_steps n k) (
      harmless_step (drawn_of (next_number (so_many_steps n k).x) % 16) (1 + drawn_of (next_number (next_number (so_many_steps n k).x)) % 3),
      tt,
    )

all_of : (lines : List Line) → list_all is_harmless lines ≡ true → Harmless lines
all_of [] q = tt
all_of (l ∷ lines) q = go (is_harmless l) refl (all_of lines) q
  where
    go : (b : Bool) → is_harmless l ≡ b → (list_all is_harmless lines ≡ true → Harmless lines) → list_all is_harmless (l ∷ lines) ≡ true
        → Harmless (l ∷ lines)
    go true r later q = (r, later (rw r at q))
    go false r later q = let z = rw r at q in absurd (cc z)

harmless : (n : ℕ) → Harmless (drawn_lines n)
harmless n = join first_lines _ (all_of first_lines refl) (join (so_many_steps n 2000).lines (line.Tables 0 ∷ []) (harmless_steps n 2000) (refl, tt))

together : (lines : List Line) → AreGood lines → Harmless lines → AllByRecursion IsHarmless lines
together [] a b = tt
together (l ∷ lines) a b = ((a.0.0, b.0), together lines a.1 b.1)

pub lines_may_be_played : (n : ℕ) → AllByRecursion IsHarmless (drawn_lines n)
lines_may_be_played n = together (drawn_lines n) (good_lines n) (harmless n)
