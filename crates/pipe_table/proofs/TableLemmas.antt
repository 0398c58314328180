-- What keeps the rows of a table sorted.
use Rattle.std.proofs.Common.{cond, get_or, map, set}
use Rattle.std.proofs.lemmas.List.{get_or_default}
use Rattle.std.proofs.lemmas.List.Edits.{map_over_more}
use Rattle.pipe_table.proofs.Words.{ArePipeRows, Bool, List, PipeRow, all_closed, ap, arith, as_opened, cond_both, drop, eqb, false, length, pid_of, refl, take}
use Rattle.pipe_table.proofs.Words.{with_opened, ℕ, ◌++◌, ◌+◌, ◌<◌, ◌∙◌, ◌≡◌}
use Rattle.sorted_rows.proofs.RowLemmas.{AreRows-map}

pub ArePipeRows-with_opened : (rows : List PipeRow) (pid : ℕ) (opened : Bool) → ArePipeRows rows → ArePipeRows (with_opened rows pid opened)
ArePipeRows-with_opened rows pid opened h =
    AreRows-map pid_of (λ row. cond (eqb row.pid pid) (as_opened opened row) row) 2 112 rows
    (λ row. cond_both (eqb row.pid pid) (as_opened opened row) row (λ r. r.pid ≡ row.pid) (λ _. refl) (λ _. refl)) h

pub ArePipeRows-all_closed : (rows : List PipeRow) → ArePipeRows rows → ArePipeRows (all_closed rows)
ArePipeRows-all_closed rows h = AreRows-map pid_of (as_opened false) 2 112 rows (λ row. refl) h

-- One more row of a list is changed by f.
pub changed_more : (f : PipeRow → PipeRow) (xs : List PipeRow) {ys new : List PipeRow} (i : ℕ) (blank : PipeRow) {row : PipeRow} → i < length xs
    → length ys ≡ length xs → ys ≡ map f (take i xs) ++ drop i xs → row ≡ f (get_or ys i blank) → new ≡ set ys i row
    → new ≡ map f (take (i + 1) xs) ++ drop (i + 1) xs
changed_more f xs {ys} i blank within same so_far row_is new_is =
    new_is ∙ ap (set ys i) row_is
    ∙ map_over_more f xs ys i (get_or ys i blank) within so_far (get_or_default ys i blank (get_or ys i blank) (omega arith))
