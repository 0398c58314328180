-- Lemmas on what a write leaves of a list, and of two lists in a row.
use Rattle.std.proofs.Common.{◌≡◌, ℕ, ◌+◌, ◌≤◌, List, ◌++◌, length, take, drop, sym, ap, ◌∙◌, arith, append_assoc, length-append, length-take, length-drop}
use Rattle.std.proofs.lemmas.List.{take-append-le, drop-append-le}
use Rattle.swp_base.specs.Outside.{overwritten}

pub length-overwritten : (c : List ℕ) (i : ℕ) (bytes : List ℕ) → i + length bytes ≤ length c → length (overwritten c i bytes) ≡ length c
length-overwritten c i bytes fits =
    omega (
      arith,
      length-append (take i c ++ bytes) (drop (i + length bytes) c),
      length-append (take i c) bytes,
      length-take i c,
      length-drop
          (i + length bytes) c,
    )

-- a write into the first of two lists in a row
pub overwritten-left : (xs ys : List ℕ) (i : ℕ) (bytes : List ℕ) → i + length bytes ≤ length xs → overwritten (xs ++ ys) i bytes ≡ overwritten xs i bytes ++ ys
overwritten-left xs ys i bytes fits =
    ap (λ l. l ++ bytes ++ drop (i + length bytes) (xs ++ ys)) (take-append-le i xs ys (omega arith))
    ∙ ap (λ l. take i xs ++ bytes ++ l) (drop-append-le (i + length bytes) xs ys fits)
    ∙ sym (append_assoc (take i xs ++ bytes) (drop (i + length bytes) xs) ys)
