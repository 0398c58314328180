-- Pieces of the input that are taken, and text behind text.
use Rattle.std.proofs.Common.{suc, zero}
use Rattle.swp_words.proofs.Words.{Bool, IsTrue, List, [], ap, append_assoc, arith, common_steps, drop, get_or, length, refl, sym, take, take-append-drop}
use Rattle.swp_words.proofs.Words.{take_more, ℕ, ◌++◌, ◌+◌, ◌-◌, ◌<◌, ◌∙◌, ◌∷◌, ◌≡◌, ◌≤◌}

-- what was read before a byte, the byte and what follows it
pub whole_piece : (bytes piece : List ℕ) (i : ℕ) → i < length piece → ((bytes ++ take i piece) ++ get_or piece i 0 ∷ []) ++ drop (i + 1) piece ≡ bytes ++ piece
whole_piece bytes piece i within =
    ap (λ l. l ++ drop (i + 1) piece) (append_assoc bytes (take i piece) (get_or piece i 0 ∷ []) ∙ ap (λ l. bytes ++ l) (sym (take_more piece i 0 within)))
    ∙ (append_assoc bytes (take (i + 1) piece) (drop (i + 1) piece) ∙ ap (λ l. bytes ++ l) (take-append-drop (i + 1) piece))

-- a piece is what was read of it, and what is left of it
pub whole_after : (bytes piece rest : List ℕ) (n : ℕ) → (bytes ++ piece) ++ rest ≡ (bytes ++ take n piece) ++ (drop n piece ++ rest)
whole_after bytes piece rest n =
    ap (λ l. l ++ rest) (ap (λ l. bytes ++ l) (sym (take-append-drop n piece)) ∙ sym (append_assoc bytes (take n piece) (drop n piece)))
    ∙ append_assoc (bytes ++ take n piece) (drop n piece) rest

pub left_of : (piece : List ℕ) (n : ℕ) → n ≤ length piece → take (length piece - n) (drop n piece) ≡ drop n piece
left_of piece n h = grind (arith, common_steps)

-- what was read before a piece, the front of it that was read and what is left of it
pub whole_taken : (bytes piece : List ℕ) (n : ℕ) → n ≤ length piece → (bytes ++ take n piece) ++ take (length piece - n) (drop n piece) ≡ bytes ++ piece
whole_taken bytes piece n h =
    ap (λ l. (bytes ++ take n piece) ++ l) (left_of piece n h)
    ∙ (append_assoc bytes (take n piece) (drop n piece) ∙ ap (λ l. bytes ++ l) (take-append-drop n piece))

-- text that was written behind text, by a sink that tells it
pub behind : (tells : Bool) (before text items written after : List ℕ) → (IsTrue tells → written ≡ before ++ text)
    → (IsTrue tells → after ≡ written ++ items) → IsTrue tells → after ≡ before ++ (text ++ items)
behind tells before text items written after was now told = now told ∙ (ap (λ l. l ++ items) (was told) ∙ append_assoc before text items)

-- a front of the first one is a front of both
pub front_of_first : (n : ℕ) (xs ys : List ℕ) → (k : ℕ) × (take k (xs ++ ys) ≡ take n xs)
front_of_first zero xs ys = (0, refl)
front_of_first (suc n) [] ys = (0, refl)
front_of_first (suc n) (x ∷ xs) ys = let rest = front_of_first n xs ys in (suc rest.0, ap (λ l. x ∷ l) rest.1)

-- so is the first one with a front of the second
pub front_of_both : (n : ℕ) (xs ys : List ℕ) → (k : ℕ) × (take k (xs ++ ys) ≡ xs ++ take n ys)
front_of_both n [] ys = (n, refl)
front_of_both n (x ∷ xs) ys = let rest = front_of_both n xs ys in (suc rest.0, ap (λ l. x ∷ l) rest.1)
