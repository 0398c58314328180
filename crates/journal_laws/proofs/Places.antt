-- What a write leaves of two lists in a row, and of the two banks of a memory.
use Rattle.std.proofs.Common.{◌≡◌, ℕ, ◌+◌, ◌<◌, ◌≤◌, List, [], ◌∷◌, ◌++◌, length, take, drop, slice_index, sym, ap, ap₂, ◌∙◌, subst, arith, append_assoc}
use Rattle.std.proofs.Common.{length-take, length-drop, take-append-drop, take_at, drop_at, add_assoc, zero-add, add-zero}
use Rattle.std.proofs.Math.Seq.{take-append-add, drop-append-add}
use Rattle.swp_base.specs.Outside.{overwritten}
use Rattle.swp_base.proofs.WriteLemmas.{length-overwritten, overwritten-left}
use Rattle.journal_laws.specs.declared.banks.Side.{Side}
use Rattle.journal_laws.specs.Banks.{other, bank_place, bank}
use Rattle.journal_laws.specs.declared.banks.Side.TheVariants.{First, Second}

-- a write into the second of two lists in a row
pub overwritten-right : (xs ys : List ℕ) (n i : ℕ) (bytes : List ℕ) → length xs ≡ n → overwritten (xs ++ ys) (n + i) bytes ≡ xs ++ overwritten ys i bytes
overwritten-right xs ys n i bytes size =
    subst (λ m. overwritten (xs ++ ys) (m + i) bytes ≡ xs ++ overwritten ys i bytes) size
    (ap (λ l. l ++ bytes ++ drop (length xs + i + length bytes) (xs ++ ys)) (take-append-add xs ys i)
    ∙ ap (λ l. xs ++ take i ys ++ bytes ++ l) (ap (λ m. drop m (xs ++ ys)) (add_assoc (length xs) i (length bytes)) ∙ drop-append-add xs ys (i + length bytes))
    ∙ ap (λ l. l ++ drop (i + length bytes) ys) (append_assoc xs (take i ys) bytes)
    ∙ append_assoc xs (take i ys ++ bytes) (drop (i + length bytes) ys))

-- a write that ends before place n
pub take-overwritten : (c : List ℕ) (n i : ℕ) (bytes : List ℕ) → i + length bytes ≤ n → n ≤ length c
    → take n (overwritten c i bytes) ≡ overwritten (take n c) i bytes
take-overwritten c n i bytes fits long =
    let size : length (take n c) ≡ n = omega (arith, length-take n c) in
    ap (λ l. take n (overwritten l i bytes)) (sym (take-append-drop n c))
    ∙ ap (take n) (overwritten-left (take n c) (drop n c) i bytes (omega arith))
    ∙ take_at (overwritten (take n c) i bytes) (drop n c) n (length-overwritten (take n c) i bytes (omega arith) ∙ size)

pub drop-overwritten : (c : List ℕ) (n i : ℕ) (bytes : List ℕ) → i + length bytes ≤ n → n ≤ length c → drop n (overwritten c i bytes) ≡ drop n c
drop-overwritten c n i bytes fits long =
    let size : length (take n c) ≡ n = omega (arith, length-take n c) in
    ap (λ l. drop n (overwritten l i bytes)) (sym (take-append-drop n c))
    ∙ ap (drop n) (overwritten-left (take n c) (drop n c) i bytes (omega arith))
    ∙ drop_at (overwritten (take n c) i bytes) (drop n c) n (length-overwritten (take n c) i bytes (omega arith) ∙ size)

-- a write from place n on
pub overwritten-split : (c : List ℕ) (n i : ℕ) (bytes : List ℕ) → n ≤ length c → overwritten c (n + i) bytes ≡ take n c ++ overwritten (drop n c) i bytes
overwritten-split c n i bytes long =
    ap (λ l. overwritten l (n + i) bytes) (sym (take-append-drop n c))
    ∙ overwritten-right (take n c) (drop n c) n i bytes (omega (arith, length-take n c))

pub length-bank : (c : List ℕ) (side : Side) → 65536 ≤ length c → length (bank c side) ≡ 32768
length-bank c First long = omega (arith, length-take 32768 c)
length-bank c Second long = omega (arith, length-take 32768 (drop 32768 c), length-drop 32768 c)

-- the bank that is written
pub bank_here : (c : List ℕ) (side : Side) (i : ℕ) (bytes : List ℕ) → 65536 ≤ length c → i + length bytes ≤ 32768
    → bank (overwritten c (bank_place side + i) bytes) side ≡ overwritten (bank c side) i bytes
bank_here c First i bytes long fits = ap (λ m. take 32768 (overwritten c m bytes)) (zero-add i) ∙ take-overwritten c 32768 i bytes fits (omega arith)
bank_here c Second i bytes long fits =
    ap (λ l. take 32768 (drop 32768 l)) (overwritten-split c 32768 i bytes (omega arith))
    ∙ ap (take 32768) (drop_at (take 32768 c) (overwritten (drop 32768 c) i bytes) 32768 (omega (arith, length-take 32768 c)))
    ∙ take-overwritten (drop 32768 c) 32768 i bytes fits (omega (arith, length-drop 32768 c))

-- and the other one
pub bank_beside : (c : List ℕ) (side : Side) (i : ℕ) (bytes : List ℕ) → 65536 ≤ length c → i + length bytes ≤ 32768
    → bank (overwritten c (bank_place side + i) bytes) (other side) ≡ bank c (other side)
bank_beside c First i bytes long fits =
    ap (λ m. take 32768 (drop 32768 (overwritten c m bytes))) (zero-add i) ∙ ap (take 32768) (drop-overwritten c 32768 i bytes fits (omega arith))
bank_beside c Second i bytes long fits =
    ap (take 32768) (overwritten-split c 32768 i bytes (omega arith))
    ∙ take_at (take 32768 c) (overwritten (drop 32768 c) i bytes) 32768 (omega (arith, length-take 32768 c))

-- bytes, and then one in front of them
pub in_front : (c : List ℕ) (p gate : ℕ) (bytes : List ℕ) → p < length c
    → overwritten (overwritten c (p + 1) bytes) p (gate ∷ []) ≡ overwritten c p (gate ∷ bytes)
in_front c p gate bytes within =
    ap₂ (λ l m. overwritten l m (gate ∷ [])) (overwritten-split c p 1 bytes (omega arith)) (sym (add-zero p))
    ∙ overwritten-right (take p c) (overwritten (drop p c) 1 bytes) p 0 (gate ∷ []) (omega (arith, length-take p c))
    ∙ ap (λ l. take p c ++ l) (at_head (drop p c) (omega (arith, length-drop p c)))
    ∙ sym (overwritten-split c p 0 (gate ∷ bytes) (omega arith))
    ∙ ap (λ m. overwritten c m (gate ∷ bytes)) (add-zero p)
  where
    at_head : (l : List ℕ) → 0 < length l → overwritten (overwritten l 1 bytes) 0 (gate ∷ []) ≡ overwritten l 0 (gate ∷ bytes)
    at_head l some = grind arith

-- a first element, in front of what is written
pub keeps_first : (l bytes : List ℕ) → 0 < length l → slice_index (overwritten l 1 bytes) 0 ≡ slice_index l 0
keeps_first l bytes some = grind arith
