-- Lemmas on bytes that are held, and go on with FF up to so many.
use Rattle.std.proofs.Common.{◌≡◌, ◌⊎◌, inl, inr, ℕ, ◌+◌, ◌-◌, ◌<◌, ◌≤◌, min, List, ◌++◌, length, take, drop, replicate, slice_range, sym, ap, ap₂, ◌∙◌, arith}
use Rattle.std.proofs.Common.{append_assoc, append-nil, length-append, length-drop, take_at, drop_at}
use Rattle.std.proofs.Math.Seq.{take-append-add, drop-append-add, take-nil}
use Rattle.std.proofs.lemmas.Bool.{cases_lt}
use Rattle.std.proofs.lemmas.List.{take-append-le, drop-append-le, take-replicate, drop-replicate, replicate-append-replicate}
use Rattle.std.proofs.lemmas.List.{length-replicate, take_all, drop_all}
use Rattle.swp_base.specs.Outside.{overwritten}
use Rattle.swp_base.proofs.WriteLemmas.{length-overwritten, overwritten-left}

pub length-filled_up : (xs : List ℕ) (size : ℕ) → length xs ≤ size → length (xs ++ replicate (size - length xs) 255) ≡ size
length-filled_up xs size few = omega (arith, length-append xs (replicate (size - length xs) 255), length-replicate {A = ℕ} (size - length xs) 255)

-- held up to a place, they say the same
lengthened : (xs : List ℕ) (n size : ℕ) → n ≤ size → length xs ≤ size
    → (xs ++ replicate (n - length xs) 255) ++ replicate (size - length (xs ++ replicate (n - length xs) 255)) 255 ≡ xs ++ replicate (size - length xs) 255
lengthened xs n size within few =
    let more = replicate (n - length xs) 255 in
    let long : length (xs ++ more) ≡ length xs + (n - length xs) = omega (arith, length-append xs more, length-replicate {A = ℕ} (n - length xs) 255) in
    append_assoc xs more (replicate (size - length (xs ++ more)) 255)
    ∙ ap (λ l. xs ++ l) (replicate-append-replicate (n - length xs) (size - length (xs ++ more)) 255 ∙ ap (λ k. replicate k 255) (grind arith))

-- a write that ends at place n, into what is held up to there
pub front_written : (xs bytes : List ℕ) (at n size : ℕ) → at + length bytes ≡ n → n ≤ size → length xs ≤ size
    → overwritten (xs ++ replicate (n - length xs) 255) at bytes
    ++ replicate (size - length (overwritten (xs ++ replicate (n - length xs) 255) at bytes)) 255
    ≡ overwritten (xs ++ replicate (size - length xs) 255) at bytes
front_written xs bytes at n size ends within few =
    let front = xs ++ replicate (n - length xs) 255 in
    let inside : at + length bytes ≤ length front =
    omega (arith, length-append xs (replicate (n - length xs) 255), length-replicate {A = ℕ} (n - length xs) 255) in
    ap (λ k. overwritten front at bytes ++ replicate (size - k) 255) (length-overwritten front at bytes inside)
    ∙ sym (overwritten-left front (replicate (size - length front) 255) at bytes inside)
    ∙ ap (λ l. overwritten l at bytes) (lengthened xs n size within few)

drop-filled_up : (m k : ℕ) (xs : List ℕ) → drop m (xs ++ replicate k 255) ≡ drop m xs ++ replicate (k - (m - length xs)) 255
drop-filled_up m k xs = by_place (cases_lt m (length xs))
  where
    by_place : (m < length xs) ⊎ (length xs ≤ m) → drop m (xs ++ replicate k 255) ≡ drop m xs ++ replicate (k - (m - length xs)) 255
    by_place (inl before) =
        drop-append-le m xs (replicate k 255) (omega arith) ∙ ap (λ j. drop m xs ++ replicate j 255) (omega arith)
    by_place (inr behind) =
        ap (λ j. drop j (xs ++ replicate k 255)) (omega arith)
        ∙ drop-append-add xs (replicate k 255) (m - length xs)
        ∙ drop-replicate (m - length xs) k 255
        ∙ ap (λ l. l ++ replicate (k - (m - length xs)) 255) (sym (drop_all m xs behind))

take-filled_up : (n k : ℕ) (ys : List ℕ) → n ≤ length ys + k → take n (ys ++ replicate k 255) ≡ take n ys ++ replicate (n - length ys) 255
take-filled_up n k ys fits = by_place (cases_lt n (length ys))
  where
    by_place : (n < length ys) ⊎ (length ys ≤ n) → take n (ys ++ replicate k 255) ≡ take n ys ++ replicate (n - length ys) 255
    by_place (inl before) =
        let none : 0 ≡ n - length ys = omega arith in
        take-append-le n ys (replicate k 255) (omega arith) ∙ sym (append-nil (take n ys)) ∙ ap (λ j. take n ys ++ replicate j 255) none
    by_place (inr behind) =
        ap (λ j. take j (ys ++ replicate k 255)) (omega arith)
        ∙ take-append-add ys (replicate k 255) (n - length ys)
        ∙ ap (λ l. ys ++ l) (take-replicate (n - length ys) k 255 (omega arith))
        ∙ ap (λ l. l ++ replicate (n - length ys) 255) (sym (take_all n ys behind))

-- a part of them: what is held of it, and FF
module _ (xs : List ℕ) (at n size from held : ℕ) (few : length xs ≤ size) (fits : at + n ≤ size) (from_is : from ≡ min at (length xs))
    (held_is : held ≡ min n (length xs - from)) where
  held_part : take n (drop at xs) ≡ slice_range xs from (from + held)
  held_part = by_place (cases_lt (length xs) at) (cases_lt (length xs - at) n)
    where
      by_place : (length xs < at) ⊎ (at ≤ length xs) → (length xs - at < n) ⊎ (n ≤ length xs - at) → take n (drop at xs) ≡ slice_range xs from (from + held)
      by_place (inl behind) _ =
          ap (take n) (drop_all at xs (omega arith)) ∙ take-nil n
          ∙ sym (ap (take (from + held - from)) (drop_all from xs (omega (arith, from_is))) ∙ take-nil (from + held - from))
      by_place (inr before) (inl ends) =
          let here : at ≡ from = omega (arith, from_is) in
          take_all n (drop at xs) (omega (arith, length-drop at xs)) ∙ ap (λ m. drop m xs) here
          ∙ sym (take_all (from + held - from) (drop from xs) (omega (arith, length-drop from xs, held_is, from_is)))
      by_place (inr before) (inr goes_on) =
          let here : at ≡ from = omega (arith, from_is) in
          ap₂ (λ j m. take j (drop m xs)) (omega (arith, held_is, from_is)) here

  pub front_read : slice_range xs from (from + held) ++ replicate (n - held) 255 ≡ slice_range (xs ++ replicate (size - length xs) 255) at (at + n)
  front_read =
      sym
      (ap (λ j. take j (drop at (xs ++ replicate (size - length xs) 255))) (omega arith)
      ∙ ap (take n) (drop-filled_up at (size - length xs) xs)
      ∙ take-filled_up n (size - length xs - (at - length xs)) (drop at xs) (omega (arith, length-drop at xs))
      ∙ ap₂ (λ l j. l ++ replicate j 255) held_part (omega (arith, length-drop at xs, from_is, held_is)))

-- a buffer whose front was written, and then the rest
pub both_parts : (front rest old : List ℕ) (held : ℕ) → length front ≡ held
    → take held (front ++ drop held old) ++ (rest ++ drop (length (front ++ drop held old) - held) (drop held (front ++ drop held old))) ≡ front ++ rest
both_parts front rest old held size =
    let all = front ++ drop held old in
    ap₂ (λ l m. l ++ (rest ++ m)) (take_at front (drop held old) held size)
    (ap (drop (length all - held)) (drop_at front (drop held old) held size)
    ∙ drop_all (length all - held) (drop held old) (omega (arith, length-append front (drop held old))))
    ∙ ap (λ l. front ++ l) (append-nil rest)
