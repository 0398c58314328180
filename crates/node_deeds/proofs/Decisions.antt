-- What is decided tells at most six hosts, and asks for pipes of the asker alone.
use Rattle.std.proofs.Common.{leb, not, ◌*◌}
use Rattle.std.specs.Prelude.{◌⊎◌}
use Rattle.std.proofs.lemmas.Bool.{and_parts, leb-true}
use Rattle.std.proofs.lemmas.List.Sums.{sum_by-cons}
use Rattle.node_deeds.proofs.Words.{Bool, HciTables, IsSoundDecision, LinkView, List, None, Option, Some, TellsFew, [], ap, arith, cond, cond_both, decided}
use Rattle.node_deeds.proofs.Words.{eq-eqb, eqb, false, filter, has, inl, inr, length, mask_of, option_and_then, option_map_or, pipe_at, range_with_len, refl}
use Rattle.node_deeds.proofs.Words.{suc, true, zero, ℕ, ◌%◌, ◌&&◌, ◌+◌, ◌/◌, ◌<◌, ◌^◌, ◌∙◌, ◌∷◌, ◌≡◌, ◌≤◌}
use Rattle.gate_answers.specs.Answers.{param_in}
use Rattle.gate_admin.specs.View.{hosts_where, is_connected}
use Rattle.gate_admin.specs.Decide.{far_end_of, if_told, shares, told_of_clearing, told_of_deletion}
use Rattle.tables_laws.proofs.gate.Decisions.{decided_holds, new_row}

-- ## Masks

-- one where it is so
bit : Bool → ℕ
bit true = 1
bit false = 0

bit_none : (b : Bool) → b ≡ false → bit b ≡ 0
unfolding bit
bit_none true e = absurd (cc e)
bit_none false e = refl

bit_most : (b : Bool) → bit b ≤ 1
unfolding bit
bit_most true = omega arith
bit_most false = omega arith

-- of a host that passes a test or not, and of the others
mask_step : (b : Bool) (x : ℕ) (xs : List ℕ) → mask_of (cond b (x ∷ xs) xs) ≡ bit b * 2 ^ x + mask_of xs
unfolding bit
mask_step true x xs = sum_by-cons (λ h. 2 ^ h) x xs ∙ omega arith
mask_step false x xs = omega arith

count_step : (b : Bool) (x : ℕ) (xs : List ℕ) → length (cond b (x ∷ xs) xs) ≡ bit b + length xs
unfolding bit
count_step true x xs = omega arith
count_step false x xs = omega arith

module _ (test : ℕ → Bool) where
  from : ℕ → ℕ → List ℕ
  from a n = filter test (range_with_len a n)

  -- a mask is the sum of the places of the hosts that pass
  mask_is : mask_of (hosts_where test)
      ≡ 2 * bit (test 1) + 4 * bit (test 2) + 8 * bit (test 3) + 16 * bit (test 4) + 32 * bit (test 5) + 64 * bit (test 6) + 128 * bit (test 7)
  unfolding hosts_where from
  mask_is =
      let a = mask_step (test 1) 1 (from 2 6) in
      let b = mask_step (test 2) 2 (from 3 5) in
      let c = mask_step (test 3) 3 (from 4 4) in
      let d = mask_step (test 4) 4 (from 5 3) in
      let e = mask_step (test 5) 5 (from 6 2) in
      let f = mask_step (test 6) 6 (from 7 1) in
      let g = mask_step (test 7) 7 (from 8 0) in
      let last : mask_of (from 8 0) ≡ 0 = refl in
      omega arith

  count_is : length (hosts_where test) ≡ bit (test 1) + bit (test 2) + bit (test 3) + bit (test 4) + bit (test 5) + bit (test 6) + bit (test 7)
  unfolding hosts_where from
  count_is =
      let a = count_step (test 1) 1 (from 2 6) in
      let b = count_step (test 2) 2 (from 3 5) in
      let c = count_step (test 3) 3 (from 4 4) in
      let d = count_step (test 4) 4 (from 5 3) in
      let e = count_step (test 5) 5 (from 6 2) in
      let f = count_step (test 6) 6 (from 7 1) in
      let g = count_step (test 7) 7 (from 8 0) in
      let last : length (from 8 0) ≡ 0 = refl in
      omega arith

  -- where one of the hosts doesn't pass, at most six do
  few_but : (x : ℕ) → 1 ≤ x → x ≤ 7 → test x ≡ false → length (hosts_where test) ≤ 6
  few_but x some most failed = by x some most failed where
    all : bit (test 1) ≤ 1 × bit (test 2) ≤ 1 × bit (test 3) ≤ 1 × bit (test 4) ≤ 1 × bit (test 5) ≤ 1 × bit (test 6) ≤ 1 × bit (test 7) ≤ 1
    all = (bit_most (test 1), bit_most (test 2), bit_most (test 3), bit_most (test 4), bit_most (test 5), bit_most (test 6), bit_most (test 7))

    by : (x : ℕ) → 1 ≤ x → x ≤ 7 → test x ≡ false → length (hosts_where test) ≤ 6
    by zero some most failed = absurd (omega arith)
    by (suc zero) some most failed = omega (arith, count_is, all, bit_none (test 1) failed)
    by (suc (suc zero)) some most failed = omega (arith, count_is, all, bit_none (test 2) failed)
    by (suc (suc (suc zero))) some most failed = omega (arith, count_is, all, bit_none (test 3) failed)
    by (suc (suc (suc (suc zero)))) some most failed = omega (arith, count_is, all, bit_none (test 4) failed)
    by (suc (suc (suc (suc (suc zero))))) some most failed = omega (arith, count_is, all, bit_none (test 5) failed)
    by (suc (suc (suc (suc (suc (suc zero)))))) some most failed = omega (arith, count_is, all, bit_none (test 6) failed)
    by (suc (suc (suc (suc (suc (suc (suc zero))))))) some most failed = omega (arith, count_is, all, bit_none (test 7) failed)
    by (suc (suc (suc (suc (suc (suc (suc (suc n)))))))) some most failed = absurd (omega arith)

  -- one that doesn't pass isn't in the mask of those that do
  not_in_mask : (x : ℕ) → 1 ≤ x → x ≤ 7 → test x ≡ false → has (mask_of (hosts_where test)) x ≡ false
  not_in_mask x some most failed = by x some most failed where
    m : ℕ
    m = mask_of (hosts_where test)

    all : bit (test 1) ≤ 1 × bit (test 2) ≤ 1 × bit (test 3) ≤ 1 × bit (test 4) ≤ 1 × bit (test 5) ≤ 1 × bit (test 6) ≤ 1 × bit (test 7) ≤ 1
    all = (bit_most (test 1), bit_most (test 2), bit_most (test 3), bit_most (test 4), bit_most (test 5), bit_most (test 6), bit_most (test 7))

    none : (k : ℕ) → m / k % 2 ≡ 0 → eqb (m / k % 2) 1 ≡ false
    none k e = ap (λ n. eqb n 1) e

    by : (x : ℕ) → 1 ≤ x → x ≤ 7 → test x ≡ false → has m x ≡ false
    by zero some most failed = absurd (omega arith)
    by (suc zero) some most failed = none 2 (omega (arith, mask_is, all, bit_none (test 1) failed))
    by (suc (suc zero)) some most failed = none 4 (omega (arith, mask_is, all, bit_none (test 2) failed))
    by (suc (suc (suc zero))) some most failed = none 8 (omega (arith, mask_is, all, bit_none (test 3) failed))
    by (suc (suc (suc (suc zero)))) some most failed = none 16 (omega (arith, mask_is, all, bit_none (test 4) failed))
    by (suc (suc (suc (suc (suc zero))))) some most failed = none 32 (omega (arith, mask_is, all, bit_none (test 5) failed))
    by (suc (suc (suc (suc (suc (suc zero)))))) some most failed = none 64 (omega (arith, mask_is, all, bit_none (test 6) failed))
    by (suc (suc (suc (suc (suc (suc (suc zero))))))) some most failed = none 128 (omega (arith, mask_is, all, bit_none (test 7) failed))
    by (suc (suc (suc (suc (suc (suc (suc (suc n)))))))) some most failed = absurd (omega arith)

nobody : hosts_where (has 0) ≡ []
unfolding hosts_where
nobody = refl

one_alone : (x : ℕ) → 1 ≤ x → x ≤ 7 → length (hosts_where (has (mask_of (x ∷ [])))) ≤ 6
unfolding hosts_where
one_alone zero some most = absurd (omega arith)
one_alone (suc zero) some most = omega arith
one_alone (suc (suc zero)) some most = omega arith
one_alone (suc (suc (suc zero))) some most = omega arith
one_alone (suc (suc (suc (suc zero)))) some most = omega arith
one_alone (suc (suc (suc (suc (suc zero))))) some most = omega arith
one_alone (suc (suc (suc (suc (suc (suc zero)))))) some most = omega arith
one_alone (suc (suc (suc (suc (suc (suc (suc zero))))))) some most = omega arith
one_alone (suc (suc (suc (suc (suc (suc (suc (suc n)))))))) some most = absurd (omega arith)

-- ## Those that are told

said : (told : List ℕ) (k : ℕ) (rest : List ℕ) → (hosts_where (has (mask_of told)) ≡ []) ⊎ (0 < length (if_told told (k ∷ rest)))
said [] k rest = inl nobody
said (x ∷ told) k rest = inr (omega arith)

told_few : (told : List ℕ) (k : ℕ) (rest : List ℕ) → length (hosts_where (has (mask_of told))) ≤ 6 → TellsFew (mask_of told) (if_told told (k ∷ rest))
told_few told k rest few = record { few = few; said = said told k rest }

none_few : length (hosts_where (has (mask_of []))) ≤ 6
none_few = let none : length (hosts_where (has 0)) ≡ 0 = ap length nobody in omega arith

deletion_few : (v : LinkView) (o : Option (ℕ × ℕ))
    → length (hosts_where (has (mask_of (option_map_or (λ (e : ℕ × ℕ). cond (is_connected v e.0) (e.0 ∷ []) []) o [])))) ≤ 6
deletion_few v None = none_few
deletion_few v (Some end) =
    cond_both (is_connected v end.0) (end.0 ∷ []) [] (λ told. length (hosts_where (has (mask_of told))) ≤ 6)
    (λ there.
    let in_range = (and_parts (leb 1 end.0 && leb end.0 7) _ there).0 in
    let ends = and_parts (leb 1 end.0) (leb end.0 7) in_range in
    one_alone end.0 (leb-true 1 end.0 ends.0) (leb-true end.0 7 ends.1))
    (λ gone. none_few)

clearing_few : (t : HciTables) (v : LinkView) (host : ℕ) → 1 ≤ host → host ≤ 7
    → length (hosts_where (has (mask_of (told_of_clearing t v host)))) ≤ 6
clearing_few t v host some most =
    few_but (has (mask_of (told_of_clearing t v host))) host some most (not_in_mask (shares t v host) host some most apart)
  where
    apart_of : (a b c : Bool) → b ≡ true → (a && not b && c) ≡ false
    apart_of true true c e = refl
    apart_of false true c e = refl
    apart_of a false c e = absurd (cc e)

    apart : shares t v host host ≡ false
    apart = apart_of (is_connected v host) (eqb host host) _ (eq-eqb host host refl)

pub decided_soundly : (t : HciTables) (v : LinkView) (host pipe instruction : ℕ) (body : List ℕ) → 1 ≤ host → host ≤ 7
    → IsSoundDecision host (decided t v host pipe instruction body)
decided_soundly t v host pipe instruction body some most =
    let nobody_told : TellsFew 0 [] = record { few = none_few; said = inl nobody } in
    decided_holds (IsSoundDecision host) t v host pipe body instruction (λ r value. omega arith) (λ _. record {
      opens = (omega arith, nobody_told);
      closes = (omega arith, nobody_told);
      sets = λ _. (omega arith, nobody_told);
      makes = λ _ controller. (omega arith, nobody_told);
      asks = λ passed other. record {
        row = new_row t v host body;
        command = refl;
        creator = refl;
        dest = refl;
        asks = refl;
        answers = refl;
      };
      deletes = λ _. (
        omega arith,
        told_few (told_of_deletion t v host (param_in body)) 19 (param_in body ∷ [])
            (deletion_few v (option_and_then (far_end_of host) (pipe_at t.rows (param_in body)))),
      );
      clears = λ _. (omega arith, told_few (told_of_clearing t v host) 21 (host ∷ []) (clearing_few t v host some most));
    })
