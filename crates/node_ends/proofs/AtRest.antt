-- Whether all ends of a node pass a test, one after another.
use Rattle.std.specs.List.{list_all}
use Rattle.node_ends.proofs.Words.{Bool, List, Port, Some, [], ap, arith, drop, drop_all, false, length, slice_get, suc, sym, true, zero, ℕ, ◌&&◌, ◌+◌, ◌∙◌}
use Rattle.node_ends.proofs.Words.{◌∷◌, ◌≡◌, ◌≤◌}

module _ (test : Port → Bool) where
  -- those from a place on do where the one there and those behind it do
  from_here : (i : ℕ) (ports : List Port) (p : Port) → slice_get ports i ≡ Some p
      → list_all test (drop i ports) ≡ (test p && list_all test (drop (suc i) ports))
  from_here i [] p is = cc
  from_here zero (q ∷ ports) p is = let e : q ≡ p = cc in ap (λ (x : Port). test x && list_all test ports) e
  from_here (suc i) (q ∷ ports) p is = from_here i ports p is

  pub one_is_not : (i : ℕ) (ports : List Port) (p : Port) → slice_get ports i ≡ Some p → test p ≡ false → list_all test (drop i ports) ≡ false
  one_is_not i ports p is moves = from_here i ports p is ∙ ap (λ b. b && list_all test (drop (suc i) ports)) moves

  pub one_is : (i : ℕ) (ports : List Port) (p : Port) → slice_get ports i ≡ Some p → test p ≡ true
      → list_all test (drop (i + 1) ports) ≡ list_all test (drop i ports)
  one_is i ports p is rests =
      let next : i + 1 ≡ suc i = omega arith in
      ap (λ n. list_all test (drop n ports)) next ∙ sym (from_here i ports p is ∙ ap (λ b. b && list_all test (drop (suc i) ports)) rests)

  -- behind the last one none is left
  pub none_is_left : (i : ℕ) (ports : List Port) → length ports ≤ i → list_all test (drop i ports) ≡ true
  none_is_left i ports past = ap (list_all test) (drop_all i ports past)
