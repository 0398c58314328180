-- The hosts to which a node has links are from 01 to 07, each once.
use Rattle.std.specs.List.{range_with_len}
use Rattle.node_core.proofs.Words.{AllByRecursion, AreAllDifferent, AreOfHosts, Bool, List, Named, [], arith, false, filter, has, hosts_linked, if◌then◌else◌}
use Rattle.node_core.proofs.Words.{map, new_port, refl, suc, true, zero, ℕ, ◌+◌, ◌<◌, ◌==◌, ◌∷◌, ◌≡◌, ◌≢◌, ◌≤◌}
use Rattle.gate_admin.specs.View.{hosts_where}

kept_all : (P : ℕ → Type 0) (test : ℕ → Bool) (xs : List ℕ) → AllByRecursion P xs → AllByRecursion P (filter test xs)
kept_all P test [] all = tt
kept_all P test (x ∷ xs) all = let h0 = kept_all P test xs all.1 in let h1 = test x in grind arith

kept_different : (test : ℕ → Bool) (xs : List ℕ) → AreAllDifferent xs → AreAllDifferent (filter test xs)
kept_different test [] differ = tt
kept_different test (x ∷ xs) differ = by (kept_different test xs differ.1) (test x) refl
  where
    by : AreAllDifferent (filter test xs) → (b : Bool) → test x ≡ b → AreAllDifferent (filter test (x ∷ xs))
    by later true q = rw q (kept_all (λ g. g ≢ x) test xs differ.0, later)
    by later false q = rw q later

above : (x a n : ℕ) → x < a → AllByRecursion (λ (g : ℕ). g ≢ x) (range_with_len a n)
above x a zero low = tt
above x a (suc n) low = (λ e. absurd (omega (arith, e, low)), above x (a + 1) n (omega (arith, low)))

different : (a n : ℕ) → AreAllDifferent (range_with_len a n)
different a zero = tt
different a (suc n) = (above a (a + 1) n (omega arith), different (a + 1) n)

within : (a n : ℕ) → 1 ≤ a → a + n ≤ 8 → AllByRecursion (λ (g : ℕ). (1 ≤ g) × (g ≤ 7)) (range_with_len a n)
within a zero some few = tt
within a (suc n) some few = ((some, omega (arith, few)), within (a + 1) n (omega (arith, some)) (omega (arith, few)))

pub hosts_differ : (test : ℕ → Bool) → AreAllDifferent (hosts_where test)
unfolding hosts_where
hosts_differ test = kept_different test (range_with_len 1 7) (different 1 7)

pub hosts_within : (test : ℕ → Bool) → AllByRecursion (λ (g : ℕ). (1 ≤ g) × (g ≤ 7)) (hosts_where test)
unfolding hosts_where
hosts_within test = kept_all (λ g. (1 ≤ g) × (g ≤ 7)) test (range_with_len 1 7) (within 1 7 (omega arith) (omega arith))

-- their links
pub links_within : (role : Named) (hosts : List ℕ) → AllByRecursion (λ (g : ℕ). (1 ≤ g) × (g ≤ 7)) hosts → AreOfHosts (map (new_port role) hosts)
links_within role [] all = tt
links_within role (h ∷ hosts) all = (all.0, links_within role hosts all.1)

pub linked_differ : (number mask : ℕ) → AreAllDifferent (hosts_linked number mask)
linked_differ number mask = by (number == 0)
  where
    by : (b : Bool) → AreAllDifferent (if b then hosts_where (has mask) else number ∷ [])
    by true = hosts_differ (has mask)
    by false = (tt, tt)
