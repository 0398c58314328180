-- What a tap keeps stands for what was heard, frame by frame.
use Rattle.std.proofs.Common.{◌≡◌, ℕ, ◌+◌, ◌-◌, ◌%◌, ◌<◌, ◌≤◌, ◌==◌, Bool, true, false, cond, ◌&&◌, List, [], ◌∷◌, ◌++◌, length, take, drop}
use Rattle.std.proofs.Common.{refl, ap, sym, ◌∙◌, arith, length-append, length-drop}
use Rattle.std.specs.Prelude.{nat_lt}
use Rattle.std.proofs.lemmas.Bool.{eq-eqb, ltb-true}
use Rattle.std.proofs.lemmas.List.{take-append-le, drop-append-le}
use Rattle.tap_reading.specs.Tap.{TapSide, listed_at, counted_at, renumbered, adds}
use Rattle.tap_reading.specs.keeping.Keeping.{KeptSide, kept_renumbered, kept_listed, kept_added, StandsForSide}

drop_none : {X : Type 0} (n : ℕ) → drop {A = X} n [] ≡ []
drop_none x0 = grind arith

same_both : {X : Type 0} (b : Bool) (x : X) → cond b x x ≡ x
same_both x0 x = grind arith

-- ## Numbers

pub asked_near : {k : KeptSide} {s t : TapSide} (a : ℕ) → StandsForSide k s t → StandsForSide (record k { asked = a }) (record s { asked = a }) t
asked_near a h = grind arith

pub asked_far : {j : KeptSide} {s t : TapSide} (a : ℕ) → StandsForSide j t s → StandsForSide j t (record s { asked = a })
asked_far a h = grind arith

pub number_near : (k : KeptSide) (s t : TapSide) (n : ℕ) → StandsForSide k s t → StandsForSide (kept_renumbered k n) (renumbered s n) t
number_near k s t n h = grind arith

pub number_far : (j : KeptSide) (s t : TapSide) (n : ℕ) → StandsForSide j t s → StandsForSide j t (renumbered s n)
number_far j s t n h = grind arith

-- ## An I frame

-- a side whose list is begun at its number
abbrev pub begun_list : TapSide → TapSide
begun_list s = record s { listed = s.number; list = listed_at s s.number }

pub listed_near : (k : KeptSide) (s t : TapSide) → StandsForSide k s t → StandsForSide (kept_listed k) (begun_list s) t
listed_near k s t h = grind arith

-- the lists of both sides change, and what the other side has acknowledged of them doesn't
lists_far : {j : KeptSide} {s z t : TapSide} → z.number ≡ s.number → z.count ≡ s.count → (z.listed ≤ t.number → s.listed ≤ t.number)
    → (z.listed ≤ t.number → t.count ≤ length (listed_at z t.number))
    → (z.listed ≤ t.number → take t.count (listed_at z t.number) ≡ take t.count (listed_at s t.number))
    → StandsForSide j t s → StandsForSide j t z
lists_far {j} {s} {z} {t} number count older most same h = grind arith

pub listed_far : (j : KeptSide) (s t : TapSide) → s.listed ≤ s.number → StandsForSide j t s → StandsForSide j t (begun_list s)
listed_far j s t older h = grind arith

-- the side whose list has one more, or not
abbrev pub one_more : TapSide → TapSide → ℕ → List ℕ → TapSide
one_more s t ns info = record s { list = cond (adds s.list (counted_at t s.number) ns) (s.list ++ info ∷ []) s.list }

module _ (k j : KeptSide) (s t : TapSide) (begun : s.listed ≡ s.number) (h : StandsForSide k s t) (f : StandsForSide j t s) where
  here : listed_at s s.number ≡ s.list
  here = let q : (s.listed == s.number) ≡ true = eq-eqb s.listed s.number begun in rw q refl

  inside : t.number ≤ s.number → counted_at t s.number ≤ length s.list
  inside m = grind arith

  tests : (ns : ℕ) → t.number ≤ s.number → adds s.list (counted_at t s.number) ns ≡ ((ns == k.sent) && nat_lt (length k.waiting) 4)
  tests ns m =
      let c : ℕ = counted_at t s.number in
      let sent : k.sent ≡ length s.list % 8 = h.sent (omega (arith, m, begun)) in
      let waiting : length k.waiting ≡ length s.list - c =
      ap (length {A = List ℕ}) (h.waiting (omega (arith, m, begun)) ∙ ap (λ z. drop (counted_at t z) s.list) begun) ∙ length-drop c s.list in
      let few : nat_lt (length s.list) (c + 4) ≡ nat_lt (length k.waiting) 4 = room (length s.list) c (length k.waiting) (inside m) waiting in
      rw (sent, few) refl
    where
      room : (l c w : ℕ) → c ≤ l → w ≡ l - c → nat_lt l (c + 4) ≡ nat_lt w 4
      room l c w i q = grind arith

  pub added_near : (ns : ℕ) (info : List ℕ) → StandsForSide (kept_added k ns info) (one_more s t ns info) t
  added_near ns info = go ((ns == k.sent) && nat_lt (length k.waiting) 4) refl
    where
      z : TapSide
      z = one_more s t ns info

      -- where it is added or not
      made : (v : KeptSide) (b : Bool) → v.number ≡ k.number → v.asked ≡ k.asked → v.listed ≡ k.listed → v.count ≡ k.count → v.joins ≡ k.joins
          → v.under_way ≡ k.under_way → length v.waiting ≤ 4
          → (t.number ≤ s.listed → v.sent ≡ length (cond b (s.list ++ info ∷ []) s.list) % 8)
          → (t.number ≤ s.listed → v.waiting ≡ drop (counted_at t s.listed) (cond b (s.list ++ info ∷ []) s.list))
          → (t.number ≤ s.number → adds s.list (counted_at t s.number) ns ≡ b) → StandsForSide v z t
      made v b number asked listed count joins under few sent waiting same = grind arith

      go : (b : Bool) → ((ns == k.sent) && nat_lt (length k.waiting) 4) ≡ b → StandsForSide (kept_added k ns info) z t
      go false q = rw q (made k false refl refl refl refl refl refl h.few h.sent h.waiting (λ m. tests ns m ∙ q))
      go true q =
          let v : KeptSide = record k { sent = (k.sent + 1) % 8; waiting = k.waiting ++ info ∷ [] } in
          let room : length k.waiting < 4 = ltb-true (length k.waiting) 4 (second (ns == k.sent) (nat_lt (length k.waiting) 4) q) in
          let one = length-append s.list (info ∷ []) in
          let two = length-append k.waiting (info ∷ []) in
          rw q (made v true refl refl refl refl refl refl (omega (arith, room, two))
          (λ m. let e = h.sent m in omega (arith, e, one))
          (λ m. ap (λ w. w ++ info ∷ []) (h.waiting m)
          ∙ sym (drop-append-le (counted_at t s.listed) s.list (info ∷ []) (grind arith)))
          (λ m. tests ns m ∙ q))
        where
          second : (a b : Bool) → (a && b) ≡ true → b ≡ true
          second x0 b p = grind arith

  pub added_far : (ns : ℕ) (info : List ℕ) → StandsForSide j t (one_more s t ns info)
  added_far ns info = go (adds s.list (counted_at t s.number) ns) refl
    where
      go : (b : Bool) → adds s.list (counted_at t s.number) ns ≡ b → StandsForSide j t (one_more s t ns info)
      go false q = rw q f
      go true q =
          let z : TapSide = record s { list = s.list ++ info ∷ [] } in
          rw q (lists_far {s = s} {z = z} refl refl (λ m. m) (λ m. (parts m).0) (λ m. (parts m).1) f)
        where
          parts : s.listed ≤ t.number
              → (t.count ≤ length (cond (s.listed == t.number) (s.list ++ info ∷ []) []))
              × (take t.count (cond (s.listed == t.number) (s.list ++ info ∷ []) []) ≡ take t.count (cond (s.listed == t.number) s.list []))
          parts m = by (s.listed == t.number) (f.most m)
            where
              by : (b : Bool) → t.count ≤ length (cond b s.list []) → (t.count ≤ length (cond b (s.list ++ info ∷ []) []))
                  × (take t.count (cond b (s.list ++ info ∷ []) []) ≡ take t.count (cond b s.list []))
              by false i = (i, refl)
              by true i = (omega (arith, i, length-append s.list (info ∷ [])), take-append-le t.count s.list (info ∷ []) i)
