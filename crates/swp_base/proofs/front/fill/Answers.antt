use Rattle.std.proofs.Common.{◌≡◌, ℕ, ◌+◌, ◌<◌, ◌%◌, List, [], ◌∷◌, ◌++◌, length, set, take, drop, get_or, ap, sym, ◌∙◌, arith, zero-add, append_assoc}
use Rattle.std.proofs.Common.{drop-cons, suc}
use Rattle.std.proofs.lemmas.Grind.{common_steps}
use Rattle.std.proofs.lemmas.List.FromFn.{length-map-range_with_len, map-range_with_len_more}
use Rattle.std.proofs.Math.Seq.{set-append_seam}
use Rattle.swp_base.specs.Outside.{overwritten}
use Rattle.swp_base.specs.InMemory.{cycled}
use Rattle.swp_base.proofs.front.fill.Goals as goal

-- one more byte of an overwritten range
set-overwritten : (m xs : List ℕ) (at j y : ℕ) → at + length xs ≡ j → j < length m → set (overwritten m at xs) j y ≡ overwritten m at (xs ++ y ∷ [])
set-overwritten m xs at j y e h =
    let front = take at m ++ xs in
    let cut : drop (at + length xs) m ≡ get_or m j 0 ∷ drop (suc j) m = ap (λ n. drop n m) e ∙ drop-cons m j 0 h in
    let ahead : at + length (xs ++ y ∷ []) ≡ suc j = grind (arith, common_steps) in
    ap (λ r. set (front ++ r) j y) cut ∙ ap (λ n. set (front ++ get_or m j 0 ∷ drop (suc j) m) n y) (sym (grind (arith, common_steps)))
    ∙ set-append_seam front (get_or m j 0) (drop (suc j) m) y ∙ sym (append_assoc front (y ∷ []) (drop (suc j) m))
    ∙ ap (λ w. w ++ drop (suc j) m) (append_assoc (take at m) xs (y ∷ [])) ∙ ap (λ n. take at m ++ (xs ++ y ∷ []) ++ drop n m) (sym ahead)

length-cycled : (fill : List ℕ) (len : ℕ) → length (cycled fill len) ≡ len
length-cycled fill len = length-map-range_with_len (λ i. get_or fill (i % length fill) 0) 0 len

pub loop-i-preserved : goal.loop-i-preserved
loop-i-preserved c =
    let i = c.loop-i.i in
    let bytes = c.args.bytes.now in
    let m = c.args.memory.now in
    let at = c.args.at in
    let y = get_or bytes (i % length bytes) 0 in
    let fits : at + i < length m = omega (arith, c.requires.range) in
    ap (λ w. set w (at + i) y) c.loop-i.invariant ∙ set-overwritten m (cycled bytes i) at (at + i) y (ap (λ n. at + n) (length-cycled bytes i)) fits
    ∙ ap (overwritten m at) (sym (map-range_with_len_more (λ k. get_or bytes (k % length bytes) 0) 0 i i (zero-add i)))

pub returns-clause-len : goal.returns-clause-len
returns-clause-len c = length-cycled c.args.bytes.now c.args.len
