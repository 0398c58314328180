-- Stuffed bits are read as the content.
use Rattle.std.proofs.Common.{◌≡◌, ℕ, ◌+◌, ◌≤◌, List, [], ◌∷◌, ◌++◌, Bool, true, false, eqb, cond, map, reverse, refl, sym, ap, ◌∙◌, inl, inr, arith}
use mathlib.Core.List.{reverse_aux}
use Rattle.std.proofs.lemmas.List.{reverse-append, reverse-reverse}
use Rattle.swp_frame.specs.Signal.{Symbol, bit_0, bit_1, symbol_of, run_of, unstuffed}
use Rattle.swp_frame.specs.Stuffing.{stuffed, stuffed_after}
use Rattle.frame_laws.specs.Spelling.{Spells, content_read}

-- bits put in front, one after another
abbrev pub onto : List Symbol → List Bool → List Symbol
onto seen [] = seen
onto seen (b ∷ bits) = onto (symbol_of b ∷ seen) bits

abbrev bits_onto : List Bool → List Bool → List Bool
bits_onto seen [] = seen
bits_onto seen (b ∷ bits) = bits_onto (b ∷ seen) bits

stuffed_reads : (ones : ℕ) (content : List Bool) (seen : List Symbol) → run_of seen ≡ ones → ones ≤ 4
    → unstuffed (onto seen (stuffed_after ones content)) ≡ bits_onto (unstuffed seen) content
stuffed_reads ones [] seen run few = refl
stuffed_reads ones (false ∷ content) seen run few = let h0 = stuffed_reads 0 content (bit_0 ∷ seen) refl (omega arith) in grind arith
stuffed_reads ones (true ∷ content) seen run few =
    by_count (eqb ones 4) refl (stuffed_reads 0 content (bit_0 ∷ bit_1 ∷ seen) refl (omega arith))
    (λ fewer. stuffed_reads (ones + 1) content (bit_1 ∷ seen) (omega arith) fewer)
  where
    by_count : (fifth : Bool) → eqb ones 4 ≡ fifth
        → unstuffed (onto (bit_0 ∷ bit_1 ∷ seen) (stuffed_after 0 content)) ≡ bits_onto (unstuffed (bit_0 ∷ bit_1 ∷ seen)) content
        → (ones + 1 ≤ 4 → unstuffed (onto (bit_1 ∷ seen) (stuffed_after (ones + 1) content)) ≡ bits_onto (unstuffed (bit_1 ∷ seen)) content)
        → unstuffed (onto seen (cond fifth (true ∷ false ∷ stuffed_after 0 content) (true ∷ stuffed_after (ones + 1) content)))
        ≡ bits_onto (true ∷ unstuffed seen) content
    by_count x0 e five other = grind arith

pub onto-aux : (seen : List Symbol) (bits : List Bool) → onto seen bits ≡ reverse_aux (map symbol_of bits) seen
onto-aux seen [] = refl
onto-aux seen (b ∷ bits) = onto-aux (symbol_of b ∷ seen) bits

onto-push : (seen : List Symbol) (bits : List Bool) (b : Bool) → onto seen (bits ++ b ∷ []) ≡ symbol_of b ∷ onto seen bits
onto-push seen [] b = refl
onto-push seen (x ∷ bits) b = onto-push (symbol_of x ∷ seen) bits b

-- stuffed content, read from the newest bit
pub reads : (content : List Bool) → unstuffed (onto [] (stuffed content)) ≡ reverse content
reads content = stuffed_reads 0 content [] refl (omega arith) ∙ (grind arith)

last_one : (fifth : Bool) (bits rest : List Bool) → cond fifth bits (false ∷ bits) ≡ true ∷ rest → bits ≡ true ∷ rest
last_one x0 bits rest e = grind arith

pub spelled_is_read : (spelling content : List Bool) → Spells spelling content → content_read spelling ≡ content
spelled_is_read spelling content (inl same) = let h0 = onto-aux [] spelling in let h1 = reads content in let h2 = reverse-reverse content in grind arith
spelled_is_read spelling content (inr ends) =
    let whole : unstuffed (bit_0 ∷ onto [] spelling) ≡ true ∷ reverse ends.0 =
    ap unstuffed (sym (onto-push [] spelling false) ∙ ap (onto []) (sym ends.2)) ∙ reads content ∙ ap reverse ends.1 ∙ reverse-append ends.0 (true ∷ []) in
    ap (λ xs. reverse (unstuffed xs)) (sym (onto-aux [] spelling))
    ∙ ap reverse (last_one (eqb (run_of (onto [] spelling)) 5) (unstuffed (onto [] spelling)) (reverse ends.0) whole
    ∙ sym (ap reverse ends.1 ∙ reverse-append ends.0 (true ∷ [])))
    ∙ reverse-reverse content
