-- Bits with no six 1 bits in a row spell a content.
use Rattle.std.proofs.Common.{◌≡◌, ◌⊎◌, ℕ, ◌+◌, ◌≤◌, ◌<◌, List, [], ◌∷◌, ◌++◌, Bool, true, false, eqb, refl, sym, ap, ◌∙◌, subst, inl, inr, arith, append_assoc}
use Rattle.std.proofs.lemmas.Bool.{eqb-true, eqb-false}
use Rattle.swp_frame.specs.Stuffing.{stuffed_after}
use Rattle.frame_laws.specs.Spelling.{Spells, NoSixOnes, content_read}
use Rattle.frame_laws.proofs.Unstuffing.{spelled_is_read}

-- the bits spell the content, where so many 1 bits in a row came before
abbrev SpellsAfter : ℕ → List Bool → List Bool → Type 0
SpellsAfter ones spelling content =
    (spelling ≡ stuffed_after ones content)
    ⊎ ((front : List Bool) × (content ≡ front ++ true ∷ []) × (stuffed_after ones content ≡ spelling ++ false ∷ []))

abbrev Spelled : ℕ → List Bool → Type 0
Spelled ones spelling = (content : List Bool) × SpellsAfter ones spelling content

-- one more bit in front
extended : (ones after : ℕ) (bit : Bool) (part spelling content : List Bool) → stuffed_after ones (bit ∷ content) ≡ part ++ stuffed_after after content
    → SpellsAfter after spelling content → SpellsAfter ones (part ++ spelling) (bit ∷ content)
extended ones after bit part spelling content step (inl e) = inl (ap (λ xs. part ++ xs) e ∙ sym step)
extended ones after bit part spelling content step (inr ends) =
    inr (bit ∷ ends.0, ap (λ xs. bit ∷ xs) ends.1, step ∙ ap (λ xs. part ++ xs) ends.2 ∙ sym (append_assoc part spelling (false ∷ [])))

one_step : (ones : ℕ) (content : List Bool) → eqb ones 4 ≡ false → stuffed_after ones (true ∷ content) ≡ (true ∷ []) ++ stuffed_after (ones + 1) content
one_step ones content e = rw e refl

with_zero : (ones : ℕ) (spelling : List Bool) → Spelled 0 spelling → Spelled ones (false ∷ spelling)
with_zero ones spelling s = (false ∷ s.0, extended ones 0 false (false ∷ []) spelling s.0 refl s.1)

few : (ones : ℕ) → ones ≤ 4 → eqb ones 4 ≡ false → ones + 1 ≤ 4
few ones h e = let differ = eqb-false ones 4 e in omega (arith, differ)

last_bit : (ones : ℕ) → (fifth : Bool) → eqb ones 4 ≡ fifth → Spelled ones (true ∷ [])
last_bit ones true e = (true ∷ [], inr ([], refl, (grind arith)))
last_bit ones false e = (true ∷ [], inl (sym (one_step ones [] e)))

then_zero : (ones : ℕ) (spelling : List Bool) (fifth : Bool) → eqb ones 4 ≡ fifth → Spelled 0 spelling → Spelled ones (true ∷ false ∷ spelling)
then_zero ones spelling true e s = (true ∷ s.0, extended ones 0 true (true ∷ false ∷ []) spelling s.0 (grind arith) s.1)
then_zero ones spelling false e s =
    let t = with_zero (ones + 1) spelling s in
    (true ∷ t.0, extended ones (ones + 1) true (true ∷ []) (false ∷ spelling) t.0 (one_step ones t.0 e) t.1)

then_one : (ones : ℕ) (spelling : List Bool) (fifth : Bool) → eqb ones 4 ≡ fifth → ones ≤ 4 → ones + 1 < 5
    → (ones + 1 ≤ 4 → Spelled (ones + 1) (true ∷ spelling))
    → Spelled ones (true ∷ true ∷ spelling)
then_one ones spelling true e h room next = absurd (omega (arith, eqb-true ones 4 e))
then_one ones spelling false e h room next =
    let t = next (few ones h e) in
    (true ∷ t.0, extended ones (ones + 1) true (true ∷ []) (true ∷ spelling) t.0 (one_step ones t.0 e) t.1)

spelled : (spelling : List Bool) (ones : ℕ) → ones ≤ 4 → NoSixOnes ones spelling → Spelled ones spelling
spelled [] ones h short = ([], inl refl)
spelled (false ∷ spelling) ones h short = with_zero ones spelling (spelled spelling 0 (omega arith) short)
spelled (true ∷ []) ones h short = last_bit ones (eqb ones 4) refl
spelled (true ∷ false ∷ spelling) ones h short = then_zero ones spelling (eqb ones 4) refl (spelled spelling 0 (omega arith) short.1)
spelled (true ∷ true ∷ spelling) ones h short =
    then_one ones spelling (eqb ones 4) refl h short.1.0 (λ few'. spelled (true ∷ spelling) (ones + 1) few' short.1)

pub spells_what_is_read : (spelling : List Bool) → NoSixOnes 0 spelling → Spells spelling (content_read spelling)
spells_what_is_read spelling short =
    let s = spelled spelling 0 (omega arith) short in
    subst (Spells spelling) (sym (spelled_is_read spelling s.0 s.1)) s.1
