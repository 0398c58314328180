-- A frame that was written is read.
use Rattle.std.proofs.Common.{◌≡◌, ◌≢◌, ℕ, ◌+◌, ◌-◌, ◌≤◌, List, [], ◌∷◌, ◌++◌, Bool, true, false, eqb, cond, map, reverse, Some}
use Rattle.std.proofs.Common.{refl, sym, ap, ◌∙◌, subst, inl, inr, arith, append_assoc, append-nil}
use Rattle.std.specs.Prelude.{filter}
use Rattle.std.proofs.lemmas.List.{map-append}
use Rattle.swp_base.specs.Bits.{bits_of}
use Rattle.swp_frame.specs.declared.fed.Fed.{Fed}
use Rattle.swp_frame.specs.declared.fed.Fed.TheVariants.{Nothing, Frame}
use Rattle.swp_frame.specs.Signal.{Symbol, bit_0, bit_1, symbol_of, run_of, end_mark, since_start, unstuffed}
use Rattle.swp_frame.specs.Stuffing.{start_of_frame, end_of_frame, stuffed, stuffed_after, with_crc, frame_of}
use Rattle.swp_frame.specs.Content.{judged}
use Rattle.swp_frame.specs.Verdicts.{verdict, verdict_after, answers_after, is_verdict, verdicts}
use Rattle.frame_laws.specs.Spelling.{Spells, NoSixOnes}
use Rattle.frame_laws.specs.Whole.{framed, all_framed, SpellAll, verdicts_behind, IsBetweenFrames}
use Rattle.frame_laws.proofs.Unstuffing.{onto, onto-aux, spelled_is_read}

still_open : (b : Bool) (seen since : List Symbol) → run_of seen ≢ 6 → since_start seen ≡ Some since
    → since_start (symbol_of b ∷ seen) ≡ Some (symbol_of b ∷ since)
still_open b seen since h e = grind arith

skip : (answer : Fed) (answers : List Fed) → answer ≡ Nothing → filter is_verdict (answer ∷ answers) ≡ filter is_verdict answers
skip answer answers e = rw e refl

quiet : (b : Bool) (seen later : List Symbol) → run_of seen ≢ 6
    → filter is_verdict (answers_after seen (symbol_of b ∷ later)) ≡ filter is_verdict (answers_after (symbol_of b ∷ seen) later)
quiet b seen later h = skip (verdict (symbol_of b ∷ seen)) (answers_after (symbol_of b ∷ seen) later) (grind arith)

not_six : (n : ℕ) → n ≤ 5 → n ≢ 6
not_six n h e = absurd (omega arith)

-- bits with no six 1 bits in a row give nothing, and are read
read_quietly : (bits : List Bool) (seen since later : List Symbol) → since_start seen ≡ Some since → run_of seen ≤ 5 → NoSixOnes (run_of seen) bits
    → (filter is_verdict (answers_after seen (map symbol_of bits ++ later)) ≡ filter is_verdict (answers_after (onto seen bits) later))
    × (since_start (onto seen bits) ≡ Some (onto since bits)) × (run_of (onto seen bits) ≤ 5)
read_quietly [] seen since later e h few = (refl, e, h)
read_quietly (false ∷ bits) seen since later e h few =
    let next = read_quietly bits (bit_0 ∷ seen) (bit_0 ∷ since) later (still_open false seen since (not_six (run_of seen) h) e) (omega arith) few in
    (quiet false seen (map symbol_of bits ++ later) (not_six (run_of seen) h) ∙ next.0, next.1, next.2)
read_quietly (true ∷ bits) seen since later e h few =
    let next = read_quietly bits (bit_1 ∷ seen) (bit_1 ∷ since) later (still_open true seen since (not_six (run_of seen) h) e) (omega (arith, few.0))
    (subst (λ n. NoSixOnes n bits) (omega arith) few.1) in
    (quiet true seen (map symbol_of bits ++ later) (not_six (run_of seen) h) ∙ next.0, next.1, next.2)

stuffed_few : (content : List Bool) (ones : ℕ) → ones ≤ 4 → NoSixOnes ones (stuffed_after ones content)
stuffed_few [] ones h = tt
stuffed_few (false ∷ content) ones h = stuffed_few content 0 (omega arith)
stuffed_few (true ∷ content) ones h = by_count (eqb ones 4) refl (stuffed_few content 0 (omega arith)) (λ fewer. stuffed_few content (ones + 1) fewer)
  where
    by_count : (fifth : Bool) → eqb ones 4 ≡ fifth → NoSixOnes 0 (stuffed_after 0 content)
        → (ones + 1 ≤ 4 → NoSixOnes (ones + 1) (stuffed_after (ones + 1) content))
        → NoSixOnes ones (cond fifth (true ∷ false ∷ stuffed_after 0 content) (true ∷ stuffed_after (ones + 1) content))
    by_count x0 e zeroes next = grind arith

-- what was read with the 0 and the six 1 bits of an end of frame
pub to_end : List Symbol → List Symbol
to_end seen = bit_1 ∷ bit_1 ∷ bit_1 ∷ bit_1 ∷ bit_1 ∷ bit_1 ∷ bit_0 ∷ seen

end_is_quiet : (seen later : List Symbol) → run_of seen ≤ 5
    → filter is_verdict (answers_after seen (map symbol_of end_of_frame ++ later)) ≡ filter is_verdict (answers_after (to_end seen) (bit_1 ∷ later))
unfolding to_end
end_is_quiet seen later h = grind arith

end_is_open : (seen since : List Symbol) → since_start seen ≡ Some since → run_of seen ≤ 5 → since_start (to_end seen) ≡ Some (to_end since)
unfolding to_end
end_is_open seen since e h = grind arith

last_bit : (seen since : List Symbol) → since_start (to_end seen) ≡ Some (to_end since) → verdict (bit_1 ∷ to_end seen) ≡ judged (reverse (unstuffed since))
unfolding to_end
last_bit seen since e = ap (verdict_after end_mark) e

keep : (answer : Fed) (answers : List Fed) → is_verdict answer ≡ true → filter is_verdict (answer ∷ answers) ≡ answer ∷ filter is_verdict answers
keep answer answers e = rw e refl

-- what was read with an end of frame
abbrev pub ended : List Symbol → List Symbol
ended seen = bit_1 ∷ to_end seen

-- the end of a frame gives the verdict on the content
read_end : (seen since later : List Symbol) → since_start seen ≡ Some since → run_of seen ≤ 5
    → filter is_verdict (answers_after seen (map symbol_of end_of_frame ++ later))
    ≡ judged (reverse (unstuffed since)) ∷ filter is_verdict (answers_after (ended seen) later)
read_end seen since later e h = let h0 = end_is_quiet seen later h in let h1 = last_bit seen since (end_is_open seen since e h) in grind arith

-- what was read with a start of frame
unfoldable pub started : List Symbol → List Symbol
started seen = bit_0 ∷ bit_1 ∷ bit_1 ∷ bit_1 ∷ bit_1 ∷ bit_1 ∷ bit_1 ∷ bit_0 ∷ seen

front_few : (bits more : List Bool) (ones : ℕ) → NoSixOnes ones (bits ++ more) → NoSixOnes ones bits
front_few [] more ones h = tt
front_few (false ∷ bits) more ones h = front_few bits more 0 h
front_few (true ∷ bits) more ones h = (h.0, front_few bits more (ones + 1) h.1)

spelled_few : (spelling content : List Bool) → Spells spelling content → NoSixOnes 0 spelling
spelled_few spelling content (inl same) = subst (NoSixOnes 0) (sym same) (stuffed_few content 0 (omega arith))
spelled_few spelling content (inr ends) = front_few spelling (false ∷ []) 0 (subst (NoSixOnes 0) ends.2 (stuffed_few content 0 (omega arith)))

-- behind a start of frame, bits that spell a content and an end of frame give the verdict on this content
pub spelled_is_judged : (seen : List Symbol) (spelling content : List Bool) (later : List Symbol) → Spells spelling content
    → filter is_verdict (answers_after (started seen) (map symbol_of (spelling ++ end_of_frame) ++ later))
    ≡ judged content ∷ filter is_verdict (answers_after (ended (onto (started seen) spelling)) later)
unfolding started
spelled_is_judged seen spelling content later spells =
    let inner = read_quietly spelling (started seen) [] (map symbol_of end_of_frame ++ later) refl (omega arith) (spelled_few spelling content spells) in
    ap (λ xs. filter is_verdict (answers_after (started seen) xs))
    (ap (λ xs. xs ++ later) (map-append symbol_of spelling end_of_frame) ∙ append_assoc (map symbol_of spelling) (map symbol_of end_of_frame) later)
    ∙ inner.0
    ∙ read_end (onto (started seen) spelling) (onto [] spelling) later inner.1 inner.2
    ∙ ap (λ bits. judged bits ∷ filter is_verdict (answers_after (ended (onto (started seen) spelling)) later))
    (ap (λ xs. reverse (unstuffed xs)) (onto-aux [] spelling) ∙ spelled_is_read spelling content spells)

-- ## Frames one behind another

-- what was read with the 0 and the six 1 bits of a start of frame
to_start : List Symbol → List Symbol
to_start seen = bit_1 ∷ bit_1 ∷ bit_1 ∷ bit_1 ∷ bit_1 ∷ bit_1 ∷ bit_0 ∷ seen

start_is_quiet : (seen later : List Symbol) → IsBetweenFrames seen
    → filter is_verdict (answers_after seen (map symbol_of start_of_frame ++ later)) ≡ filter is_verdict (answers_after (started seen) later)
unfolding to_start started
start_is_quiet seen later between = grind arith

-- behind an end of frame no frame is open
between_again : (seen : List Symbol) → IsBetweenFrames (ended seen)
unfolding to_end
between_again seen = record { closed = refl; apart = λ six. absurd (omega (arith, six)) }

pub all_are_judged : (spellings contents : List (List Bool)) (seen : List Symbol) → IsBetweenFrames seen → SpellAll spellings contents
    → verdicts_behind seen (all_framed spellings) ≡ map judged contents
all_are_judged [] [] seen between spell = refl
all_are_judged [] (content ∷ contents) seen between spell = absurd spell
all_are_judged (spelling ∷ spellings) [] seen between spell = absurd spell
all_are_judged (spelling ∷ spellings) (content ∷ contents) seen between spell =
    ap (λ xs. filter is_verdict (answers_after seen xs)) parts
    ∙ start_is_quiet seen (map symbol_of (spelling ++ end_of_frame) ++ map symbol_of (all_framed spellings)) between
    ∙ spelled_is_judged seen spelling content (map symbol_of (all_framed spellings)) spell.0
    ∙ ap (λ xs. judged content ∷ xs)
    (all_are_judged spellings contents (ended (onto (started seen) spelling)) (between_again (onto (started seen) spelling)) spell.1)
  where
    parts : map symbol_of (framed spelling ++ all_framed spellings)
        ≡ map symbol_of start_of_frame ++ (map symbol_of (spelling ++ end_of_frame) ++ map symbol_of (all_framed spellings))
    parts =
        map-append symbol_of (framed spelling) (all_framed spellings)
        ∙ ap (λ xs. xs ++ map symbol_of (all_framed spellings)) (map-append symbol_of start_of_frame (spelling ++ end_of_frame))
        ∙ append_assoc (map symbol_of start_of_frame) (map symbol_of (spelling ++ end_of_frame)) (map symbol_of (all_framed spellings))

pub frame_is_read : (lpdu : List ℕ) → judged (bits_of (with_crc lpdu)) ≡ Frame lpdu → verdicts (map symbol_of (frame_of lpdu)) ≡ Frame lpdu ∷ []
frame_is_read lpdu right =
    let content = bits_of (with_crc lpdu) in
    ap (λ bits. verdicts (map symbol_of bits)) (sym (append-nil (frame_of lpdu)))
    ∙ all_are_judged (stuffed content ∷ []) (content ∷ []) [] (record { closed = refl; apart = λ six. absurd (omega (arith, six)) }) (inl refl, tt)
    ∙ ap (λ answer. answer ∷ []) right
