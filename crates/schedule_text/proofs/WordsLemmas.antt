-- How the words of a line are found from its front.
use Rattle.std.proofs.Common.{add-zero, length-drop}
use Rattle.std.proofs.lemmas.Bool.{ltb-false, ltb-true, not-false}
use Rattle.std.proofs.lemmas.List.{drop_all, get_or-drop}
use Rattle.std.proofs.lemmas.List.Sums.{fails_before_first, passes_at_first, prefix_len-le-length}
use Rattle.std.proofs.lemmas.List.Splits.{slice_split_first, slice_split_none}
use Rattle.std.proofs.lemmas.Option.{cond_some}
use Rattle.schedule_text.proofs.Names.{Bool, List, None, Some, [], add-one, ap, arith, common_steps, cond, drop, drop-cons, eqb-true, false, filter, get_or}
use Rattle.schedule_text.proofs.Names.{length, nat_lt, nat_tests, not, position, position_or_len, refl, slice_split, subst, suc, sym, take, take_all, true}
use Rattle.schedule_text.proofs.Names.{unwrap_or, words, zero, ℕ, ◌+◌, ◌<◌, ◌==◌, ◌∙◌, ◌∷◌, ◌≡◌, ◌≤◌}

abbrev pub is_space : ℕ → Bool
is_space b = b == 32

abbrev pub is_letter : ℕ → Bool
is_letter b = not (b == 32)

-- a space in front is no part of a word
space_first : (b : ℕ) (line : List ℕ) → b ≡ 32 → words (b ∷ line) ≡ words line
space_first b line e = subst (λ c. words (c ∷ line) ≡ words line) (sym e) refl

-- nor are several
spaces_first : (n : ℕ) (line : List ℕ) → n ≤ length line → ((k : ℕ) → k < n → get_or line k 0 ≡ 32) → words (drop n line) ≡ words line
spaces_first zero line h spaces = refl
spaces_first (suc n) [] h spaces = refl
spaces_first (suc n) (b ∷ line) h spaces =
    spaces_first n line (omega arith) (λ k lt. spaces (suc k) (omega arith)) ∙ sym (space_first b line (spaces 0 (omega arith)))

pick : (t : Bool) (a n : ℕ) → (t ≡ false → a ≡ n) → unwrap_or (cond t (Some a) None) n ≡ a
pick t a n h = grind arith

-- the place of the first that passes, or the length
pub place_or_len : (p : ℕ → Bool) (xs : List ℕ) → unwrap_or (position p xs) (length xs) ≡ position_or_len p xs
place_or_len p xs =
    let within = prefix_len-le-length (λ x. not (p x)) xs in
    pick (nat_lt (position_or_len p xs) (length xs)) (position_or_len p xs) (length xs) (λ e. grind (arith, nat_tests, e, within))

-- before the first letter stand spaces alone
before_letter : (line : List ℕ) (k : ℕ) → k < position_or_len is_letter line → get_or line k 0 ≡ 32
before_letter line k h = eqb-true (get_or line k 0) 32 (not-false _ (fails_before_first is_letter line k 0 h))

pub none_test : (t : Bool) (a : ℕ) → cond t (Some a) None ≡ None → t ≡ false
none_test t a h = grind arith

-- a line without a letter has no word
pub no_word : (line : List ℕ) → position is_letter line ≡ None → words line ≡ []
no_word line h =
    sym (spaces_first (length line) line (omega arith) (λ k lt. before_letter line k (omega (arith, ltb-false _ _ (none_test _ _ h)))))
    ∙ ap words (drop_all (length line) line (omega arith))

pub kept : (word : List ℕ) (parts : List (List ℕ)) → 0 < length word
    → filter (λ w. nat_lt 0 (length w)) (word ∷ parts) ≡ word ∷ filter (λ w. nat_lt 0 (length w)) parts
kept word parts h = grind arith

-- a word that a space ends
word_then_space : (rest : List ℕ) (end : ℕ) → end ≡ position_or_len is_space rest → 0 < end → end < length rest
    → words rest ≡ take end rest ∷ words (drop end rest)
word_then_space rest end e some within =
    let parts : slice_split is_space rest ≡ take end rest ∷ slice_split is_space (drop (end + 1) rest) =
    rw e (slice_split_first is_space rest 0 (subst (λ n. n < length rest) e within)) in
    let at_space : get_or rest end 0 ≡ 32 =
    eqb-true _ _ (subst (λ n. is_space (get_or rest n 0) ≡ true) (sym e) (passes_at_first is_space rest 0 (subst (λ n. n < length rest) e within))) in
    let behind : words (drop end rest) ≡ words (drop (end + 1) rest) =
    rw (add-one, drop-cons rest end 0 within) (space_first (get_or rest end 0) (drop (suc end) rest) at_space) in
    ap (filter (λ w. nat_lt 0 (length w))) parts ∙ kept (take end rest) (slice_split is_space (drop (end + 1) rest)) (grind (arith, common_steps))
    ∙ ap (λ ws. take end rest ∷ ws) (sym behind)

-- a word that the line ends
word_then_end : (rest : List ℕ) → position_or_len is_space rest ≡ length rest → 0 < length rest
    → words rest ≡ take (length rest) rest ∷ words (drop (length rest) rest)
word_then_end rest e some =
    let parts : slice_split is_space rest ≡ rest ∷ [] =
    slice_split_none is_space rest (λ k d lt. fails_before_first is_space rest k d (omega (arith, e))) in
    ap (filter (λ w. nat_lt 0 (length w))) parts ∙ kept rest [] some
    ∙ rw (drop_all (length rest) rest (omega arith), take_all (length rest) rest (omega arith)) refl

by_end : (t : Bool) (rest : List ℕ) (end : ℕ) → nat_lt end (length rest) ≡ t → end ≡ position_or_len is_space rest → 0 < end
    → words rest ≡ take end rest ∷ words (drop end rest)
by_end true rest end t e h = word_then_space rest end e h (grind (arith, nat_tests))
by_end false rest end t e h =
    let full : end ≡ length rest = omega (arith, ltb-false _ _ t, (prefix_len-le-length (λ x. not (is_space x)) rest), e) in
    subst (λ n. words rest ≡ take n rest ∷ words (drop n rest)) (sym full) (word_then_end rest (sym e ∙ full) (omega (arith, full, h)))

-- a word that begins a line
pub word_first : (rest : List ℕ) (end : ℕ) → end ≡ position_or_len is_space rest → 0 < end
    → words rest ≡ take end rest ∷ words (drop end rest)
word_first rest end e h = by_end (nat_lt end (length rest)) rest end refl e h

not_both : (b : Bool) → b ≡ true → not b ≡ true → ⊥
not_both b e f = grind arith

-- no space stands at the first letter
letter_first : (line : List ℕ) (start : ℕ) → start ≡ position_or_len is_letter line → start < length line
    → position_or_len is_space (drop start line) ≡ 0 → ⊥
letter_first line start e within h =
    let spaced : is_space (get_or (drop start line) 0 0) ≡ true =
    subst (λ n. is_space (get_or (drop start line) n 0) ≡ true) h
    (passes_at_first is_space (drop start line) 0 (subst (λ n. n < length (drop start line)) (sym h) (simp length-drop (omega arith)))) in
    let letter : is_letter (get_or line start 0) ≡ true =
    subst (λ n. is_letter (get_or line n 0) ≡ true) (sym e) (passes_at_first is_letter line 0 (subst (λ n. n < length line) e within)) in
    not_both _ (subst (λ b. is_space b ≡ true) (get_or-drop start line 0 0 ∙ ap (λ n. get_or line n 0) (add-zero start)) spaced) letter

-- the first word of a line with a letter
pub first_word : (line : List ℕ) (start end : ℕ) → position is_letter line ≡ Some start → end ≡ position_or_len is_space (drop start line)
    → (words line ≡ take end (drop start line) ∷ words (drop end (drop start line))) × (0 < end)
first_word line start end h e =
    let found = cond_some _ _ _ h in
    let at : start ≡ position_or_len is_letter line = sym found.1 in
    let within : start < length line = subst (λ n. n < length line) found.1 (ltb-true _ _ found.0) in
    let some : 0 < end = omega (arith, λ (z : end ≡ 0). letter_first line start at within (sym e ∙ z)) in
    (sym (spaces_first start line (omega arith) (λ k lt. before_letter line k (subst (λ n. k < n) at lt))) ∙ word_first (drop start line) end e some, some)

-- the line cut at its first letter, and what is behind cut at its first space
pub cut_word : (line : List ℕ) {back word rest : List ℕ} {start end : ℕ} → position is_letter line ≡ Some start → back ≡ drop start line
    → end ≡ unwrap_or (position is_space back) (length back) → word ≡ take end back → rest ≡ drop end back
    → (words line ≡ word ∷ words rest) × (length rest < length line)
cut_word line {back} {start} {end} h b e w r =
    let found = first_word line start end h (e ∙ place_or_len is_space back ∙ ap (position_or_len is_space) b) in
    let inside : start < length line = subst (λ n. n < length line) (cond_some _ _ _ h).1 (ltb-true _ _ ((cond_some _ _ _ h).0)) in
    (rw (w, r, b) found.0, rw (r, b) (simp (length-drop, length-drop) (omega (arith, found.1))))
