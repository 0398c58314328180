-- How growing text goes on.
use Rattle.std.proofs.lemmas.List.{take-append-le}
use Rattle.std.proofs.lemmas.Grind.{flat_map-append}
use Rattle.std.proofs.lemmas.Fmt.{decimal_step}
use Rattle.schedule_text.proofs.Names.{HoldsText, HoldsWords, List, Start, Text, [], all_text, ap, append-nil, append_assoc, arith, decimal, decimal_digit}
use Rattle.schedule_text.proofs.Names.{encode_upper, entry_line, entry_lines, false, get_or, length, length-append, length-encode_with, refl, slice_index}
use Rattle.schedule_text.proofs.Names.{spaced, subst, sym, take, take_at, take_more, upper_digits, ℕ, ◌%◌, ◌*◌, ◌++◌, ◌+◌, ◌/◌, ◌<◌, ◌^◌, ◌∙◌, ◌∷◌, ◌≡◌, ◌≤◌}
use Rattle.hex.specs.Hex.{encode_with}
use Rattle.trace_model.specs.declared.entry.Entry.{Entry}

-- text behind text
abbrev pub behind : Start → List ℕ → Start
behind start text = record { mark = start.mark; before = start.before ++ text }

pub holds_from : (start : Start) (text : List ℕ) (t : Text) → HoldsText start text t → HoldsText (behind start text) [] t
holds_from start text t h =
    let e : start.before ++ text ≡ (start.before ++ text) ++ [] = sym (append-nil (start.before ++ text)) in
    grind arith

pub holds_back : (start : Start) (text more : List ℕ) (t : Text) → HoldsText (behind start text) more t → HoldsText start (text ++ more) t
holds_back start text more t h =
    let e : (start.before ++ text) ++ more ≡ start.before ++ (text ++ more) = append_assoc start.before text more in
    grind arith

-- more text behind what is held
pub holds_more : (start : Start) (text more : List ℕ) (t later : Text) → HoldsText start text t → later.mark ≡ t.mark
    → all_text later ≡ all_text t ++ more → (later.short ≡ false → t.short ≡ false) → HoldsText start (text ++ more) later
holds_more start text more t later h mark grown still =
    let e : start.before ++ (text ++ more) ≡ (start.before ++ text) ++ more = sym (append_assoc start.before text more) in
    record {
      whole = λ s. grown ∙ (ap (λ xs. xs ++ more) (h.whole (still s)) ∙ sym e);
      mark_is = mark ∙ h.mark_is;
      marked =
          let long = h.marked in
          let size = ap length grown in
          let longer = length-append (all_text t) more in
          omega (arith, long, size, longer);
      within =
          let long = h.within in
          let size = ap length e in
          let longer = length-append (start.before ++ text) more in
          omega (arith, long, size, longer);
      kept =
          ap (λ xs. take start.mark xs) grown
          ∙ (take-append-le start.mark (all_text t) more h.marked
          ∙ (h.kept ∙ sym (ap (λ xs. take start.mark xs) e ∙ take-append-le start.mark (start.before ++ text) more h.within)));
    }

-- the letters of a word, one by one
pub two_are : (ws : List ℕ) → length ws ≡ 2 → get_or ws 0 0 ∷ get_or ws 1 0 ∷ [] ≡ ws
two_are (a ∷ b ∷ []) h = refl
two_are ws h = absurd (omega arith)

pub three_are : (ws : List ℕ) → length ws ≡ 3 → get_or ws 0 0 ∷ get_or ws 1 0 ∷ get_or ws 2 0 ∷ [] ≡ ws
three_are (a ∷ b ∷ c ∷ []) h = refl
three_are ws h = absurd (omega arith)

pub four_are : (ws : List ℕ) → length ws ≡ 4 → get_or ws 0 0 ∷ get_or ws 1 0 ∷ get_or ws 2 0 ∷ get_or ws 3 0 ∷ [] ≡ ws
four_are (a ∷ b ∷ c ∷ d ∷ []) h = refl
four_are ws h = absurd (omega arith)

-- three words that are those
pub three_words : {a b c x y z : List ℕ} → a ≡ x → b ≡ y → c ≡ z → spaced (a ∷ b ∷ c ∷ []) ≡ spaced (x ∷ y ∷ z ∷ [])
three_words p q r = cc

-- one more word
pub spaced-push : (first word : List ℕ) (more : List (List ℕ)) → spaced (first ∷ (more ++ word ∷ [])) ≡ spaced (first ∷ more) ++ (32 ∷ word)
spaced-push first word [] = refl
spaced-push first word (m ∷ ms) = ap (λ t. first ++ (32 ∷ t)) (spaced-push m word ms) ∙ sym (append_assoc first (32 ∷ spaced (m ∷ ms)) (32 ∷ word))

-- a space and a word behind it
pub holds_word : (start : Start) (first word : List ℕ) (more : List (List ℕ)) (t : Text) → HoldsText start ((spaced (first ∷ more) ++ (32 ∷ [])) ++ word) t
    → HoldsWords start (first ∷ (more ++ word ∷ [])) t
holds_word start first word more t h =
    subst (λ x. HoldsText start x t) (append_assoc (spaced (first ∷ more)) (32 ∷ []) word ∙ sym (spaced-push first word more)) h

-- a space and a word at once
pub holds_spaced : (start : Start) (first word : List ℕ) (more : List (List ℕ)) (t : Text) → HoldsText start (spaced (first ∷ more) ++ (32 ∷ word)) t
    → HoldsWords start (first ∷ (more ++ word ∷ [])) t
holds_spaced start first word more t h = subst (λ x. HoldsText start x t) (sym (spaced-push first word more)) h

-- two words at once, a space before each
pub holds_two : (start : Start) (first word other : List ℕ) (more : List (List ℕ)) (t : Text)
    → HoldsText start (spaced (first ∷ more) ++ (32 ∷ (word ++ (32 ∷ other)))) t → HoldsWords start (first ∷ ((more ++ word ∷ []) ++ other ∷ [])) t
holds_two start first word other more t h =
    subst (λ x. HoldsText start x t)
    (sym (spaced-push first other (more ++ word ∷ []) ∙ ap (λ t. t ++ (32 ∷ other)) (spaced-push first word more)
    ∙ append_assoc (spaced (first ∷ more)) (32 ∷ word) (32 ∷ other))) h

-- the digits of bytes and of more bytes
pub encode-append : (bytes more : List ℕ) → encode_upper (bytes ++ more) ≡ encode_upper bytes ++ encode_upper more
unfolding encode_with
encode-append [] more = refl
encode-append (x ∷ xs) more = ap (λ t. slice_index upper_digits (x / 16) ∷ slice_index upper_digits (x % 16) ∷ t) (encode-append xs more)

pub encode-nil : encode_upper [] ≡ []
unfolding encode_with
encode-nil = refl

pub encode-none : (bytes : List ℕ) → length bytes ≡ 0 → [] ≡ encode_upper bytes
encode-none [] h = sym encode-nil
encode-none (b ∷ bytes) h = absurd (omega arith)

-- the two digits of the first byte, and those of the rest
pub digits_from : (digits bytes rest : List ℕ) (first : ℕ) → length digits ≡ 2 → digits ≡ encode_upper (first ∷ []) → bytes ≡ first ∷ rest
    → get_or digits 0 0 ∷ get_or digits 1 0 ∷ encode_upper rest ≡ encode_upper bytes
digits_from digits bytes rest first two is cut =
    ap (λ ds. ds ++ encode_upper rest) (two_are digits two ∙ is) ∙ (sym (encode-append (first ∷ []) rest) ∙ ap encode_upper (sym cut))

-- the digits of more bytes behind those of a front
pub holds_digits : (start : Start) (text front more digits : List ℕ) (t : Text) → digits ≡ encode_upper more
    → HoldsText start ((text ++ encode_upper front) ++ digits) t → HoldsText start (text ++ encode_upper (front ++ more)) t
holds_digits start text front more digits t e h =
    subst (λ x. HoldsText start x t)
    (ap (λ ds. (text ++ encode_upper front) ++ ds) e
    ∙ (append_assoc text (encode_upper front) (encode_upper more) ∙ ap (λ t. text ++ t) (sym (encode-append front more)))) h

-- the digits of a front
pub front_digits : (front more : List ℕ) → take (2 * length front) (encode_upper (front ++ more)) ≡ encode_upper front
front_digits front more =
    ap (take (2 * length front)) (encode-append front more)
    ∙ take_at (encode_upper front) (encode_upper more) (2 * length front) (length-encode_with upper_digits front)

-- a number of two digits
pub two_decimals : (n : ℕ) → 10 ≤ n → n < 100 → decimal n ≡ (48 + n / 10) ∷ (48 + n % 10) ∷ []
two_decimals n large small = decimal_step n large (omega arith) ∙ ap (λ ds. ds ++ (48 + n % 10) ∷ []) (decimal_digit (n / 10) (omega arith))

-- the last two digits of a number
last_decimals : (n : ℕ) → 100 ≤ n → n < 2 ^ 64 → decimal n ≡ decimal (n / 100) ++ (48 + n / 10 % 10) ∷ (48 + n % 10) ∷ []
last_decimals n large fits =
    decimal_step n (omega arith) fits ∙ ap (λ ds. ds ++ (48 + n % 10) ∷ []) (decimal_step (n / 10) (omega arith) (omega arith))
    ∙ append_assoc (decimal (n / 10 / 10)) ((48 + n / 10 % 10) ∷ []) ((48 + n % 10) ∷ [])
    ∙ ap (λ m. decimal m ++ (48 + n / 10 % 10) ∷ (48 + n % 10) ∷ []) (omega arith)

-- a number of three digits
pub three_decimals : (n : ℕ) → 100 ≤ n → n < 1000 → decimal n ≡ (48 + n / 100) ∷ (48 + n / 10 % 10) ∷ (48 + n % 10) ∷ []
three_decimals n large small =
    last_decimals n large (omega (arith, small))
    ∙ ap (λ ds. ds ++ (48 + n / 10 % 10) ∷ (48 + n % 10) ∷ []) (decimal_digit (n / 100) (omega (arith, small)))

-- a number of four digits
pub four_decimals : (n : ℕ) → 1000 ≤ n → n < 10000 → decimal n ≡ (48 + n / 1000) ∷ (48 + n / 100 % 10) ∷ (48 + n / 10 % 10) ∷ (48 + n % 10) ∷ []
four_decimals n large small =
    last_decimals n (omega (arith, large)) (omega (arith, small))
    ∙ ap (λ ds. ds ++ (48 + n / 10 % 10) ∷ (48 + n % 10) ∷ []) (two_decimals (n / 100) (omega (arith, large)) (omega (arith, small)))
    ∙ ap (λ a. (48 + a) ∷ (48 + n / 100 % 10) ∷ (48 + n / 10 % 10) ∷ (48 + n % 10) ∷ []) (omega arith)

pub holds_decimals : (start : Start) (text : List ℕ) (n : ℕ) (t : Text) → 100 ≤ n → n < 2 ^ 64
    → HoldsText start ((text ++ decimal (n / 100)) ++ ((48 + n / 10 % 10) ∷ (48 + n % 10) ∷ [])) t → HoldsText start (text ++ decimal n) t
holds_decimals start text n t large fits h =
    subst (λ x. HoldsText start x t)
    (append_assoc text (decimal (n / 100)) ((48 + n / 10 % 10) ∷ (48 + n % 10) ∷ []) ∙ ap (λ t. text ++ t) (sym (last_decimals n large fits))) h

-- a line and what stands behind its LF
pub holds_line : (start : Start) (text behind more : List ℕ) (t : Text) → behind ≡ more → HoldsText start ((text ++ (10 ∷ [])) ++ behind) t
    → HoldsText start (text ++ (10 ∷ more)) t
holds_line start text behind more t e h = subst (λ x. HoldsText start x t) (append_assoc text (10 ∷ []) behind ∙ ap (λ b. text ++ (10 ∷ b)) e) h

-- entries and one more
pub one_entry_more : (start : Start) (before : List ℕ) (entries : List Entry) (entry : Entry) (i : ℕ) (t : Text) → i < length entries
    → entry ≡ get_or entries i entry
    → HoldsText start ((before ++ entry_lines (take i entries)) ++ entry_line entry) t → HoldsText start (before ++ entry_lines (take (i + 1) entries)) t
one_entry_more start before entries entry i t within is h =
    let lines : entry_lines (take (i + 1) entries) ≡ entry_lines (take i entries) ++ entry_line entry =
    ap entry_lines (take_more entries i entry within ∙ ap (λ e. take i entries ++ e ∷ []) (sym is))
    ∙ (flat_map-append entry_line (take i entries) (entry ∷ []) ∙ ap (λ l. entry_lines (take i entries) ++ l) (append-nil (entry_line entry))) in
    subst (λ x. HoldsText start x t) (append_assoc before (entry_lines (take i entries)) (entry_line entry) ∙ ap (λ l. before ++ l) (sym lines)) h

-- words that follow one another
pub two_more : (ws : List (List ℕ)) (a b : List ℕ) (more : List (List ℕ)) → ((ws ++ a ∷ []) ++ b ∷ []) ++ more ≡ ws ++ a ∷ b ∷ more
two_more ws a b more = ap (λ x. x ++ more) (append_assoc ws (a ∷ []) (b ∷ [])) ∙ append_assoc ws (a ∷ b ∷ []) more

pub four_more : (ws : List (List ℕ)) (a b c d : List ℕ) → (((ws ++ a ∷ []) ++ b ∷ []) ++ c ∷ []) ++ d ∷ [] ≡ ws ++ a ∷ b ∷ c ∷ d ∷ []
four_more ws a b c d = ap (λ x. x ++ d ∷ []) (two_more ws a b (c ∷ [])) ∙ append_assoc ws (a ∷ b ∷ c ∷ []) (d ∷ [])
