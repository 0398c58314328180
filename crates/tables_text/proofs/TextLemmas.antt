-- A line from the digits of its bytes.
use Rattle.std.proofs.Common.{◌≡◌, ℕ, ◌+◌, ◌/◌, ◌%◌, ◌<◌, List, [], ◌∷◌, ◌++◌, length, get_or, take, slice_index}
use Rattle.std.proofs.Common.{refl, sym, ap, ap₂, ◌∙◌, append_assoc, arith}
use Rattle.std.specs.Prelude.{codes}
use Rattle.std.proofs.lemmas.List.{take_more}
use Rattle.hex.specs.Hex.{encode_with, encode_upper, upper_digits}
use Rattle.pipe_table.specs.declared.row.PipeRow.{PipeRow}
use Rattle.registry.specs.declared.value.RegValue.{RegValue}
use Rattle.tables_text.specs.Tables.{line, byte_word, state_as_word, hex_or_dash, pipe_line, static_line, value_line, sync_line, value_words}

-- the two digits of a byte
abbrev pub AreDigits : ℕ → ℕ → ℕ → Type 0
AreDigits b high low = (high ≡ slice_index upper_digits (b / 16)) × (low ≡ slice_index upper_digits (b % 16))

digits_are : (b high low : ℕ) → AreDigits b high low → high ∷ low ∷ [] ≡ byte_word b
unfolding encode_with
digits_are b high low is = ap₂ (λ x y. x ∷ y ∷ []) is.0 is.1

four_digits_are : (b c first second third fourth : ℕ) → AreDigits b first second → AreDigits c third fourth
    → first ∷ second ∷ third ∷ fourth ∷ [] ≡ encode_upper (b ∷ c ∷ [])
unfolding encode_with
four_digits_are b c first second third fourth is next =
    ap₂ (λ x y. x ∷ y ∷ third ∷ fourth ∷ []) is.0 is.1
    ∙ ap₂ (λ x y. slice_index upper_digits (b / 16) ∷ slice_index upper_digits (b % 16) ∷ x ∷ y ∷ []) next.0 next.1

six_are : (word : List ℕ) → length word ≡ 6
    → get_or word 0 0 ∷ get_or word 1 0 ∷ get_or word 2 0 ∷ get_or word 3 0 ∷ get_or word 4 0 ∷ get_or word 5 0 ∷ [] ≡ word
six_are [] h = absurd (omega arith)
six_are (a ∷ []) h = absurd (omega arith)
six_are (a ∷ b ∷ []) h = absurd (omega arith)
six_are (a ∷ b ∷ c ∷ []) h = absurd (omega arith)
six_are (a ∷ b ∷ c ∷ d ∷ []) h = absurd (omega arith)
six_are (a ∷ b ∷ c ∷ d ∷ e ∷ []) h = absurd (omega arith)
six_are (a ∷ b ∷ c ∷ d ∷ e ∷ f ∷ []) h = refl
six_are (a ∷ b ∷ c ∷ d ∷ e ∷ f ∷ g ∷ more) h = absurd (omega arith)

abbrev pipe_words : List ℕ → List ℕ → List ℕ → List ℕ → List ℕ → List ℕ → List ℕ
pipe_words pid creator gate dest dest_gate state = line (codes "pipe" ∷ pid ∷ (creator ++ (32 ∷ gate)) ∷ (dest ++ (32 ∷ dest_gate)) ∷ state ∷ [])

pub pipe_line_is : (row : PipeRow) (a b c d e f g h i j : ℕ) (state : List ℕ) → AreDigits row.pid a b → AreDigits row.creator c d
    → AreDigits row.creator_gate e f → AreDigits row.dest g h → AreDigits row.dest_gate i j → length state ≡ 6 → state ≡ state_as_word row.opened
    → 112 ∷ 105 ∷ 112 ∷ 101 ∷ 32 ∷ a ∷ b ∷ 32 ∷ c ∷ d ∷ 32 ∷ e ∷ f ∷ 32 ∷ g ∷ h ∷ 32 ∷ i ∷ j ∷ 32 ∷ get_or state 0 0 ∷ get_or state 1 0
    ∷ get_or state 2 0 ∷ get_or state 3 0 ∷ get_or state 4 0 ∷ get_or state 5 0 ∷ 10 ∷ []
    ≡ pipe_line row
pipe_line_is row a b c d e f g h i j state pid creator gate dest dest_gate six is =
    ap (λ word. pipe_words (a ∷ b ∷ []) (c ∷ d ∷ []) (e ∷ f ∷ []) (g ∷ h ∷ []) (i ∷ j ∷ []) word) (six_are state six ∙ is)
    ∙ ap (λ word. pipe_words word (c ∷ d ∷ []) (e ∷ f ∷ []) (g ∷ h ∷ []) (i ∷ j ∷ []) (state_as_word row.opened)) (digits_are row.pid a b pid)
    ∙ ap (λ word. pipe_words (byte_word row.pid) word (e ∷ f ∷ []) (g ∷ h ∷ []) (i ∷ j ∷ []) (state_as_word row.opened)) (digits_are row.creator c d creator)
    ∙ ap (λ word. pipe_words (byte_word row.pid) (byte_word row.creator) word (g ∷ h ∷ []) (i ∷ j ∷ []) (state_as_word row.opened))
    (digits_are row.creator_gate e f gate)
    ∙ ap (λ word. pipe_words (byte_word row.pid) (byte_word row.creator) (byte_word row.creator_gate) word (i ∷ j ∷ []) (state_as_word row.opened))
    (digits_are row.dest g h dest)
    ∙ ap (λ word. pipe_words (byte_word row.pid) (byte_word row.creator) (byte_word row.creator_gate) (byte_word row.dest) word (state_as_word row.opened))
    (digits_are row.dest_gate i j dest_gate)

pub static_line_is : (host pid a b c d : ℕ) → AreDigits host a b → AreDigits pid c d
    → 115 ∷ 116 ∷ 97 ∷ 116 ∷ 105 ∷ 99 ∷ 32 ∷ a ∷ b ∷ 32 ∷ c ∷ d ∷ 10 ∷ [] ≡ static_line (host, pid)
static_line_is host pid a b c d is next =
    ap (λ word. line (codes "static" ∷ word ∷ (c ∷ d ∷ []) ∷ [])) (digits_are host a b is)
    ∙ ap (λ word. line (codes "static" ∷ byte_word host ∷ word ∷ [])) (digits_are pid c d next)

pub sync_line_is : (host id a b c d e f : ℕ) → AreDigits host a b → AreDigits (id / 256) c d → AreDigits (id % 256) e f
    → 115 ∷ 121 ∷ 110 ∷ 99 ∷ 32 ∷ a ∷ b ∷ 32 ∷ c ∷ d ∷ e ∷ f ∷ 10 ∷ [] ≡ sync_line (host, id)
sync_line_is host id a b c d e f is high low =
    ap (λ word. line (codes "sync" ∷ word ∷ (c ∷ d ∷ e ∷ f ∷ []) ∷ [])) (digits_are host a b is)
    ∙ ap (λ word. line (codes "sync" ∷ byte_word host ∷ word ∷ [])) (four_digits_are (id / 256) (id % 256) c d e f high low)

pub value_words_are : (host gate param a b c d e f : ℕ) → AreDigits host a b → AreDigits gate c d → AreDigits param e f
    → 114 ∷ 101 ∷ 103 ∷ 32 ∷ a ∷ b ∷ 32 ∷ c ∷ d ∷ 32 ∷ e ∷ f ∷ 32 ∷ [] ≡ value_words host gate param
value_words_are host gate param a b c d e f is next last =
    ap (λ word. codes "reg" ++ (32 ∷ (word ++ (32 ∷ c ∷ d ∷ 32 ∷ e ∷ f ∷ 32 ∷ [])))) (digits_are host a b is)
    ∙ ap (λ word. codes "reg" ++ (32 ∷ (byte_word host ++ (32 ∷ (word ++ (32 ∷ e ∷ f ∷ 32 ∷ [])))))) (digits_are gate c d next)
    ∙ ap (λ word. codes "reg" ++ (32 ∷ (byte_word host ++ (32 ∷ (byte_word gate ++ (32 ∷ (word ++ 32 ∷ []))))))) (digits_are param e f last)

encode-append : (bytes more : List ℕ) → encode_upper (bytes ++ more) ≡ encode_upper bytes ++ encode_upper more
unfolding encode_with
encode-append [] more = refl
encode-append (x ∷ xs) more = ap (λ t. slice_index upper_digits (x / 16) ∷ slice_index upper_digits (x % 16) ∷ t) (encode-append xs more)

-- the digits of one more byte
pub encode-more : (bytes : List ℕ) (b high low : ℕ) → AreDigits b high low → encode_upper (bytes ++ b ∷ []) ≡ (encode_upper bytes ++ high ∷ []) ++ low ∷ []
encode-more bytes b high low is =
    encode-append bytes (b ∷ []) ∙ ap (λ digits. encode_upper bytes ++ digits) (sym (digits_are b high low is))
    ∙ sym (append_assoc (encode_upper bytes) (high ∷ []) (low ∷ []))

pub encode-none : encode_upper [] ≡ []
unfolding encode_with
encode-none = refl

-- the same behind what stood there
pub digits_more : (start bytes : List ℕ) (i d high low : ℕ) {text then new : List ℕ} → i < length bytes → text ≡ start ++ encode_upper (take i bytes)
    → AreDigits (get_or bytes i d) high low → then ≡ text ++ high ∷ [] → new ≡ then ++ low ∷ [] → new ≡ start ++ encode_upper (take (i + 1) bytes)
digits_more start bytes i d high low within text_is is then_is new_is =
    let front = encode_upper (take i bytes) in
    new_is ∙ ap (λ text. text ++ low ∷ []) (then_is ∙ ap (λ text. text ++ high ∷ []) text_is ∙ append_assoc start front (high ∷ []))
    ∙ append_assoc start (front ++ high ∷ []) (low ∷ [])
    ∙ ap (λ digits. start ++ digits) (sym (ap encode_upper (take_more bytes i d within) ∙ encode-more (take i bytes) (get_or bytes i d) high low is))

pub value_line_is : (value : RegValue)
    → (value_words value.host value.gate value.param ++ hex_or_dash value.value.items) ++ 10 ∷ [] ≡ value_line value
unfolding encode_with
value_line_is value = refl
