-- Lines that are read at once are what their rows say.
use Rattle.schedule_text.proofs.Names.{Bool, End, Header, List, None, Ok, Option, Some, [], ap, arith, by_row, byte_value, bytes_value, codes, decode_of}
use Rattle.schedule_text.proofs.Names.{decode_of-ok, drop, end_value, false, get_or, hex_digit_value, is_hex_digit, is_some, length, list_all-from_AllPass}
use Rattle.schedule_text.proofs.Names.{number_in, option_and_then, option_map, refl, row_for, side_value, spaced, sym, take, take_all, true, words, ℕ, ◌-◌, ◌∙◌}
use Rattle.schedule_text.proofs.Names.{◌∷◌, ◌≡◌, ◌≤◌}
use Rattle.trace_model.specs.declared.line.Line.TheVariants as line
use Rattle.schedule_text.specs.declared.forms.Kind.TheVariants as kind
use Rattle.schedule_text.specs.declared.read.Read.TheVariants as read
use Rattle.schedule_text.specs.AtOnce.{EndAndWord}
use Rattle.schedule_text.proofs.WordsLemmas.{is_letter}
use Rattle.schedule_text.proofs.AgainLemmas.{IsWord, words-spaced}
use Rattle.schedule_text.proofs.HexLemmas.{no_high, no_low, byte_of_others}
use Rattle.schedule_text.proofs.LinesLemmas.{ok_of}
use Rattle.schedule_text.proofs.RowsLemmas.{Fits}

-- three words that fit their kinds
pub sends : (header : Header) (ws : List (List ℕ)) (a b c : List ℕ) → ws ≡ a ∷ b ∷ c ∷ [] → (at : Fits header.hci header.hosts.items 0 kind.Sender a)
    → (pid : Fits header.hci header.hosts.items 0 (kind.Byte 112) b) → (message : Fits header.hci header.hosts.items 0 (kind.Bytes 1 4500) c)
    → Ok (read.Line (line.Send at.0 pid.0 message.0)) ≡ by_row (Some header) (row_for (codes "send") ws) ws
sends header ws a b c is at pid message = grind arith

-- one word that fits its kind
pub delivers : (header : Header) (ws : List (List ℕ)) (a : List ℕ) → ws ≡ a ∷ [] → (at : Fits header.hci header.hosts.items 0 kind.End a)
    → Ok (read.Line (line.Deliver at.0 None)) ≡ by_row (Some header) (row_for (codes "deliver") ws) ws
delivers header ws a is at = grind arith

pub loses : (header : Header) (ws : List (List ℕ)) (a : List ℕ) → ws ≡ a ∷ [] → (at : Fits header.hci header.hosts.items 0 kind.End a)
    → Ok (read.Line (line.Lose at.0)) ≡ by_row (Some header) (row_for (codes "lose") ws) ws
loses header ws a is at = grind arith

pub resets : (header : Header) (ws : List (List ℕ)) (a : List ℕ) → ws ≡ a ∷ [] → (at : Fits header.hci header.hosts.items 0 kind.End a)
    → Ok (read.Line (line.Reset at.0 None)) ≡ by_row (Some header) (row_for (codes "reset") ws) ws
resets header ws a is at = grind arith

pub readies : (header : Header) (ws : List (List ℕ)) (a : List ℕ) → ws ≡ a ∷ [] → header.hci ≡ false → (at : Fits header.hci header.hosts.items 0 kind.End a)
    → Ok (read.Line (line.Ready at.0)) ≡ by_row (Some header) (row_for (codes "ready") ws) ws
readies header ws a is bare at = grind arith

-- an end and a number from 1 to 4
pub resets_with : (header : Header) (ws : List (List ℕ)) (at : End) (b : List ℕ) → EndAndWord header.hosts.items ws at b → (n : ℕ) → number_in 1 4 b ≡ Some n
    → Ok (read.Line (line.Reset at (Some n))) ≡ by_row (Some header) (row_for (codes "reset") ws) ws
resets_with header ws at b found n number = grind arith

-- an end and one place of a bit
pub damages : (header : Header) (ws : List (List ℕ)) (at : End) (b : List ℕ) → EndAndWord header.hosts.items ws at b → (p : ℕ) → number_in 0 399 b ≡ Some p
    → Ok (read.Line (line.Damage at (record { items = p ∷ [] }))) ≡ by_row (Some header) (row_for (codes "damage") ws) ws
damages header ws at b found p number = grind arith

-- a number from 1 to 100
pub ticks : (header : Header) (ws : List (List ℕ)) (a : List ℕ) → ws ≡ a ∷ [] → (n : ℕ) → number_in 1 100 a ≡ Some n
    → Ok (read.Line (line.Tick (Some n))) ≡ by_row (Some header) (row_for (codes "tick") ws) ws
ticks header ws a is n number = grind arith

-- a message is half as long as its digits
pub message_sizes : (digits bytes : List ℕ) → bytes_value digits ≡ Some bytes → 2 ≤ length digits → length digits ≤ 9000
    → (bytes_value digits ≡ Some bytes) × (1 ≤ length bytes) × (length bytes ≤ 4500)
message_sizes digits bytes h some few =
    let long = (decode_of-ok digits bytes (ok_of (decode_of digits) bytes h)).2 in
    (h, omega (arith, long, some), omega (arith, long, few))

-- a hexadecimal digit is a letter
digit_is_letter : (c : ℕ) → is_hex_digit c ≡ true → is_letter c ≡ true
digit_is_letter c h = grind arith

-- so are two
byte_letters : (a b n : ℕ) → byte_value (a ∷ b ∷ []) ≡ Some n → (is_letter a ≡ true) × (is_letter b ≡ true)
byte_letters a b n h = go (hex_digit_value a) refl (hex_digit_value b) refl
  where
    go : (x : Option ℕ) → hex_digit_value a ≡ x → (y : Option ℕ) → hex_digit_value b ≡ y → (is_letter a ≡ true) × (is_letter b ≡ true)
    go None e y f = cc (no_high a b e ∙ h)
    go (Some x) e None f = cc (no_low a b x e f ∙ h)
    go (Some x) e (Some y) f = (digit_is_letter a (ap is_some e), digit_is_letter b (ap is_some f))

-- and the letter of a side
side_is_letter : (c : ℕ) (at_host : Bool) → side_value c ≡ Some at_host → is_letter c ≡ true
side_is_letter c at_host h = grind arith

-- an end is one word
pub end_is_word : (word : List ℕ) (at : End) → end_value word ≡ Some at → IsWord word
end_is_word [] at h = cc h
end_is_word (a ∷ []) at h = cc h
end_is_word (a ∷ b ∷ []) at h = cc h
end_is_word (a ∷ b ∷ c ∷ d ∷ ds) at h = cc h
end_is_word (a ∷ b ∷ c ∷ []) at h = go (byte_value (a ∷ b ∷ [])) refl (side_value c) refl h
  where
    go : (x : Option ℕ) → byte_value (a ∷ b ∷ []) ≡ x → (y : Option Bool) → side_value c ≡ y
        → option_and_then (λ link. option_map (λ at_host. let e : End = record { link = link; at_host = at_host } in e) y) x ≡ Some at
        → IsWord (a ∷ b ∷ c ∷ [])
    go None e y f h = cc h
    go (Some x) e None f h = cc h
    go (Some x) e (Some y) f h =
        let digits = byte_letters a b x e in
        (omega arith, rw (digits.0, digits.1, side_is_letter c y f) refl)

-- so is a message
pub message_is_word : (word bytes : List ℕ) → bytes_value word ≡ Some bytes → 1 ≤ length bytes → IsWord word
message_is_word word bytes h some =
    let read = decode_of-ok word bytes (ok_of (decode_of word) bytes h) in
    (omega (arith, read.2, some), list_all-from_AllPass is_letter word (λ k d within. digit_is_letter _ (read.1 k d within)))

-- a space and the word of an end
pub end_alone : (rest : List ℕ) (at : End) → 1 ≤ length rest → get_or rest 0 0 ≡ 32 → end_value (take (length rest - 1) (drop 1 rest)) ≡ Some at
    → words rest ≡ take (length rest - 1) (drop 1 rest) ∷ []
end_alone (a ∷ word) at some space is =
    let all : take (length (a ∷ word) - 1) word ≡ word = take_all _ word (omega arith) in
    ap (λ x. words (x ∷ word)) space ∙ words-spaced (word ∷ []) (end_is_word word at (ap end_value (sym all) ∙ is), tt) ∙ ap (λ w. w ∷ []) (sym all)
end_alone [] at some space is = absurd (omega (arith, some))

-- a byte is one word
pub byte_is_word : (word : List ℕ) (n : ℕ) → byte_value word ≡ Some n → IsWord word
byte_is_word (a ∷ b ∷ []) n h = let digits = byte_letters a b n h in (omega arith, rw (digits.0, digits.1) refl)
byte_is_word word n h = cc (sym (byte_of_others word (λ e. omega arith)) ∙ h)

-- three words, a space before each
send_begins : (rest : List ℕ) → 8 ≤ length rest → get_or rest 0 0 ≡ 32 → get_or rest 4 0 ≡ 32 → get_or rest 7 0 ≡ 32
    → rest ≡ 32 ∷ spaced ((get_or rest 1 0 ∷ get_or rest 2 0 ∷ get_or rest 3 0 ∷ []) ∷ (get_or rest 5 0 ∷ get_or rest 6 0 ∷ [])
    ∷ take (length rest - 8) (drop 8 rest) ∷ [])
send_begins (a ∷ b ∷ c ∷ d ∷ e ∷ f ∷ g ∷ h ∷ digits) long one two three =
    let all : take (length (a ∷ b ∷ c ∷ d ∷ e ∷ f ∷ g ∷ h ∷ digits) - 8) digits ≡ digits = take_all _ digits (omega arith) in cc
send_begins rest long one two three = absurd (omega (arith, long))

pub send_words : (rest : List ℕ) (at : End) (pid : ℕ) (bytes : List ℕ) → 8 ≤ length rest → get_or rest 0 0 ≡ 32 → get_or rest 4 0 ≡ 32
    → get_or rest 7 0 ≡ 32 → end_value (get_or rest 1 0 ∷ get_or rest 2 0 ∷ get_or rest 3 0 ∷ []) ≡ Some at
    → byte_value (get_or rest 5 0 ∷ get_or rest 6 0 ∷ []) ≡ Some pid → bytes_value (take (length rest - 8) (drop 8 rest)) ≡ Some bytes → 1 ≤ length bytes
    → words rest ≡ (get_or rest 1 0 ∷ get_or rest 2 0 ∷ get_or rest 3 0 ∷ []) ∷ (get_or rest 5 0 ∷ get_or rest 6 0 ∷ [])
    ∷ take (length rest - 8) (drop 8 rest) ∷ []
send_words rest at pid bytes long one two three is_end is_byte is_message some =
    ap words (send_begins rest long one two three)
    ∙ words-spaced ((get_or rest 1 0 ∷ get_or rest 2 0 ∷ get_or rest 3 0 ∷ []) ∷ (get_or rest 5 0 ∷ get_or rest 6 0 ∷ [])
    ∷ take (length rest - 8) (drop 8 rest) ∷ []) (
      end_is_word (get_or rest 1 0 ∷ get_or rest 2 0 ∷ get_or rest 3 0 ∷ []) at is_end,
      (byte_is_word (get_or rest 5 0 ∷ get_or rest 6 0 ∷ []) pid is_byte, (message_is_word (take (length rest - 8) (drop 8 rest)) bytes is_message some, tt)),
    )
