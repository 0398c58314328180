use Rattle.std.proofs.lemmas.List.{get_or-drop, take_all, take_rest}
use Rattle.swp_decode.proofs.Names.{List, [], ap, ap₂, arith, drop, get_or, hex_of, length, length-append, length-drop, sym, take, take-add, take_more, ℕ, ◌++◌}
use Rattle.swp_decode.proofs.Names.{◌+◌, ◌-◌, ◌<◌, ◌∙◌, ◌∷◌, ◌≡◌, ◌≤◌}
use Rattle.swp_decode.proofs.Numerals.{hex_more, room_of, length-hex_of}
use Rattle.swp_decode.proofs.words.push_hex.Goals as goal

pub push_hex_of_four-requires : goal.push_hex_of_four-requires
push_hex_of_four-requires c =
    let bytes = c.args.bytes.now in
    let at = c.fours.read in
    let left : at + 4 ≤ length bytes =
    omega (arith, c.in-Some.ensures.cases.2, ap length (take_rest bytes at), length-drop at bytes, c.fours.invariant.within) in
    room_of c.args.text.now.items bytes c.fours.text.items at 4 c.fours.invariant.so_far left c.requires

pub fours-preserved : goal.fours-preserved
fours-preserved c =
    let bytes = c.args.bytes.now in
    let at = c.fours.read in
    let text = c.args.text.now.items in
    let four = c.in-Some.ensures.cases.0 ∙ ap (take 4) (take_rest bytes at) in
    record {
      within = omega (arith, c.in-Some.ensures.cases.2, ap length (take_rest bytes at), length-drop at bytes, c.fours.invariant.within);
      so_far = c.push_hex_of_four.ensures
          ∙ ap (λ xs. xs ++ hex_of c.in-Some.four.now) c.fours.invariant.so_far
          ∙ hex_more text (take at bytes) c.in-Some.four.now
          ∙ ap (λ xs. text ++ hex_of xs) (ap (λ xs. take at bytes ++ xs) four ∙ sym (take-add at 4 bytes));
    }

pub loop-byte-init : goal.loop-byte-init
loop-byte-init c = c.fours.invariant.so_far ∙ ap (λ k. c.args.text.now.items ++ hex_of (take k c.args.bytes.now)) (omega arith)

-- a place of what is left is one of the bytes
inside : (bytes : List ℕ) (at i : ℕ) → i < length (take (length bytes - at) (drop at bytes)) → at + i < length bytes
inside bytes at i h = omega (arith, h, ap length (take_rest bytes at), length-drop at bytes)

pub push_text-requires : goal.push_text-requires
push_text-requires c =
    let bytes = c.args.bytes.now in
    let at = c.fours.read in
    let i = c.loop-byte.byte-index in
    let left : at + i + 1 ≤ length bytes = omega (arith, inside bytes at i c.loop-byte-test.true) in
    omega (arith, ap length c.digits_of.ensures, room_of c.args.text.now.items bytes c.loop-byte.text.items (at + i) 1 c.loop-byte.invariant left c.requires)

pub loop-byte-preserved : goal.loop-byte-preserved
loop-byte-preserved c =
    let bytes = c.args.bytes.now in
    let text = c.args.text.now.items in
    let at = c.fours.read in
    let i = c.loop-byte.byte-index in
    let there = ap (λ xs. get_or xs i 0) (take_rest bytes at) ∙ get_or-drop at bytes i 0 in
    c.push_text.ensures.items
    ∙ ap₂ (λ xs digits. xs ++ digits) c.loop-byte.invariant (c.digits_of.ensures ∙ ap (λ byte. hex_of (byte ∷ [])) there)
    ∙ hex_more text (take (at + i) bytes) (get_or bytes (at + i) 0 ∷ [])
    ∙ ap (λ xs. text ++ hex_of xs) (sym (take_more bytes (at + i) 0 (inside bytes at i c.loop-byte-test.true)) ∙ ap (λ k. take k bytes) (omega arith))

-- behind the last place nothing is left
all_read : (bytes : List ℕ) (at i : ℕ) → length (take (length bytes - at) (drop at bytes)) ≤ i → take (at + i) bytes ≡ bytes
all_read bytes at i h = take_all (at + i) bytes (omega (arith, h, ap length (take_rest bytes at), length-drop at bytes))

pub returns-clause-items : goal.returns-clause-items
returns-clause-items c =
    c.loop-byte.invariant
    ∙ ap (λ xs. c.args.text.now.items ++ hex_of xs) (all_read c.args.bytes.now c.fours.read c.loop-byte.byte-index c.loop-byte-test.false)

pub returns-clause-sized : goal.returns-clause-sized
returns-clause-sized c =
    let whole =
    c.loop-byte.invariant
    ∙ ap (λ xs. c.args.text.now.items ++ hex_of xs) (all_read c.args.bytes.now c.fours.read c.loop-byte.byte-index c.loop-byte-test.false) in
    omega (arith, ap length whole, length-append c.args.text.now.items (hex_of c.args.bytes.now), length-hex_of c.args.bytes.now)
