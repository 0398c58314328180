-- A byte among whose bits nothing is put in.
use Rattle.std.proofs.lemmas.List.{map-append}
use Rattle.std.proofs.lemmas.Bool.{agree_below, agree_below_at}
use Rattle.std.proofs.lemmas.Nat.Bits.{shr_and_one}
use Rattle.swp_frame.proofs.Words.{Bool, List, None, Option, Some, WritesOn, [], ap, append-nil, append_assoc, ap₂, arith, bit, bit_and, bit_at, bits_of}
use Rattle.swp_frame.proofs.Words.{byte_of_bit, cond, crc_of, end_of_frame, eqb, false, get_or, length, length-append, length-bits_of, length-bits_of_byte}
use Rattle.swp_frame.proofs.Words.{length-map, map, not, refl, start_of_frame, stuffed, subst, suc, sym, take, take_more, trailing_ones, true, w32, zero, ℕ}
use Rattle.swp_frame.proofs.Words.{◌%◌, ◌&&◌, ◌*◌, ◌++◌, ◌+◌, ◌-◌, ◌/◌, ◌<◌, ◌^◌, ◌∙◌, ◌∷◌, ◌≡◌, ◌≢◌, ◌≤◌}
use lib.Count.{count_trailing_zeros}
use Rattle.swp_base.specs.Bits.{bits_of_byte}
use Rattle.swp_frame.specs.Stuffing.{run_below_five, stuffed_after, with_crc}
use Rattle.swp_frame.specs.declared.frame_bits.BitBytes.{BitBytes}
use lib.Bits.{bit_and}
use Rattle.swp_crc.proofs.Steps.{bits_of-push}

-- they are spelled as they are
pub plain_behind : (ones : ℕ) (bits more : List Bool) (run : ℕ) → run_below_five ones bits ≡ Some run
    → stuffed_after ones (bits ++ more) ≡ bits ++ stuffed_after run more
plain_behind ones [] more run is = ap (λ n. stuffed_after n more) (cc is)
plain_behind ones (false ∷ bits) more run is = ap (λ xs. false ∷ xs) (plain_behind 0 bits more run is)
plain_behind ones (true ∷ bits) more run is = by_count (eqb ones 4) (plain_behind (ones + 1) bits more run) is
  where
    by_count : (fifth : Bool) → (run_below_five (ones + 1) bits ≡ Some run → stuffed_after (ones + 1) (bits ++ more) ≡ bits ++ stuffed_after run more)
        → cond fifth None (run_below_five (ones + 1) bits) ≡ Some run
        → cond fifth (true ∷ false ∷ stuffed_after 0 (bits ++ more)) (true ∷ stuffed_after (ones + 1) (bits ++ more)) ≡ true ∷ (bits ++ stuffed_after run more)
    by_count fifth next none = grind arith

-- and the run at their end is below five
pub few_behind : (ones : ℕ) (bits : List Bool) (run : ℕ) → ones ≤ 4 → run_below_five ones bits ≡ Some run → run ≤ 4
few_behind ones [] run h is = let same : ones ≡ run = cc is in omega (arith, same, h)
few_behind ones (false ∷ bits) run h is = few_behind 0 bits run (omega arith) is
few_behind ones (true ∷ bits) run h is = by_count (eqb ones 4) refl (few_behind (ones + 1) bits run) is
  where
    by_count : (fifth : Bool) → eqb ones 4 ≡ fifth → (ones + 1 ≤ 4 → run_below_five (ones + 1) bits ≡ Some run → run ≤ 4)
        → cond fifth None (run_below_five (ones + 1) bits) ≡ Some run → run ≤ 4
    by_count fifth e next none = grind arith

-- so many 1 bits before a byte, and the byte
abbrev pub lined : ℕ → ℕ → ℕ
lined ones byte = (2 ^ ones - 1) * 256 + byte

-- the last of each five 1 bits in a row
abbrev pub fifths : ℕ → ℕ
fifths all =
    let two = bit_and all (all / 2) in
    let four = bit_and two (two / 4) in
    bit_and four (all / 16)

abbrev agrees : Option ℕ → ℕ → ℕ → Bool
agrees None five run = not (eqb five 0)
agrees (Some end) five run = eqb five 0 && eqb end run

abbrev is_right : ℕ → ℕ → Bool
is_right ones byte = agrees (run_below_five ones (bits_of_byte byte)) (fifths (lined ones byte)) (trailing_ones w32 (lined ones byte))

right_behind_0 : agree_below (is_right 0) (λ b. true) 256 ≡ true
unfolding bits_of_byte count_trailing_zeros
right_behind_0 = refl

right_behind_1 : agree_below (is_right 1) (λ b. true) 256 ≡ true
unfolding bits_of_byte count_trailing_zeros
right_behind_1 = refl

right_behind_2 : agree_below (is_right 2) (λ b. true) 256 ≡ true
unfolding bits_of_byte count_trailing_zeros
right_behind_2 = refl

right_behind_3 : agree_below (is_right 3) (λ b. true) 256 ≡ true
unfolding bits_of_byte count_trailing_zeros
right_behind_3 = refl

right_behind_4 : agree_below (is_right 4) (λ b. true) 256 ≡ true
unfolding bits_of_byte count_trailing_zeros
right_behind_4 = refl

right_behind : (ones byte : ℕ) → ones ≤ 4 → byte < 256 → is_right ones byte ≡ true
right_behind zero byte few small = agree_below_at (is_right 0) (λ b. true) 256 byte right_behind_0 small
right_behind (suc zero) byte few small = agree_below_at (is_right 1) (λ b. true) 256 byte right_behind_1 small
right_behind (suc (suc zero)) byte few small = agree_below_at (is_right 2) (λ b. true) 256 byte right_behind_2 small
right_behind (suc (suc (suc zero))) byte few small = agree_below_at (is_right 3) (λ b. true) 256 byte right_behind_3 small
right_behind (suc (suc (suc (suc zero)))) byte few small = agree_below_at (is_right 4) (λ b. true) 256 byte right_behind_4 small
right_behind (suc (suc (suc (suc (suc ones))))) byte few small = absurd (omega arith)

agreed : (end : Option ℕ) (five run : ℕ) → agrees end five run ≡ true → (five ≡ 0 → Some run ≡ end) × (five ≢ 0 → None ≡ end)
agreed end five run is = grind arith

-- the test of all five at once
pub run_is : (ones byte : ℕ) → ones ≤ 4 → byte < 256
    → (fifths (lined ones byte) ≡ 0 → Some (trailing_ones w32 (lined ones byte)) ≡ run_below_five ones (bits_of_byte byte))
    × (fifths (lined ones byte) ≢ 0 → None ≡ run_below_five ones (bits_of_byte byte))
run_is ones byte few small =
    agreed (run_below_five ones (bits_of_byte byte)) (fifths (lined ones byte)) (trailing_ones w32 (lined ones byte)) (right_behind ones byte few small)

-- they are lined up in 32 bits
pub lined_is : (ones byte : ℕ) → ones ≤ 4 → (1 * 2 ^ ones % 4294967296 - 1) * 256 % 4294967296 + byte ≡ lined ones byte
lined_is zero byte few = refl
lined_is (suc zero) byte few = refl
lined_is (suc (suc zero)) byte few = refl
lined_is (suc (suc (suc zero))) byte few = refl
lined_is (suc (suc (suc (suc zero)))) byte few = refl
lined_is (suc (suc (suc (suc (suc ones))))) byte few = absurd (omega arith)

-- a byte is written as it is
pub plain_written : (b : BitBytes) (ones run : ℕ) (bits : List Bool) (old new : List ℕ) → ones ≤ 4 → 4 ≤ length bits
    → Some run ≡ run_below_five ones bits → new ≡ old ++ map (byte_of_bit b) bits → WritesOn b ones bits run old new
plain_written b ones run bits old new few some is items = record {
  spelled = λ more.
      ap (λ xs. old ++ map (byte_of_bit b) xs) (plain_behind ones bits more run (sym is))
      ∙ ap (λ xs. old ++ xs) (map-append (byte_of_bit b) bits (stuffed_after run more))
      ∙ sym (append_assoc old (map (byte_of_bit b) bits) (map (byte_of_bit b) (stuffed_after run more)))
      ∙ ap (λ xs. xs ++ map (byte_of_bit b) (stuffed_after run more)) (sym items);
  few = few_behind ones bits run few (sym is);
  sized = omega (
    arith,
    ap length items,
    length-append old (map (byte_of_bit b) bits),
    length-map bits (byte_of_bit b),
    few_behind ones bits run few (sym is),
    some,
  );
}

bit_is : (b : BitBytes) (byte i r : ℕ) → r ≡ byte_of_bit b (eqb (bit_and (byte / 2 ^ i) 1) 1) → r ≡ byte_of_bit b (bit byte i)
bit_is b byte i r is = is ∙ ap (λ n. byte_of_bit b (eqb n 1)) (shr_and_one byte i)

last_bit_is : (b : BitBytes) (byte r : ℕ) → r ≡ byte_of_bit b (eqb (bit_and byte 1) 1) → r ≡ byte_of_bit b (bit byte 0)
last_bit_is b byte r is = bit_is b byte 0 r (is ∙ ap (λ n. byte_of_bit b (eqb (bit_and n 1) 1)) (omega arith))

-- the bytes that stand for the bits of a byte
pub eight_bits : (b : BitBytes) (byte r7 r6 r5 r4 r3 r2 r1 r0 : ℕ) → r7 ≡ byte_of_bit b (eqb (bit_and (byte / 128) 1) 1)
    → r6 ≡ byte_of_bit b (eqb (bit_and (byte / 64) 1) 1) → r5 ≡ byte_of_bit b (eqb (bit_and (byte / 32) 1) 1)
    → r4 ≡ byte_of_bit b (eqb (bit_and (byte / 16) 1) 1) → r3 ≡ byte_of_bit b (eqb (bit_and (byte / 8) 1) 1)
    → r2 ≡ byte_of_bit b (eqb (bit_and (byte / 4) 1) 1) → r1 ≡ byte_of_bit b (eqb (bit_and (byte / 2) 1) 1)
    → r0 ≡ byte_of_bit b (eqb (bit_and byte 1) 1)
    → (r7 ∷ r6 ∷ r5 ∷ r4 ∷ r3 ∷ r2 ∷ r1 ∷ r0 ∷ []) ≡ map (byte_of_bit b) (bits_of_byte byte)
unfolding bits_of_byte
eight_bits b byte r7 r6 r5 r4 r3 r2 r1 r0 e7 e6 e5 e4 e3 e2 e1 e0 =
    let cons : (x y : ℕ) (xs ys : List ℕ) → x ≡ y → xs ≡ ys → (x ∷ xs) ≡ (y ∷ ys) = λ x y xs ys e es. ap₂ (λ z zs. z ∷ zs) e es in
    cons _ _ _ _ (bit_is b byte 7 r7 e7)
    (cons _ _ _ _ (bit_is b byte 6 r6 e6)
    (cons _ _ _ _ (bit_is b byte 5 r5 e5)
    (cons _ _ _ _ (bit_is b byte 4 r4 e4)
    (cons _ _ _ _ (bit_is b byte 3 r3 e3)
    (cons _ _ _ _ (bit_is b byte 2 r2 e2) (cons _ _ _ _ (bit_is b byte 1 r1 e1) (cons _ _ _ _ (last_bit_is b byte r0 e0) refl)))))))

-- ---- a frame is written, bits behind bits

bit_at_place : (b place : ℕ) → place < 8 → get_or (bits_of_byte b) place false ≡ eqb (bit_at b (7 - place)) 1
unfolding bits_of_byte
bit_at_place b zero h = refl
bit_at_place b (suc zero) h = refl
bit_at_place b (suc (suc zero)) h = refl
bit_at_place b (suc (suc (suc zero))) h = refl
bit_at_place b (suc (suc (suc (suc zero)))) h = refl
bit_at_place b (suc (suc (suc (suc (suc zero))))) h = refl
bit_at_place b (suc (suc (suc (suc (suc (suc zero)))))) h = refl
bit_at_place b (suc (suc (suc (suc (suc (suc (suc zero))))))) h = refl
bit_at_place b (suc (suc (suc (suc (suc (suc (suc (suc place)))))))) h = absurd (omega arith)

-- the bits of a byte up to one place, and the one there
pub next_bit : (content : List Bool) (b place : ℕ) → place < 8
    → (content ++ take place (bits_of_byte b)) ++ eqb (bit_and (b / 2 ^ (7 - place)) 1) 1 ∷ [] ≡ content ++ take (place + 1) (bits_of_byte b)
next_bit content b place h =
    append_assoc content (take place (bits_of_byte b)) (eqb (bit_and (b / 2 ^ (7 - place)) 1) 1 ∷ [])
    ∙ ap (λ xs. content ++ xs)
    (ap (λ bit. take place (bits_of_byte b) ++ bit ∷ []) (ap (λ n. eqb n 1) (shr_and_one b (7 - place)) ∙ sym (bit_at_place b place h))
    ∙ sym (take_more (bits_of_byte b) place false (rw (length-bits_of_byte b) h)))

pub take_all : {A : Type 0} (xs : List A) (n : ℕ) → length xs ≤ n → take n xs ≡ xs
take_all [] zero e = refl
take_all [] (suc n) e = refl
take_all (x ∷ xs) zero e = absurd (omega arith)
take_all (x ∷ xs) (suc n) e = ap (λ ys. x ∷ ys) (take_all xs n (omega arith))

pub all_bits : (b place : ℕ) → 8 ≤ place → take place (bits_of_byte b) ≡ bits_of_byte b
all_bits b place h = take_all (bits_of_byte b) place (rw (length-bits_of_byte b) h)

pub writes_nothing : (b : BitBytes) (ones : ℕ) (old : List ℕ) → ones ≤ 4 → WritesOn b ones [] ones old old
writes_nothing b ones old few = grind arith

pub writes_both : (b : BitBytes) (ones run last : ℕ) (first second : List Bool) (old middle new : List ℕ) → WritesOn b ones first run old middle
    → WritesOn b run second last middle new → WritesOn b ones (first ++ second) last old new
writes_both b ones run last first second old middle new w v = record {
  spelled = λ more.
      ap (λ xs. old ++ map (byte_of_bit b) (stuffed_after ones xs)) (append_assoc first second more)
      ∙ w.spelled (second ++ more)
      ∙ v.spelled more;
  few = v.few;
  sized = omega (arith, w.sized, v.sized, length-append first second);
}

-- one more byte of a content
pub writes_byte : (b : BitBytes) (bytes : List ℕ) (byte run last : ℕ) (old middle new : List ℕ) → WritesOn b 0 (bits_of bytes) run old middle
    → WritesOn b run (bits_of_byte byte) last middle new → WritesOn b 0 (bits_of (bytes ++ byte ∷ [])) last old new
writes_byte b bytes byte run last old middle new w v =
    subst (λ xs. WritesOn b 0 xs last old new) (sym (bits_of-push bytes byte)) (writes_both b 0 run last (bits_of bytes) (bits_of_byte byte) old middle new w v)

pub start_length : (b : BitBytes) (old first : List ℕ) → first ≡ old ++ map (byte_of_bit b) start_of_frame → length first ≡ length old + 8
start_length b old first e = omega (arith, ap length e, length-append old (map (byte_of_bit b) start_of_frame))

-- there is room for the bits of one more byte, and for the end of a frame
pub room : (b : BitBytes) (bytes : List ℕ) (run most : ℕ) (old first new : List ℕ) → length first ≡ length old + 8
    → WritesOn b 0 (bits_of bytes) run first new → length bytes ≤ 31 → length old + 323 ≤ most → length new + 16 ≤ most
room b bytes run most old first new start w few fits = omega (arith, w.sized, length-bits_of bytes, start, few, fits)

pub room_for_end : (b : BitBytes) (bytes : List ℕ) (run : ℕ) (old first new : List ℕ) → length first ≡ length old + 8
    → WritesOn b 0 (bits_of bytes) run first new → length bytes ≤ 32 → length new + 8 ≤ length old + 323
room_for_end b bytes run old first new start w few = omega (arith, w.sized, length-bits_of bytes, start, few)

-- a whole frame
pub frame_is_written : (b : BitBytes) (run : ℕ) (content : List Bool) (old first last new : List ℕ) → first ≡ old ++ map (byte_of_bit b) start_of_frame
    → WritesOn b 0 content run first last → new ≡ last ++ map (byte_of_bit b) end_of_frame
    → new ≡ old ++ map (byte_of_bit b) (start_of_frame ++ stuffed content ++ end_of_frame)
frame_is_written b run content old first last new start w end =
    let f = byte_of_bit b in
    let spelled : last ≡ first ++ map f (stuffed content) =
    sym (append-nil last) ∙ sym (w.spelled []) ∙ ap (λ xs. first ++ map f (stuffed xs)) (append-nil content) in
    end
    ∙ ap (λ xs. xs ++ map f end_of_frame) (spelled ∙ ap (λ xs. xs ++ map f (stuffed content)) start)
    ∙ append_assoc (old ++ map f start_of_frame) (map f (stuffed content)) (map f end_of_frame)
    ∙ append_assoc old (map f start_of_frame) (map f (stuffed content) ++ map f end_of_frame)
    ∙ ap (λ xs. old ++ (map f start_of_frame ++ xs)) (sym (map-append f (stuffed content) end_of_frame))
    ∙ ap (λ xs. old ++ xs) (sym (map-append f start_of_frame (stuffed content ++ end_of_frame)))

-- bits that were written as 0 and 1 are read again
pub bits_again : (bits : List Bool) → map (λ byte. eqb byte 1) (map (byte_of_bit (record { zero = 0; one = 1 })) bits) ≡ bits
bits_again [] = refl
bits_again (true ∷ bits) = ap (λ xs. true ∷ xs) (bits_again bits)
bits_again (false ∷ bits) = ap (λ xs. false ∷ xs) (bits_again bits)

-- the bytes of an LPDU and the two of its CRC
pub with_crc-pushed : (lpdu : List ℕ) (crc high low : ℕ) → crc ≡ crc_of lpdu → crc < 65536 → high ≡ crc / 256 % 256 → low ≡ crc % 256
    → (lpdu ++ high ∷ []) ++ low ∷ [] ≡ with_crc lpdu
with_crc-pushed lpdu crc high low is small h l =
    append_assoc lpdu (high ∷ []) (low ∷ [])
    ∙ ap (λ n. lpdu ++ n ∷ low ∷ []) (h ∙ whole)
    ∙ ap (λ n. lpdu ++ crc / 256 ∷ n ∷ []) l
    ∙ ap (λ n. lpdu ++ n / 256 ∷ n % 256 ∷ []) is
  where
    whole : crc / 256 % 256 ≡ crc / 256
    whole = omega arith
