-- The content that is written is judged right.
use Rattle.std.proofs.Common.{◌≡◌, ℕ, ◌+◌, ◌-◌, ◌*◌, ◌/◌, ◌%◌, ◌^◌, ◌<◌, List, [], ◌∷◌, ◌++◌, not, map, length, take, get_or, refl, sym, ap, ◌∙◌, subst, arith}
use Rattle.std.proofs.Common.{append-nil, length-append}
use Rattle.std.proofs.lemmas.List.{length-map}
use Rattle.swp_base.specs.Bits.{bits_of}
use Rattle.swp_base.specs.DataUnits.{IsLpdu}
use Rattle.swp_crc.specs.Crc.{remainder_of, crc_of}
use Rattle.swp_crc.proofs.Numbers.{number_of-lt}
use Rattle.swp_crc.proofs.Steps.{length-remainder}
use Rattle.swp_frame.specs.declared.fed.Fed.TheVariants.{Frame}
use Rattle.swp_frame.specs.Stuffing.{with_crc}
use Rattle.swp_frame.specs.Content.{judged, judged_bytes, bytes_of_bits}
use Rattle.swp_frame.specs.Kept.{AreBytes}
use Rattle.swp_frame.proofs.ContentLemmas.{bytes_in_front, judged_whole, crc_is_right}
use Rattle.swp_frame.proofs.WritingLemmas.{take_all}
use Rattle.swp_base.proofs.TailLemmas.{in_front_of_two, first_of_two, second_of_two}
use Rattle.swp_base.proofs.BitLemmas.{length-bits_of}

crc_small : (lpdu : List ℕ) → crc_of lpdu < 65536
crc_small lpdu =
    subst (λ n. crc_of lpdu < 2 ^ n) (length-map (remainder_of lpdu) not ∙ length-remainder lpdu) (number_of-lt (map not (remainder_of lpdu)))

bytes_with : (lpdu : List ℕ) (high low : ℕ) → AreBytes lpdu → high < 256 → low < 256 → AreBytes (lpdu ++ high ∷ low ∷ [])
bytes_with [] high low h a b = (a, (b, tt))
bytes_with (x ∷ lpdu) high low h a b = (h.0, bytes_with lpdu high low h.1 a b)

-- the bytes of an LPDU with its CRC are judged to be this LPDU
right_bytes : (lpdu : List ℕ) (crc : ℕ) → crc ≡ crc_of lpdu → judged_bytes (lpdu ++ crc / 256 ∷ crc % 256 ∷ []) ≡ Frame lpdu
right_bytes lpdu crc is = sym (crc_is_right (lpdu ++ crc / 256 ∷ crc % 256 ∷ []) crc crc (is ∙ ap crc_of (sym body)) value refl) ∙ ap Frame body
  where
    long : length (lpdu ++ crc / 256 ∷ crc % 256 ∷ []) ≡ length lpdu + 2
    long = length-append lpdu (crc / 256 ∷ crc % 256 ∷ [])

    body : take (length (lpdu ++ crc / 256 ∷ crc % 256 ∷ []) - 2) (lpdu ++ crc / 256 ∷ crc % 256 ∷ []) ≡ lpdu
    body = ap (λ n. take n (lpdu ++ crc / 256 ∷ crc % 256 ∷ [])) (omega (arith, long)) ∙ in_front_of_two lpdu (crc / 256) (crc % 256)

    first : get_or (lpdu ++ crc / 256 ∷ crc % 256 ∷ []) (length (lpdu ++ crc / 256 ∷ crc % 256 ∷ []) - 2) 0 ≡ crc / 256
    first = ap (λ n. get_or (lpdu ++ crc / 256 ∷ crc % 256 ∷ []) n 0) (omega (arith, long)) ∙ first_of_two lpdu (crc / 256) (crc % 256)

    second : get_or (lpdu ++ crc / 256 ∷ crc % 256 ∷ []) (length (lpdu ++ crc / 256 ∷ crc % 256 ∷ []) - 1) 0 ≡ crc % 256
    second = ap (λ n. get_or (lpdu ++ crc / 256 ∷ crc % 256 ∷ []) n 0) (omega (arith, long)) ∙ second_of_two lpdu (crc / 256) (crc % 256)

    value : crc ≡ 256 * get_or (lpdu ++ crc / 256 ∷ crc % 256 ∷ []) (length (lpdu ++ crc / 256 ∷ crc % 256 ∷ []) - 2) 0
        + get_or (lpdu ++ crc / 256 ∷ crc % 256 ∷ []) (length (lpdu ++ crc / 256 ∷ crc % 256 ∷ []) - 1) 0
    value = omega (arith, first, second)

pub right_content : (lpdu : List ℕ) → IsLpdu lpdu → AreBytes lpdu → judged (bits_of (with_crc lpdu)) ≡ Frame lpdu
right_content lpdu sized bytes =
    judged_whole (bits_of (with_crc lpdu)) (omega (arith, long, sized.0)) (omega (arith, long, sized.1)) (omega (arith, long))
    ∙ ap judged_bytes spelled
    ∙ right_bytes lpdu (crc_of lpdu) refl
  where
    long : length (bits_of (with_crc lpdu)) ≡ 8 * (length lpdu + 2)
    long = length-bits_of (with_crc lpdu) ∙ ap (λ n. 8 * n) (length-append lpdu (crc_of lpdu / 256 ∷ crc_of lpdu % 256 ∷ []))

    high_small : crc_of lpdu / 256 < 256
    high_small = omega (arith, crc_small lpdu)

    in_range : AreBytes (with_crc lpdu)
    in_range = bytes_with lpdu (crc_of lpdu / 256) (crc_of lpdu % 256) bytes high_small (omega arith)

    spelled : bytes_of_bits (bits_of (with_crc lpdu)) ≡ with_crc lpdu
    spelled =
        bytes_in_front (with_crc lpdu) (bits_of (with_crc lpdu)) [] (length (with_crc lpdu)) in_range (sym (append-nil (bits_of (with_crc lpdu))))
        (length-bits_of (with_crc lpdu)) (omega arith)
        ∙ take_all (with_crc lpdu) (length (with_crc lpdu)) (omega arith)
