-- The content of a frame, its bits without those put in.
use Rattle.std.specs.Prelude.{ℕ, zero, suc, ◌+◌, ◌-◌, ◌*◌, ◌/◌, ◌%◌, ◌==◌, nat_lt, ◌||◌, min, Bool, List, [], ◌∷◌, length, take, drop, slice_index}
use Rattle.std.specs.Prelude.{if◌then◌else◌}
use Rattle.swp_base.specs.declared.link_terms.FrameFault.TheVariants.{Length, Alignment, Crc}
use Rattle.swp_crc.specs.Division.{spelled_number}
use Rattle.swp_crc.specs.Crc.{crc_of}
use Rattle.swp_frame.specs.declared.fed.Fed.{Fed}
use Rattle.swp_frame.specs.declared.fed.Fed.TheVariants.{Frame, Refused}

-- so many bytes, of eight bits each
abbrev pub bytes_from : ℕ → List Bool → List ℕ
bytes_from zero bits = []
bytes_from (suc n) bits = spelled_number (take 8 bits) ∷ bytes_from n (drop 8 bits)

-- the bytes of these bits
abbrev pub bytes_of_bits : List Bool → List ℕ
bytes_of_bits bits = bytes_from (length bits / 8) bits

-- the verdict on bytes whose last two are to be the CRC of those before them, the high one first
abbrev pub judged_bytes : List ℕ → Fed
judged_bytes bytes =
    let body = take (length bytes - 2) bytes in
    let want = crc_of body in
    let got = 256 * slice_index bytes (length bytes - 2) + slice_index bytes (length bytes - 1) in
    if want == got then Frame body else Refused (Crc want got)

-- the verdict on the bits of a content: the first fault of length, alignment and CRC, or its bytes without the CRC
abbrev pub judged : List Bool → Fed
judged bits =
    if nat_lt (length bits) 24 || nat_lt 256 (length bits) then Refused (Length (min 65535 (length bits)))
    else if length bits % 8 == 0 then judged_bytes (bytes_of_bits bits)
    else Refused (Alignment (length bits))
