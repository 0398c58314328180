-- A packet of a message at its place.
use Rattle.std.proofs.Common.{◌≡◌, ℕ, ◌-◌, ◌*◌, ◌/◌, ◌%◌, ◌<◌, min, leb, List, ◌++◌, length, take, drop, ap, ◌∙◌, arith, length-take, length-drop}
use Rattle.std.specs.Prelude.{Some, slice_get}
use Rattle.std.proofs.lemmas.List.{take_at, take_min}
use Rattle.arrayvec.specs.ArrayVec.{ArrayVec}
use Rattle.hcp_packet.specs.Packets.{packet, packet_at, packets_of}
use Rattle.hcp_packet.proofs.Joining.{packets_stand_in_place}

-- the data that was copied out
pub data_is : (bytes rest : List ℕ) (from count : ℕ) → count ≡ min (length bytes - from) 28
    → take count (take count (drop from bytes) ++ rest) ≡ take 28 (drop from bytes)
data_is bytes rest from count count_is =
    let left = length-drop from bytes in
    take_at (take count (drop from bytes)) rest count (omega (arith, length-take count (drop from bytes), left, count_is))
    ∙ (let e : count ≡ min 28 (length (drop from bytes)) = omega (arith, count_is, left) in ap (λ n. take n (drop from bytes)) e)
    ∙ take_min 28 (drop from bytes)

pub packet_is : (bytes : List ℕ) (pipe from len : ℕ) (cut : ArrayVec ℕ) → from < length bytes → len ≡ length bytes
    → cut.items ≡ take 28 (drop from bytes) → packet (leb (len - from) 28) pipe cut.items ≡ packet_at pipe bytes from
packet_is bytes pipe from len cut low len_is cut_is = grind arith

pub packet_stands : (bytes : List ℕ) (pipe from : ℕ) → from % 28 ≡ 0 → from < length bytes
    → slice_get (packets_of pipe bytes) (from / 28) ≡ Some (packet_at pipe bytes from)
packet_stands bytes pipe from whole low =
    let place : 28 * (from / 28) ≡ from = omega arith in
    packets_stand_in_place pipe bytes (from / 28) (omega arith) ∙ ap (λ n. Some (packet_at pipe bytes n)) place
