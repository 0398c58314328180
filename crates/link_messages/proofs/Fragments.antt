-- A fragment of a message, copied out of its chain.
use Rattle.std.proofs.Common.{◌≡◌, ℕ, ◌+◌, ◌-◌, ◌*◌, ◌<◌, min, leb, List, ◌∷◌, ◌++◌, length, map, take, drop, ap, ◌∙◌, arith}
use Rattle.std.specs.Prelude.{if◌then◌else◌, Some, slice_get, option_map}
use Rattle.std.proofs.lemmas.Option.{slice_get-map}
use Rattle.hcp_packet.specs.Packets.{packets_of, packet_at, packet_bytes}
use Rattle.hcp_chain.proofs.CutLemmas.{data_is, packet_stands}

-- the bytes of the packet at a place: its first byte, and what was copied out behind it
pub fragment_is : (bytes out rest : List ℕ) (pipe from len first count : ℕ) → from < length bytes → len ≡ length bytes
    → count ≡ min (length bytes - from) 28 → first ≡ (if leb (len - from) 28 then 128 else 0) + pipe → out ≡ take count (drop from bytes) ++ rest
    → first ∷ take count out ≡ packet_bytes (packet_at pipe bytes from)
fragment_is bytes out rest pipe from len first count low len_is count_is first_is copied =
    let content : take count out ≡ take 28 (drop from bytes) = ap (take count) copied ∙ data_is bytes rest from count count_is in
    ap (λ l. first ∷ l) content ∙ (ap (λ n. n ∷ take 28 (drop from bytes)) first_is ∙ ap packet_bytes (grind arith))

-- which fragment of its message that is
pub fragment_stands : (bytes : List ℕ) (pipe place : ℕ) → place * 28 < length bytes
    → slice_get (map packet_bytes (packets_of pipe bytes)) place ≡ Some (packet_bytes (packet_at pipe bytes (place * 28)))
fragment_stands bytes pipe place low =
    slice_get-map packet_bytes (packets_of pipe bytes) place
    ∙ (ap (λ n. option_map packet_bytes (slice_get (packets_of pipe bytes) n)) (omega arith)
    ∙ ap (option_map packet_bytes) (packet_stands bytes pipe (place * 28) (omega arith) low))
