-- What a packet gives at one side.
use Rattle.std.specs.Prelude.{◌≡◌, ℕ, Bool, true, false, if◌then◌else◌, List, [], ◌∷◌, IsTrue, Option, Some, None}
use Rattle.hcp_packet.specs.Packets.{IsGood, good_of}
use Rattle.hcp_chain.specs.Joining.{JoinOutcome, Message, is_fault, message_in}
use Rattle.swp_tap.specs.declared.under_way.Came.{Came}
use Rattle.swp_tap.specs.declared.under_way.Came.TheVariants.{Nothing, Told, Fault}

-- The answer says what came of the packet, where a message is wanted or not, and the bytes of the body before and after.
abbrev pub SaysOutcome : Came → Bool → List ℕ → List ℕ → JoinOutcome → Type 0
SaysOutcome Nothing wanted before after outcome =
    (is_fault outcome ≡ false) × ((if wanted then good_of (message_in outcome) else []) ≡ []) × (after ≡ before)
SaysOutcome (Told pipe) wanted before after outcome = (wanted ≡ true) × (outcome ≡ Message pipe after) × IsGood after
SaysOutcome Fault wanted before after outcome = IsTrue (is_fault outcome) × (after ≡ before)

-- the message that came, on a pipe with these bytes, or none
abbrev pub news_in : Option ℕ → List ℕ → List (ℕ × List ℕ)
news_in None body = []
news_in (Some pipe) body = (pipe, body) ∷ []
