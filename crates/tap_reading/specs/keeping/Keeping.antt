-- What a passive tap keeps in place of all that it has heard: of each side its numbers, the fragments that the other side hasn't
-- acknowledged, which are four at most, and what has come of the messages under way to it.
use Rattle.std.specs.Prelude.{◌≡◌, ◌≤◌, ℕ, ◌+◌, ◌%◌, ◌==◌, ◌&&◌, ◌||◌, nat_lt, Bool, true, false, not, if◌then◌else◌, List, [], ◌∷◌, ◌++◌, length}
use Rattle.std.specs.Prelude.{take, drop}
use Rattle.std.specs.Prelude.{map, Option, Some, None}
use Rattle.swp_base.specs.declared.control_frames.Control.{Control}
use Rattle.swp_base.specs.declared.control_frames.Control.TheVariants.{I, S, Rset, Ua, Act, Clt}
use Rattle.hcp_packet.specs.declared.Packet.{Packet}
use Rattle.hcp_packet.specs.Packets.{packet_of, packets_in, good_of}
use Rattle.hcp_chain.specs.Joining.{join_step, message_in, is_fault, are_taken, open_after}
use Rattle.tap_reading.specs.Tap.{TapSide, TapState, TapReport, listed_at, counted_at, reports_to}

-- what is kept of one side
pub record KeptSide : Type 0 where
  pub number : ℕ
  pub asked : ℕ
  -- the number at which its last I frame was sent
  pub listed : ℕ
  -- how many fragments it has sent at that number, modulo 8, and those of them that the other side hasn't acknowledged
  pub sent : ℕ
  pub waiting : List (List ℕ)
  -- how many it has acknowledged at its number, modulo 8; whether these could all be joined; and the messages under way then
  pub count : ℕ
  pub joins : Bool
  pub under_way : List (ℕ × List ℕ)

pub record KeptTap : Type 0 where
  pub clf : KeptSide
  pub uicc : KeptSide
  pub rsets : ℕ

abbrev pub new_kept_side : KeptSide
new_kept_side = record { number = 0; asked = 0; listed = 0; sent = 0; waiting = []; count = 0; joins = true; under_way = [] }

abbrev pub new_kept_tap : KeptTap
new_kept_tap = record { clf = new_kept_side; uicc = new_kept_side; rsets = 0 }

abbrev pub kept_exchanged : KeptTap → KeptTap
kept_exchanged k = record k { clf = k.uicc; uicc = k.clf }

-- a side has this number from now on, where it is above its own
abbrev pub kept_renumbered : KeptSide → ℕ → KeptSide
kept_renumbered s n = if nat_lt s.number n then record s { number = n; count = 0; joins = true; under_way = [] } else s

-- an I frame begins a list where none was begun at this number
abbrev pub kept_listed : KeptSide → KeptSide
kept_listed s = if s.listed == s.number then s else record s { listed = s.number; sent = 0; waiting = [] }

-- its fragment waits where it is the next one, and fewer than four wait
abbrev pub kept_added : KeptSide → ℕ → List ℕ → KeptSide
kept_added s ns info =
    if (ns == s.sent) && nat_lt (length s.waiting) 4 then record s { sent = (s.sent + 1) % 8; waiting = s.waiting ++ info ∷ [] } else s

-- an N(R) of the side s acknowledges the first fragment of the other side t that waits
abbrev pub kept_tells_more : KeptSide → KeptSide → ℕ → Bool
kept_tells_more s t nr = (nr == (s.count + 1) % 8) && ((t.listed == s.number) && nat_lt 0 (length t.waiting))

-- what a packet does to the messages under way to a side
abbrev pub kept_joined : KeptSide → Option Packet → KeptSide
kept_joined s None = s
kept_joined s (Some p) =
    record s { joins = s.joins && not (is_fault (join_step s.under_way p).0); under_way = (join_step s.under_way p).1 }

-- the good message that it completes, where all could be joined so far
abbrev pub kept_news : KeptSide → Option Packet → List (ℕ × List ℕ)
kept_news s None = []
kept_news s (Some p) = if s.joins && not (is_fault (join_step s.under_way p).0) then good_of (message_in (join_step s.under_way p).0) else []

-- the packet that the first fragment that waits is, where it is one
abbrev pub first_packet : List (List ℕ) → Option Packet
first_packet [] = None
first_packet (x ∷ xs) = packet_of x

-- an N(R) of the CLF
abbrev pub kept_numbered : KeptTap → ℕ → KeptTap
kept_numbered k nr =
    if kept_tells_more k.clf k.uicc nr
    then
    record k {
      clf = record (kept_joined k.clf (first_packet k.uicc.waiting)) { count = (k.clf.count + 1) % 8 };
      uicc = record k.uicc { waiting = drop 1 k.uicc.waiting };
    }
    else k

-- what it tells
abbrev pub kept_told : KeptTap → ℕ → List (ℕ × ℕ × List ℕ)
kept_told k nr =
    if kept_tells_more k.clf k.uicc nr then map (λ m. (k.clf.number, m.0, m.1)) (kept_news k.clf (first_packet k.uicc.waiting)) else []

abbrev pub kept_in_session : Bool → KeptSide → Bool
kept_in_session bare s = bare || nat_lt 0 s.number

-- what is kept after a frame of the CLF
abbrev pub kept_hears : Bool → KeptTap → Control → KeptTap
kept_hears bare k (I ns nr info) =
    if kept_in_session bare k.clf then kept_numbered (record k { clf = kept_added (kept_listed k.clf) ns info }) nr else k
kept_hears bare k (S kind nr) = if kept_in_session bare k.clf then kept_numbered k nr else k
kept_hears bare k (Rset window caps) = record k { clf = record (kept_renumbered k.clf (k.rsets + 1)) { asked = k.rsets + 1 }; rsets = k.rsets + 1 }
kept_hears bare k Ua = record k { clf = kept_renumbered k.clf k.uicc.asked }
kept_hears bare k (Act act again) = k
kept_hears bare k Clt = k

-- what it tells
abbrev pub kept_tells : Bool → KeptTap → Control → List (ℕ × ℕ × List ℕ)
kept_tells bare k (I ns nr info) = if kept_in_session bare k.clf then kept_told k nr else []
kept_tells bare k (S kind nr) = if kept_in_session bare k.clf then kept_told k nr else []
kept_tells bare k (Rset window caps) = []
kept_tells bare k Ua = []
kept_tells bare k (Act act again) = []
kept_tells bare k Clt = []

-- after a frame of either side
abbrev pub kept_after_frame : Bool → KeptTap → Bool → Control → KeptTap
kept_after_frame bare k true c = kept_hears bare k c
kept_after_frame bare k false c = kept_exchanged (kept_hears bare (kept_exchanged k) c)

abbrev pub kept_reports : Bool → KeptTap → Bool → Control → List TapReport
kept_reports bare k true c = reports_to true (kept_tells bare k c)
kept_reports bare k false c = reports_to false (kept_tells bare (kept_exchanged k) c)

-- what is kept after these frames, and what is reported over them
abbrev pub kept_after : Bool → KeptTap → List (Bool × Control) → KeptTap
kept_after bare k [] = k
kept_after bare k (f ∷ frames) = kept_after bare (kept_after_frame bare k f.0 f.1) frames

abbrev pub kept_reported : Bool → KeptTap → List (Bool × Control) → List TapReport
kept_reported bare k [] = []
kept_reported bare k (f ∷ frames) = kept_reports bare k f.0 f.1 ++ kept_reported bare (kept_after_frame bare k f.0 f.1) frames

-- What is kept of the side s stands for what was heard of it, where t is the other side.
pub record StandsForSide (k : KeptSide) (s t : TapSide) : Type 0 where
  pub number : k.number ≡ s.number
  pub asked : k.asked ≡ s.asked
  pub listed : k.listed ≡ s.listed
  pub older : s.listed ≤ s.number
  -- its fragments count as long as the other side has no higher number
  pub sent : t.number ≤ s.listed → k.sent ≡ length s.list % 8
  pub waiting : t.number ≤ s.listed → k.waiting ≡ drop (counted_at t s.listed) s.list
  pub few : length k.waiting ≤ 4
  pub count : k.count ≡ s.count % 8
  -- and what it has acknowledged, as long as the other side's list has none
  pub most : t.listed ≤ s.number → s.count ≤ length (listed_at t s.number)
  pub joins : t.listed ≤ s.number → k.joins ≡ are_taken [] (packets_in (take s.count (listed_at t s.number)))
  pub under_way : t.listed ≤ s.number → k.joins ≡ true → k.under_way ≡ open_after [] (packets_in (take s.count (listed_at t s.number)))

-- what is kept stands for what was heard
pub record StandsForTap (k : KeptTap) (t : TapState) : Type 0 where
  pub clf : StandsForSide k.clf t.clf t.uicc
  pub uicc : StandsForSide k.uicc t.uicc t.clf
  pub rsets : k.rsets ≡ t.rsets

-- of each side at most four fragments are kept
pub record IsSmall (k : KeptTap) : Type 0 where
  pub clf : length k.clf.waiting ≤ 4
  pub uicc : length k.uicc.waiting ≤ 4
