-- The grammar of link protocol data units: which control byte says what, and how many bytes it needs.
use Rattle.std.specs.Prelude.{ℕ, ◌+◌, ◌-◌, ◌*◌, ◌/◌, ◌%◌, ◌<◌, Bool, true, false, ◌&&◌, ◌||◌, ◌==◌, nat_lt, nat_le, if◌then◌else◌, List, [], ◌∷◌, length, drop}
use Rattle.std.specs.Prelude.{find, slice_index, slice_index_or, None, Some, Ok, Err}
use Rattle.std.specs.declared.option.Option.{Option}
use Rattle.std.specs.declared.result.Result.{Result}
use Rattle.swp_base.specs.declared.Control.{Control}
use Rattle.swp_base.specs.declared.Control.TheVariants.{I, S, Rset, Ua, Act, Clt}
use Rattle.swp_base.specs.declared.Kind.{Kind}
use Rattle.swp_base.specs.declared.Kind.TheVariants.{Rr, Rej, Rnr, Srej}
use Rattle.swp_base.specs.declared.Act.{Act as Activation}
use Rattle.swp_base.specs.declared.Act.TheVariants.{Ready, SyncId, PowerMode}
use Rattle.swp_lpdu.specs.declared.LpduFault.{LpduFault}
use Rattle.swp_lpdu.specs.declared.LpduFault.TheVariants.{Unknown, Short, TooLong}

-- a row of the table: its first bytes, how many bytes an LPDU of this row has at least and at most, and what they say
pub record LpduRow : Type 0 where
  pub first : ℕ
  pub last : ℕ
  pub need : ℕ
  pub most : ℕ
  pub says : List ℕ → Control

-- the first bytes from `first` to `last`
abbrev pub lpdu_row : ℕ → ℕ → ℕ → ℕ → (List ℕ → Control) → LpduRow
lpdu_row first last need most says = record { first = first; last = last; need = need; most = most; says = says }

-- 80 + 8·ns + nr, and the information field behind it
abbrev pub i_frame : List ℕ → Control
i_frame bytes = let number = slice_index bytes 0 - 0x80 in I (number / 8) (number % 8) (drop 1 bytes)

-- C0 + 8·kind + nr
abbrev pub s_frame : Kind → List ℕ → Control
s_frame kind bytes = S kind (slice_index bytes 0 % 8)

-- a window byte and a capability byte; absent: 4 and 0
abbrev pub reset : List ℕ → Control
reset bytes = Rset (slice_index_or bytes 1 4) (slice_index_or bytes 2 0)

-- two bytes, the most significant first
abbrev pub sync_id : List ℕ → Activation
sync_id bytes = SyncId (256 * slice_index bytes 1 + slice_index bytes 2)

abbrev pub power_mode : List ℕ → Activation
power_mode bytes = PowerMode (slice_index bytes 1)

-- The table. What stands behind the bytes that a row needs is not used, and only supervisory frames have no more.
abbrev pub table : List LpduRow
table =
    lpdu_row 0x80 0xBF 2 30 i_frame
    ∷ lpdu_row 0xC0 0xC7 1 1 (s_frame Rr)
    ∷ lpdu_row 0xC8 0xCF 1 1 (s_frame Rej)
    ∷ lpdu_row 0xD0 0xD7 1 1 (s_frame Rnr)
    ∷ lpdu_row 0xD8 0xDF 1 1 (s_frame Srej)
    ∷ lpdu_row 0xF9 0xF9 1 30 reset
    ∷ lpdu_row 0xE6 0xE6 1 30 (λ _. Ua)
    ∷ lpdu_row 0x60 0x60 1 30 (λ _. Act Ready false)
    ∷ lpdu_row 0x68 0x68 1 30 (λ _. Act Ready true)
    ∷ lpdu_row 0x61 0x61 3 30 (λ bytes. Act (sync_id bytes) false)
    ∷ lpdu_row 0x69 0x69 3 30 (λ bytes. Act (sync_id bytes) true)
    ∷ lpdu_row 0x62 0x62 2 30 (λ bytes. Act (power_mode bytes) false)
    ∷ lpdu_row 0x6A 0x6A 2 30 (λ bytes. Act (power_mode bytes) true)
    ∷ lpdu_row 0x40 0x5F 1 30 (λ _. Clt)
    ∷ []

-- a number is from low to high
abbrev pub is_within : ℕ → ℕ → ℕ → Bool
is_within low high n = nat_le low n && nat_le n high

-- the row of a first byte, if it is in the table
abbrev pub lpdu_row_of : ℕ → Option LpduRow
lpdu_row_of byte = find (λ r. is_within r.first r.last byte) table

-- these bytes, read by a row
abbrev pub read_by : Option LpduRow → List ℕ → Result Control LpduFault
read_by None bytes = Err (Unknown (slice_index bytes 0))
read_by (Some r) bytes =
    if nat_lt (length bytes) r.need then Err (Short r.need (length bytes))
    else if nat_lt r.most (length bytes) then Err (TooLong (length bytes))
    else Ok (r.says bytes)

-- what the bytes of an LPDU say, or why they say nothing
abbrev pub control_of : List ℕ → Result Control LpduFault
control_of bytes = read_by (lpdu_row_of (slice_index bytes 0)) bytes

-- no frame has this first byte
abbrev pub is_unknown : ℕ → Bool
is_unknown b = nat_lt b 0x40 || is_within 0x63 0x67 b || is_within 0x6B 0x7F b || is_within 0xE0 0xE5 b || is_within 0xE7 0xF8 b || nat_lt 0xF9 b

-- a supervisory frame has this first byte
abbrev pub is_supervisory : ℕ → Bool
is_supervisory b = is_within 0xC0 0xDF b

-- how many bytes an LPDU with this first byte has at least: an information frame carries something, an identifier has
-- two bytes and a power mode one
abbrev pub need_of : ℕ → ℕ
need_of b = if is_within 0x80 0xBF b || b == 0x62 || b == 0x6A then 2 else if b == 0x61 || b == 0x69 then 3 else 1

-- the numbers of a control frame are below 8
abbrev pub HasNumbers : Control → Type 0
HasNumbers (I ns nr info) = (ns < 8) × (nr < 8)
HasNumbers (S kind nr) = nr < 8
HasNumbers _ = Unit {0}

abbrev pub kind_number : Kind → ℕ
kind_number Rr = 0
kind_number Rej = 1
kind_number Rnr = 2
kind_number Srej = 3

-- the first byte of an activation frame that asks for the last one again is 8 more
abbrev pub again_bit : Bool → ℕ
again_bit again = if again then 8 else 0

-- the bytes that are written for a control frame: a reset has both bytes, and contactless tunnelling is 40
abbrev pub lpdu_of : Control → List ℕ
lpdu_of (I ns nr info) = (0x80 + 8 * ns + nr) ∷ info
lpdu_of (S kind nr) = (0xC0 + 8 * kind_number kind + nr) ∷ []
lpdu_of (Rset window caps) = 0xF9 ∷ window ∷ caps ∷ []
lpdu_of Ua = 0xE6 ∷ []
lpdu_of (Act Ready again) = (0x60 + again_bit again) ∷ []
lpdu_of (Act (SyncId id) again) = (0x61 + again_bit again) ∷ id / 256 ∷ id % 256 ∷ []
lpdu_of (Act (PowerMode power) again) = (0x62 + again_bit again) ∷ power ∷ []
lpdu_of Clt = 0x40 ∷ []
