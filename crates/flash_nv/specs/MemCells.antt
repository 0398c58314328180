-- What contracts see of a flash memory that is kept in memory and fails as planned.
use Rattle.std.specs.Prelude.{ℕ, ◌-◌, ◌%◌, ◌==◌, Bool, false, if◌then◌else◌, List, [], ◌∷◌, None, Some, length, slice_index, replicate, bit_and, bit_or}
use Rattle.std.specs.declared.option.Option.{Option}
use Rattle.flash_nv.specs.Cells.{remade}

-- the change that fails: it is the nth from now, where 1 is the next, and the bits of the mask take effect, over and over
pub record Tear : Type 0 where
  pub nth : ℕ
  pub mask : List ℕ

-- a flash memory: its bytes, the change that fails, where one is planned, and how many calls failed
pub record Chip : Type 0 where
  pub cells : List ℕ
  pub tear : Option Tear
  pub faults : ℕ

-- so many bytes, all FF
unfoldable pub blank : ℕ → List ℕ
blank len = replicate len 255

-- the next change fails
abbrev pub tears_next : Option Tear → Bool
tears_next None = false
tears_next (Some t) = t.nth == 1

-- the plan after a change: it is spent by the change that failed, and else one nearer
abbrev pub tear_after : Option Tear → Option Tear
tear_after None = None
tear_after (Some t) = if t.nth == 1 then None else Some (record t { nth = t.nth - 1 })

-- the mask of the next change, all ones where it doesn't fail
abbrev pub tear_mask : Option Tear → List ℕ
tear_mask None = 255 ∷ []
tear_mask (Some t) = if t.nth == 1 then t.mask else 255 ∷ []

-- a byte of which the bits of the mask took effect
abbrev pub mixed : ℕ → ℕ → ℕ → ℕ
mixed old whole mask = bit_or (bit_and old (255 - mask)) (bit_and whole mask)

-- a memory that was to hold these bytes from place `at` on, of which the bits of the mask took effect
abbrev pub torn : List ℕ → ℕ → List ℕ → List ℕ → List ℕ
torn cells at whole mask = remade cells at (length whole)
    (λ i. mixed (slice_index cells i) (slice_index whole (i - at)) (slice_index mask ((i - at) % length mask)))

-- a memory of which a call was to make `whole`, by so many bytes from place `at` on: the bits of the mask took effect, over and over
abbrev pub partly : List ℕ → ℕ → ℕ → List ℕ → List ℕ → List ℕ
partly cells at len whole mask =
    remade cells at len (λ i. mixed (slice_index cells i) (slice_index whole i) (slice_index mask ((i - at) % length mask)))
