-- What is read from one direction of a line, bits and breaks, and the marks in it. A list has the newest first.
use Rattle.std.specs.Prelude.{ℕ, suc, ◌==◌, ◌≡◌, Bool, true, false, List, [], ◌∷◌, Option, Some, None, option_map, if◌then◌else◌}

pub data Symbol : Type 0 where
  bit_0 : Symbol
  bit_1 : Symbol
  break : Symbol

abbrev pub symbol_of : Bool → Symbol
symbol_of true = bit_1
symbol_of false = bit_0

-- how many 1 bits in a row were read last. The list is read as if one 0 stood before it and after each break.
abbrev pub run_of : List Symbol → ℕ
run_of [] = 0
run_of (bit_0 ∷ older) = 0
run_of (bit_1 ∷ older) = suc (run_of older)
run_of (break ∷ older) = 0

pub data Mark : Type 0 where
  no_mark : Mark
  start_mark : Mark
  end_mark : Mark
  break_mark : Mark

-- The mark that ends at the newest place. A run of exactly six 1 bits and a 0 behind it is the start of a frame, the seventh
-- 1 bit in a row the end of one, and a break is a mark of its own.
abbrev pub mark_of : List Symbol → Mark
mark_of [] = no_mark
mark_of (bit_0 ∷ older) = if run_of older == 6 then start_mark else no_mark
mark_of (bit_1 ∷ older) = if run_of older == 6 then end_mark else no_mark
mark_of (break ∷ older) = break_mark

-- what is read since the last mark, from what was read up to here, where this mark ends at the newest place
abbrev pub since_mark : Mark → Symbol → Option (List Symbol) → Option (List Symbol)
since_mark start_mark newest before = Some []
since_mark end_mark newest before = None
since_mark break_mark newest before = None
since_mark no_mark newest before = option_map (λ since. newest ∷ since) before

-- what was read since the last mark, where that is the start of a frame: a frame is open
abbrev pub since_start : List Symbol → Option (List Symbol)
since_start [] = None
since_start (newest ∷ older) = since_mark (mark_of (newest ∷ older)) newest (since_start older)

-- the bits without those put in: each 0 directly behind five 1 bits
abbrev pub unstuffed : List Symbol → List Bool
unstuffed [] = []
unstuffed (bit_0 ∷ older) = if run_of older == 5 then unstuffed older else false ∷ unstuffed older
unstuffed (bit_1 ∷ older) = true ∷ unstuffed older
unstuffed (break ∷ older) = unstuffed older

-- what was read, the newest first, after these further bits, the oldest first
abbrev pub read_on : List Symbol → List Bool → List Symbol
read_on seen [] = seen
read_on seen (next ∷ bits) = read_on (symbol_of next ∷ seen) bits

-- no mark ends with any of these further bits, the oldest first
abbrev pub HasNoMark : List Symbol → List Bool → Type 0
HasNoMark seen [] = Unit {0}
HasNoMark seen (next ∷ bits) = (mark_of (symbol_of next ∷ seen) ≡ no_mark) × HasNoMark (symbol_of next ∷ seen) bits
