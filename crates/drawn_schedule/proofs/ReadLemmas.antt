-- The lines that are drawn may stand below their header, and are short.
use Rattle.std.proofs.Common.{◌≡◌, ℕ, zero, suc, ◌+◌, ◌/◌, ◌%◌, ◌<◌, ◌≤◌, ◌==◌, Bool, true, false, cond, nat_le, List, [], ◌∷◌, ◌++◌, length}
use Rattle.std.proofs.Common.{refl, ap, arith, None, Some, Ok, inr, Contains, length-append}
use Rattle.std.specs.List.{AllByRecursion}
use Rattle.std.specs.List.Sorted.{IsStrictlyIncreasing}
use Rattle.std.proofs.lemmas.Fmt.{decimal_digit}
use Rattle.std.proofs.lemmas.List.Elements.{All-from_recursion}
use Rattle.swp_base.specs.Bits.{IsByte}
use Rattle.trace_model.specs.declared.line.End.{End}
use Rattle.trace_model.specs.declared.line.Line.{Line}
use Rattle.trace_model.specs.declared.line.Line.TheVariants as line
use Rattle.trace_model.specs.Lines.{IsHost, MayBegin, MayFollow}
use Rattle.hex.specs.Hex.{encode_upper}
use Rattle.schedule_text.specs.declared.read.Read.TheVariants as read
use Rattle.schedule_text.specs.Words.{spaced}
use Rattle.schedule_text.specs.Entries.{byte_text, two_bytes_text, end_text, header_words, line_text}
use Rattle.schedule_text.specs.Lines.{line_of}
use Rattle.schedule_text.proofs.AgainLemmas.{length-hex}
use Rattle.schedule_text.proofs.ReadAgainLemmas.{header_again, line_again}
use Rattle.drawn_schedule.specs.Schedule.{at_controller, at_host_of, takes, sends_on, the_header, answered, joins, makes_a_pipe, first_lines, step_line}
use Rattle.drawn_schedule.specs.Schedule.{so_many_steps, drawn_lines, next_number, drawn_of, IsReadAsWritten}

-- ## Lines

abbrev pub IsGood : Line → Type 0
IsGood l = MayFollow the_header l × (length (line_text l) ≤ 9000)

abbrev pub AreGood : List Line → Type 0
AreGood lines = AllByRecursion IsGood lines

known : (h : ℕ) → 1 ≤ h → h ≤ 3 → Contains (1 ∷ 2 ∷ 3 ∷ []) h
known zero low high = absurd (omega arith)
known (suc zero) low high = (0, omega arith, refl)
known (suc (suc zero)) low high = (1, omega arith, refl)
known (suc (suc (suc zero))) low high = (2, omega arith, refl)
known (suc (suc (suc (suc h)))) low high = absurd (omega arith)

end_long : (e : End) → length (end_text e) ≡ 3
end_long e =
    let whole = length-append (byte_text e.link) (cond e.at_host 104 99 ∷ []) in
    let hex = length-hex (e.link ∷ []) in omega (arith, whole, hex)

good_takes_c : (h : ℕ) → 1 ≤ h → h ≤ 3 → IsGood (takes (at_controller h))
good_takes_c h low high = let long = end_long (at_controller h) in ((known h low high, tt), omega (arith, long))

good_takes_h : (h : ℕ) → 1 ≤ h → h ≤ 3 → IsGood (takes (at_host_of h))
good_takes_h h low high = let long = end_long (at_host_of h) in ((known h low high, tt), omega (arith, long))

good_lose : (h : ℕ) → 1 ≤ h → h ≤ 3 → IsGood (line.Lose (at_controller h))
good_lose h low high = let long = end_long (at_controller h) in (known h low high, omega (arith, long))

good_reset_c : (h : ℕ) → 1 ≤ h → h ≤ 3 → IsGood (line.Reset (at_controller h) None)
good_reset_c h low high = let long = end_long (at_controller h) in ((known h low high, tt), omega (arith, long))

good_reset_h : (h : ℕ) → 1 ≤ h → h ≤ 3 → IsGood (line.Reset (at_host_of h) None)
good_reset_h h low high = let long = end_long (at_host_of h) in ((known h low high, tt), omega (arith, long))

good_tick : IsGood (line.Tick (Some 3))
good_tick = let long = ap length (decimal_digit 3 (omega arith)) in ((omega arith, omega arith), omega (arith, long))

good_send : (h pid : ℕ) (message : List ℕ) → 1 ≤ h → h ≤ 3 → pid < 112 → 0 < length message → length message ≤ 100 → AllByRecursion IsByte message
    → IsGood (sends_on (at_host_of h) pid message)
good_send h pid message low high pipe some few bytes =
    let end = end_long (at_host_of h) in
    let front = length-append (end_text (at_host_of h)) (32 ∷ (byte_text pid ++ 32 ∷ encode_upper message)) in
    let back = length-append (byte_text pid) (32 ∷ encode_upper message) in
    let byte = length-hex (pid ∷ []) in
    let hex = length-hex message in (
      record {
        known = known h low high;
        sender = λ _. refl;
        pipe = pipe;
        some = some;
        bytes = All-from_recursion IsByte message bytes;
      },
      omega (arith, end, front, back, byte, hex, few),
    )

good_activate : (h : ℕ) → 1 ≤ h → h ≤ 3 → IsGood (line.Activate h h 1)
good_activate h low high =
    let front = length-append (byte_text h) (32 ∷ (two_bytes_text h ++ 32 ∷ byte_text 1)) in
    let back = length-append (two_bytes_text h) (32 ∷ byte_text 1) in
    let host = length-hex (h ∷ []) in
    let two = length-hex (h / 256 ∷ h % 256 ∷ []) in
    let one = length-hex (1 ∷ []) in (
      (refl, record { known = known h low high; identifier = omega (arith, high); code = omega arith }),
      omega (arith, front, back, host, two, one),
    )

good_boot : (n : ℕ) → MayFollow the_header (line.Boot n) → IsGood (line.Boot n)
good_boot n may = let hex = length-hex (n ∷ []) in (may, omega (arith, hex))

good_tables : IsGood (line.Tables 0)
good_tables = let hex = length-hex (0 ∷ []) in ((refl, refl), omega (arith, hex))

-- ## How it begins

both : (xs ys : List Line) → AreGood xs → AreGood ys → AreGood (xs ++ ys)
both [] ys a b = b
both (x ∷ xs) ys a b = (a.0, both xs ys a.1 b)

good_answered : (h : ℕ) → 1 ≤ h → h ≤ 3 → AreGood (answered h)
good_answered h low high = (good_takes_c h low high, (good_takes_h h low high, (good_takes_c h low high, tt)))

good_joins : (h a b : ℕ) → 1 ≤ h → h ≤ 3 → a ≤ 3 → b ≤ 3 → AreGood (joins h a b)
good_joins h a b low high first second =
    let good = good_answered h low high in
    let opens = sends_on (at_host_of h) 1 (3 ∷ []) ∷ answered h in
    let lists = sends_on (at_host_of h) 1 (1 ∷ 3 ∷ a ∷ b ∷ []) ∷ answered h in
    let resets = line.Reset (at_controller h) None ∷ takes (at_host_of h) ∷ takes (at_controller h) ∷ [] in
    both (line.Activate h h 1 ∷ answered h) (resets ++ opens ++ lists) (good_activate h low high, good)
    (both resets (opens ++ lists)
    (good_reset_c h low high, (good_takes_h h low high, (good_takes_c h low high, tt)))
    (both opens lists
    (good_send h 1 (3 ∷ []) low high (omega arith) (omega arith) (omega arith) (omega arith, tt), good) (
      good_send h 1 (1 ∷ 3 ∷ a ∷ b ∷ []) low high (omega arith) (omega arith) (omega arith)
          (omega arith, (omega arith, (omega (arith, first), (omega (arith, second), tt)))),
      good,
    )))

good_pipe : AreGood makes_a_pipe
good_pipe = (
  good_send 2 1 (16 ∷ 32 ∷ 1 ∷ 65 ∷ []) (omega arith) (omega arith) (omega arith) (omega arith) (omega arith)
      (omega arith, (omega arith, (omega arith, (omega arith, tt)))),
  (
    good_takes_c 2 (omega arith) (omega arith),
    (
      good_takes_h 1 (omega arith) (omega arith),
      (
        good_takes_c 1 (omega arith) (omega arith),
        (
          good_takes_h 2 (omega arith) (omega arith),
          (
            good_takes_c 2 (omega arith) (omega arith),
            (
              good_send 2 2 (3 ∷ []) (omega arith) (omega arith) (omega arith) (omega arith) (omega arith) (omega arith, tt),
              good_answered 2 (omega arith) (omega arith),
            ),
          ),
        ),
      ),
    ),
  ),
)

good_first : AreGood first_lines
good_first = (
  good_boot 0 (refl, refl),
  (
    good_boot 1 (refl, refl),
    (
      good_boot 2 (refl, refl),
      (
        good_boot 3 (refl, refl),
        both (joins 1 2 3) (joins 2 1 3 ++ joins 3 1 2 ++ makes_a_pipe) (good_joins 1 2 3 (omega arith) (omega arith) (omega arith) (omega arith))
            (both (joins 2 1 3) (joins 3 1 2 ++ makes_a_pipe) (good_joins 2 1 3 (omega arith) (omega arith) (omega arith) (omega arith))
            (both (joins 3 1 2) makes_a_pipe (good_joins 3 1 2 (omega arith) (omega arith) (omega arith) (omega arith)) good_pipe)),
      ),
    ),
  ),
)

-- ## Its steps

either : (t : Bool) (a b : Line) → IsGood a → IsGood b → IsGood (cond t a b)
either true a b x y = x
either false a b x y = y

good_step : (d h : ℕ) → 1 ≤ h → h ≤ 3 → IsGood (step_line d h)
good_step d h low high =
    either (nat_le d 4) _ _ (good_takes_c h low high)
    (either (nat_le d 9) _ _ (good_takes_h h low high)
    (either (nat_le d 11) _ _ (good_send h 1 (2 ∷ 1 ∷ []) low high (omega arith) (omega arith) (omega arith) (omega arith, (omega arith, tt)))
    (either (d == 12) _ _ (good_send h 2 (66 ∷ 170 ∷ []) low high (omega arith) (omega arith) (omega arith) (omega arith, (omega arith, tt)))
    (either (d == 13) _ _ (good_lose h low high) (either (d == 14) _ _ good_tick (good_reset_h h low high))))))

good_steps : (n k : ℕ) → AreGood (so_many_steps n k).lines
unfolding so_many_steps
good_steps n zero = tt
good_steps n (suc k) =
    both (so_many_steps n k).lines _ (good_steps n k) (
      good_step (drawn_of (next_number (so_many_steps n k).x) % 16) (1 + drawn_of (next_number (next_number (so_many_steps n k).x)) % 3) (omega arith)
          (omega arith),
      tt,
    )

pub good_lines : (n : ℕ) → AreGood (drawn_lines n)
good_lines n = both first_lines _ good_first (both (so_many_steps n 2000).lines (line.Tables 0 ∷ []) (good_steps n 2000) (good_tables, tt))

-- ## They are read

hosts_rise : IsStrictlyIncreasing (1 ∷ 2 ∷ 3 ∷ [])
hosts_rise zero within = omega arith
hosts_rise (suc zero) within = omega arith
hosts_rise (suc (suc k)) within = absurd (omega arith)

may_begin : MayBegin the_header
may_begin = inr (record {
  nodes = refl;
  some = omega arith;
  hosts = All-from_recursion IsHost (1 ∷ 2 ∷ 3 ∷ []) ((omega arith, omega arith), ((omega arith, omega arith), ((omega arith, omega arith), tt)));
  rising = hosts_rise;
})

pub header_is_read : line_of None (spaced (header_words the_header)) ≡ Ok (read.Header the_header)
header_is_read = header_again the_header may_begin

read_all : (lines : List Line) → AreGood lines → AllByRecursion IsReadAsWritten lines
read_all [] a = tt
read_all (l ∷ lines) a = (line_again the_header l may_begin a.0.0 a.0.1, read_all lines a.1)

pub lines_are_read : (n : ℕ) → AllByRecursion IsReadAsWritten (drawn_lines n)
lines_are_read n = read_all (drawn_lines n) (good_lines n)

-- ## How many there are

steps_count : (n k : ℕ) → length (so_many_steps n k).lines ≡ k
unfolding so_many_steps
steps_count n zero = refl
steps_count n (suc k) =
    let more = steps_count n k in
    let whole = length-append (so_many_steps n k).lines
    (step_line (drawn_of (next_number (so_many_steps n k).x) % 16) (1 + drawn_of (next_number (next_number (so_many_steps n k).x)) % 3) ∷ []) in
    omega (arith, more, whole)

pub lines_count : (n : ℕ) → length (drawn_lines n) ≡ 2060
lines_count n =
    let first : length first_lines ≡ 59 = refl in
    let steps = steps_count n 2000 in
    let whole = length-append first_lines ((so_many_steps n 2000).lines ++ line.Tables 0 ∷ []) in
    let rest = length-append (so_many_steps n 2000).lines (line.Tables 0 ∷ []) in
    omega (arith, first, steps, whole, rest)
