-- Bits behind what was read.
use Rattle.swp_frame.proofs.Words.{Bool, HasNoMark, List, Option, Symbol, [], ap, arith, bit_0, bit_1, false, no_mark, option_map, read_on, refl, run_after}
use Rattle.swp_frame.proofs.Words.{run_of, since_start, symbol_of, true, ◌∙◌, ◌∷◌, ◌≡◌, ◌≢◌}
use Rattle.swp_frame.specs.Signal.{mark_of}

-- where no mark ends, a frame that is open stays open, and one that isn't doesn't open
pub quiet_since : (seen : List Symbol) (bits : List Bool) → HasNoMark seen bits
    → since_start (read_on seen bits) ≡ option_map (λ since. read_on since bits) (since_start seen)
quiet_since seen [] h = grind arith
quiet_since seen (next ∷ bits) h =
    quiet_since (symbol_of next ∷ seen) bits h.1 ∙ ap (λ before. option_map (λ since. read_on since bits) before) (one next h.0 ∙ refl)
    ∙ twice (since_start seen)
  where
    one : (b : Bool) → mark_of (symbol_of b ∷ seen) ≡ no_mark → since_start (symbol_of b ∷ seen) ≡ option_map (λ since. symbol_of b ∷ since) (since_start seen)
    one b e = grind arith

    twice : (before : Option (List Symbol))
        → option_map (λ since. read_on since bits) (option_map (λ since. symbol_of next ∷ since) before)
        ≡ option_map (λ since. read_on (symbol_of next ∷ since) bits) before
    twice before = grind arith

pub run_of-read_on : (seen : List Symbol) (bits : List Bool) → run_of (read_on seen bits) ≡ run_after (run_of seen) bits
run_of-read_on seen [] = refl
run_of-read_on seen (true ∷ bits) = run_of-read_on (bit_1 ∷ seen) bits
run_of-read_on seen (false ∷ bits) = run_of-read_on (bit_0 ∷ seen) bits

-- no mark ends with a bit that isn't behind six 1 bits
pub no_mark_after : (seen : List Symbol) (next : Bool) → run_of seen ≢ 6 → mark_of (symbol_of next ∷ seen) ≡ no_mark
no_mark_after seen next other = grind arith
