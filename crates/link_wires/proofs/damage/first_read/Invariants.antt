use Rattle.link_wires.proofs.Words.{List, Symbol, answers_after, drop, judged_by_first, map, symbol_of, told_as, ℕ, ◌≡◌}
use Rattle.swp_frame.specs.Verdicts.{verdicts}
use Rattle.swp_frame.specs.Kept.{DeframerStandsFor}
use Rattle.link_wires.proofs.Damages.{told_in}
use Rattle.link_wires.proofs.damage.first_read.Given as goal

abbrev pub invariant-loop-bit : goal.invariant-loop-bit
invariant-loop-bit l =
    (seen : List Symbol) × DeframerStandsFor l.deframer seen
    × ((lpdu : List ℕ) → told_as (judged_by_first lpdu (verdicts (map symbol_of l.bits)))
    ≡ told_in lpdu l.refused (answers_after seen (map symbol_of (drop l.bit-index l.bits))))
