use Rattle.std.proofs.Common.{◌≡◌, List, [], map, drop}
use Rattle.swp_frame.specs.Signal.{Symbol, symbol_of}
use Rattle.swp_frame.specs.Kept.{DeframerStandsFor}
use Rattle.swp_frame.specs.Verdicts.{answers_after}
use Rattle.worked_examples.specs.FirstFrames.{first_said}
use Rattle.worked_examples.proofs.library.first_frame.Given as goal

abbrev pub invariant-loop-bit : goal.invariant-loop-bit
invariant-loop-bit l = (seen : List Symbol) × DeframerStandsFor l.deframer seen
    × (first_said (answers_after seen (map symbol_of (drop l.bit-index l.bits))) ≡ first_said (answers_after [] (map symbol_of l.bits)))
