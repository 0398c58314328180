use Rattle.std.proofs.Common.{◌≡◌, ◌≤◌, drop}
use Rattle.schedule_text.specs.Values.{digits_number}
use Rattle.schedule_text.proofs.NumbersLemmas.{onward}
use Rattle.schedule_text.proofs.values.number_up_to.Given as goal

abbrev pub invariant-loop-digit : goal.invariant-loop-digit
invariant-loop-digit l = (digits_number l.word ≡ onward l.number (drop l.digit-index l.word)) × (l.number ≤ l.high)
