use Rattle.schedule_text.proofs.Names.{is_hex_digit, list_all, take, ◌≡◌}
use Rattle.schedule_text.proofs.pairs.all_hex.Given as goal

abbrev pub invariant-loop-digit : goal.invariant-loop-digit
invariant-loop-digit l = l.right ≡ list_all is_hex_digit (take l.digit-index l.digits)
