use Rattle.schedule_text.proofs.Names.{HoldsText, List, Start, entry_lines, take, ℕ, ◌++◌}
use Rattle.schedule_text.proofs.write.write_each.Given as goal

-- the entries so far stand behind the text
abbrev pub invariant-loop-entry : goal.invariant-loop-entry
invariant-loop-entry l =
    (start : Start) (before : List ℕ) → HoldsText start before l.fn.text → HoldsText start (before ++ entry_lines (take l.entry-index l.entries)) l.text
