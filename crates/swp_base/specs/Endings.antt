-- What is known of a source's reads.
use Rattle.std.specs.Prelude.{ℕ, ◌==◌, if◌then◌else◌, Bool, true, false, Result, Ok, Err}
use Rattle.swp_base.specs.Outside.{one_more}
use Rattle.swp_base.specs.declared.outside.Failed.{Failed}
use Rattle.swp_base.specs.declared.outside.EndOfInput.{EndOfInput}

-- a read behind which none should come: its source says that it ended, by giving no byte, or fails
abbrev pub is_last : Result ℕ Failed → Bool
is_last (Ok n) = n == 0
is_last (Err why) = true

-- the bytes of the last read that gave some, with a read more
abbrev pub given_with : ℕ → Result ℕ Failed → ℕ
given_with given (Ok n) = if n == 0 then given else n
given_with given (Err why) = given

-- what is known of a source's reads, with one more that had this answer
abbrev pub with_read : EndOfInput → Result ℕ Failed → EndOfInput
with_read end answer = by_end end.ended where
  by_end : Bool → EndOfInput
  by_end true = record end { late = one_more end.late; given = given_with end.given answer }
  by_end false = record end { ended = is_last answer; given = given_with end.given answer }
