-- The bytes of the last read that gave some.
use Rattle.std.proofs.Common.{◌≡◌, ℕ, ◌<◌, arith}
use Rattle.std.specs.Prelude.{Ok}
use Rattle.swp_base.specs.Endings.{with_read}
use Rattle.swp_base.specs.declared.outside.EndOfInput.{EndOfInput}

-- where a read gives some, they are its own
pub given_by : (e f : EndOfInput) (n : ℕ) → f ≡ with_read e (Ok n) → 0 < n → f.given ≡ n
given_by e f n is some = grind arith
