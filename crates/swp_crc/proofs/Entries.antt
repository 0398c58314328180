-- What is checked for each of 256 bytes by computing it.
use Rattle.std.proofs.Common.{◌≡◌, ℕ, ◌+◌, ◌<◌, true, eqb, get_or, refl, eqb-true}
use Rattle.std.proofs.lemmas.Bool.{agree_below, agree_below_at}
use Rattle.swp_base.specs.Bits.{bits_of_byte}
use Rattle.swp_crc.specs.Division.{spelled_number}
use Rattle.swp_crc.specs.Crc.{table_entry, entry_before}
use Rattle.swp_crc.specs.declared.table.TheConstants.{ENTRIES}

byte_checks : agree_below (λ b. eqb (spelled_number (bits_of_byte b)) b) (λ b. true) 256 ≡ true
unfolding bits_of_byte
byte_checks = refl

pub number_of_byte : (b : ℕ) → b < 256 → spelled_number (bits_of_byte b) ≡ b
number_of_byte b h = eqb-true _ _ (agree_below_at (λ n. eqb (spelled_number (bits_of_byte n)) n) (λ n. true) 256 b byte_checks h)

entry_checks : agree_below (λ b. eqb (get_or ENTRIES b 0) (table_entry b)) (λ b. true) 256 ≡ true
unfolding bits_of_byte
entry_checks = refl

pub entries_are : (b : ℕ) → b < 256 → get_or ENTRIES b 0 ≡ table_entry b
entries_are b h = eqb-true _ _ (agree_below_at (λ n. eqb (get_or ENTRIES n 0) (table_entry n)) (λ n. true) 256 b entry_checks h)

checks_before_one : agree_below (λ b. eqb (get_or ENTRIES (256 + b) 0) (entry_before 1 b)) (λ b. true) 256 ≡ true
unfolding bits_of_byte
checks_before_one = refl

pub entries_before_one : (b : ℕ) → b < 256 → get_or ENTRIES (256 + b) 0 ≡ entry_before 1 b
entries_before_one b h = eqb-true _ _ (agree_below_at (λ n. eqb (get_or ENTRIES (256 + n) 0) (entry_before 1 n)) (λ n. true) 256 b checks_before_one h)

checks_before_two : agree_below (λ b. eqb (get_or ENTRIES (512 + b) 0) (entry_before 2 b)) (λ b. true) 256 ≡ true
unfolding bits_of_byte
checks_before_two = refl

pub entries_before_two : (b : ℕ) → b < 256 → get_or ENTRIES (512 + b) 0 ≡ entry_before 2 b
entries_before_two b h = eqb-true _ _ (agree_below_at (λ n. eqb (get_or ENTRIES (512 + n) 0) (entry_before 2 n)) (λ n. true) 256 b checks_before_two h)

checks_before_three : agree_below (λ b. eqb (get_or ENTRIES (768 + b) 0) (entry_before 3 b)) (λ b. true) 256 ≡ true
unfolding bits_of_byte
checks_before_three = refl

pub entries_before_three : (b : ℕ) → b < 256 → get_or ENTRIES (768 + b) 0 ≡ entry_before 3 b
entries_before_three b h = eqb-true _ _ (agree_below_at (λ n. eqb (get_or ENTRIES (768 + n) 0) (entry_before 3 n)) (λ n. true) 256 b checks_before_three h)
