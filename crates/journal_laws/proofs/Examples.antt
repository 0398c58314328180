-- The definitions compute the worked examples.
use Rattle.std.proofs.Common.{◌≡◌, refl, ℕ, List, [], ◌∷◌, true, false}
use Rattle.journal_laws.specs.Records.{found_from}
use Rattle.journal_laws.specs.Journal.{found_in}
use Rattle.journal_laws.specs.Operations.{bank_bytes}

abbrev synced : List ℕ
synced = 6 ∷ 2 ∷ 26 ∷ 43 ∷ []

abbrev opened : List ℕ
opened = 4 ∷ 2 ∷ 1 ∷ 1 ∷ []

-- a bank of version 01
abbrev old_bank : List ℕ → List ℕ
old_bank rest = 90 ∷ 1 ∷ 0 ∷ 0 ∷ 0 ∷ 1 ∷ 0 ∷ 0 ∷ 0 ∷ 0 ∷ 0 ∷ 0 ∷ 90 ∷ 4 ∷ 6 ∷ 2 ∷ 26 ∷ 43 ∷ 90 ∷ 4 ∷ 4 ∷ 2 ∷ 1 ∷ 1 ∷ rest

old_bank_is_read : found_in 1 (old_bank (255 ∷ [])) ≡ record { bodies = synced ∷ opened ∷ []; size = 12; is_bad = false }
unfolding found_from
old_bank_is_read = refl

-- a record of 62 bytes at place 24 of the bank
long_record_is_bad : found_in 1 (old_bank (90 ∷ 62 ∷ [])) ≡ record { bodies = synced ∷ opened ∷ []; size = 12; is_bad = true }
unfolding found_from
long_record_is_bad = refl

-- a bank of version 02
abbrev new_bank : ℕ → List ℕ
new_bank index = 90 ∷ 2 ∷ 0 ∷ 0 ∷ 0 ∷ 1 ∷ 0 ∷ 0 ∷ 0 ∷ 0 ∷ 0 ∷ 0 ∷ 90 ∷ 4 ∷ 0 ∷ 0 ∷ 6 ∷ 2 ∷ 26 ∷ 43 ∷ 90 ∷ 4 ∷ 0 ∷ index ∷ 4 ∷ 2 ∷ 1 ∷ 1 ∷ 255 ∷ []

new_bank_is_read : found_in 2 (new_bank 1) ≡ record { bodies = synced ∷ opened ∷ []; size = 16; is_bad = false }
unfolding found_from
new_bank_is_read = refl

-- an index that is not the position
wrong_index_is_bad : found_in 2 (new_bank 0) ≡ record { bodies = synced ∷ []; size = 8; is_bad = true }
unfolding found_from
wrong_index_is_bad = refl

-- the second bank after a compaction of the old one
snapshot_is_written : bank_bytes 2 2 (synced ∷ opened ∷ [])
    ≡ 2 ∷ 0 ∷ 0 ∷ 0 ∷ 2 ∷ 0 ∷ 0 ∷ 0 ∷ 2 ∷ 0 ∷ 2 ∷ 90 ∷ 4 ∷ 0 ∷ 0 ∷ 6 ∷ 2 ∷ 26 ∷ 43 ∷ 90 ∷ 4 ∷ 0 ∷ 1 ∷ 4 ∷ 2 ∷ 1 ∷ 1 ∷ 255 ∷ []
snapshot_is_written = refl
