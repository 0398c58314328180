use Rattle.std.proofs.Common.{w16, w32}
use Rattle.nv_journal.proofs.Words.{Head, List, Side, [], ap, ap₂, arith, bank, bank_place, drop, from_be_bytes, length, refl, slice_index, slice_range, sym}
use Rattle.nv_journal.proofs.Words.{take, take-take, ℕ, ◌+◌, ◌-◌, ◌∙◌, ◌∷◌, ◌≡◌}
use Rattle.journal_laws.specs.Banks.{head_of}
use Rattle.nv_journal.proofs.heads.read_head.Goals as goal

-- The head that is read of a bank.
-- the head, byte by byte
abbrev head_by_bytes : List ℕ → Head
head_by_bytes x = record {
  gate = slice_index x 0;
  version = slice_index x 1;
  generation = from_be_bytes w32 (slice_index x 2 ∷ slice_index x 3 ∷ slice_index x 4 ∷ slice_index x 5 ∷ []);
  base = from_be_bytes w32 (slice_index x 6 ∷ slice_index x 7 ∷ slice_index x 8 ∷ slice_index x 9 ∷ []);
  snapshot = from_be_bytes w16 (slice_index x 10 ∷ slice_index x 11 ∷ []);
}

head_of_twelve : (x : List ℕ) → length x ≡ 12 → head_by_bytes x ≡ head_of x
head_of_twelve [] size = absurd (omega arith)
head_of_twelve (a ∷ []) size = absurd (omega arith)
head_of_twelve (a ∷ b ∷ []) size = absurd (omega arith)
head_of_twelve (a ∷ b ∷ c ∷ []) size = absurd (omega arith)
head_of_twelve (a ∷ b ∷ c ∷ d ∷ []) size = absurd (omega arith)
head_of_twelve (a ∷ b ∷ c ∷ d ∷ e ∷ []) size = absurd (omega arith)
head_of_twelve (a ∷ b ∷ c ∷ d ∷ e ∷ f ∷ []) size = absurd (omega arith)
head_of_twelve (a ∷ b ∷ c ∷ d ∷ e ∷ f ∷ g ∷ []) size = absurd (omega arith)
head_of_twelve (a ∷ b ∷ c ∷ d ∷ e ∷ f ∷ g ∷ h ∷ []) size = absurd (omega arith)
head_of_twelve (a ∷ b ∷ c ∷ d ∷ e ∷ f ∷ g ∷ h ∷ i ∷ []) size = absurd (omega arith)
head_of_twelve (a ∷ b ∷ c ∷ d ∷ e ∷ f ∷ g ∷ h ∷ i ∷ j ∷ []) size = absurd (omega arith)
head_of_twelve (a ∷ b ∷ c ∷ d ∷ e ∷ f ∷ g ∷ h ∷ i ∷ j ∷ k ∷ []) size = absurd (omega arith)
head_of_twelve (a ∷ b ∷ c ∷ d ∷ e ∷ f ∷ g ∷ h ∷ i ∷ j ∷ k ∷ l ∷ []) size = refl
head_of_twelve (a ∷ b ∷ c ∷ d ∷ e ∷ f ∷ g ∷ h ∷ i ∷ j ∷ k ∷ l ∷ m ∷ n) size = absurd (omega arith)

-- the first bytes of a bank, in the memory
head_bytes : (content : List ℕ) (side : Side) (at : ℕ) → at ≡ bank_place side → slice_range content at (at + 12) ≡ take 12 (bank content side)
head_bytes content side at is =
    ap (λ n. take n (drop at content)) (twelve at)
    ∙ sym (take-take 12 32768 (drop at content) (omega arith))
    ∙ ap (λ p. take 12 (take 32768 (drop p content))) is
  where
    twelve : (n : ℕ) → n + 12 - n ≡ 12
    twelve n = omega arith

-- a head, by the numbers that were read of its bytes
read_fields : (x : List ℕ) (generation base snapshot : ℕ) → generation ≡ (head_by_bytes x).generation → base ≡ (head_by_bytes x).base
    → snapshot ≡ (head_by_bytes x).snapshot
    → record { gate = slice_index x 0; version = slice_index x 1; generation = generation; base = base; snapshot = snapshot } ≡ head_by_bytes x
read_fields x generation base snapshot g b s =
    ap (λ n. record { gate = slice_index x 0; version = slice_index x 1; generation = n; base = base; snapshot = snapshot }) g
    ∙ ap₂ (λ m n. record (head_by_bytes x) { base = m; snapshot = n }) b s

pub returns-clause-head : goal.returns-clause-head
returns-clause-head g c = λ tells.
    let bytes = c.read.new.buf in
    let is = c.in_ok-read.ensures.read tells ∙ head_bytes (g.N.Nv.content c.args.nv.now) c.args.side c.place.result c.place.ensures in
    read_fields bytes c.from_be_bytes.result c.from_be_bytes-2.result c.from_be_bytes-3.result c.from_be_bytes.ensures c.from_be_bytes-2.ensures
    c.from_be_bytes-3.ensures
    ∙ head_of_twelve bytes c.read.auto.buf ∙ ap head_of is
