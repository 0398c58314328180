-- Small wrong memories don't keep the commands of a run: one for each fact of `FindsBehind`, of which the others hold.
use Rattle.std.proofs.Common.{true≢false}
use Rattle.lone_laws.proofs.Words.{Bool, Command, Counts, FindsBehind, FindsTables, HciTables, IsKeptIn, IsReadyMemory, List, None, [], ap, arith, close, false}
use Rattle.lone_laws.proofs.Words.{inl, inr, leb-true, length, refl, replicate, subst, sym, tables_of, true, ℕ, ◌++◌, ◌∷◌, ◌≡◌}
use Rattle.hci_tables.specs.declared.command.Command.TheVariants as command
use Rattle.journal_laws.specs.Records.{found_from}
use Rattle.hci_store.specs.Image.{image_fault}

-- a memory that says nothing
abbrev blank : List ℕ
blank = replicate 65536 255

no_syncs : HciTables → Bool
no_syncs t = none t.syncs where
  none : {X : Type 0} → List X → Bool
  none [] = true
  none (x ∷ xs) = false

-- the head of a bank: its version, how many commands came before it, and how many of its records are of its snapshot
abbrev head : ℕ → ℕ → ℕ → List ℕ
head version base snapshot = 90 ∷ version ∷ 0 ∷ 0 ∷ 0 ∷ 1 ∷ 0 ∷ 0 ∷ 0 ∷ base ∷ 0 ∷ snapshot ∷ []

-- a bank with that alone
abbrev bank : ℕ → ℕ → ℕ → List ℕ
bank version base snapshot = head version base snapshot ++ replicate 65524 255

-- ## Other tables

-- a bank with one record, of an identifier, which is said to be of its snapshot: so no command is counted
abbrev other_record : List ℕ
other_record = head 2 0 1 ++ 90 ∷ 4 ∷ 0 ∷ 0 ∷ 6 ∷ 2 ∷ 0 ∷ 1 ∷ 255 ∷ replicate 65515 255

finds_another : IsKeptIn false blank [] other_record → ⊥
unfolding found_from no_syncs
finds_another k = true≢false (sym (ap no_syncs k.finds.tables_are))

another_is_ready : IsReadyMemory other_record × Counts other_record 0
unfolding found_from image_fault
another_is_ready = grind arith

-- ## Another count

abbrev other_count : List ℕ
other_count = bank 2 5 0

counts_more : IsKeptIn false blank [] other_count → ⊥
unfolding found_from
counts_more k = let same : 5 ≡ 0 = (k.counts (grind arith)).count_is in omega (arith, same)

count_alone : FindsTables other_count (close (tables_of blank))
unfolding found_from image_fault
count_alone = record { ready = record { size = leb-true 65536 (length other_count) refl; sound = refl; version = refl }; tables_are = refl }

-- ## Another version

abbrev other_version : List ℕ
other_version = bank 1 0 0

is_of_version_01 : IsKeptIn false blank [] other_version → ⊥
unfolding found_from
is_of_version_01 k = let same : 1 ≡ 2 = k.finds.ready.version in omega (arith, same)

version_alone : (image_fault other_version ≡ None) × (close (tables_of other_version) ≡ close (tables_of blank)) × Counts other_version 0
unfolding found_from image_fault
version_alone = grind arith

-- ## Power

abbrev one : Command
one = command.Sync 2 1

abbrev two : Command
two = command.Sync 2 2

-- a node that runs has lost none of its commands
none_is_lost : IsKeptIn false blank (one ∷ []) blank → ⊥
unfolding found_from no_syncs
none_is_lost k = true≢false (ap no_syncs k.finds.tables_are)

-- one whose power went may have lost the last one, and no more
last_is_lost : IsKeptIn true blank (one ∷ []) blank
unfolding found_from image_fault
last_is_lost = inr (record {
  front = [];
  last = one;
  are = refl;
  finds = record {
    finds = record { ready = record { size = leb-true 65536 (length blank) refl; sound = refl; version = refl }; tables_are = refl };
    counts = λ all. record { all = all; count_is = refl };
  };
})

too_many : (c d last : Command) (front : List Command) → (one ∷ two ∷ []) ≡ c ∷ d ∷ (front ++ last ∷ []) → ⊥
too_many c d last [] is = cc is
too_many c d last (x ∷ front) is = cc is

two_are_lost : IsKeptIn true blank (one ∷ two ∷ []) blank → ⊥
unfolding found_from no_syncs
two_are_lost (inl all) = true≢false (ap no_syncs all.finds.tables_are)
two_are_lost (inr less) = by less.front less.are less.finds where
  by : (front : List Command) → (one ∷ two ∷ []) ≡ front ++ (less.last ∷ []) → FindsBehind blank front blank → ⊥
  by [] is finds = absurd (cc is)
  by (c ∷ []) is finds =
      let lost : FindsBehind blank (one ∷ []) blank = subst (λ x. FindsBehind blank (x ∷ []) blank) (sym cc) finds in
      true≢false (ap no_syncs lost.finds.tables_are)
  by (c ∷ d ∷ front) is finds = too_many c d less.last front is
