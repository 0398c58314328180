-- Text that grows at the end of a vector until memory runs out.
use Rattle.std.specs.Prelude.{◌≡◌, ◌≤◌, ℕ, false, List, ◌++◌, length, take}
use Rattle.schedule_text.specs.declared.text.Text.{Text}
use Rattle.schedule_text.specs.Words.{spaced}

-- what stands there before a text, and how many bytes of it stand there in any case
pub record Start : Type 0 where
  pub mark : ℕ
  pub before : List ℕ

-- before anything is appended
abbrev pub start_in : List ℕ → Start
start_in items = record { mark = length items; before = items }

-- what is seen of a transcript
pub record Gathered : Type 0 where
  pub items : List ℕ

-- all that stands there, what waits too
abbrev pub all_text : Text → List ℕ
all_text t = t.bytes.items ++ t.waiting.items

-- Behind what stood there before stands the text, unless memory ran out. What stood in front of the mark stands there in any case.
pub record HoldsText (start : Start) (text : List ℕ) (t : Text) : Type 0 where
  pub whole : t.short ≡ false → all_text t ≡ start.before ++ text
  pub mark_is : t.mark ≡ start.mark
  pub marked : start.mark ≤ length (all_text t)
  pub within : start.mark ≤ length (start.before ++ text)
  pub kept : take start.mark (all_text t) ≡ take start.mark (start.before ++ text)

-- the same of words with one space between them
abbrev pub HoldsWords : Start → List (List ℕ) → Text → Type 0
HoldsWords start ws t = HoldsText start (spaced ws) t
