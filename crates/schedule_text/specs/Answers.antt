-- What a reader answers beside the definition: want of memory, where the line has no fault.
use Rattle.std.specs.Prelude.{◌≡◌, ◌≢◌, ◌≤◌, ◌⊎◌, false, List, [], ◌∷◌, ℕ, length, IsTrue, codes, Option, Some, None, Result, Ok, IsSome}
use Rattle.std.specs.Prelude.{IfSome, IsSomeAnd, IsOkAnd}
use Rattle.schedule_text.specs.declared.fault.LineFault.{LineFault}
use Rattle.schedule_text.specs.declared.forms.Name.{Name}
use Rattle.schedule_text.specs.declared.forms.Name.TheVariants as name
use Rattle.schedule_text.specs.declared.read.Read.{Read}
use Rattle.schedule_text.specs.declared.read.Read.TheVariants as read
use Rattle.schedule_text.specs.Lines.{bytes_in_word, is_comment}
use Rattle.trace_model.specs.declared.line.Header.{Header}
use Rattle.trace_model.specs.declared.line.Line.TheVariants as line
use Rattle.trace_model.specs.Lines.{MayBegin, MayFollow}

-- what must be known of the words of a line before they are read: the third of `send` is a message, and there are no more hosts,
-- places, bytes and pipes than a line keeps
abbrev pub CanBeRead : Name → List (List ℕ) → Type 0
CanBeRead name.Send ws = IsSome (bytes_in_word ws 2)
CanBeRead name.Damage ws = length ws ≤ 17
CanBeRead name.NodesHeader ws = length ws ≤ 9
CanBeRead name.Arm ws = IfSome (bytes_in_word ws 2) (λ bytes. length bytes ≤ 64)
CanBeRead name.Init ws = length ws ≤ 10
CanBeRead name.Header ws = Unit {0}
CanBeRead name.Deliver ws = Unit {0}
CanBeRead name.Lose ws = Unit {0}
CanBeRead name.Tick ws = Unit {0}
CanBeRead name.Reset ws = Unit {0}
CanBeRead name.Busy ws = Unit {0}
CanBeRead name.Ready ws = Unit {0}
CanBeRead name.Boot ws = Unit {0}
CanBeRead name.Cut ws = Unit {0}
CanBeRead name.Activate ws = Unit {0}
CanBeRead name.Tables ws = Unit {0}
CanBeRead name.Settle ws = Unit {0}

-- a line with a message, which takes memory
abbrev pub TakesMemory : Read → Type 0
TakesMemory (read.Line (line.Send at pid message)) = Unit {0}
TakesMemory r = ⊥

-- what was said, or want of memory for a line with a message
abbrev pub IsSaidOrNoMemory : Option Read → Option Read → Type 0
IsSaidOrNoMemory answer said = (answer ≡ said) ⊎ ((answer ≡ Some read.NoMemory) × IsSomeAnd said TakesMemory)

-- what was read, or want of memory for a line with a message
abbrev pub IsReadOrNoMemory : Result Read LineFault → Result Read LineFault → Type 0
IsReadOrNoMemory answer said = (answer ≡ said) ⊎ ((answer ≡ Ok read.NoMemory) × IsOkAnd said TakesMemory)

-- what may come of a line: first a header, below it lines of that world
abbrev pub IsInGrammar : Option Header → Read → Type 0
IsInGrammar None (read.Header header) = MayBegin header
IsInGrammar None (read.Line said) = ⊥
IsInGrammar (Some header) (read.Line said) = MayFollow header said
IsInGrammar (Some header) (read.Header other) = ⊥
IsInGrammar header read.Skip = Unit {0}
IsInGrammar header read.NoMemory = Unit {0}

-- no word, or a comment
abbrev pub IsSkipped : List (List ℕ) → Type 0
IsSkipped [] = Unit {0}
IsSkipped (first ∷ ws) = IsTrue (is_comment first)

-- the first word of a line that no header `hci` allows
abbrev pub IsBareForm : List ℕ → Type 0
IsBareForm first = (first ≡ codes "busy") ⊎ (first ≡ codes "ready")

-- and of one that no header `bare` allows
abbrev pub IsNodeForm : List ℕ → Type 0
IsNodeForm first =
    (first ≡ codes "boot") ⊎ (first ≡ codes "cut") ⊎ (first ≡ codes "activate") ⊎ (first ≡ codes "arm") ⊎ (first ≡ codes "init") ⊎ (first ≡ codes "tables")

-- a first line that isn't a header; below a header another one, or a line that this header doesn't allow
abbrev pub IsOutOfOrder : Option Header → List (List ℕ) → Type 0
IsOutOfOrder header [] = ⊥
IsOutOfOrder None (first ∷ ws) = ¬ IsTrue (is_comment first) × (first ≢ codes "swp")
IsOutOfOrder (Some header) (first ∷ ws) =
    (first ≡ codes "swp") ⊎ (IsTrue header.hci × IsBareForm first) ⊎ ((header.hci ≡ false) × IsNodeForm first)
