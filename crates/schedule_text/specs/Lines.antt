-- A line of a schedule: what it says, or what is wrong with it.
use Rattle.std.specs.Prelude.{ℕ, ◌==◌, nat_lt, Bool, true, false, not, if◌then◌else◌, List, [], ◌∷◌, length, drop, slice_get, slice_index, Option, Some, None}
use Rattle.std.specs.Prelude.{is_some, Result, Ok, Err}
use Rattle.std.specs.Option.{option_and_then, option_map_or, ok_or}
use Rattle.trace_model.specs.declared.line.End.{End}
use Rattle.trace_model.specs.declared.line.Header.{Header}
use Rattle.trace_model.specs.declared.line.Line.TheVariants as line
use Rattle.schedule_text.specs.declared.fault.LineFault.{LineFault}
use Rattle.schedule_text.specs.declared.fault.LineFault.TheVariants as fault
use Rattle.schedule_text.specs.declared.read.Read.{Read}
use Rattle.schedule_text.specs.declared.read.Read.TheVariants as read
use Rattle.schedule_text.specs.declared.forms.Name.{Name}
use Rattle.schedule_text.specs.declared.forms.Name.TheVariants as name
use Rattle.schedule_text.specs.declared.forms.Place.{Place}
use Rattle.schedule_text.specs.declared.forms.Place.TheVariants as place
use Rattle.schedule_text.specs.Words.{words}
use Rattle.schedule_text.specs.Values.{byte_value, bytes_value, sized_value, two_bytes_value, number_in, end_value}
use Rattle.schedule_text.specs.Forms.{FormRow, row_for}
use Rattle.schedule_text.specs.Rules.{words_fault}

infixl 10 ◌>>=◌
abbrev pub ◌>>=◌ : {A B : Type 0} → Option A → (A → Option B) → Option B
o >>= f = option_and_then f o

-- what word k says, counted from 0
abbrev pub end_at : List (List ℕ) → ℕ → Option End
end_at ws k = slice_get ws k >>= end_value

abbrev pub byte_in_word : List (List ℕ) → ℕ → Option ℕ
byte_in_word ws k = slice_get ws k >>= byte_value

abbrev pub bytes_in_word : List (List ℕ) → ℕ → Option (List ℕ)
bytes_in_word ws k = slice_get ws k >>= bytes_value

-- a number from 1 to `high`; none also where there is no such word
abbrev pub number_at : ℕ → List (List ℕ) → ℕ → Option ℕ
number_at high ws k = slice_get ws k >>= number_in 1 high

-- places of bits
abbrev pub bit_places : List (List ℕ) → Option (List ℕ)
bit_places [] = Some []
bit_places (word ∷ ws) = do
  place ← number_in 0 399 word
  places ← bit_places ws
  Some (place ∷ places)

-- what each word says, if each says something
abbrev pub each_word : {A : Type 0} → (List ℕ → Option A) → List (List ℕ) → Option (List A)
each_word read [] = Some []
each_word read (word ∷ ws) = do
  x ← read word
  xs ← each_word read ws
  Some (x ∷ xs)

-- what the words behind the first say
abbrev pub read_of : Name → List (List ℕ) → Option Read
read_of name.Header ws = do
  host ← byte_in_word ws 2
  Some (read.Header (record { hci = false; hosts = record { items = host ∷ [] } }))
read_of name.NodesHeader ws = do
  hosts ← each_word byte_value (drop 2 ws)
  Some (read.Header (record { hci = true; hosts = record { items = hosts } }))
read_of name.Send ws = do
  at ← end_at ws 0
  pid ← byte_in_word ws 1
  message ← bytes_in_word ws 2
  Some (read.Line (line.Send at pid message))
read_of name.Deliver ws = do
  at ← end_at ws 0
  Some (read.Line (line.Deliver at (number_at 64 ws 1)))
read_of name.Lose ws = do
  at ← end_at ws 0
  Some (read.Line (line.Lose at))
read_of name.Damage ws = do
  at ← end_at ws 0
  places ← bit_places (drop 1 ws)
  Some (read.Line (line.Damage at (record { items = places })))
read_of name.Tick ws = Some (read.Line (line.Tick (number_at 100 ws 0)))
read_of name.Reset ws = do
  at ← end_at ws 0
  Some (read.Line (line.Reset at (number_at 4 ws 1)))
read_of name.Busy ws = do
  at ← end_at ws 0
  Some (read.Line (line.Busy at))
read_of name.Ready ws = do
  at ← end_at ws 0
  Some (read.Line (line.Ready at))
read_of name.Boot ws = do
  node ← byte_in_word ws 0
  Some (read.Line (line.Boot node))
read_of name.Cut ws = do
  node ← byte_in_word ws 0
  Some (read.Line (line.Cut node))
read_of name.Activate ws = do
  host ← byte_in_word ws 0
  sync ← slice_get ws 1 >>= two_bytes_value
  power ← byte_in_word ws 2
  Some (read.Line (line.Activate host sync power))
read_of name.Arm ws = do
  node ← byte_in_word ws 0
  nth ← number_at 1000 ws 1
  fill ← bytes_in_word ws 2
  Some (read.Line (line.Arm node nth (record { items = fill })))
read_of name.Init ws = do
  at ← end_at ws 0
  identity ← slice_get ws 1 >>= sized_value 8
  pipes ← each_word (sized_value 3) (drop 2 ws)
  Some (read.Line (line.Init at identity (record { items = pipes })))
read_of name.Tables ws = do
  node ← byte_in_word ws 0
  Some (read.Line (line.Tables node))
read_of name.Settle ws = do
  rounds ← number_at 20000 ws 0
  Some (read.Line (line.Settle rounds))

-- whether a line may stand there
abbrev pub may_stand : Place → Option Header → Bool
may_stand place.First header = not (is_some header)
may_stand place.Below header = is_some header
may_stand place.BelowBare header = option_map_or (λ h. not h.hci) header false
may_stand place.BelowNodes header = option_map_or (λ h. h.hci) header false

-- whether the world has nodes, and its hosts
abbrev pub has_nodes : Option Header → Bool
has_nodes header = option_map_or (λ h. h.hci) header false

abbrev pub hosts_of : Option Header → List ℕ
hosts_of header = option_map_or (λ h. h.hosts.items) header []

-- the fault, or what the words say
abbrev pub unless_fault : Option LineFault → Option Read → Result Read LineFault
unless_fault (Some f) said = Err f
unless_fault None said = ok_or said fault.Word

-- a line by the row of its first word
abbrev pub by_row : Option Header → Option FormRow → List (List ℕ) → Result Read LineFault
by_row header None ws = Err (if is_some header then fault.Word else fault.Order)
by_row header (Some row) ws =
    if may_stand row.place header
    then unless_fault (words_fault (has_nodes header) (hosts_of header) row ws) (read_of row.name ws)
    else Err fault.Order

-- a comment begins with `#`
abbrev pub is_comment : List ℕ → Bool
is_comment word = slice_index word 0 == 35

-- a line by its words
abbrev pub by_words : Option Header → List (List ℕ) → Result Read LineFault
by_words header [] = Ok read.Skip
by_words header (first ∷ ws) = if is_comment first then Ok read.Skip else by_row header (row_for first ws) ws

-- a line below the header, or the first line where there is no header yet
abbrev pub line_of : Option Header → List ℕ → Result Read LineFault
line_of header bytes = if nat_lt 9000 (length bytes) then Err fault.TooLong else by_words header (words bytes)
