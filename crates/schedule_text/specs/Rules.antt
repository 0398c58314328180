-- What may be wrong with the words of a line, by one rule over the kinds that its row in the table gives them.
use Rattle.std.specs.Prelude.{ℕ, ◌+◌, ◌==◌, ◌&&◌, ◌||◌, nat_le, nat_lt, Bool, true, false, not, if◌then◌else◌, List, [], ◌∷◌, length, Option, Some, None}
use Rattle.std.specs.Prelude.{is_some, codes}
use Rattle.std.specs.List.{list_all, list_any}
use Rattle.std.specs.Option.{option_map, option_map_or, option_or}
use Rattle.std.specs.Str.{bytes_eq}
use Rattle.trace_model.specs.declared.line.End.{End}
use Rattle.schedule_text.specs.declared.fault.LineFault.{LineFault}
use Rattle.schedule_text.specs.declared.fault.LineFault.TheVariants as fault
use Rattle.schedule_text.specs.declared.forms.Kind.{Kind}
use Rattle.schedule_text.specs.declared.forms.Kind.TheVariants as kind
use Rattle.schedule_text.specs.Values.{byte_value, bytes_value, number_in, end_value, option_if}
use Rattle.schedule_text.specs.Forms.{FormRow}

-- a word and what it may be
pub record Slot : Type 0 where
  pub kind : Kind
  pub word : List ℕ

-- the kinds of the further words, behind one of kind k: the last kind stays
abbrev pub later : Kind → List Kind → List Kind
later k [] = k ∷ []
later k (j ∷ ks) = j ∷ ks

-- each word with its kind: the last kind is that of all further words
abbrev pub slots : List Kind → List (List ℕ) → List Slot
slots ks [] = []
slots [] (w ∷ ws) = []
slots (k ∷ ks) (w ∷ ws) = record { kind = k; word = w } ∷ slots (later k ks) ws

-- an end that may send: in `hci` the controller sends nothing by itself
abbrev pub is_sender : Bool → Option End → Bool
is_sender hci None = false
is_sender hci (Some e) = not hci || e.at_host

-- the fixed words, and the form of an end
abbrev pub has_shape : Bool → Kind → List ℕ → Bool
has_shape hci kind.Version word = bytes_eq word (codes "1")
has_shape hci kind.Bare word = bytes_eq word (codes "bare")
has_shape hci kind.Nodes word = bytes_eq word (codes "hci")
has_shape hci kind.End word = is_some (end_value word)
has_shape hci kind.Sender word = is_sender hci (end_value word)
has_shape hci kind.NewHost word = true
has_shape hci kind.Host word = true
has_shape hci kind.Node word = true
has_shape hci (kind.Byte below) word = true
has_shape hci (kind.Bytes low high) word = true
has_shape hci (kind.Number low high) word = true
has_shape hci (kind.Rising high) word = true

-- a byte below a number
abbrev pub has_byte : ℕ → Option ℕ → Bool
has_byte below None = false
has_byte below (Some b) = nat_lt b below

-- so many bytes
abbrev pub has_bytes : ℕ → ℕ → Option (List ℕ) → Bool
has_bytes low high None = false
has_bytes low high (Some bytes) = nat_le low (length bytes) && nat_le (length bytes) high

-- What a word of rising numbers or hosts is at least, behind this one. The numbers are those from `from` on.
abbrev pub rising : ℕ → Kind → List ℕ → ℕ
rising from kind.NewHost word = option_map_or (λ h. h + 1) (byte_value word) from
rising from (kind.Rising high) word = option_map_or (λ n. n + 1) (number_in from high word) from
rising from kind.Version word = from
rising from kind.Bare word = from
rising from kind.Nodes word = from
rising from kind.Host word = from
rising from kind.Node word = from
rising from kind.End word = from
rising from kind.Sender word = from
rising from (kind.Byte below) word = from
rising from (kind.Bytes low high) word = from
rising from (kind.Number low high) word = from

-- the digits of a word, and the range and the order of what they stand for
abbrev pub digits_fault : ℕ → ℕ → Kind → List ℕ → Option LineFault
digits_fault at from kind.Version word = None
digits_fault at from kind.Bare word = None
digits_fault at from kind.Nodes word = None
digits_fault at from kind.End word = None
digits_fault at from kind.Sender word = None
digits_fault at from kind.NewHost word = if is_some (byte_value word) then None else Some (fault.Hex at)
digits_fault at from kind.Host word = if is_some (byte_value word) then None else Some (fault.Hex at)
digits_fault at from kind.Node word = if is_some (byte_value word) then None else Some (fault.Hex at)
digits_fault at from (kind.Byte below) word = if has_byte below (byte_value word) then None else Some (fault.Hex at)
digits_fault at from (kind.Bytes low high) word = if has_bytes low high (bytes_value word) then None else Some (fault.Hex at)
digits_fault at from (kind.Number low high) word = if is_some (number_in low high word) then None else Some (fault.Number at)
digits_fault at from (kind.Rising high) word = if is_some (number_in from high word) then None else Some (fault.Number at)

-- the first word with wrong digits, where the first of these is word `at` of its line
abbrev pub first_digits_fault : ℕ → ℕ → List Slot → Option LineFault
first_digits_fault at from [] = None
first_digits_fault at from (s ∷ ss) =
    option_or (digits_fault at from s.kind s.word) (first_digits_fault (at + 1) (rising from s.kind s.word) ss)

-- the host, if it isn't in the header
abbrev pub stranger : List ℕ → Option ℕ → Option ℕ
stranger hosts host = option_if (λ h. not (list_any (λ known. known == h) hosts)) host

-- the node, if it is neither the controller nor a host in the header
abbrev pub no_node : List ℕ → Option ℕ → Option ℕ
no_node hosts node = option_if (λ n. not (n == 0 || list_any (λ known. known == n) hosts)) node

-- a host that a word names and that isn't in the header; in a header one that isn't 01 to 07 or not above the one before
abbrev pub host_fault : List ℕ → ℕ → Kind → List ℕ → Option ℕ
host_fault hosts from kind.NewHost word = option_if (λ h. not (nat_lt 0 h && (nat_le from h && nat_le h 7))) (byte_value word)
host_fault hosts from kind.End word = stranger hosts (option_map (λ e. e.link) (end_value word))
host_fault hosts from kind.Sender word = stranger hosts (option_map (λ e. e.link) (end_value word))
host_fault hosts from kind.Host word = stranger hosts (byte_value word)
host_fault hosts from kind.Node word = no_node hosts (byte_value word)
host_fault hosts from kind.Version word = None
host_fault hosts from kind.Nodes word = None
host_fault hosts from kind.Bare word = None
host_fault hosts from (kind.Byte below) word = None
host_fault hosts from (kind.Bytes low high) word = None
host_fault hosts from (kind.Number low high) word = None
host_fault hosts from (kind.Rising high) word = None

-- the first such host
abbrev pub first_host_fault : List ℕ → ℕ → List Slot → Option ℕ
first_host_fault hosts from [] = None
first_host_fault hosts from (s ∷ ss) =
    option_or (host_fault hosts from s.kind s.word) (first_host_fault hosts (rising from s.kind s.word) ss)

-- the number of words and their shapes
abbrev pub is_well_formed : Bool → FormRow → List (List ℕ) → Bool
is_well_formed hci row ws =
    nat_le row.least (length ws) && (nat_le (length ws) row.most && list_all (λ s. has_shape hci s.kind s.word) (slots row.kinds ws))

-- what is wrong with the words behind the first one, in this order: number and shapes, digits, hosts
abbrev pub words_fault : Bool → List ℕ → FormRow → List (List ℕ) → Option LineFault
words_fault hci hosts row ws =
    if is_well_formed hci row ws
    then option_or (first_digits_fault 2 0 (slots row.kinds ws)) (option_map fault.Host (first_host_fault hosts 0 (slots row.kinds ws)))
    else Some fault.Word
