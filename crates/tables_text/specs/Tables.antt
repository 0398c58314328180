-- The text of a node's tables.
use Rattle.std.specs.Prelude.{ℕ, ◌/◌, ◌%◌, Bool, true, false, List, [], ◌∷◌, ◌++◌, length, codes}
use Rattle.std.specs.List.{flat_map}
use Rattle.std.specs.Fmt.{decimal}
use Rattle.hex.specs.Hex.{encode_upper}
use Rattle.pipe_table.specs.declared.row.PipeRow.{PipeRow}
use Rattle.registry.specs.declared.value.RegValue.{RegValue}
use Rattle.hci_tables.specs.Tables.{HciTables}

-- words with one space between them, and LF
abbrev pub line : List (List ℕ) → List ℕ
line [] = 10 ∷ []
line (word ∷ []) = word ++ 10 ∷ []
line (word ∷ next ∷ words) = word ++ (32 ∷ line (next ∷ words))

-- a byte as two hexadecimal digits, in upper case
abbrev pub byte_word : ℕ → List ℕ
byte_word byte = encode_upper (byte ∷ [])

-- bytes as pairs of hexadecimal digits; no bytes are a dash
abbrev pub hex_or_dash : List ℕ → List ℕ
hex_or_dash [] = codes "-"
hex_or_dash (byte ∷ bytes) = encode_upper (byte ∷ bytes)

-- how many lines of each kind follow
abbrev pub head_line : List ℕ → HciTables → List ℕ
head_line node t = line (
    codes "tables" ∷ node ∷ decimal (length t.rows) ∷ decimal (length t.statics) ∷ decimal (length t.values) ∷ decimal (length t.syncs) ∷ []
    )

-- one end of a pipe: its host and its gate
abbrev pub end_words : ℕ → ℕ → List ℕ
end_words host gate = byte_word host ++ (32 ∷ byte_word gate)

abbrev pub state_as_word : Bool → List ℕ
state_as_word true = codes "opened"
state_as_word false = codes "closed"

abbrev pub pipe_line : PipeRow → List ℕ
pipe_line row = line (
    codes "pipe" ∷ byte_word row.pid ∷ end_words row.creator row.creator_gate ∷ end_words row.dest row.dest_gate ∷ state_as_word row.opened ∷ []
    )

abbrev pub static_line : ℕ × ℕ → List ℕ
static_line static = line (codes "static" ∷ byte_word static.0 ∷ byte_word static.1 ∷ [])

-- the words of a line before the bytes of a value, a space behind each
abbrev pub value_words : ℕ → ℕ → ℕ → List ℕ
value_words host gate param = codes "reg" ++ (32 ∷ (byte_word host ++ (32 ∷ (byte_word gate ++ (32 ∷ (byte_word param ++ 32 ∷ []))))))

abbrev pub value_line : RegValue → List ℕ
value_line value = line (
    codes "reg" ∷ byte_word value.host ∷ byte_word value.gate ∷ byte_word value.param ∷ hex_or_dash value.value.items ∷ []
    )

abbrev pub sync_line : ℕ × ℕ → List ℕ
sync_line sync = line (codes "sync" ∷ byte_word sync.0 ∷ encode_upper (sync.1 / 256 ∷ sync.1 % 256 ∷ []) ∷ [])

-- the lines of the rows
abbrev pub rows_text : HciTables → List ℕ
rows_text t = flat_map pipe_line t.rows ++ flat_map static_line t.statics ++ flat_map value_line t.values ++ flat_map sync_line t.syncs

-- the tables of a node, which is told by this word
abbrev pub tables_text_of : List ℕ → HciTables → List ℕ
tables_text_of node t = head_line node t ++ rows_text t
