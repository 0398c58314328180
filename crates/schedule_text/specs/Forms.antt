-- The table of the forms of lines.
use Rattle.std.specs.Prelude.{ℕ, ◌==◌, ◌&&◌, ◌||◌, Bool, false, List, [], ◌∷◌, length, slice_get, Option, Some, None, codes, find}
use Rattle.std.specs.Str.{bytes_eq}
use Rattle.schedule_text.specs.declared.forms.Form.{Form}
use Rattle.schedule_text.specs.declared.forms.Name.{Name}
use Rattle.schedule_text.specs.declared.forms.Name.TheVariants as name
use Rattle.schedule_text.specs.declared.forms.Place.{Place}
use Rattle.schedule_text.specs.declared.forms.Place.TheVariants as place
use Rattle.schedule_text.specs.declared.forms.Kind.{Kind}
use Rattle.schedule_text.specs.declared.forms.Kind.TheVariants as kind

-- the first word, the third one where another row has the same first word, which line it is, where it may stand, the kinds of the
-- words behind the first one (the last kind is that of all further words), and how many of them there are at least and at most
pub record FormRow : Type 0 where
  pub first : List ℕ
  pub third : List ℕ
  pub name : Name
  pub place : Place
  pub kinds : List Kind
  pub least : ℕ
  pub most : ℕ

-- a row as the program keeps it
abbrev pub row_of_form : Form → FormRow
row_of_form form =
    record {
      first = form.first.now;
      third = form.third.now;
      name = form.name;
      place = form.place;
      kinds = form.kinds.now;
      least = form.least;
      most = form.most;
    }

abbrev form_row : List ℕ → Name → Place → List Kind → ℕ → ℕ → FormRow
form_row first name place kinds least most =
    record { first = first; third = []; name = name; place = place; kinds = kinds; least = least; most = most }

-- `swp 1 bare H`
abbrev pub header_row : FormRow
header_row = form_row (codes "swp") name.Header place.First (kind.Version ∷ kind.Bare ∷ kind.NewHost ∷ []) 3 3

-- `swp 1 hci H..`: the hosts rise, so that there are seven at most
abbrev pub nodes_row : FormRow
nodes_row =
    record {
      first = codes "swp";
      third = codes "hci";
      name = name.NodesHeader;
      place = place.First;
      kinds = kind.Version ∷ kind.Nodes ∷ kind.NewHost ∷ [];
      least = 3;
      most = 9000;
    }

-- `send E PID HEX`
abbrev pub send_row : FormRow
send_row = form_row (codes "send") name.Send place.Below (kind.Sender ∷ kind.Byte 112 ∷ kind.Bytes 1 4500 ∷ []) 3 3

-- `deliver E`, `deliver E N`
abbrev pub deliver_row : FormRow
deliver_row = form_row (codes "deliver") name.Deliver place.Below (kind.End ∷ kind.Number 1 64 ∷ []) 1 2

-- `lose E`
abbrev pub lose_row : FormRow
lose_row = form_row (codes "lose") name.Lose place.Below (kind.End ∷ []) 1 1

-- `damage E P..`
abbrev pub damage_row : FormRow
damage_row = form_row (codes "damage") name.Damage place.Below (kind.End ∷ kind.Rising 399 ∷ []) 2 17

-- `tick`, `tick N`
abbrev pub tick_row : FormRow
tick_row = form_row (codes "tick") name.Tick place.Below (kind.Number 1 100 ∷ []) 0 1

-- `reset E`, `reset E W`
abbrev pub reset_row : FormRow
reset_row = form_row (codes "reset") name.Reset place.Below (kind.End ∷ kind.Number 1 4 ∷ []) 1 2

-- `busy E`, `ready E`
abbrev pub busy_row : FormRow
busy_row = form_row (codes "busy") name.Busy place.BelowBare (kind.End ∷ []) 1 1

abbrev pub ready_row : FormRow
ready_row = form_row (codes "ready") name.Ready place.BelowBare (kind.End ∷ []) 1 1

-- `boot NODE`, `cut NODE`
abbrev pub boot_row : FormRow
boot_row = form_row (codes "boot") name.Boot place.BelowNodes (kind.Node ∷ []) 1 1

abbrev pub cut_row : FormRow
cut_row = form_row (codes "cut") name.Cut place.BelowNodes (kind.Node ∷ []) 1 1

-- `activate H SYNC POWER`
abbrev pub activate_row : FormRow
activate_row = form_row (codes "activate") name.Activate place.BelowNodes (kind.Host ∷ kind.Bytes 2 2 ∷ kind.Byte 2 ∷ []) 3 3

-- `arm NODE K FILL`
abbrev pub arm_row : FormRow
arm_row = form_row (codes "arm") name.Arm place.BelowNodes (kind.Node ∷ kind.Number 1 1000 ∷ kind.Bytes 1 64 ∷ []) 3 3

-- `init E IDENTITY TRIPLE..`
abbrev pub init_row : FormRow
init_row = form_row (codes "init") name.Init place.BelowNodes (kind.Sender ∷ kind.Bytes 8 8 ∷ kind.Bytes 3 3 ∷ []) 2 10

-- `tables NODE`
abbrev pub tables_row : FormRow
tables_row = form_row (codes "tables") name.Tables place.BelowNodes (kind.Node ∷ []) 1 1

-- `settle N`
abbrev pub settle_row : FormRow
settle_row = form_row (codes "settle") name.Settle place.Below (kind.Number 1 20000 ∷ []) 1 1

abbrev pub rows : List FormRow
rows =
    nodes_row ∷ header_row ∷ send_row ∷ deliver_row ∷ lose_row ∷ damage_row ∷ tick_row ∷ reset_row ∷ busy_row ∷ ready_row ∷ boot_row ∷ cut_row
    ∷ activate_row ∷ arm_row ∷ init_row ∷ tables_row ∷ settle_row ∷ []

-- whether a line has this third word, the words behind its first one being these; no word stands for any
abbrev pub is_word : List ℕ → Option (List ℕ) → Bool
is_word wanted None = false
is_word wanted (Some word) = bytes_eq word wanted

abbrev pub has_third : List ℕ → List (List ℕ) → Bool
has_third wanted ws = length wanted == 0 || is_word wanted (slice_get ws 1)

-- the row of a line, by its first word and those behind it
abbrev pub row_in : List FormRow → List ℕ → List (List ℕ) → Option FormRow
row_in table first ws = find (λ r. bytes_eq r.first first && has_third r.third ws) table

abbrev pub row_for : List ℕ → List (List ℕ) → Option FormRow
row_for first ws = row_in rows first ws
