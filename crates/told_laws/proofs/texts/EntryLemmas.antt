-- Entries, and tables, with the same words are the same.
use Rattle.std.proofs.lemmas.Grind.{flat_map-append}
use Rattle.std.proofs.lemmas.Slice.Eq.{bytes_eq-Decides}
use Rattle.told_laws.proofs.Words.{All, AreOctets, AreSaidTables, Bool, Command, End, Entry, HciTables, Header, IfSome, IsByte, IsCause, IsEnd, IsEntry}
use Rattle.told_laws.proofs.Words.{IsLineSaid, IsNumber, IsSaidCommand, IsSaidPipe, IsSaidStatic, IsSaidSync, IsSaidValue, IsTwoBytes, Line, List}
use Rattle.told_laws.proofs.Words.{MayBegin, NoCause, None, Option, PipeRow, RegValue, Some, [], ap, append_assoc, arith, byte_again, byte_text, bytes_again}
use Rattle.told_laws.proofs.Words.{bytes_eq, cause_words, codes, command_words, cond, count_words, decimal, decimal_injective, encode_upper}
use Rattle.told_laws.proofs.Words.{end_again, end_text, end_words, entry_words, false, flat_map, header_words, hex_or_dash, length, length-append, length-hex}
use Rattle.told_laws.proofs.Words.{length-map, line_words, map, number_words, pipe_line, refl, rows_text, some_is, spaced, state_as_word}
use Rattle.told_laws.proofs.Words.{static_line, suc, sym, sync_line, true, two_bytes_text, value_line, ℕ, ◌%◌, ◌++◌, ◌/◌, ◌<◌, ◌∙◌, ◌∷◌, ◌≡◌}
use Rattle.schedule_text.specs.Values.{byte_value, bytes_value, end_value}
use Rattle.hci_tables.specs.declared.command.Command.TheVariants as command
use Rattle.swp_base.specs.declared.link_terms.Cause.TheVariants as why
use Rattle.tables_text.specs.Tables as told
use Rattle.trace_model.specs.declared.entry.Entry.TheVariants as entry
use Rattle.trace_model.specs.declared.entry.LostCause.TheVariants as lost
use Rattle.trace_model.specs.declared.entry.NoCause.TheVariants as cause
use Rattle.trace_model.specs.declared.line.Line.TheVariants as line

-- ## What says the same words is the same

-- other words
abbrev pub head : List (List ℕ) → List ℕ
head [] = []
head (w ∷ ws) = w

other_word : (u v : List ℕ) → bytes_eq u v ≡ false → u ≡ v → ⊥
other_word u v e h = let h0 = bytes_eq-Decides u v in grind arith

pub other_words : (xs ys : List (List ℕ)) → bytes_eq (head xs) (head ys) ≡ false → xs ≡ ys → ⊥
other_words xs ys e h = other_word (head xs) (head ys) e (ap head h)

same_end : (a b : End) → IsEnd a → IsEnd b → end_text a ≡ end_text b → a ≡ b
same_end a b ra rb h = some_is a b (sym (end_again a ra) ∙ ap end_value h ∙ end_again b rb)

same_byte : (a b : ℕ) → a < 256 → b < 256 → byte_text a ≡ byte_text b → a ≡ b
same_byte a b ra rb h = some_is a b (sym (byte_again a ra) ∙ ap byte_value h ∙ byte_again b rb)

same_bytes : (a b : List ℕ) → AreOctets a → AreOctets b → encode_upper a ≡ encode_upper b → a ≡ b
same_bytes a b ra rb h = some_is a b (sym (bytes_again a ra.1) ∙ ap bytes_value h ∙ bytes_again b rb.1)

same_number : (a b : ℕ) → IsNumber a → IsNumber b → decimal a ≡ decimal b → a ≡ b
same_number a b ra rb h = decimal_injective a b (omega arith) (omega arith) h

-- words of the same kind
same_map : {X Y : Type 0} (f : X → Y) (R : X → Type 0) → ((x y : X) → R x → R y → f x ≡ f y → x ≡ y) → (xs ys : List X) → All R xs → All R ys
    → map f xs ≡ map f ys → xs ≡ ys
same_map f R same [] [] rx ry h = refl
same_map f R same [] (y ∷ ys) rx ry h = cc
same_map f R same (x ∷ xs) [] rx ry h = cc
same_map f R same (x ∷ xs) (y ∷ ys) rx ry h =
    let first : x ≡ y = same x y (rx 0 x (omega arith)) (ry 0 y (omega arith)) cc in
    let more : xs ≡ ys = same_map f R same xs ys (λ k d within. rx (suc k) d (omega arith)) (λ k d within. ry (suc k) d (omega arith)) cc in cc

same_maybe : (a b : Option ℕ) → IfSome a IsNumber → IfSome b IsNumber → number_words a ≡ number_words b → a ≡ b
same_maybe None None ra rb h = refl
same_maybe None (Some n) ra rb h = cc
same_maybe (Some n) None ra rb h = cc
same_maybe (Some n) (Some m) ra rb h = ap Some (same_number n m ra rb cc)

two : (high low : ℕ) → high < 256 → low < 256 → AreOctets (high ∷ low ∷ [])
two high low a b = grind arith

same_two : (a b : ℕ) → IsTwoBytes a → IsTwoBytes b → two_bytes_text a ≡ two_bytes_text b → a ≡ b
same_two a b ra rb h =
    let bytes = same_bytes (a / 256 ∷ a % 256 ∷ []) (b / 256 ∷ b % 256 ∷ []) (two _ _ (omega arith) (omega arith)) (two _ _ (omega arith) (omega arith)) h in
    let high : a / 256 ≡ b / 256 = cc (bytes) in
    let low : a % 256 ≡ b % 256 = cc (bytes) in
    omega arith

same_cause : (a b : NoCause) → IsCause a → IsCause b → cause_words a ≡ cause_words b → a ≡ b
same_cause cause.Off cause.Off ra rb h = refl
same_cause cause.Running cause.Running ra rb h = refl
same_cause cause.Inactive cause.Inactive ra rb h = refl
same_cause cause.NotUp cause.NotUp ra rb h = refl
same_cause cause.Waiting cause.Waiting ra rb h = refl
same_cause cause.TooLong cause.TooLong ra rb h = refl
same_cause cause.Empty cause.Empty ra rb h = refl
same_cause (cause.Full n s) (cause.Full m t) ra rb h =
    let need : n ≡ m = same_number n m ra.0 rb.0 cc in
    let spare : s ≡ t = same_number s t ra.1 rb.1 cc in cc
same_cause (cause.Beyond n) (cause.Beyond m) ra rb h = ap cause.Beyond (same_number n m ra rb cc)
same_cause a b ra rb h = absurd (other_words (cause_words a) (cause_words b) refl h)

behind : (a b : List ℕ) (xs ys : List (List ℕ)) → a ∷ xs ≡ b ∷ ys → xs ≡ ys
behind a b xs ys h = cc

behind_two : (a b c d : List ℕ) (xs ys : List (List ℕ)) → a ∷ b ∷ xs ≡ c ∷ d ∷ ys → xs ≡ ys
behind_two a b c d xs ys h = cc

differ : (a b : ℕ) → a < 256 → b < 256 → a < b → byte_text a ≡ byte_text b → ⊥
differ a b ra rb less h = let same : a ≡ b = same_byte a b ra rb h in omega arith

same_flag : (a b : Bool) → byte_text (cond a 1 0) ≡ byte_text (cond b 1 0) → a ≡ b
same_flag true true h = refl
same_flag true false h = absurd (differ 0 1 (omega arith) (omega arith) (omega arith) (sym h))
same_flag false true h = absurd (differ 0 1 (omega arith) (omega arith) (omega arith) h)
same_flag false false h = refl

same_value : (xs ys : List ℕ) → All IsByte xs → All IsByte ys → hex_or_dash xs ≡ hex_or_dash ys → xs ≡ ys
same_value [] [] rx ry h = refl
same_value [] (y ∷ ys) rx ry h = let long = length-hex (y ∷ ys) in let one = ap length h in absurd (omega (arith, long, one))
same_value (x ∷ xs) [] rx ry h = let long = length-hex (x ∷ xs) in let one = ap length h in absurd (omega (arith, long, one))
same_value (x ∷ xs) (y ∷ ys) rx ry h = same_bytes (x ∷ xs) (y ∷ ys) (omega arith, rx) (omega arith, ry) h

same_row : (a b : PipeRow) → a.opened ≡ b.opened → a.pid ≡ b.pid → a.creator ≡ b.creator → a.creator_gate ≡ b.creator_gate → a.dest ≡ b.dest
    → a.dest_gate ≡ b.dest_gate → a ≡ b
same_row a b opened pid creator creator_gate dest dest_gate = grind arith

same_command : (a b : Command) → IsSaidCommand a → IsSaidCommand b → command_words a ≡ command_words b → a ≡ b
same_command (command.Create r) (command.Create s) ra rb h =
    let creator : r.creator ≡ s.creator = same_byte r.creator s.creator ra.1.creator rb.1.creator cc in
    let creator_gate : r.creator_gate ≡ s.creator_gate = same_byte r.creator_gate s.creator_gate ra.1.creator_gate rb.1.creator_gate cc in
    let dest : r.dest ≡ s.dest = same_byte r.dest s.dest ra.1.dest rb.1.dest cc in
    let dest_gate : r.dest_gate ≡ s.dest_gate = same_byte r.dest_gate s.dest_gate ra.1.dest_gate rb.1.dest_gate cc in
    ap command.Create (same_row r s (ra.0 ∙ sym rb.0) (same_byte r.pid s.pid ra.1.pid rb.1.pid cc) creator creator_gate dest dest_gate)
same_command (command.Delete p) (command.Delete q) ra rb h = ap command.Delete (same_byte p q ra rb cc)
same_command (command.Clear n) (command.Clear m) ra rb h = ap command.Clear (same_byte n m ra rb cc)
same_command (command.SetOpened n p o) (command.SetOpened m q u) ra rb h =
    let host : n ≡ m = same_byte n m ra.0 rb.0 cc in
    let pid : p ≡ q = same_byte p q ra.1 rb.1 cc in
    let opened : o ≡ u = same_flag o u cc in cc
same_command (command.Set n g p x) (command.Set m k q y) ra rb h =
    let gate : g ≡ k = same_byte g k ra.1 rb.1 cc in
    let param : p ≡ q = same_byte p q ra.2 rb.2 cc in
    ap (λ i. command.Set i g p x) (same_byte n m ra.0 rb.0 cc) ∙ ap (λ i. command.Set m i p x) gate ∙ ap (λ i. command.Set m k i x) param
    ∙ ap (λ xs. command.Set m k q (record { items = xs })) (same_value x.items y.items ra.3 rb.3 cc)
same_command (command.Sync n i) (command.Sync m j) ra rb h =
    let host : n ≡ m = same_byte n m ra.0 rb.0 cc in
    let id : i ≡ j = same_two i j ra.1 rb.1 cc in cc
same_command a b ra rb h = absurd (other_words (command_words a) (command_words b) refl h)

same_said : (a b : Line) → IsLineSaid a → IsLineSaid b → line_words a ≡ line_words b → a ≡ b
same_said (line.Send e p m) (line.Send f q n) ra rb h =
    let end : e ≡ f = same_end e f ra.0 rb.0 cc in
    let pid : p ≡ q = same_byte p q ra.1 rb.1 cc in
    let message : m ≡ n = same_bytes m n ra.2 rb.2 cc in cc
same_said (line.Deliver e n) (line.Deliver f m) ra rb h =
    let end : e ≡ f = same_end e f ra.0 rb.0 cc in
    let number : n ≡ m = same_maybe n m ra.1 rb.1 (behind_two _ _ _ _ _ _ h) in cc
same_said (line.Lose e) (line.Lose f) ra rb h = ap line.Lose (same_end e f ra rb cc)
same_said (line.Damage e p) (line.Damage f q) ra rb h =
    let places : p.items ≡ q.items = same_map decimal IsNumber same_number p.items q.items ra.1 rb.1 (behind_two _ _ _ _ _ _ h) in
    ap (λ at. line.Damage at p) (same_end e f ra.0 rb.0 cc) ∙ ap (λ ps. line.Damage f (record { items = ps })) places
same_said (line.Tick n) (line.Tick m) ra rb h = ap line.Tick (same_maybe n m ra rb (behind _ _ _ _ h))
same_said (line.Reset e n) (line.Reset f m) ra rb h =
    let end : e ≡ f = same_end e f ra.0 rb.0 cc in
    let number : n ≡ m = same_maybe n m ra.1 rb.1 (behind_two _ _ _ _ _ _ h) in cc
same_said (line.Busy e) (line.Busy f) ra rb h = ap line.Busy (same_end e f ra rb cc)
same_said (line.Ready e) (line.Ready f) ra rb h = ap line.Ready (same_end e f ra rb cc)
same_said (line.Boot n) (line.Boot m) ra rb h = ap line.Boot (same_byte n m ra rb cc)
same_said (line.Cut n) (line.Cut m) ra rb h = ap line.Cut (same_byte n m ra rb cc)
same_said (line.Activate n s p) (line.Activate m t q) ra rb h =
    let host : n ≡ m = same_byte n m ra.0 rb.0 cc in
    let sync : s ≡ t = same_two s t ra.1 rb.1 cc in
    let power : p ≡ q = same_byte p q ra.2 rb.2 cc in cc
same_said (line.Arm n k x) (line.Arm m l y) ra rb h =
    let nth : k ≡ l = same_number k l ra.1 rb.1 cc in
    let fill : x.items ≡ y.items = same_bytes x.items y.items ra.2 rb.2 cc in
    ap (λ i. line.Arm i k x) (same_byte n m ra.0 rb.0 cc) ∙ ap (λ i. line.Arm m i x) nth ∙ ap (λ xs. line.Arm m l (record { items = xs })) fill
same_said (line.Init e i p) (line.Init f j q) ra rb h =
    let end : e ≡ f = same_end e f ra.0 rb.0 cc in
    let identity : i ≡ j = same_bytes i j ra.1 rb.1 cc in
    let pipes : p.items ≡ q.items = same_map encode_upper AreOctets same_bytes p.items q.items ra.2 rb.2 (behind _ _ _ _ (behind_two _ _ _ _ _ _ h)) in
    ap (λ at. line.Init at i p) end ∙ ap (λ bytes. line.Init f bytes p) identity ∙ ap (λ ps. line.Init f j (record { items = ps })) pipes
same_said (line.Tables n) (line.Tables m) ra rb h = ap line.Tables (same_byte n m ra rb cc)
same_said (line.Settle n) (line.Settle m) ra rb h = ap line.Settle (same_number n m ra rb cc)
same_said a b ra rb h = absurd (other_words (line_words a) (line_words b) refl h)

-- ## Tables with the same lines are the same

-- ### The words of the lines of tables

abbrev pub pipe_words : PipeRow → List (List ℕ)
pipe_words row =
    codes "pipe" ∷ byte_text row.pid ∷ byte_text row.creator ∷ byte_text row.creator_gate ∷ byte_text row.dest ∷ byte_text row.dest_gate
    ∷ state_as_word row.opened ∷ []

abbrev pub static_words : ℕ × ℕ → List (List ℕ)
static_words static = codes "static" ∷ byte_text static.0 ∷ byte_text static.1 ∷ []

abbrev pub value_words : RegValue → List (List ℕ)
value_words value = codes "reg" ∷ byte_text value.host ∷ byte_text value.gate ∷ byte_text value.param ∷ hex_or_dash value.value.items ∷ []

abbrev pub sync_words : ℕ × ℕ → List (List ℕ)
sync_words sync = codes "sync" ∷ byte_text sync.0 ∷ two_bytes_text sync.1 ∷ []

abbrev pub rows_words : HciTables → List (List (List ℕ))
rows_words t = map pipe_words t.rows ++ (map static_words t.statics ++ (map value_words t.values ++ map sync_words t.syncs))

-- ### Their texts

-- a line of these words
abbrev pub told_line : List (List ℕ) → List ℕ
told_line ws = spaced ws ++ 10 ∷ []

line_told : (ws : List (List ℕ)) → told.line ws ≡ told_line ws
line_told [] = refl
line_told (w ∷ []) = refl
line_told (w ∷ v ∷ ws) = ap (λ behind. w ++ (32 ∷ behind)) (line_told (v ∷ ws)) ∙ sym (append_assoc w (32 ∷ spaced (v ∷ ws)) (10 ∷ []))

-- two words in place of one that holds a space
two_words : (a b rest : List ℕ) → (a ++ (32 ∷ b)) ++ rest ≡ a ++ (32 ∷ (b ++ rest))
two_words a b rest = append_assoc a (32 ∷ b) rest

pipe_told : (row : PipeRow) → pipe_line row ≡ told_line (pipe_words row)
pipe_told row =
    ap (λ behind. codes "pipe" ++ (32 ∷ (byte_text row.pid ++ (32 ∷ behind))))
    (two_words (byte_text row.creator) (byte_text row.creator_gate) (32 ∷ told.line (end_words row.dest row.dest_gate ∷ state_as_word row.opened ∷ []))
    ∙ ap (λ behind. byte_text row.creator ++ (32 ∷ (byte_text row.creator_gate ++ (32 ∷ behind))))
    (two_words (byte_text row.dest) (byte_text row.dest_gate) (32 ∷ told.line (state_as_word row.opened ∷ []))))
    ∙ line_told (pipe_words row)

lines_told : {X : Type 0} (line : X → List ℕ) (ws : X → List (List ℕ)) → ((x : X) → line x ≡ told_line (ws x)) → (xs : List X)
    → flat_map line xs ≡ flat_map told_line (map ws xs)
lines_told line ws same [] = refl
lines_told line ws same (x ∷ xs) = ap (λ text. text ++ flat_map line xs) (same x) ∙ ap (λ text. told_line (ws x) ++ text) (lines_told line ws same xs)

pub rows_told : (t : HciTables) → rows_text t ≡ flat_map told_line (rows_words t)
rows_told t =
    let syncs = lines_told sync_line sync_words (λ s. line_told (sync_words s)) t.syncs in
    let values = lines_told value_line value_words (λ v. line_told (value_words v)) t.values in
    let statics = lines_told static_line static_words (λ s. line_told (static_words s)) t.statics in
    let pipes = lines_told pipe_line pipe_words pipe_told t.rows in
    append_assoc (flat_map pipe_line t.rows ++ flat_map static_line t.statics) (flat_map value_line t.values) (flat_map sync_line t.syncs)
    ∙ append_assoc (flat_map pipe_line t.rows) (flat_map static_line t.statics) (flat_map value_line t.values ++ flat_map sync_line t.syncs)
    ∙ ap (λ text. text ++ (flat_map static_line t.statics ++ (flat_map value_line t.values ++ flat_map sync_line t.syncs))) pipes
    ∙ ap (λ text. flat_map told_line (map pipe_words t.rows) ++ text)
    (ap (λ text. text ++ (flat_map value_line t.values ++ flat_map sync_line t.syncs)) statics
    ∙ ap (λ text. flat_map told_line (map static_words t.statics) ++ text)
    (ap (λ text. text ++ flat_map sync_line t.syncs) values ∙ ap (λ text. flat_map told_line (map value_words t.values) ++ text) syncs
    ∙ sym (flat_map-append told_line (map value_words t.values) (map sync_words t.syncs)))
    ∙ sym (flat_map-append told_line (map static_words t.statics) (map value_words t.values ++ map sync_words t.syncs)))
    ∙ sym (flat_map-append told_line (map pipe_words t.rows) (map static_words t.statics ++ (map value_words t.values ++ map sync_words t.syncs)))

-- ### The same words

same_pipe : (a b : PipeRow) → IsSaidPipe a → IsSaidPipe b → pipe_words a ≡ pipe_words b → a ≡ b
same_pipe a b ra rb h =
    let pid : a.pid ≡ b.pid = same_byte a.pid b.pid ra.pid rb.pid cc in
    let creator : a.creator ≡ b.creator = same_byte a.creator b.creator ra.creator rb.creator cc in
    let creator_gate : a.creator_gate ≡ b.creator_gate = same_byte a.creator_gate b.creator_gate ra.creator_gate rb.creator_gate cc in
    let dest : a.dest ≡ b.dest = same_byte a.dest b.dest ra.dest rb.dest cc in
    let dest_gate : a.dest_gate ≡ b.dest_gate = same_byte a.dest_gate b.dest_gate ra.dest_gate rb.dest_gate cc in
    let opened : a.opened ≡ b.opened = (grind arith) in same_row a b opened pid creator creator_gate dest dest_gate

same_pair : (a b : ℕ × ℕ) → a.0 ≡ b.0 → a.1 ≡ b.1 → a ≡ b
same_pair a b first second = ap (λ x. (x, a.1)) first ∙ ap (λ x. (b.0, x)) second

same_static : (a b : ℕ × ℕ) → IsSaidStatic a → IsSaidStatic b → static_words a ≡ static_words b → a ≡ b
same_static a b ra rb h =
    let pid : a.1 ≡ b.1 = same_byte a.1 b.1 ra.1 rb.1 cc in same_pair a b (same_byte a.0 b.0 ra.0 rb.0 cc) pid

same_reg : (a b : RegValue) → IsSaidValue a → IsSaidValue b → value_words a ≡ value_words b → a ≡ b
same_reg a b ra rb h =
    let host : a.host ≡ b.host = same_byte a.host b.host ra.0 rb.0 cc in
    let gate : a.gate ≡ b.gate = same_byte a.gate b.gate ra.1 rb.1 cc in
    let param : a.param ≡ b.param = same_byte a.param b.param ra.2 rb.2 cc in
    let value : a.value.items ≡ b.value.items = same_value a.value.items b.value.items ra.3 rb.3 cc in
    (grind arith)

same_sync : (a b : ℕ × ℕ) → IsSaidSync a → IsSaidSync b → sync_words a ≡ sync_words b → a ≡ b
same_sync a b ra rb h =
    let id : a.1 ≡ b.1 = same_two a.1 b.1 ra.1 rb.1 cc in same_pair a b (same_byte a.0 b.0 ra.0 rb.0 cc) id

-- lists of the same length, with something behind them
pub cut_at : {X : Type 0} (xs ys r s : List X) → length xs ≡ length ys → xs ++ r ≡ ys ++ s → (xs ≡ ys) × (r ≡ s)
cut_at [] [] r s e h = (refl, h)
cut_at [] (y ∷ ys) r s e h = absurd (omega arith)
cut_at (x ∷ xs) [] r s e h = absurd (omega arith)
cut_at (x ∷ xs) (y ∷ ys) r s e h =
    let first : x ≡ y = cc in
    let behind = cut_at xs ys r s (omega arith) cc in (ap (λ z. z ∷ xs) first ∙ ap (λ zs. y ∷ zs) behind.0, behind.1)

-- tables have so many rows of each kind
pub record SameCounts (t u : HciTables) : Type 0 where
  pub rows : length t.rows ≡ length u.rows
  pub statics : length t.statics ≡ length u.statics
  pub values : length t.values ≡ length u.values
  pub syncs : length t.syncs ≡ length u.syncs

pub same_counts : (n m : ℕ) (t u : HciTables) → AreSaidTables t → AreSaidTables u → count_words n t ≡ count_words m u → SameCounts t u
same_counts n m t u rt ru h =
    record {
      rows = same_number _ _ rt.counts.0 ru.counts.0 cc;
      statics = same_number _ _ rt.counts.1 ru.counts.1 cc;
      values = same_number _ _ rt.counts.2 ru.counts.2 cc;
      syncs = same_number _ _ rt.counts.3 ru.counts.3 cc;
    }

of_length : {X Y : Type 0} (f : X → Y) (xs ys : List X) → length xs ≡ length ys → length (map f xs) ≡ length (map f ys)
of_length f xs ys e = length-map xs f ∙ e ∙ sym (length-map ys f)

-- so they have as many lines
pub rows_length : (t u : HciTables) → SameCounts t u → length (rows_words t) ≡ length (rows_words u)
rows_length t u count =
    let values = by_two (map value_words t.values) (map value_words u.values) _ _ (of_length value_words _ _ count.values)
    (of_length sync_words t.syncs u.syncs count.syncs) in
    let statics = by_two (map static_words t.statics) (map static_words u.statics) _ _ (of_length static_words _ _ count.statics) values in
    by_two (map pipe_words t.rows) (map pipe_words u.rows) _ _ (of_length pipe_words _ _ count.rows) statics
  where
    by_two : (xs ys r s : List (List (List ℕ))) → length xs ≡ length ys → length r ≡ length s → length (xs ++ r) ≡ length (ys ++ s)
    by_two xs ys r s e f = let left = length-append xs r in let right = length-append ys s in omega (arith, left, right, e, f)

same_tables : (t u : HciTables) → AreSaidTables t → AreSaidTables u → SameCounts t u → rows_words t ≡ rows_words u → t ≡ u
same_tables t u rt ru count h =
    let at_pipes = cut_at (map pipe_words t.rows) (map pipe_words u.rows) _ _ (of_length pipe_words _ _ count.rows) h in
    let at_statics = cut_at (map static_words t.statics) (map static_words u.statics) _ _ (of_length static_words _ _ count.statics) at_pipes.1 in
    let at_values = cut_at (map value_words t.values) (map value_words u.values) _ _ (of_length value_words _ _ count.values) at_statics.1 in
    let rows = same_map pipe_words IsSaidPipe same_pipe t.rows u.rows rt.pipes ru.pipes at_pipes.0 in
    let statics = same_map static_words IsSaidStatic same_static t.statics u.statics rt.statics ru.statics at_statics.0 in
    let values = same_map value_words IsSaidValue same_reg t.values u.values rt.values ru.values at_values.0 in
    let syncs = same_map sync_words IsSaidSync same_sync t.syncs u.syncs rt.syncs ru.syncs at_values.1 in
    (grind arith)

-- ## Entries with the same words are the same

same_header : (a b : Header) → MayBegin a → MayBegin b → header_words a ≡ header_words b → a ≡ b
same_header a b ra rb h =
    let hosts : map byte_text a.hosts.items ≡ map byte_text b.hosts.items = cc in
    let items = same_map byte_text IsByte same_byte a.hosts.items b.hosts.items (grind arith) (grind arith) hosts in
    let made : Bool → List ℕ → Header = λ hci xs. record { hci = hci; hosts = record { items = xs } } in
    ap (λ hci. made hci a.hosts.items) (grind arith) ∙ ap (made b.hci) items

-- the words of the lines behind the first one
abbrev pub words_behind : Entry → List (List (List ℕ))
words_behind (entry.Tables node tables) = rows_words tables
words_behind said = []

-- entries with the same words, on their first lines and on those behind them
pub same_entry : (a b : Entry) → IsEntry a → IsEntry b → entry_words a ≡ entry_words b → words_behind a ≡ words_behind b → a ≡ b
same_entry (entry.Head a) (entry.Head b) ra rb h k = ap entry.Head (same_header a b ra rb (behind _ _ _ _ h))
same_entry (entry.Head a) (entry.Echo b) ra rb h k = absurd (other_words (header_words a) (line_words b) (grind arith) (behind _ _ _ _ h))
same_entry (entry.Echo a) (entry.Head b) ra rb h k = absurd (other_words (header_words b) (line_words a) (grind arith) (sym (behind _ _ _ _ h)))
same_entry (entry.Echo a) (entry.Echo b) ra rb h k = ap entry.Echo (same_said a b ra rb (behind _ _ _ _ h))
same_entry (entry.Up e n) (entry.Up f m) ra rb h k =
    let end : e ≡ f = same_end e f ra.0 rb.0 cc in
    let session : n ≡ m = same_number n m ra.1 rb.1 cc in cc
same_entry (entry.Sent e n p x) (entry.Sent f m q y) ra rb h k =
    let end : e ≡ f = same_end e f ra.0 rb.0 cc in
    let session : n ≡ m = same_number n m ra.1 rb.1 cc in
    let pid : p ≡ q = same_byte p q ra.2 rb.2 cc in
    let message : x ≡ y = same_bytes x y ra.3 rb.3 cc in cc
same_entry (entry.Got e n p x) (entry.Got f m q y) ra rb h k =
    let end : e ≡ f = same_end e f ra.0 rb.0 cc in
    let session : n ≡ m = same_number n m ra.1 rb.1 cc in
    let pid : p ≡ q = same_byte p q ra.2 rb.2 cc in
    let message : x ≡ y = same_bytes x y ra.3 rb.3 cc in cc
same_entry (entry.Acked e n i) (entry.Acked f m j) ra rb h k =
    let end : e ≡ f = same_end e f ra.0 rb.0 cc in
    let session : n ≡ m = same_number n m ra.1 rb.1 cc in
    let count : i ≡ j = same_number i j ra.2 rb.2 cc in cc
same_entry (entry.Emit e x) (entry.Emit f y) ra rb h k =
    let end : e ≡ f = same_end e f ra.0 rb.0 cc in
    let bytes : x ≡ y = same_bytes x y ra.1 rb.1 cc in cc
same_entry (entry.Took e x) (entry.Took f y) ra rb h k =
    let end : e ≡ f = same_end e f ra.0 rb.0 cc in
    let bytes : x ≡ y = same_bytes x y ra.1 rb.1 cc in cc
same_entry (entry.Lost e x c) (entry.Lost f y d) ra rb h k =
    let end : e ≡ f = same_end e f ra.0 rb.0 cc in
    let bytes : x ≡ y = same_bytes x y ra.1 rb.1 cc in
    let why : c ≡ d = grind arith in cc
same_entry (entry.Down e c) (entry.Down f d) ra rb h k =
    let end : e ≡ f = same_end e f ra rb cc in
    let cause : c ≡ d = grind arith in cc
same_entry (entry.Active e) (entry.Active f) ra rb h k = ap entry.Active (same_end e f ra rb cc)
same_entry (entry.GaveUp e n) (entry.GaveUp f m) ra rb h k =
    let end : e ≡ f = same_end e f ra.0 rb.0 cc in
    let tries : n ≡ m = same_number n m ra.1 rb.1 cc in cc
same_entry (entry.Turn e p x) (entry.Turn f q y) ra rb h k =
    let end : e ≡ f = same_end e f ra.0 rb.0 cc in
    let pid : p ≡ q = same_byte p q ra.1 rb.1 cc in
    let message : x ≡ y = same_bytes x y ra.2 rb.2 cc in cc
same_entry (entry.Held e n s) (entry.Held f m t) ra rb h k =
    let end : e ≡ f = same_end e f ra.0 rb.0 cc in
    let need : n ≡ m = same_number n m ra.1 rb.1 cc in
    let spare : s ≡ t = same_number s t ra.2 rb.2 cc in cc
same_entry (entry.Ask n x) (entry.Ask m y) ra rb h k =
    let host : n ≡ m = same_byte n m ra.0 rb.0 cc in
    let message : x ≡ y = same_bytes x y ra.1 rb.1 cc in cc
same_entry (entry.Dropped e p) (entry.Dropped f q) ra rb h k =
    let end : e ≡ f = same_end e f ra.0 rb.0 cc in
    let pid : p ≡ q = same_byte p q ra.1 rb.1 cc in cc
same_entry (entry.Command n c) (entry.Command m d) ra rb h k =
    let node : n ≡ m = same_byte n m ra.0 rb.0 cc in
    let command : c ≡ d = same_command c d ra.1 rb.1 (behind_two _ _ _ _ _ _ h) in cc
same_entry (entry.AnyOk n i) (entry.AnyOk m j) ra rb h k =
    let node : n ≡ m = same_byte n m ra.0 rb.0 cc in
    let count : i ≡ j = same_number i j ra.1 rb.1 cc in cc
same_entry (entry.InitSame e) (entry.InitSame f) ra rb h k = ap entry.InitSame (same_end e f ra rb cc)
same_entry (entry.InitSame e) (entry.InitMade f m) ra rb h k = absurd (other_word (codes "same") (codes "made") refl cc)
same_entry (entry.InitSame e) (entry.InitFailed f c) ra rb h k = absurd (other_word (codes "same") (codes "failed") refl cc)
same_entry (entry.InitMade e n) (entry.InitSame f) ra rb h k = absurd (other_word (codes "made") (codes "same") refl cc)
same_entry (entry.InitMade e n) (entry.InitMade f m) ra rb h k =
    let end : e ≡ f = same_end e f ra.0 rb.0 cc in
    let count : n ≡ m = same_number n m ra.1 rb.1 cc in cc
same_entry (entry.InitMade e n) (entry.InitFailed f c) ra rb h k = absurd (other_word (codes "made") (codes "failed") refl cc)
same_entry (entry.InitFailed e c) (entry.InitSame f) ra rb h k = absurd (other_word (codes "failed") (codes "same") refl cc)
same_entry (entry.InitFailed e c) (entry.InitMade f m) ra rb h k = absurd (other_word (codes "failed") (codes "made") refl cc)
same_entry (entry.InitFailed e c) (entry.InitFailed f d) ra rb h k =
    let end : e ≡ f = same_end e f ra.0 rb.0 cc in
    let code : c ≡ d = same_byte c d ra.1 rb.1 cc in cc
same_entry (entry.Cut n) (entry.Cut m) ra rb h k = ap entry.Cut (same_byte n m ra rb cc)
same_entry (entry.Booted n i) (entry.Booted m j) ra rb h k =
    let node : n ≡ m = same_byte n m ra.0 rb.0 cc in
    let count : i ≡ j = same_number i j ra.1 rb.1 cc in cc
same_entry (entry.Tables n t) (entry.Tables m u) ra rb h k =
    let node : n ≡ m = same_byte n m ra.0 rb.0 cc in
    let tables : t ≡ u = same_tables t u ra.1 rb.1 (same_counts n m t u ra.1 rb.1 h) k in cc
same_entry (entry.Settled n) (entry.Settled m) ra rb h k = ap entry.Settled (same_number n m ra rb cc)
same_entry (entry.No c) (entry.No d) ra rb h k = ap entry.No (same_cause c d ra rb (behind _ _ _ _ h))
same_entry a b ra rb h k = absurd (other_words (entry_words a) (entry_words b) refl h)
