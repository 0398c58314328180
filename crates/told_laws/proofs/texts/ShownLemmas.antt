-- The texts of lines and of entries: what is read is in its range, words hold no space and no LF, and texts end at their first LF.
use Rattle.hex.specs.Hex.{encode_with}
use Rattle.std.proofs.lemmas.Grind.{flat_map-append}
use Rattle.std.specs.Char.{is_ascii_digit}
use Rattle.std.specs.Str.{all_ascii_digits}
use Rattle.told_laws.proofs.Words.{All, AllByRecursion, AreOctets, Bool, Command, Contains, End, Entry, Err, HciTables, Header, IfSome, IsCause, IsEnd, IsEndOf}
use Rattle.told_laws.proofs.Words.{IsEntry, IsLineOf, IsLineSaid, IsNodeOf, IsNumber, IsSome, IsTrue, IsWord, Line, List, MayBegin, MayFollow}
use Rattle.told_laws.proofs.Words.{MayFollow-line_of, NoCause, None, Ok, Option, PipeRow, RegValue, Says, Some, [], ap, append-nil, append_assoc, arith, by_row}
use Rattle.told_laws.proofs.Words.{by_words, byte_text, cause_words, command_words, cond, decimal, digits_decimal, encode_upper, end_text, end_word, entry_line}
use Rattle.told_laws.proofs.Words.{entry_text, entry_words, false, flat_map, found_in, has_nodes, header_hosts, hex_or_dash, hex_word, hosts_of, is_comment}
use Rattle.told_laws.proofs.Words.{length, length-append, line_of, line_words, lines_behind, list_all, list_all-append, list_any, map, may_stand, nat_lt}
use Rattle.told_laws.proofs.Words.{node_fits, not, number_word, number_words, own, read_of, refl, says_activate, says_arm, says_boot, says_busy, says_cut}
use Rattle.told_laws.proofs.Words.{says_damage, says_deliver, says_header, says_init, says_lose, says_nodes, says_ready, says_reset, says_send, says_settle}
use Rattle.told_laws.proofs.Words.{says_tables, says_tick, slice_index, spaced, subst, suc, sym, true, two_bytes_text, unless_fault, upper_digits, words}
use Rattle.told_laws.proofs.Words.{words-spaced, ℕ, ◌%◌, ◌++◌, ◌/◌, ◌<◌, ◌==◌, ◌^◌, ◌↔◌, ◌∙◌, ◌∷◌, ◌≡◌, ◌≤◌}
use Rattle.schedule_text.proofs.HostsLemmas.{row_unknown}
use Rattle.schedule_text.proofs.RowsLemmas.{no_fault, row_cases}
use Rattle.schedule_text.specs.Forms.{FormRow, activate_row, arm_row, boot_row, busy_row, cut_row, damage_row, deliver_row, header_row, init_row, lose_row}
use Rattle.schedule_text.specs.Forms.{nodes_row, ready_row, reset_row, row_for, rows, send_row, settle_row, tables_row, tick_row}
use Rattle.schedule_text.specs.Rules.{words_fault}
use Rattle.schedule_text.specs.declared.fault.LineFault.{LineFault}
use Rattle.schedule_text.specs.declared.read.Read.{Read}
use Rattle.told_laws.proofs.texts.EntryLemmas.{cut_at, other_words, pipe_words, rows_length, rows_told, rows_words, same_counts, same_entry, static_words}
use Rattle.told_laws.proofs.texts.EntryLemmas.{sync_words, told_line, value_words, words_behind}
use Rattle.hci_tables.specs.declared.command.Command.TheVariants as command
use Rattle.schedule_text.specs.declared.fault.LineFault.TheVariants as fault
use Rattle.schedule_text.specs.declared.read.Read.TheVariants as read
use Rattle.swp_base.specs.declared.link_terms.Cause.TheVariants as why
use Rattle.trace_model.specs.declared.entry.Entry.TheVariants as entry
use Rattle.trace_model.specs.declared.entry.LostCause.TheVariants as lost
use Rattle.trace_model.specs.declared.entry.NoCause.TheVariants as cause
use Rattle.trace_model.specs.declared.line.Line.TheVariants as line

-- ## A line that is read is in its range

end_in : (header : Header) → MayBegin header → (e : End) → IsEndOf header e → IsEnd e
end_in header is e known = grind arith

number_in : (high : ℕ) (o : Option ℕ) → high < 2 ^ 32 → IfSome o (λ n. (1 ≤ n) × (n ≤ high)) → IfSome o IsNumber
number_in high o small h = grind arith

node_in : (header : Header) → MayBegin header → (n : ℕ) → IsNodeOf header.hosts.items n → n < 256
node_in header is n known = let low = node_fits header.hosts.items n (header_hosts header is) known in omega (arith, low)

-- a line that may stand below a header
pub said_in : (header : Header) → MayBegin header → (said : Line) → MayFollow header said → IsLineSaid said
said_in header is (line.Send e pid message) h = (end_in header is e h.known, let low = h.pipe in omega (arith, low), (h.some, h.bytes))
said_in header is (line.Deliver e count) h = (end_in header is e h.0, number_in 64 count (omega arith) h.1)
said_in header is (line.Lose e) h = end_in header is e h
said_in header is (line.Damage e places) h = grind arith
said_in header is (line.Tick times) h = number_in 100 times (omega arith) h
said_in header is (line.Reset e window) h = (end_in header is e h.0, number_in 4 window (omega arith) h.1)
said_in header is (line.Busy e) h = end_in header is e h.1
said_in header is (line.Ready e) h = end_in header is e h.1
said_in header is (line.Boot node) h = node_in header is node h.1
said_in header is (line.Cut node) h = node_in header is node h.1
said_in header is (line.Activate host sync power) h = grind arith
said_in header is (line.Arm node nth fill) h =
    (node_in header is node h.1.known, let most = h.1.which.1 in omega (arith, most), (h.1.long.0, h.1.bytes))
said_in header is (line.Init e identity pipes) h = grind arith
said_in header is (line.Tables node) h = node_in header is node h.1
said_in header is (line.Settle rounds) h = let most = h.1 in omega (arith, most)

-- a line that a bare world plays may stand below its header
may_follow : (header : Header) (said : Line) → IsLineOf header said → MayFollow header said
may_follow header said h = grind arith

pub read_in : (header : Header) (bytes : List ℕ) (said : Line) → MayBegin header → line_of (Some header) bytes ≡ Ok (read.Line said) → IsLineSaid said
read_in header bytes said is h = said_in header is said (MayFollow-line_of header bytes said h)

-- ## What a fault of a line says of it

-- a line has a fault exactly where its words have it
unless_iff : (o : Option LineFault) (said : Option Read) (f : LineFault) → (o ≡ None → IsSome said) → (unless_fault o said ≡ Err f) ↔ (o ≡ Some f)
unless_iff o said f h = grind arith

abbrev HasFault : Option Header → List (List ℕ) → LineFault → Option FormRow → Type 0
HasFault header ws f None = Unit {0}
HasFault header ws f (Some row) =
    IsTrue (may_stand row.place header) → (by_row header (Some row) ws ≡ Err f) ↔ (words_fault (has_nodes header) (hosts_of header) row ws ≡ Some f)

speaks : (header : Header) (row : FormRow) (ws : List (List ℕ)) → Says header row ws → words_fault header.hci header.hosts.items row ws ≡ None
    → IsSome (read_of row.name ws)
speaks header row ws says h = let said = says (no_fault header.hci header.hosts.items row ws h) in subst IsSome (sym said.1) refl

line_iff : (header : Header) (row : FormRow) (ws : List (List ℕ)) (f : LineFault) → Says header row ws
    → (unless_fault (words_fault header.hci header.hosts.items row ws) (read_of row.name ws) ≡ Err f) ↔
    (words_fault header.hci header.hosts.items row ws ≡ Some f)
line_iff header row ws f says = unless_iff _ _ f (speaks header row ws says)

bare_iff : (header : Header) (row : FormRow) (ws : List (List ℕ)) (f : LineFault) (t : Bool) → header.hci ≡ t
    → (header.hci ≡ false → Says header row ws) → IsTrue (not t)
    → (cond (not t) (unless_fault (words_fault header.hci header.hosts.items row ws) (read_of row.name ws)) (Err fault.Order) ≡ Err f)
    ↔ (words_fault header.hci header.hosts.items row ws ≡ Some f)
bare_iff header row ws f true e says stands = cc
bare_iff header row ws f false e says stands = line_iff header row ws f (says e)

node_iff : (header : Header) (row : FormRow) (ws : List (List ℕ)) (f : LineFault) (t : Bool) → header.hci ≡ t
    → (header.hci ≡ true → Says header row ws) → IsTrue t
    → (cond t (unless_fault (words_fault header.hci header.hosts.items row ws) (read_of row.name ws)) (Err fault.Order) ≡ Err f)
    ↔ (words_fault header.hci header.hosts.items row ws ≡ Some f)
node_iff header row ws f true e says stands = line_iff header row ws f (says e)
node_iff header row ws f false e says stands = cc

faults : (header : Option Header) (first : List ℕ) (ws : List (List ℕ)) (f : LineFault) → HasFault header ws f (row_for first ws)
faults None first ws f =
    row_cases (HasFault None ws f) rows first ws (
      λ e. (λ stands. unless_iff _ _ f (λ h. let said = says_nodes ws (no_fault false [] nodes_row ws h) in subst IsSome (sym said.1) refl)),
      (
        λ e. (λ stands. unless_iff _ _ f (λ h. let said = says_header ws (no_fault false [] header_row ws h) in subst IsSome (sym said.1) refl)),
        (grind arith),
      ),
    ) (λ e. tt)
faults (Some header) first ws f =
    row_cases (HasFault (Some header) ws f) rows first ws (
      λ e h. cc,
      (
        λ e h. cc,
        (
          λ e h. line_iff header send_row ws f (says_send header ws),
          (
            λ e h. line_iff header deliver_row ws f (says_deliver header ws),
            (
              λ e h. line_iff header lose_row ws f (says_lose header ws),
              (
                λ e h. line_iff header damage_row ws f (says_damage header ws),
                (
                  λ e h. line_iff header tick_row ws f (says_tick header ws),
                  (
                    λ e h. line_iff header reset_row ws f (says_reset header ws),
                    (
                      λ e. bare_iff header busy_row ws f header.hci refl (says_busy header ws),
                      (
                        λ e. bare_iff header ready_row ws f header.hci refl (says_ready header ws),
                        (
                          λ e. node_iff header boot_row ws f header.hci refl (says_boot header ws),
                          (
                            λ e. node_iff header cut_row ws f header.hci refl (says_cut header ws),
                            (
                              λ e. node_iff header activate_row ws f header.hci refl (says_activate header ws),
                              (
                                λ e. node_iff header arm_row ws f header.hci refl (says_arm header ws),
                                (
                                  λ e. node_iff header init_row ws f header.hci refl (says_init header ws),
                                  (
                                    λ e. node_iff header tables_row ws f header.hci refl (says_tables header ws),
                                    (λ e h. line_iff header settle_row ws f (says_settle header ws), tt),
                                  ),
                                ),
                              ),
                            ),
                          ),
                        ),
                      ),
                    ),
                  ),
                ),
              ),
            ),
          ),
        ),
      ),
    ) (λ e. tt)

pub fault_iff : (header : Option Header) (first : List ℕ) (row : FormRow) (ws : List (List ℕ)) (f : LineFault) → row_for first ws ≡ Some row
    → IsTrue (may_stand row.place header)
    → (by_row header (row_for first ws) ws ≡ Err f) ↔ (words_fault (has_nodes header) (hosts_of header) row ws ≡ Some f)
fault_iff header first row ws f e stands = let h0 = has_nodes header in let h1 = hosts_of header in let h2 = faults header first ws f in grind arith

-- a host that a line is refused for isn't in the header
words_unknown : (header : Header) (ws : List (List ℕ)) (id : ℕ) → by_words (Some header) ws ≡ Err (fault.Host id)
    → list_any (λ host. host == id) header.hosts.items ≡ false
words_unknown header [] id h = cc
words_unknown header (first ∷ ws) id h = go (is_comment first) h
  where
    go : (t : Bool) → cond t (Ok read.Skip) (by_row (Some header) (row_for first ws) ws) ≡ Err (fault.Host id)
        → list_any (λ host. host == id) header.hosts.items ≡ false
    go true e = cc
    go false e = row_unknown header first ws id e

not_there : (xs : List ℕ) (q : ℕ) → list_any (λ x. x == q) xs ≡ false → Contains xs q → ⊥
not_there xs q none h = let there = found_in xs q h in cc

pub host_is_unknown : (header : Header) (bytes : List ℕ) (id : ℕ) → line_of (Some header) bytes ≡ Err (fault.Host id) → ¬ Contains header.hosts.items id
host_is_unknown header bytes id h = not_there header.hosts.items id (go (nat_lt 9000 (length bytes)) h)
  where
    go : (t : Bool) → cond t (Err fault.TooLong) (by_words (Some header) (words bytes)) ≡ Err (fault.Host id)
        → list_any (λ host. host == id) header.hosts.items ≡ false
    go true e = cc
    go false e = words_unknown header (words bytes) id e

-- ## The words of entries hold no space and no LF

-- no LF
abbrev pub is_inside : ℕ → Bool
is_inside b = not (b == 10)

-- a word without LF
abbrev pub IsClean : List ℕ → Type 0
IsClean word = IsWord word × (list_all is_inside word ≡ true)

hex_inside : (k : ℕ) → is_inside (slice_index upper_digits k) ≡ true
hex_inside k = grind arith

hex_all_inside : (xs : List ℕ) → list_all is_inside (encode_upper xs) ≡ true
unfolding encode_with
hex_all_inside [] = refl
hex_all_inside (x ∷ xs) = rw (hex_inside (x / 16), hex_inside (x % 16)) (hex_all_inside xs)

hex_clean : (xs : List ℕ) → 0 < length xs → IsClean (encode_upper xs)
hex_clean xs some = (hex_word xs some, hex_all_inside xs)

byte_clean : (b : ℕ) → IsClean (byte_text b)
byte_clean b = hex_clean (b ∷ []) (omega arith)

side_inside : (at_host : Bool) → is_inside (cond at_host 104 99) ≡ true
side_inside at_host = grind arith

end_clean : (e : End) → IsClean (end_text e)
end_clean e =
    (end_word e, list_all-append is_inside (byte_text e.link) (cond e.at_host 104 99 ∷ []) ∙ rw (hex_all_inside (e.link ∷ []), side_inside e.at_host) refl)

digits_inside : (ds : List ℕ) → all_ascii_digits ds ≡ true → list_all is_inside ds ≡ true
digits_inside [] h = refl
digits_inside (c ∷ cs) h = let h0 = (is_ascii_digit c) in let h1 = (digits_inside cs) in grind arith

pub number_clean : (n : ℕ) → IsNumber n → IsClean (decimal n)
number_clean n h = (number_word n (omega arith), digits_inside (decimal n) (digits_decimal own n (omega arith)))

hosts_clean : (hosts : List ℕ) → AllByRecursion IsClean (map byte_text hosts)
hosts_clean [] = tt
hosts_clean (h ∷ hosts) = (byte_clean h, hosts_clean hosts)

maybe_clean : (o : Option ℕ) → IfSome o IsNumber → AllByRecursion IsClean (number_words o)
maybe_clean None h = tt
maybe_clean (Some n) h = (number_clean n h, tt)

numbers_clean : (ns : List ℕ) → All IsNumber ns → AllByRecursion IsClean (map decimal ns)
numbers_clean [] h = tt
numbers_clean (n ∷ ns) h = (number_clean n (h 0 n (omega arith)), numbers_clean ns (λ k d within. h (suc k) d (omega arith)))

two_clean : (n : ℕ) → IsClean (two_bytes_text n)
two_clean n = hex_clean (n / 256 ∷ n % 256 ∷ []) (omega arith)

cause_clean : (why : NoCause) → IsCause why → AllByRecursion IsClean (cause_words why)
cause_clean (cause.Full n s) h = (((omega arith, refl), refl), (number_clean n h.0, (number_clean s h.1, tt)))
cause_clean (cause.Beyond n) h = (((omega arith, refl), refl), (number_clean n h, tt))
cause_clean _ h = (((omega arith, refl), refl), tt)

each_clean : (xs : List (List ℕ)) → All AreOctets xs → AllByRecursion IsClean (map encode_upper xs)
each_clean [] h = tt
each_clean (x ∷ xs) h = (hex_clean x (h 0 x (omega arith)).0, each_clean xs (λ k d within. h (suc k) d (omega arith)))

value_clean : (xs : List ℕ) → IsClean (hex_or_dash xs)
value_clean [] = ((omega arith, refl), refl)
value_clean (x ∷ xs) = hex_clean (x ∷ xs) (omega arith)

command_clean : (c : Command) → AllByRecursion IsClean (command_words c)
command_clean (command.Create r) =
    (((omega arith, refl), refl), (byte_clean r.pid, (byte_clean r.creator, (byte_clean r.creator_gate, (byte_clean r.dest, (byte_clean r.dest_gate, tt))))))
command_clean (command.Delete p) = (((omega arith, refl), refl), (byte_clean p, tt))
command_clean (command.Clear n) = (((omega arith, refl), refl), (byte_clean n, tt))
command_clean (command.SetOpened n p o) = (((omega arith, refl), refl), (byte_clean n, (byte_clean p, (byte_clean (cond o 1 0), tt))))
command_clean (command.Set n g p x) = (((omega arith, refl), refl), (byte_clean n, (byte_clean g, (byte_clean p, (value_clean x.items, tt)))))
command_clean (command.Sync n i) = (((omega arith, refl), refl), (byte_clean n, (two_clean i, tt)))

said_clean : (said : Line) → IsLineSaid said → AllByRecursion IsClean (line_words said)
said_clean (line.Send e p m) h = (((omega arith, refl), refl), (end_clean e, (byte_clean p, (hex_clean m h.2.0, tt))))
said_clean (line.Deliver e n) h = (((omega arith, refl), refl), (end_clean e, maybe_clean n h.1))
said_clean (line.Lose e) h = (((omega arith, refl), refl), (end_clean e, tt))
said_clean (line.Damage e p) h = (((omega arith, refl), refl), (end_clean e, numbers_clean p.items h.1))
said_clean (line.Tick n) h = (((omega arith, refl), refl), maybe_clean n h)
said_clean (line.Reset e n) h = (((omega arith, refl), refl), (end_clean e, maybe_clean n h.1))
said_clean (line.Busy e) h = (((omega arith, refl), refl), (end_clean e, tt))
said_clean (line.Ready e) h = (((omega arith, refl), refl), (end_clean e, tt))
said_clean (line.Boot n) h = (((omega arith, refl), refl), (byte_clean n, tt))
said_clean (line.Cut n) h = (((omega arith, refl), refl), (byte_clean n, tt))
said_clean (line.Activate n s p) h = (((omega arith, refl), refl), (byte_clean n, (two_clean s, (byte_clean p, tt))))
said_clean (line.Arm n k x) h = (((omega arith, refl), refl), (byte_clean n, (number_clean k h.1, (hex_clean x.items h.2.0, tt))))
said_clean (line.Init e i p) h = (((omega arith, refl), refl), (end_clean e, (hex_clean i h.1.0, each_clean p.items h.2)))
said_clean (line.Tables n) h = (((omega arith, refl), refl), (byte_clean n, tt))
said_clean (line.Settle n) h = (((omega arith, refl), refl), (number_clean n h, tt))

entry_clean : (a : Entry) → IsEntry a → AllByRecursion IsClean (entry_words a)
entry_clean (entry.Head header) h =
    (((omega arith, refl), refl), (((omega arith, refl), refl), (((omega arith, refl), refl), (grind arith, hosts_clean header.hosts.items))))
entry_clean (entry.Echo said) h = (((omega arith, refl), refl), said_clean said h)
entry_clean (entry.Up e n) h = (((omega arith, refl), refl), (end_clean e, (number_clean n h.1, tt)))
entry_clean (entry.Down e why) h = (((omega arith, refl), refl), (end_clean e, (grind arith, tt)))
entry_clean (entry.Active e) h = (((omega arith, refl), refl), (end_clean e, tt))
entry_clean (entry.GaveUp e n) h = (((omega arith, refl), refl), (end_clean e, (number_clean n h.1, tt)))
entry_clean (entry.Sent e n p m) h = (((omega arith, refl), refl), (end_clean e, (number_clean n h.1, (byte_clean p, (hex_clean m h.3.0, tt)))))
entry_clean (entry.Got e n p m) h = (((omega arith, refl), refl), (end_clean e, (number_clean n h.1, (byte_clean p, (hex_clean m h.3.0, tt)))))
entry_clean (entry.Acked e n k) h = (((omega arith, refl), refl), (end_clean e, (number_clean n h.1, (number_clean k h.2, tt))))
entry_clean (entry.Emit e l) h = (((omega arith, refl), refl), (end_clean e, (hex_clean l h.1.0, tt)))
entry_clean (entry.Took e l) h = (((omega arith, refl), refl), (end_clean e, (hex_clean l h.1.0, tt)))
entry_clean (entry.Lost e l why) h = (((omega arith, refl), refl), (end_clean e, (hex_clean l h.1.0, (grind arith, tt))))
entry_clean (entry.Turn e p m) h = (((omega arith, refl), refl), (end_clean e, (byte_clean p, (hex_clean m h.2.0, tt))))
entry_clean (entry.Held e n s) h = (((omega arith, refl), refl), (end_clean e, (number_clean n h.1, (number_clean s h.2, tt))))
entry_clean (entry.Ask n m) h = (((omega arith, refl), refl), (byte_clean n, (hex_clean m h.1.0, tt)))
entry_clean (entry.Dropped e p) h = (((omega arith, refl), refl), (end_clean e, (byte_clean p, tt)))
entry_clean (entry.Command n c) h = (((omega arith, refl), refl), (byte_clean n, command_clean c))
entry_clean (entry.AnyOk n k) h = (((omega arith, refl), refl), (byte_clean n, (number_clean k h.1, tt)))
entry_clean (entry.InitSame e) h = (((omega arith, refl), refl), (end_clean e, (((omega arith, refl), refl), tt)))
entry_clean (entry.InitMade e n) h = (((omega arith, refl), refl), (end_clean e, (((omega arith, refl), refl), (number_clean n h.1, tt))))
entry_clean (entry.InitFailed e c) h = (((omega arith, refl), refl), (end_clean e, (((omega arith, refl), refl), (byte_clean c, tt))))
entry_clean (entry.Cut n) h = (((omega arith, refl), refl), (byte_clean n, tt))
entry_clean (entry.Booted n k) h = (((omega arith, refl), refl), (byte_clean n, (number_clean k h.1, tt)))
entry_clean (entry.Tables n t) h = (
  ((omega arith, refl), refl),
  (
    byte_clean n,
    (
      number_clean (length t.rows) h.1.counts.0,
      (number_clean (length t.statics) h.1.counts.1, (number_clean (length t.values) h.1.counts.2, (number_clean (length t.syncs) h.1.counts.3, tt))),
    ),
  ),
)
entry_clean (entry.Settled n) h = (((omega arith, refl), refl), (number_clean n h, tt))
entry_clean (entry.No why) h = (((omega arith, refl), refl), cause_clean why h)

pipe_clean : (row : PipeRow) → AllByRecursion IsClean (pipe_words row)
pipe_clean row = (
  ((omega arith, refl), refl),
  (
    byte_clean row.pid,
    (byte_clean row.creator, (byte_clean row.creator_gate, (byte_clean row.dest, (byte_clean row.dest_gate, (grind arith, tt))))),
  ),
)

static_clean : (static : ℕ × ℕ) → AllByRecursion IsClean (static_words static)
static_clean static = (((omega arith, refl), refl), (byte_clean static.0, (byte_clean static.1, tt)))

reg_clean : (value : RegValue) → AllByRecursion IsClean (value_words value)
reg_clean value =
    (((omega arith, refl), refl), (byte_clean value.host, (byte_clean value.gate, (byte_clean value.param, (value_clean value.value.items, tt)))))

sync_clean : (sync : ℕ × ℕ) → AllByRecursion IsClean (sync_words sync)
sync_clean sync = (((omega arith, refl), refl), (byte_clean sync.0, (two_clean sync.1, tt)))

-- a line of clean words
abbrev pub IsCleanLine : List (List ℕ) → Type 0
IsCleanLine ws = AllByRecursion IsClean ws

with_lines : {X : Type 0} (ws : X → List (List ℕ)) → ((x : X) → IsCleanLine (ws x)) → (xs : List X) (lines : List (List (List ℕ)))
    → AllByRecursion IsCleanLine lines → AllByRecursion IsCleanLine (map ws xs ++ lines)
with_lines ws clean [] lines h = h
with_lines ws clean (x ∷ xs) lines h = (clean x, with_lines ws clean xs lines h)

mapped_lines : {X : Type 0} (ws : X → List (List ℕ)) → ((x : X) → IsCleanLine (ws x)) → (xs : List X) → AllByRecursion IsCleanLine (map ws xs)
mapped_lines ws clean [] = tt
mapped_lines ws clean (x ∷ xs) = (clean x, mapped_lines ws clean xs)

rows_clean : (t : HciTables) → AllByRecursion IsCleanLine (rows_words t)
rows_clean t =
    with_lines pipe_words pipe_clean t.rows _
    (with_lines static_words static_clean t.statics _ (with_lines value_words reg_clean t.values _ (mapped_lines sync_words sync_clean t.syncs)))

-- ## The texts of entries end at their first LF

-- ### Lines

all_words : (ws : List (List ℕ)) → AllByRecursion IsClean ws → AllByRecursion IsWord ws
all_words [] h = tt
all_words (w ∷ ws) h = (h.0.0, all_words ws h.1)

spaced_inside : (ws : List (List ℕ)) → AllByRecursion IsClean ws → list_all is_inside (spaced ws) ≡ true
spaced_inside [] h = refl
spaced_inside (w ∷ []) h = h.0.1
spaced_inside (w ∷ v ∷ ws) h = list_all-append is_inside w (32 ∷ spaced (v ∷ ws)) ∙ rw (h.0.1, (spaced_inside (v ∷ ws) h.1)) refl

-- two texts that go on behind an LF
cut : (x y r s : List ℕ) → list_all is_inside x ≡ true → list_all is_inside y ≡ true → x ++ (10 ∷ r) ≡ y ++ (10 ∷ s) → (x ≡ y) × (r ≡ s)
cut [] [] r s a b h = (refl, cc)
cut [] (c ∷ y) r s a b h = absurd (grind arith)
cut (c ∷ x) [] r s a b h = absurd (grind arith)
cut (c ∷ x) (d ∷ y) r s a b h =
    let same : c ≡ d = cc in
    let behind = cut x y r s (grind arith) (grind arith) cc in
    (ap (λ e. e ∷ x) same ∙ ap (λ t. d ∷ t) behind.0, behind.1)

same_words : (ws vs : List (List ℕ)) → IsCleanLine ws → IsCleanLine vs → spaced ws ≡ spaced vs → ws ≡ vs
same_words ws vs rw rv h = sym (words-spaced ws (all_words ws rw)) ∙ ap words h ∙ words-spaced vs (all_words vs rv)

no_line : (ws : List (List ℕ)) (rest : List ℕ) → told_line ws ++ rest ≡ [] → ⊥
no_line ws rest h = omega (arith, length-append (told_line ws) rest, length-append (spaced ws) (10 ∷ []), ap length h)

-- texts of lines
same_lines : (xs ys : List (List (List ℕ))) → AllByRecursion IsCleanLine xs → AllByRecursion IsCleanLine ys
    → flat_map told_line xs ≡ flat_map told_line ys → xs ≡ ys
same_lines [] [] ra rb h = refl
same_lines [] (v ∷ ys) ra rb h = absurd (no_line v (flat_map told_line ys) (sym h))
same_lines (w ∷ xs) [] ra rb h = absurd (no_line w (flat_map told_line xs) h)
same_lines (w ∷ xs) (v ∷ ys) ra rb h =
    let parts = cut (spaced w) (spaced v) (flat_map told_line xs) (flat_map told_line ys) (spaced_inside w ra.0) (spaced_inside v rb.0)
    (sym (append_assoc (spaced w) (10 ∷ []) (flat_map told_line xs)) ∙ h ∙ append_assoc (spaced v) (10 ∷ []) (flat_map told_line ys)) in
    ap (λ ws. ws ∷ xs) (same_words w v ra.0 rb.0 parts.0) ∙ ap (λ lines. v ∷ lines) (same_lines xs ys ra.1 rb.1 parts.1)

-- ### Entries

-- the words of all lines of an entry
abbrev entry_lines : Entry → List (List (List ℕ))
entry_lines a = entry_words a ∷ words_behind a

behind_told : (a : Entry) → lines_behind a ≡ flat_map told_line (words_behind a)
behind_told (entry.Tables n t) = rows_told t
behind_told a = refl

entry_told : (a : Entry) → entry_line a ≡ flat_map told_line (entry_lines a)
entry_told a = let h0 = behind_told a in let h1 = append_assoc (entry_text a) (10 ∷ []) (flat_map told_line (words_behind a)) in grind arith

all_told : (xs : List Entry) → flat_map entry_line xs ≡ flat_map told_line (flat_map entry_lines xs)
all_told [] = refl
all_told (a ∷ xs) =
    ap (λ text. text ++ flat_map entry_line xs) (entry_told a) ∙ ap (λ text. flat_map told_line (entry_lines a) ++ text) (all_told xs)
    ∙ sym (flat_map-append told_line (entry_lines a) (flat_map entry_lines xs))

behind_clean : (a : Entry) → AllByRecursion IsCleanLine (words_behind a)
behind_clean (entry.Tables n t) = rows_clean t
behind_clean a = tt

joined_lines : (xs ys : List (List (List ℕ))) → AllByRecursion IsCleanLine xs → AllByRecursion IsCleanLine ys → AllByRecursion IsCleanLine (xs ++ ys)
joined_lines [] ys ra rb = rb
joined_lines (x ∷ xs) ys ra rb = (ra.0, joined_lines xs ys ra.1 rb)

all_clean : (xs : List Entry) → All IsEntry xs → AllByRecursion IsCleanLine (flat_map entry_lines xs)
all_clean [] h = tt
all_clean (a ∷ xs) h = (
  entry_clean a (h 0 a (omega arith)),
  joined_lines (words_behind a) (flat_map entry_lines xs) (behind_clean a) (all_clean xs (λ k d within. h (suc k) d (omega arith))),
)

-- entries with the same first line have as many lines behind it
as_many : (a b : Entry) → IsEntry a → IsEntry b → entry_words a ≡ entry_words b → length (words_behind a) ≡ length (words_behind b)
as_many (entry.Tables n t) (entry.Tables m u) ra rb h = rows_length t u (same_counts n m t u ra.1 rb.1 h)
as_many (entry.Tables n t) b ra rb h = absurd (other_words (entry_words (entry.Tables n t)) (entry_words b) refl h)
as_many a (entry.Tables m u) ra rb h = absurd (other_words (entry_words a) (entry_words (entry.Tables m u)) refl h)
as_many a b ra rb h = refl

same_said_lines : (xs ys : List Entry) → All IsEntry xs → All IsEntry ys → flat_map entry_lines xs ≡ flat_map entry_lines ys → xs ≡ ys
same_said_lines [] [] ra rb h = refl
same_said_lines [] (b ∷ ys) ra rb h = cc
same_said_lines (a ∷ xs) [] ra rb h = cc
same_said_lines (a ∷ xs) (b ∷ ys) ra rb h =
    let is_a = ra 0 a (omega arith) in
    let is_b = rb 0 b (omega arith) in
    let first : entry_words a ≡ entry_words b = cc in
    let parts = cut_at (words_behind a) (words_behind b) _ _ (as_many a b is_a is_b first) cc in
    let entry : a ≡ b = same_entry a b is_a is_b first parts.0 in
    let rest : xs ≡ ys = same_said_lines xs ys (λ k d within. ra (suc k) d (omega arith)) (λ k d within. rb (suc k) d (omega arith)) parts.1 in cc

-- transcripts with the same text
pub same_transcript : (xs ys : List Entry) → All IsEntry xs → All IsEntry ys → flat_map entry_line xs ≡ flat_map entry_line ys → xs ≡ ys
same_transcript xs ys ra rb h =
    same_said_lines xs ys ra rb
    (same_lines (flat_map entry_lines xs) (flat_map entry_lines ys) (all_clean xs ra) (all_clean ys rb) (sym (all_told xs) ∙ h ∙ all_told ys))

-- the same where a line that no entry has stands behind each
pub same_ended : (xs ys : List Entry) (v w : List (List ℕ)) → IsCleanLine v → IsCleanLine w → All IsEntry xs → All IsEntry ys
    → flat_map entry_line xs ++ told_line v ≡ flat_map entry_line ys ++ told_line w → xs ≡ ys
same_ended xs ys v w rv rz ra rb h =
    let lines = same_lines (flat_map entry_lines xs ++ v ∷ []) (flat_map entry_lines ys ++ w ∷ [])
    (joined_lines (flat_map entry_lines xs) (v ∷ []) (all_clean xs ra) (rv, tt))
    (joined_lines (flat_map entry_lines ys) (w ∷ []) (all_clean ys rb) (rz, tt))
    (sym (with_last xs v) ∙ h ∙ with_last ys w) in
    let long = length-append (flat_map entry_lines xs) (v ∷ []) in
    let other = length-append (flat_map entry_lines ys) (w ∷ []) in
    same_said_lines xs ys ra rb
    (cut_at (flat_map entry_lines xs) (flat_map entry_lines ys) (v ∷ []) (w ∷ []) (omega (arith, long, other, ap length lines)) lines).0
  where
    with_last : (xs : List Entry) (v : List (List ℕ)) → flat_map entry_line xs ++ told_line v ≡ flat_map told_line (flat_map entry_lines xs ++ v ∷ [])
    with_last xs v =
        ap (λ text. text ++ told_line v) (all_told xs) ∙ ap (λ text. flat_map told_line (flat_map entry_lines xs) ++ text) (sym (append-nil (told_line v)))
        ∙ sym (flat_map-append told_line (flat_map entry_lines xs) (v ∷ []))
