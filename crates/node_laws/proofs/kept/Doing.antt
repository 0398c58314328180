-- What a node keeps while it does the deeds of a message, as it is read after more entries.
use Rattle.std.proofs.Math.Seq.{take-append_seam, take-length}
use Rattle.node_laws.proofs.Words.{About, AllByRecursion, AreTables, AreTables-apply, AreToldBehind, Asks, Book, Bool, BootFinds, Command, CommandLast, Commits}
use Rattle.node_laws.proofs.Words.{Core, Creation, Cut, CutBehindCommand, Deed, Desk, Drops, Ends, Entry, FindsRoom, Give, GoesOn, HciTables, Hears, Init}
use Rattle.node_laws.proofs.Words.{IsAllowedBy, IsAllowedFor, IsAllowedStill, IsAnswered, IsCommand, IsOf, IsOnOrder, IsPlain, IsRecordable, IsSome, Knows}
use Rattle.node_laws.proofs.Words.{Last, List, MakeOf, MayBeDone, MayWait, Memory, None, Noted, NothingYet, Option, Orders, Port, Reckoning, Release, Releases}
use Rattle.node_laws.proofs.Words.{Removed, SaysOk, Sends, SetAside, SetsErrors, Some, State, StillRuns, Tells, Turn, Waits, WaitsAt, WaitsFor, Work, WouldFind}
use Rattle.node_laws.proofs.Words.{Write, [], after_commands, after_planned, after_turn, all_append, all_done, all_so, ap, append-nil, append_assoc, apply, ap₂}
use Rattle.node_laws.proofs.Words.{arith, asked_at, body_of, book_after, book_in, by_test, cases_Bool, changed_if, close, commit, commit_writes, committed}
use Rattle.node_laws.proofs.Words.{cond, cond_both, count_of, creation_in, current, done, end_of_node, entries_for, entry_of, eq-eqb, eqb, eqb-true}
use Rattle.node_laws.proofs.Words.{fails_within, false, flat_map, fold, fold-append, hosts_of_ends, inl, inr, keeps, last_after, last_in, length, length-append}
use Rattle.node_laws.proofs.Words.{loses_power, map, min, new_book, no_tables, noted_of, notified, noting, option_map_or, plan_behind, port_at, reckoned}
use Rattle.node_laws.proofs.Words.{reckoning_of, refl, subst, sym, tables_in, take, true, turn_at, unless_cut, with_command, with_desk, with_found, ℕ, ◌++◌}
use Rattle.node_laws.proofs.Words.{◌+◌, ◌-◌, ◌==◌, ◌^◌, ◌∙◌, ◌∷◌, ◌≡◌, ◌⊎◌}
use Rattle.hci_store.proofs.Committed.{close-close, same_closed, recordable-apply}
use Rattle.node_laws.specs.kept.Books.{HasLostPower, WaitsAbout}
use Rattle.node_laws.proofs.kept.Reckoned.{after_planned-append, command_makes, commit_count, finds_closed, fold_book, make_idle, make_more, make_ok}
use Rattle.node_laws.proofs.kept.Reckoned.{plain_idles, planned_knows, planned_left, planned_used, planned_whole}
use Rattle.trace_model.specs.declared.entry.Entry.TheVariants as entry

-- ## What is read of a node after more entries

pub book_more : (t es : List Entry) (n : ℕ) → book_in (t ++ es) n ≡ fold (book_after n) (book_in t n) es
book_more t es n = fold-append (book_after n) new_book t es

pub last_more : (t es : List Entry) (n : ℕ) → last_in (t ++ es) n ≡ fold (last_after n) (last_in t n) es
last_more t es n = fold-append (last_after n) NothingYet t es

-- ### Plain entries

pub plain_fold : (n : ℕ) (b : Book) (es : List Entry) → AllByRecursion IsPlain es → fold (book_after n) b es ≡ b
plain_fold n b [] all = refl
plain_fold n b (e ∷ es) all = ap (λ x. fold (book_after n) x es) (grind arith) ∙ plain_fold n b es all.1

plain_last_fold : (n : ℕ) (l : Last) (es : List Entry) → AllByRecursion IsPlain es → fold (last_after n) l es ≡ l
plain_last_fold n l [] all = refl
plain_last_fold n l (e ∷ es) all = ap (λ x. fold (last_after n) x es) (grind arith) ∙ plain_last_fold n l es all.1

pub plain_book : (t es : List Entry) (n : ℕ) → AllByRecursion IsPlain es → book_in (t ++ es) n ≡ book_in t n
plain_book t es n all = book_more t es n ∙ plain_fold n (book_in t n) es all

pub plain_last : (t es : List Entry) (n : ℕ) → AllByRecursion IsPlain es → last_in (t ++ es) n ≡ last_in t n
plain_last t es n all = last_more t es n ∙ plain_last_fold n (last_in t n) es all

pub plain_told : (t es : List Entry) → AllByRecursion IsPlain es → AreToldBehind t es
plain_told t [] all = tt
plain_told t (e ∷ es) all = (grind arith, plain_told (t ++ e ∷ []) es all.1)

pub plain_own : (n : ℕ) (es : List Entry) → AllByRecursion IsPlain es → AllByRecursion (IsOf n) es
plain_own n es all = all_so IsPlain (IsOf n) (λ e is. grind arith) es all

pub told_append : (t xs ys : List Entry) → AreToldBehind t xs → AreToldBehind (t ++ xs) ys → AreToldBehind t (xs ++ ys)
told_append t [] ys a b = subst (λ x. AreToldBehind x ys) (append-nil t) b
told_append t (x ∷ xs) ys a b = (a.0, told_append (t ++ x ∷ []) xs ys a.1 (subst (λ l. AreToldBehind l ys) (sym (append_assoc t (x ∷ []) xs)) b))

-- ### Commands

pub book_command : (t : List Entry) (m n : ℕ) (c : Command) → m ≡ n → book_in (t ++ entry.Command m c ∷ []) n ≡ with_command c (book_in t n)
book_command t m n c same = book_more t (entry.Command m c ∷ []) n ∙ ap (λ b. cond b (with_command c (book_in t n)) (book_in t n)) (eq-eqb m n same)

last_cut : (t : List Entry) (m n : ℕ) (c : Command) → m ≡ n → last_in (t ++ entry.Command m c ∷ entry.Cut m ∷ []) n ≡ CutBehindCommand
last_cut t m n c same =
    last_more t (entry.Command m c ∷ entry.Cut m ∷ []) n
    ∙ ap (λ b. last_after n (cond b CommandLast (last_in t n)) (entry.Cut m)) (eq-eqb m n same)
    ∙ ap (λ b. cond b CutBehindCommand CommandLast) (eq-eqb m n same)

-- the tables are those of the commands, but for open pipes
abbrev pub IsClosedBook : Book → Type 0
IsClosedBook b = close b.tables ≡ close (after_commands no_tables b.commands)

pub closed_command : (b : Book) (c : Command) → IsClosedBook b → IsClosedBook (with_command c b)
closed_command b c is = same_closed b.tables (after_commands no_tables b.commands) c is ∙ ap close (sym (fold-append apply no_tables b.commands (c ∷ [])))

closed_one : (n : ℕ) (b : Book) (e : Entry) → IsClosedBook b → IsClosedBook (book_after n b e)
closed_one n b (entry.Command m c) is = cond_both (eqb m n) (with_command c b) b IsClosedBook (λ _. closed_command b c is) (λ _. is)
closed_one n b (entry.Booted m k) is =
    cond_both (eqb m n) (with_found k b) b IsClosedBook (λ _. close-close (after_commands no_tables (take k b.commands))) (λ _. is)
closed_one n b _ is = is

closed_fold : (n : ℕ) (b : Book) (es : List Entry) → IsClosedBook b → IsClosedBook (fold (book_after n) b es)
closed_fold n b [] is = is
closed_fold n b (e ∷ es) is = closed_fold n (book_after n b e) es (closed_one n b e is)

pub closed_book : (t : List Entry) (n : ℕ) → IsClosedBook (book_in t n)
closed_book t n = closed_fold n new_book t refl

-- ### Memories

-- all commands are found
pub finds_all : (content : List ℕ) (b : Book) (last : Last) (t : HciTables) (many : ℕ) → BootFinds content t many
    → close t ≡ close (after_commands no_tables b.commands)
    → many ≡ min (length b.commands) (2 ^ 32 - 1) → WouldFind content b last
finds_all content b last t many finds same is = record {
  many = length b.commands;
  which = inl refl;
  finds = subst (λ l. BootFinds content (after_commands no_tables l) (min (length b.commands) (2 ^ 32 - 1))) (sym (take-length b.commands))
      (finds_closed content t (after_commands no_tables b.commands) (min (length b.commands) (2 ^ 32 - 1)) (subst (λ k. BootFinds content t k) is finds) same);
}

-- all but the last one
finds_less : (content : List ℕ) (b : Book) (c : Command) (t : HciTables) (many : ℕ) → BootFinds content t many
    → close t ≡ close (after_commands no_tables b.commands)
    → many ≡ min (length b.commands) (2 ^ 32 - 1) → IsSome (current content) → WouldFind content (with_command c b) CutBehindCommand
finds_less content b c t many finds same is used = record {
  many = length b.commands;
  which = inr (omega (arith, length-append b.commands (c ∷ [])), refl, used);
  finds = subst (λ l. BootFinds content (after_commands no_tables l) (min (length b.commands) (2 ^ 32 - 1))) (sym (take-append_seam b.commands (c ∷ [])))
      (finds_closed content t (after_commands no_tables b.commands) (min (length b.commands) (2 ^ 32 - 1)) (subst (λ k. BootFinds content t k) is finds) same);
}

-- of equal memories and books
would_at : (m left : List ℕ) (b c : Book) (l k : Last) → m ≡ left → b ≡ c → l ≡ k → WouldFind left c k → WouldFind m b l
would_at m left b c l k m_is b_is l_is would = grind arith

-- ## Ends where no creation waits that didn't wait before

-- each creation that waits at an end waited there before
abbrev pub NoneNew : List Port → List Port → Type 0
NoneNew a b = (x : ℕ) (q : Port) (c : Creation) → port_at b x ≡ Some q → asked_at q ≡ Some c → (p : Port) × (port_at a x ≡ Some p) × (asked_at p ≡ Some c)

pub same_new : (a : List Port) → NoneNew a a
same_new a x q c here asked = (q, here, asked)

new_then : (a b c : List Port) → NoneNew a b → NoneNew b c → NoneNew a c
new_then a b c f g x q made here asked = let p = g x q made here asked in f x p.0 made p.1 p.2

pub may_still : (t : HciTables) (a b : List Port) → NoneNew a b → MayWait t a → MayWait t b
may_still t a b new may x q c here asked = let p = new x q c here asked in may x p.0 c p.1 p.2

-- an end that is found was found before
pub map_found : {X : Type 0} (key : X → ℕ) (f : X → Port) → ((p : X) → (f p).desk.host ≡ key p) → (g : X → Port) → ((p : X) → (g p).desk.host ≡ key p)
    → (xs : List X) (x : ℕ) (q : Port) → port_at (map f xs) x ≡ Some q → (p : X) × (port_at (map g xs) x ≡ Some (g p)) × (q ≡ f p) × (key p ≡ x)
map_found key f same g also [] x q here = absurd (cc here)
map_found {X} key f same g also (p ∷ xs) x q here = let h0 = cases_Bool (eqb (key p) x) in let h1 = map_found key f same g also xs x q in grind arith

map_id : (ports : List Port) → map (λ (p : Port). p) ports ≡ ports
map_id [] = refl
map_id (p ∷ ports) = ap (λ l. p ∷ l) (map_id ports)

port_found : (f : Port → Port) → ((p : Port) → (f p).desk.host ≡ p.desk.host) → (ports : List Port) (x : ℕ) (q : Port) → port_at (map f ports) x ≡ Some q
    → (p : Port) × (port_at ports x ≡ Some p) × (q ≡ f p) × (p.desk.host ≡ x)
port_found f same ports x q here =
    let r = map_found (λ (p : Port). p.desk.host) f same (λ p. p) (λ p. refl) ports x q here in
    (r.0, sym (ap (λ l. port_at l x) (map_id ports)) ∙ r.1, r.2, r.3)

pub map_new : (f : Port → Port) → ((p : Port) → (f p).desk.host ≡ p.desk.host) → ((p : Port) (c : Creation) → asked_at (f p) ≡ Some c → asked_at p ≡ Some c)
    → (ports : List Port) → NoneNew ports (map f ports)
map_new f same none ports x q c here asked =
    let r = port_found f same ports x q here in
    (r.0, r.1, none r.0 c (sym (ap asked_at r.2) ∙ asked))

pub map_two : {X Y Z : Type 0} (f : Y → Z) (g : X → Y) (xs : List X) → map f (map g xs) ≡ map (λ x. f (g x)) xs
map_two f g [] = refl
map_two f g (x ∷ xs) = ap (λ l. f (g x) ∷ l) (map_two f g xs)

-- ## What changes nothing of what a node keeps

-- nothing is written and committed, and what is noted is plain
pub record Plainly (w v : Work) : Type 0 where
  pub more : List Entry
  pub plain : AllByRecursion IsPlain more
  pub entries : v.entries ≡ w.entries ++ more
  pub writes : v.writes ≡ w.writes
  pub plan : v.plan ≡ w.plan
  pub cut : v.cut ≡ w.cut
  pub node : v.core.node ≡ w.core.node
  pub journal : v.core.journal ≡ w.core.journal
  pub tables : v.core.tables ≡ w.core.tables
  pub hosts : hosts_of_ends v.ports ≡ hosts_of_ends w.ports
  pub waits : AllByRecursion WaitsAt w.ports → AllByRecursion WaitsAt v.ports
  pub none_new : NoneNew w.ports v.ports

pub plainly_then : (a b c : Work) → Plainly a b → Plainly b c → Plainly a c
plainly_then a b c p q = record {
  more = p.more ++ q.more;
  plain = all_append IsPlain p.more q.more p.plain q.plain;
  entries = q.entries ∙ ap (λ l. l ++ q.more) p.entries ∙ append_assoc a.entries p.more q.more;
  writes = q.writes ∙ p.writes;
  plan = q.plan ∙ p.plan;
  cut = q.cut ∙ p.cut;
  node = q.node ∙ p.node;
  journal = q.journal ∙ p.journal;
  tables = q.tables ∙ p.tables;
  hosts = q.hosts ∙ p.hosts;
  waits = λ h. q.waits (p.waits h);
  none_new = new_then a.ports b.ports c.ports p.none_new q.none_new;
}

-- the node runs on so
pub runs_plainly : (n : ℕ) (hosts : List ℕ) (old : Memory) (before : List Entry) (w v : Work) → StillRuns n hosts old before w → Plainly w v
    → StillRuns n hosts old before v
runs_plainly n hosts old before w v r p = record {
  on = p.cut ∙ r.on;
  memory = r.memory;
  written = λ more. ap (λ ws. after_planned (ws ++ more) old) p.writes ∙ r.written more;
  plan_is = p.plan ∙ r.plan_is;
  made = subst (λ l. MakeOf n (reckoning_of true (book_in before n) old) l r.memory) (sym p.entries)
      (make_idle n (reckoning_of true (book_in before n) old) w.entries p.more r.memory r.made (plain_idles n p.more p.plain));
  number = p.node ∙ r.number;
  hosts_are = p.hosts ∙ r.hosts_are;
  knows = subst (λ s. Knows r.memory.content s v.core.tables) (sym p.journal) (subst (λ t. Knows r.memory.content w.core.journal t) (sym p.tables) r.knows);
  sorted = subst AreTables (sym p.tables) r.sorted;
  recordable = subst IsRecordable (sym p.tables) r.recordable;
  tables_are = p.tables ∙ r.tables_are ∙ ap (λ (b : Book). b.tables) (sym same);
  count_is = ap count_of p.journal ∙ r.count_is ∙ ap (λ (b : Book). min (length b.commands) (2 ^ 32 - 1)) (sym same);
  told = subst (λ l. AreToldBehind before l) (sym p.entries) (told_append before w.entries p.more r.told (plain_told (before ++ w.entries) p.more p.plain));
  own = subst (λ l. AllByRecursion (IsOf n) l) (sym p.entries) (all_append (IsOf n) w.entries p.more r.own (plain_own n p.more p.plain));
  waits = p.waits r.waits;
  allowed = λ z. may_still v.core.tables w.ports v.ports p.none_new (subst (λ t. MayWait t w.ports) (sym p.tables) (r.allowed z));
} where
  same : book_in (before ++ v.entries) n ≡ book_in (before ++ w.entries) n
  same = ap (λ l. book_in (before ++ l) n) p.entries ∙ ap (λ l. book_in l n) (sym (append_assoc before w.entries p.more)) ∙ plain_book
      (before ++ w.entries) p.more n p.plain

-- ### Entries of links

pub plain_flat : {X : Type 0} (f : X → List Entry) → ((x : X) → AllByRecursion IsPlain (f x)) → (xs : List X) → AllByRecursion IsPlain (flat_map f xs)
plain_flat f one [] = tt
plain_flat f one (x ∷ xs) = all_append IsPlain (f x) (flat_map f xs) (one x) (plain_flat f one xs)

pub plain_entries : (h : ℕ) (xs : List Noted) → AllByRecursion IsPlain (entries_for h xs)
plain_entries h xs = plain_flat (entry_of h) (λ x. grind arith) xs

-- ### Ends

changed_host : (b : Bool) (f : Port → Port) (p : Port) → (f p).desk.host ≡ p.desk.host → (changed_if b f p).desk.host ≡ p.desk.host
changed_host b f p is = grind arith

changed_waits : (b : Bool) (f : Port → Port) (p : Port) → (WaitsAt p → WaitsAt (f p)) → WaitsAt p → WaitsAt (changed_if b f p)
changed_waits b f p is w = grind arith

pub hosts_map : (f : Port → Port) → ((p : Port) → (f p).desk.host ≡ p.desk.host) → (ports : List Port) → hosts_of_ends (map f ports) ≡ hosts_of_ends ports
hosts_map f same [] = refl
hosts_map f same (p ∷ ports) = ap₂ (λ x l. x ∷ l) (same p) (hosts_map f same ports)

waits_map : (f : Port → Port) → ((p : Port) → WaitsAt p → WaitsAt (f p)) → (ports : List Port) → AllByRecursion WaitsAt ports
    → AllByRecursion WaitsAt (map f ports)
waits_map f keeps [] all = tt
waits_map f keeps (p ∷ ports) all = (keeps p all.0, waits_map f keeps ports all.1)

-- the ends are others, and the core but for its number, its journal and its tables
plainly_changed : (w : Work) (core : Core) (ports : List Port) → core.node ≡ w.core.node → core.journal ≡ w.core.journal → core.tables ≡ w.core.tables
    → hosts_of_ends ports ≡ hosts_of_ends w.ports → (AllByRecursion WaitsAt w.ports → AllByRecursion WaitsAt ports) → NoneNew w.ports ports
    → Plainly w (record w { core = core; ports = ports })
plainly_changed w core ports node journal tables hosts waits none_new = record {
  more = [];
  plain = tt;
  entries = sym (append-nil w.entries);
  writes = refl;
  plan = refl;
  cut = refl;
  node = node;
  journal = journal;
  tables = tables;
  hosts = hosts;
  waits = waits;
  none_new = none_new;
}

-- nothing changes
pub plainly_same : (w : Work) → Plainly w w
plainly_same w = plainly_changed w w.core w.ports refl refl refl refl (λ h. h) (same_new w.ports)

-- its last command and its init are others
pub plainly_core : (w : Work) (command : Option (List ℕ)) (init : Option Init)
    → Plainly w (record w { core = record w.core { command = command; init = init } })
plainly_core w command init =
    plainly_changed w (record w.core { command = command; init = init }) w.ports refl refl refl refl (λ h. h) (same_new w.ports)

-- all ends are changed
pub plainly_ports : (w : Work) (f : Port → Port) → ((p : Port) → (f p).desk.host ≡ p.desk.host) → ((p : Port) → WaitsAt p → WaitsAt (f p))
    → ((p : Port) (c : Creation) → asked_at (f p) ≡ Some c → asked_at p ≡ Some c) → Plainly w (record w { ports = map f w.ports })
plainly_ports w f host waits none =
    plainly_changed w w.core (map f w.ports) refl refl refl (hosts_map f host w.ports) (waits_map f waits w.ports) (map_new f host none w.ports)

pub plainly_noting : (w : Work) (es : List Entry) → AllByRecursion IsPlain es → Plainly w (noting es w)
plainly_noting w es plain = grind arith

-- all ends are changed, and this is noted
pub plainly_map : (w : Work) (f : Port → Port) (es : List Entry) → AllByRecursion IsPlain es → ((p : Port) → (f p).desk.host ≡ p.desk.host)
    → ((p : Port) → WaitsAt p → WaitsAt (f p)) → ((p : Port) (c : Creation) → asked_at (f p) ≡ Some c → asked_at p ≡ Some c)
    → Plainly w (noting es (record w { ports = map f w.ports }))
plainly_map w f es plain host waits none = let h0 = plainly_ports w f host waits none in grind arith

pub plainly_turn : (h : ℕ) (t : Turn) (w : Work) → Plainly w (turn_at h t w)
plainly_turn h t w =
    plainly_map w (λ (p : Port). changed_if (p.desk.host == h) (after_turn t) p) (option_map_or (noted_of w.core t) (port_at w.ports h) [])
    (grind arith)
    (λ p. changed_host (p.desk.host == h) (after_turn t) p refl) (λ p. changed_waits (p.desk.host == h) (after_turn t) p (λ x. x))
    (λ p c e. grind arith)

pub plainly_desk : (h : ℕ) (f : Desk → Desk) (w : Work) → ((d : Desk) → (f d).host ≡ d.host) → ((d : Desk) → WaitsFor d.notice → WaitsFor (f d).notice)
    → ((d : Desk) (c : Creation) → creation_in (f d).notice ≡ Some c → creation_in d.notice ≡ Some c) → Plainly w (with_desk h f w)
plainly_desk h f w host waits none =
    let change : Port → Port = λ p. record p { desk = f p.desk } in
    plainly_ports w (λ (p : Port). changed_if (p.desk.host == h) change p) (λ p. changed_host (p.desk.host == h) change p (host p.desk))
    (λ p. changed_waits (p.desk.host == h) change p (waits p.desk)) (λ p c e. grind arith)

plainly_notified : (h : ℕ) (about : About) (message : List ℕ) (w : Work) → WaitsAbout about → creation_in (Some (record { about = about; age = 0 })) ≡ None
    → Plainly w (notified h about message w)
plainly_notified h about message w waits none =
    plainly_then w (turn_at h (Give (1, message)) w) (notified h about message w) (plainly_turn h (Give (1, message)) w)
    (plainly_desk h (λ d. record d { notice = Some (record { about = about; age = 0 }) }) (turn_at h (Give (1, message)) w) (λ d. refl) (λ d old. waits)
    (λ d c e. let gone : None ≡ Some c = sym none ∙ e in absurd (cc gone)))

-- ## What a node keeps while it does the deeds of a message

pub uncut : (f : Work → Work) (w : Work) → w.cut ≡ false → unless_cut f w ≡ f w
uncut f w on = rw on refl

pub stays_cut : (f : Work → Work) (w : Work) → w.cut ≡ true → unless_cut f w ≡ w
stays_cut f w off = rw off refl

module _ (n : ℕ) (hosts : List ℕ) (old : Memory) (before : List Entry) where
  -- ### A commit

  module _ (c : Command) (w : Work) (r : StillRuns n hosts old before w) (may : IsCommand c) (room : FindsRoom w.core.journal c)
      (fit : n ≡ 0 → IsAllowedBy w.core.tables c × MayWait (apply w.core.tables c) w.ports) where
    abbrev writes : List Write
    writes = commit_writes w.core.journal w.core.tables (body_of c)

    abbrev begun : Work
    begun = noting (entry.Command w.core.node c ∷ []) w

    abbrev seen : List Entry
    seen = before ++ w.entries

    told_then : w.core.node ≡ 0 → IsAllowedBy (tables_in seen w.core.node) c
    told_then z = grind arith

    abbrev start : Reckoning
    start = reckoning_of true (book_in before n) old

    -- the tables are those that are read with the memory
    tables_read : (fold (reckoned n) start w.entries).book.tables ≡ w.core.tables
    tables_read = ap (λ (b : Book). b.tables) (fold_book n start w.entries ∙ sym (book_more before w.entries n)) ∙ sym r.tables_are

    book_begun : book_in (before ++ (w.entries ++ entry.Command w.core.node c ∷ [])) n ≡ with_command c (book_in seen n)
    book_begun = ap (λ l. book_in l n) (sym (append_assoc before w.entries (entry.Command w.core.node c ∷ []))) ∙ book_command seen w.core.node n c r.number

    closed_now : close w.core.tables ≡ close (after_commands no_tables (book_in seen n).commands)
    closed_now = ap close r.tables_are ∙ closed_book seen n

    count_then : count_of (committed w.core.journal w.core.tables (body_of c)) ≡ min (length ((book_in seen n).commands ++ c ∷ [])) (2 ^ 32 - 1)
    count_then =
        commit_count r.memory.content w.core.journal w.core.tables c r.knows r.sorted r.recordable may room
        ∙ more (count_of w.core.journal) (length (book_in seen n).commands) (length ((book_in seen n).commands ++ c ∷ [])) r.count_is (length-append
        (book_in seen n).commands (c ∷ []))
      where
        more : (x l k : ℕ) → x ≡ min l (2 ^ 32 - 1) → k ≡ l + 1 → min (x + 1) (2 ^ 32 - 1) ≡ min k (2 ^ 32 - 1)
        more x l k a b = omega arith

    runs_then : fails_within (length writes) w.plan ≡ false → StillRuns n hosts old before (keeps c writes begun)
    runs_then none =
        let now : fails_within (length writes) r.memory.plan ≡ false = ap (fails_within (length writes)) (sym r.plan_is) ∙ none in
        record {
          on = r.on;
          memory = after_planned writes r.memory;
          written = λ more. ap (λ l. after_planned l old) (append_assoc w.writes writes more) ∙ r.written
              (writes ++ more) ∙ after_planned-append writes more r.memory now;
          plan_is = ap (plan_behind writes) r.plan_is ∙ sym (planned_whole writes r.memory now).1;
          made = make_more n start w.entries (entry.Command w.core.node c ∷ []) r.memory (after_planned writes r.memory) r.made
              (command_makes n w.core.node (fold (reckoned n) start w.entries) c r.memory w.core.journal w.core.tables r.number (record {
                memory = r.made.memory_is;
                state = r.knows.state_is;
                tables = tables_read;
                on = r.made.on;
                none = r.made.none_due;
              }) now);
          number = r.number;
          hosts_are = r.hosts_are;
          knows = planned_knows r.memory w.core.journal w.core.tables c r.knows r.sorted r.recordable may room now;
          sorted = AreTables-apply w.core.tables c may r.sorted;
          recordable = recordable-apply w.core.tables c r.recordable may;
          tables_are = ap (λ t. apply t c) r.tables_are ∙ ap (λ (b : Book). b.tables) (sym book_begun);
          count_is = count_then ∙ ap (λ (b : Book). min (length b.commands) (2 ^ 32 - 1)) (sym book_begun);
          told = told_append before w.entries (entry.Command w.core.node c ∷ []) r.told (told_then, tt);
          own = all_append (IsOf n) w.entries (entry.Command w.core.node c ∷ []) r.own (r.number, tt);
          waits = r.waits;
          allowed = λ z. (fit z).1;
        }

    lost_then : fails_within (length writes) w.plan ≡ true → HasLostPower n old before (loses_power writes begun)
    lost_then fails =
        record {
          off = refl;
          command = c;
          lost = record { hosts = hosts; work = w; ran = r; may = may; room = room; fails = fails; is = refl };
          would = would_at _ left _ (with_command c (book_in seen n)) _ CutBehindCommand memory_is book_is last_is
              (either (planned_left r.memory w.core.journal w.core.tables c r.knows r.sorted r.recordable may room (grind arith)));
          told = told_append before (w.entries ++ entry.Command w.core.node c ∷ []) (entry.Cut w.core.node ∷ [])
              (told_append before w.entries (entry.Command w.core.node c ∷ []) r.told (told_then, tt)) (tt, tt);
          own = all_append (IsOf n) (w.entries ++ entry.Command w.core.node c ∷ []) (entry.Cut w.core.node ∷ [])
              (all_append (IsOf n) w.entries (entry.Command w.core.node c ∷ []) r.own (r.number, tt)) (r.number, tt);
        }
      where
        left : List ℕ
        left = (after_planned writes r.memory).content

        memory_is : (after_planned (w.writes ++ writes) old).content ≡ left
        memory_is = ap (λ (m : Memory). m.content) (r.written writes)

        both : (w.entries ++ entry.Command w.core.node c ∷ []) ++ entry.Cut w.core.node ∷ [] ≡ w.entries ++ entry.Command w.core.node c ∷ entry.Cut
            w.core.node ∷ []
        both = append_assoc w.entries (entry.Command w.core.node c ∷ []) (entry.Cut w.core.node ∷ [])

        behind : before ++ ((w.entries ++ entry.Command w.core.node c ∷ []) ++ entry.Cut w.core.node ∷ []) ≡ seen ++ entry.Command w.core.node c ∷
            entry.Cut w.core.node ∷ []
        behind = ap (λ l. before ++ l) both ∙ sym (append_assoc before w.entries (entry.Command w.core.node c ∷ entry.Cut w.core.node ∷ []))

        book_is : book_in (before ++ ((w.entries ++ entry.Command w.core.node c ∷ []) ++ entry.Cut w.core.node ∷ [])) n ≡ with_command c (book_in seen n)
        book_is = ap (λ l. book_in l n) behind ∙ book_more seen (entry.Command w.core.node c ∷ entry.Cut w.core.node ∷ []) n
            ∙ sym (book_more seen (entry.Command w.core.node c ∷ []) n) ∙ book_command seen w.core.node n c r.number

        last_is : last_in (before ++ ((w.entries ++ entry.Command w.core.node c ∷ []) ++ entry.Cut w.core.node ∷ [])) n ≡ CutBehindCommand
        last_is = ap (λ l. last_in l n) behind ∙ last_cut seen w.core.node n c r.number

        either : BootFinds left w.core.tables (count_of w.core.journal)
            ⊎ BootFinds left (apply w.core.tables c) (count_of (committed w.core.journal w.core.tables
            (body_of c)))
            → WouldFind left (with_command c (book_in seen n)) CutBehindCommand
        either (inl before_it) = finds_less left (book_in seen n) c w.core.tables (count_of w.core.journal) before_it closed_now r.count_is
            (planned_used r.memory w.core.journal w.core.tables c r.knows r.sorted r.recordable may room (grind arith))
        either (inr behind_it) =
            finds_all left (with_command c (book_in seen n)) CutBehindCommand (apply w.core.tables c) (count_of (committed w.core.journal w.core.tables
            (body_of c))) behind_it
            (ap (λ t. close (apply t c)) r.tables_are ∙ closed_command (book_in seen n) c (closed_book seen n)) count_then

    commit_cases : ((commit c w ≡ keeps c writes begun) × StillRuns n hosts old before (keeps c writes begun)) ⊎
        ((commit c w ≡ loses_power writes begun) × HasLostPower n old before (loses_power writes begun))
    commit_cases = by_test (fails_within (length writes) w.plan)
        (λ fails. inr (rw fails refl, lost_then fails))
        (λ none. inl (rw none refl, runs_then none))

  -- an answer that counts
  ok_fine : (w : Work) → StillRuns n hosts old before w → StillRuns n hosts old before (noting (entry.AnyOk w.core.node (count_of w.core.journal) ∷ []) w)
  ok_fine w r = record {
    on = r.on;
    memory = r.memory;
    written = r.written;
    plan_is = r.plan_is;
    made = make_ok n (reckoning_of true (book_in before n) old) w.entries w.core.node (count_of w.core.journal) r.memory r.made;
    number = r.number;
    hosts_are = r.hosts_are;
    knows = r.knows;
    sorted = r.sorted;
    recordable = r.recordable;
    tables_are = r.tables_are ∙ ap (λ (b : Book). b.tables) (sym same);
    count_is = r.count_is ∙ ap (λ (b : Book). min (length b.commands) (2 ^ 32 - 1)) (sym same);
    told = told_append before w.entries es r.told (grind arith, tt);
    own = all_append (IsOf n) w.entries es r.own (r.number, tt);
    waits = r.waits;
    allowed = r.allowed;
  } where
    es : List Entry
    es = entry.AnyOk w.core.node (count_of w.core.journal) ∷ []

    same : book_in (before ++ (w.entries ++ es)) n ≡ book_in (before ++ w.entries) n
    same = ap (λ l. book_in l n) (sym (append_assoc before w.entries es)) ∙ book_more (before ++ w.entries) es n

  -- ### Deeds

  -- it runs on, and an init stays with its command; or it has lost its power
  abbrev pub GoesOn_or_lost : Work → Type 0
  GoesOn_or_lost w = (StillRuns n hosts old before w × IsOnOrder w.core.command w.core.init) ⊎ HasLostPower n old before w

  abbrev Allows : Option State → State → Type 0
  Allows None s = Unit {0}
  Allows (Some x) s = x ≡ s

  then_on : (f : Work → Work) (w : Work) → StillRuns n hosts old before w → GoesOn_or_lost (f w) → GoesOn_or_lost (unless_cut f w)
  then_on f w r later = subst GoesOn_or_lost (sym (uncut f w r.on)) later

  -- an end whose host is asked from now on
  asked_fine : (h : ℕ) (c : Creation) (message : List ℕ) (w : Work) → StillRuns n hosts old before w → IsCommand c.command → (n ≡ 0
      → IsAllowedFor w.core.tables h c.command)
      → StillRuns n hosts old before (notified h (Waits c) message w)
  asked_fine h c message w first may fit = record {
    on = r.on;
    memory = r.memory;
    written = r.written;
    plan_is = r.plan_is;
    made = r.made;
    number = r.number;
    hosts_are = hosts_map changed (λ p. changed_host (eqb p.desk.host h) change p refl) a.ports ∙ r.hosts_are;
    knows = r.knows;
    sorted = r.sorted;
    recordable = r.recordable;
    tables_are = r.tables_are;
    count_is = r.count_is;
    told = r.told;
    own = r.own;
    waits = waits_map changed (λ p. changed_waits (eqb p.desk.host h) change p (λ x. may)) a.ports r.waits;
    allowed = λ z x q made here asked.
        let p = port_found changed (λ p. changed_host (eqb p.desk.host h) change p refl) a.ports x q here in
        by_host z x made p.0 p.1 p.3 (cases_Bool (eqb p.0.desk.host h)) (sym (ap asked_at p.2) ∙ asked);
  } where
    a : Work
    a = turn_at h (Give (1, message)) w

    r : StillRuns n hosts old before a
    r = runs_plainly n hosts old before w a first (plainly_turn h (Give (1, message)) w)

    change : Port → Port
    change p = record p { desk = record p.desk { notice = Some (record { about = Waits c; age = 0 }) } }

    changed : Port → Port
    changed p = changed_if (eqb p.desk.host h) change p

    by_host : n ≡ 0 → (x : ℕ) (made : Creation) (p : Port) → port_at a.ports x ≡ Some p → p.desk.host ≡ x
        → (eqb p.desk.host h ≡ true) ⊎ (eqb p.desk.host h ≡ false)
        → asked_at (changed p) ≡ Some made → IsAllowedFor w.core.tables x made.command
    by_host z x made p here host (inl is) asked =
        let now : Some c ≡ Some made = sym (ap (λ b. asked_at (changed_if b change p)) is) ∙ asked in
        let same : c ≡ made = cc in
        let at : h ≡ x = sym (eqb-true p.desk.host h is) ∙ host in
        subst (λ k. IsAllowedFor w.core.tables k made.command) at (subst (λ (d : Creation). IsAllowedFor w.core.tables h d.command) same (fit z))
    by_host z x made p here host (inr off) asked =
        r.allowed z x p made here (sym (ap (λ b. asked_at (changed_if b change p)) off) ∙ asked)

  -- deeds that commit and ask for nothing
  none_fit : (t : HciTables) (ports : List Port) (command : Option (List ℕ)) (init : Option Init) (deeds : List Deed) → MayBeDone None command init deeds
      → AllByRecursion (IsAllowedStill t ports) deeds
  none_fit t ports command init [] may = tt
  none_fit t ports command init (Commits c ∷ deeds) may = absurd may.0
  none_fit t ports command init (Asks to message c ∷ deeds) may = absurd may.0
  none_fit t ports command init (Orders message ∷ deeds) may = (tt, none_fit t ports (Some message) init deeds may)
  none_fit t ports command init (Hears ∷ deeds) may = (tt, none_fit t ports None init deeds may)
  none_fit t ports command init (GoesOn i ∷ deeds) may = (tt, none_fit t ports command (Some i) deeds may)
  none_fit t ports command init (Ends e ∷ deeds) may = (tt, none_fit t ports command None deeds may.1)
  none_fit t ports command init (_ ∷ deeds) may = (tt, none_fit t ports command init deeds may)

  pub all_fine : (h : ℕ) (deeds : List Deed) (w : Work) (s : Option State) → StillRuns n hosts old before w → Allows s w.core.journal
      → MayBeDone s w.core.command w.core.init deeds → (first : List Port) → NoneNew first w.ports
      → (n ≡ 0 → AllByRecursion (IsAllowedStill w.core.tables first) deeds) → GoesOn_or_lost (all_done h deeds w)
  all_fine h [] w s r allows may first new fit = inl (r, may)
  all_fine h (Commits c ∷ deeds) w None r allows may first new fit = absurd may.0
  all_fine h (Commits c ∷ deeds) w (Some x) r allows may first new fit =
      by_case (all_fine h deeds (keeps c (commit_writes w.core.journal w.core.tables (body_of c)) (noting (entry.Command w.core.node c ∷ []) w)) None)
      (commit_cases c w r may.0.0 (subst (λ s. FindsRoom s c) allows may.0.1) fit_now)
    where
      v : Work
      v = keeps c (commit_writes w.core.journal w.core.tables (body_of c)) (noting (entry.Command w.core.node c ∷ []) w)

      lost : Work
      lost = loses_power (commit_writes w.core.journal w.core.tables (body_of c)) (noting (entry.Command w.core.node c ∷ []) w)

      fit_now : n ≡ 0 → IsAllowedBy w.core.tables c × MayWait (apply w.core.tables c) w.ports
      fit_now z = let now = (fit z).0 in (now.0, may_still (apply w.core.tables c) first w.ports new (now.1 may.0.0))

      by_case : (StillRuns n hosts old before v → Unit {0} → MayBeDone None w.core.command w.core.init deeds → (start : List Port) → NoneNew start v.ports
          → (n ≡ 0 → AllByRecursion (IsAllowedStill v.core.tables start) deeds) → GoesOn_or_lost (all_done h deeds v))
          → ((commit c w ≡ v) × StillRuns n hosts old before v) ⊎ ((commit c w ≡ lost) × HasLostPower n old before lost)
          → GoesOn_or_lost (unless_cut (all_done h deeds) (commit c w))
      by_case later (inl kept) =
          subst (λ x. GoesOn_or_lost (unless_cut (all_done h deeds) x)) (sym kept.0) (then_on (all_done h deeds) v kept.1 (later kept.1 tt may.1 v.ports
          (same_new v.ports)
          (λ z. none_fit v.core.tables v.ports w.core.command w.core.init deeds may.1)))
      by_case later (inr gone) = grind arith
  all_fine h (Sends to m ∷ deeds) w s r allows may first new fit =
      let v : Work = turn_at to (Give m) w in
      let p : Plainly w v = plainly_turn to (Give m) w in
      let q = runs_plainly n hosts old before w v r p in
      then_on (all_done h deeds) v q (all_fine h deeds v s q allows may first (new_then first w.ports v.ports new p.none_new) (λ z. (fit z).1))
  all_fine h (SaysOk ∷ deeds) w s r allows may first new fit =
      let v : Work = noting (entry.AnyOk w.core.node (count_of w.core.journal) ∷ []) w in
      let q = ok_fine w r in
      then_on (all_done h deeds) v q (all_fine h deeds v s q allows may first new (λ z. (fit z).1))
  all_fine h (Asks to message c ∷ deeds) w None r allows may first new fit = absurd may.0
  all_fine h (Asks to message c ∷ deeds) w (Some x) r allows may first new fit =
      let a : Work = turn_at c.asker SetAside w in
      let b : Work = noting (entry.Ask to message ∷ []) a in
      let v : Work = notified to (Waits c) message b in
      let rb = runs_plainly n hosts old before w b r
      (plainly_then w a b (plainly_turn c.asker SetAside w) (plainly_noting a (entry.Ask to message ∷ []) (tt, tt))) in
      let q = asked_fine to c message b rb may.0 (λ z. (fit z).0) in
      then_on (all_done h deeds) v q
      (all_fine h deeds v None q tt may.1 v.ports (same_new v.ports) (λ z. none_fit w.core.tables v.ports w.core.command w.core.init deeds may.1))
  all_fine h (Releases asker ∷ deeds) w s r allows may first new fit =
      let v : Work = turn_at asker Release w in
      let p : Plainly w v = plainly_turn asker Release w in
      let q = runs_plainly n hosts old before w v r p in
      then_on (all_done h deeds) v q (all_fine h deeds v s q allows may first (new_then first w.ports v.ports new p.none_new) (λ z. (fit z).1))
  all_fine h (Tells to message ∷ deeds) w s r allows may first new fit =
      let v : Work = notified to Removed message w in
      let p : Plainly w v = plainly_notified to Removed message w tt refl in
      let q = runs_plainly n hosts old before w v r p in
      then_on (all_done h deeds) v q (all_fine h deeds v s q allows may first (new_then first w.ports v.ports new p.none_new) (λ z. (fit z).1))
  all_fine h (IsAnswered ∷ deeds) w s r allows may first new fit =
      let v : Work = done h IsAnswered w in
      let p : Plainly w v = plainly_desk h (λ d. record d { notice = None }) w (λ d. refl) (λ d x. tt) (λ d c e. absurd (cc e)) in
      let q = runs_plainly n hosts old before w v r p in
      then_on (all_done h deeds) v q (all_fine h deeds v s q allows may first (new_then first w.ports v.ports new p.none_new) (λ z. (fit z).1))
  all_fine h (Drops pid ∷ deeds) w s r allows may first new fit =
      let v : Work = done h (Drops pid) w in
      let p : Plainly w v = plainly_noting w (entry.Dropped (end_of_node w.core h) pid ∷ []) (tt, tt) in
      let q = runs_plainly n hosts old before w v r p in
      then_on (all_done h deeds) v q (all_fine h deeds v s q allows may first (new_then first w.ports v.ports new p.none_new) (λ z. (fit z).1))
  all_fine h (SetsErrors errors ∷ deeds) w s r allows may first new fit =
      let v : Work = done h (SetsErrors errors) w in
      let p : Plainly w v = plainly_desk h (λ d. record d { errors = errors }) w (λ d. refl) (λ d x. x) (λ d c e. e) in
      let q = runs_plainly n hosts old before w v r p in
      then_on (all_done h deeds) v q (all_fine h deeds v s q allows may first (new_then first w.ports v.ports new p.none_new) (λ z. (fit z).1))
  all_fine h (Orders message ∷ deeds) w s r allows may first new fit =
      let a : Work = record w { core = record w.core { command = Some message } } in
      let v : Work = turn_at h (Give (1, message)) a in
      let p : Plainly w v = plainly_then w a v (plainly_core w (Some message) w.core.init) (plainly_turn h (Give (1, message)) a) in
      let q = runs_plainly n hosts old before w v r p in
      then_on (all_done h deeds) v q (all_fine h deeds v s q allows may first (new_then first w.ports v.ports new p.none_new) (λ z. (fit z).1))
  all_fine h (Hears ∷ deeds) w s r allows may first new fit =
      let v : Work = done h Hears w in
      let p : Plainly w v = plainly_core w None w.core.init in
      let q = runs_plainly n hosts old before w v r p in
      then_on (all_done h deeds) v q (all_fine h deeds v s q allows may first (new_then first w.ports v.ports new p.none_new) (λ z. (fit z).1))
  all_fine h (GoesOn i ∷ deeds) w s r allows may first new fit =
      let v : Work = done h (GoesOn i) w in
      let p : Plainly w v = plainly_core w w.core.command (Some i) in
      let q = runs_plainly n hosts old before w v r p in
      then_on (all_done h deeds) v q (all_fine h deeds v s q allows may first (new_then first w.ports v.ports new p.none_new) (λ z. (fit z).1))
  all_fine h (Ends e ∷ deeds) w s r allows may first new fit =
      let a : Work = record w { core = record w.core { init = None } } in
      let v : Work = noting (e ∷ []) a in
      let p : Plainly w v = plainly_then w a v (plainly_core w w.core.command None) (plainly_noting a (e ∷ []) (may.0, tt)) in
      let q = runs_plainly n hosts old before w v r p in
      then_on (all_done h deeds) v q (all_fine h deeds v s q allows may.1 first (new_then first w.ports v.ports new p.none_new) (λ z. (fit z).1))
