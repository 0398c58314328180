-- Commands, tables and entries of a world of nodes are in their ranges, and so is the link of a host over each step at one of its ends.
use Rattle.told_laws.proofs.Words.{Acked, Act, ActDue, ActEvent, ActFrame, ActStart, ActStop, ActTake, ActTick, Active, AllByRecursion, AllByRecursion-filter}
use Rattle.told_laws.proofs.Words.{AllByRecursion-take, ArePipeRows, AreRows-filter, AreRows-map, AreRows-with_row, Asked, AsksReset, Book, Bool, Clear}
use Rattle.told_laws.proofs.Words.{Clt, Comes, Command, Control, Create, CutOff, Delete, Emit, EndState, Ending, Entry, GaveUp, GoesOut, Got, HciTables}
use Rattle.told_laws.proofs.Words.{IsByte, IsDynamic, IsEnd, IsEntry, IsSaidCommand, IsSaidPipe, IsSaidStatic, IsSaidSync, IsSaidValue, Link, LinkEnd}
use Rattle.told_laws.proofs.Words.{LinkInput, LinkState, List, Lost, NextFrame, NoInput, None, Noted, NumberedEnd, OnWire, Option, PipeRow, PowerMode, Ready}
use Rattle.told_laws.proofs.Words.{Refused, RegValue, Report, Reset, Sent, Set, SetOpened, Side, Some, Start, Starts, Stop, Stops, Sync, SyncId, Take, Tick}
use Rattle.told_laws.proofs.Words.{Took, Turn, Up as IsUpNow, [], act_answer, activated, after_commands, after_input, all_closed, all_frames, all_mapped}
use Rattle.told_laws.proofs.Words.{among, ap, apply, arith, as_opened, book_after, by_option, cond, cond_both, default_of, drop, each-append, ended_by}
use Rattle.told_laws.proofs.Words.{entries_for, entry_of, exchanged, false, find, finished, flat_map, fold, frames_out, has_input, has_restarted, has_taken}
use Rattle.told_laws.proofs.Words.{heard, if_up, in_front, is_command, is_default, is_faulty, is_kept_sync, is_open, is_some, length, length-append, length-map}
use Rattle.told_laws.proofs.Words.{lpdu_of, map, moved, nat_lt, new_book, no_tables, pid_of, place_of_value, put_down, refl}
use Rattle.told_laws.proofs.Words.{reset_by, reset_refusal, reset_with, role_after, sent_all, silent, slice_index, static_place, steps_at_controller}
use Rattle.told_laws.proofs.Words.{stopped, subst, suc, sync_host, tables_in, take, take_answer, taken, tick_answer, ticked, told, took, true, turn, turned}
use Rattle.told_laws.proofs.Words.{unless, value_at, value_place, window_of, with_act, with_command, with_ended, with_found, with_opened, with_static}
use Rattle.told_laws.proofs.Words.{with_value, without_identity, zero, ℕ, ◌%◌, ◌++◌, ◌+◌, ◌-◌, ◌/◌, ◌<◌, ◌==◌, ◌∷◌, ◌≡◌, ◌≤◌}
use Rattle.link_laws.specs.entries.Entries.Entry.{Down, Up}
use Rattle.sorted_rows.specs.Rows.{row_of, rows_before, rows_behind, with_row}
use Rattle.told_laws.proofs.nodes.Machines.{AreBytes, AreTurnsIn, IsInputIn, IsLineFrame, IsMail, IsStartIn, ReportIn, SideIn, out_in, side_input, side_more}
use Rattle.told_laws.proofs.nodes.Machines.{side_sent, side_turned}
use Rattle.told_laws.proofs.told.Links.{IsLowWindow, LinkSo, NumberedSo, WireIs, frames_few, left_with, so_becomes, so_ended, so_exchanged, so_left, so_more}
use Rattle.told_laws.proofs.told.Links.{so_silent}
use Rattle.told_laws.proofs.told.BarePlays.{IsLpdu, all_each, each_all, end_in, lpdu_by, lpdu_in}
use Rattle.told_laws.proofs.told.Notes.{NotedBy, noted_told}
use Rattle.trace_model.specs.declared.entry.Entry.TheVariants as entry

-- ## The link of a host is in its range over each step at one of its ends

-- ### How many frames go out

split_few : {X : Type 0} (k : ℕ) (xs : List X) → length (take k xs) + length (drop k xs) ≡ length xs
split_few zero xs = omega arith
split_few (suc k) [] = omega arith
split_few (suc k) (x ∷ xs) = let rest = split_few k xs in omega (arith, rest)

among_few : (n : ℕ) (acts : List ActDue) (cs : List Control) → length (among n acts cs) ≤ length acts + length cs
among_few n [] cs = omega arith
among_few n (a ∷ acts) cs =
    let long = length-append (take (a.behind - n) cs) (ActFrame a.frame false ∷ among a.behind acts (drop (a.behind - n) cs)) in
    omega (arith, among_few a.behind acts (drop (a.behind - n) cs), split_few (a.behind - n) cs, long)

out_few : (e : LinkEnd) → length (frames_out e) ≤ 12 + length e.acts
out_few e =
    let a = among_few 0 e.acts (all_frames e.shdlc) in let b = frames_few 12 e.shdlc in omega (arith, a, b)

moved_acts : (e : LinkEnd) (ends : Bool) (s : EndState) → length (moved e ends s).acts ≤ length e.acts
moved_acts e false s = omega arith
moved_acts e true s = let same = length-map e.acts in_front in omega (arith, same)

down_acts : (e : LinkEnd) (ends : Bool) → length (put_down ends e).acts ≤ length e.acts
down_acts e false = omega arith
down_acts e true = by e.shdlc.phase refl
  where
    front : length (map in_front e.acts) ≤ length e.acts
    front = let same = length-map e.acts in_front in omega (arith, same)

    by : (p : LinkState) → e.shdlc.phase ≡ p → length (put_down true e).acts ≤ length e.acts
    by IsUpNow q = rw q front
    by _ q = rw q front

act_acts : (o : Option Act) (e : LinkEnd) → length (with_act o e).acts ≤ length e.acts + 1
act_acts None e = omega arith
act_acts (Some act) e = let long = length-append e.acts (record { frame = act; behind = length e.shdlc.due } ∷ []) in omega (arith, long)

activated_acts : (e : LinkEnd) (event : ActEvent) → length (activated e event).acts ≤ length e.acts + 1
activated_acts e event =
    let more =
    act_acts (act_answer e.role event).send (record (put_down (act_answer e.role event).ended_link e) { role = role_after e.role event }) in
    omega (arith, down_acts e (act_answer e.role event).ended_link, more)

heard_acts : (e : LinkEnd) (c : Control) → length (heard e c).acts ≤ length e.acts
heard_acts e c =
    cond_both (is_faulty (taken e.shdlc c).session) (put_down true e) _ (λ (f : LinkEnd). length f.acts ≤ length e.acts) (λ _. down_acts e true)
    (λ _. moved_acts e (is_some (take_answer e.shdlc c).ended) (taken e.shdlc c))

opened_acts : (e : LinkEnd) (c : Control) → length (cond (is_open e.role) (heard e c) e).acts ≤ length e.acts + 1
opened_acts e c =
    cond_both (is_open e.role) (heard e c) e (λ (f : LinkEnd). length f.acts ≤ length e.acts + 1)
    (λ _. let few = heard_acts e c in omega (arith, few)) (λ _. omega arith)

took_acts : (e : LinkEnd) (c : Control) → length (took e c).acts ≤ length e.acts + 1
took_acts e (ActFrame act again) = activated_acts e (ActTake act again)
took_acts e Clt = omega arith
took_acts e c = opened_acts e c

unless_acts : (o : Option Refused) (e f : LinkEnd) → length f.acts ≤ length e.acts → length (unless o e f).acts ≤ length e.acts
unless_acts o e f h = grind arith

-- at most one frame of activation comes of an input
input_acts : (b : Bool) (e : LinkEnd) (i : LinkInput) → IsInputIn b i → length (after_input e i).acts ≤ length e.acts + 1
input_acts b e (Take c) is = took_acts e c
input_acts b e Tick is =
    cond_both (is_open e.role) (moved e (is_some (tick_answer e.shdlc).ended) (ticked e.shdlc)) (activated e ActTick)
    (λ (f : LinkEnd). length f.acts ≤ length e.acts + 1)
    (λ _. let few = moved_acts e (is_some (tick_answer e.shdlc).ended) (ticked e.shdlc) in omega (arith, few)) (λ _. activated_acts e ActTick)
input_acts b e (Reset window) is =
    let few = unless_acts (reset_refusal e) e (reset_by e (window_of e window))
    (moved_acts e (is_some (if_up e.shdlc Asked)) (reset_with e.shdlc (window_of e window))) in
    omega (arith, few)
input_acts b e (Start value) is =
    let more = activated_acts (moved e true (stopped e.shdlc)) (ActStart value) in omega (arith, moved_acts e true (stopped e.shdlc), more)
input_acts b e Stop is =
    let more = activated_acts (moved e true (stopped e.shdlc)) ActStop in omega (arith, moved_acts e true (stopped e.shdlc), more)
input_acts b e _ is = absurd is

turn_acts : (e : LinkEnd) (t : Turn) → length (turn e t).acts ≤ length e.acts
turn_acts e t = grind arith

turned_acts : (ts : List Turn) (e : LinkEnd) → length (turned e ts).acts ≤ length e.acts
turned_acts [] e = omega arith
turned_acts (t ∷ ts) e = let one = turn_acts e t in let later = turned_acts ts (turn e t) in omega (arith, one, later)

-- ### A link

-- the end of a controller or of a host between two steps: no frame of activation is due
pub record RestsIn (b : Bool) (n : ℕ) (e : LinkEnd) : Type 0 where
  pub side : SideIn b n e
  pub calm : e.acts ≡ []

-- with its numbers
abbrev pub NumberedIn : Bool → ℕ → NumberedEnd → Type 0
NumberedIn b n h = NumberedSo (RestsIn b n) n h

-- the link of a host seen from one end, where no number is above n
abbrev pub LinkIn : Bool → Bool → ℕ → Link → Type 0
LinkIn b c n l = LinkSo IsLineFrame (RestsIn b n) (RestsIn c n) n l

-- all of it but the near end itself
abbrev AllBut : Bool → ℕ → ℕ → Link → Type 0
AllBut c m n l = LinkSo IsLineFrame (λ e. Unit {0}) (RestsIn c m) n l

rests_more : (b : Bool) (n k : ℕ) (e : LinkEnd) → n ≤ k → RestsIn b n e → RestsIn b k e
rests_more b n k e more is = record { side = side_more b n k e more is.side; calm = is.calm }

pub link_in_more : (b c : Bool) (n k : ℕ) (l : Link) → n ≤ k → LinkIn b c n l → LinkIn b c k l
link_in_more b c n k l more h = so_more IsLineFrame n k l more (rests_more b n k l.controller.side more) (rests_more c n k l.host.side more) h

but : (b c : Bool) (n : ℕ) (l : Link) → LinkIn b c n l → AllBut c n n l
but b c n l h = so_more IsLineFrame n n l (omega arith) (λ s. tt) (λ s. s) h

pub link_exchanged : (b c : Bool) (n : ℕ) (l : Link) → LinkIn b c n l → LinkIn c b n (exchanged l)
link_exchanged b c n l h = so_exchanged IsLineFrame n l h

-- the near end has become e, and the step ends
finish_in : (b c : Bool) (n : ℕ) (l : Link) (e : LinkEnd) (ending : Ending) → SideIn b (n + 8) e → length e.acts ≤ 1 → AllBut c n n l
    → LinkIn b c (n + 13) (finished l e ending)
finish_in b c n l e ending is few h = by ending (so_more IsLineFrame n n l (omega arith) (λ s. s) (rests_more c n (n + 13) l.host.side (omega arith)) h)
  where
    by : (ending : Ending) → AllBut c (n + 13) n l → LinkIn b c (n + 13) (finished l e ending)
    by GoesOut up =
        so_becomes IsLineFrame n (n + 13) l e (out_in b (n + 8) e is) (omega (arith, out_few e, few))
        (record { side = side_more b (n + 8) (n + 13) (sent_all e) (omega arith) (side_sent b (n + 8) e is); calm = refl }) up
    by CutOff up = grind arith

-- ### Steps

-- this may come to an end of a controller, or of a host
abbrev pub ComesIn : Bool → Comes → Type 0
ComesIn b (AsksReset window) = IsLowWindow window
ComesIn b (Starts value) = IsStartIn b value
ComesIn b _ = Unit {0}

module _ (b c : Bool) (n : ℕ) where
  acts_after : (l : Link) (i : LinkInput) (ts : List Turn) → IsInputIn b i → LinkIn b c n l → length (turned (after_input l.controller.side i) ts).acts ≤ 1
  acts_after l i ts is h =
      let one = input_acts b l.controller.side i is in
      let later = turned_acts ts (after_input l.controller.side i) in omega (arith, ap length h.near.side.calm, one, later)

  side_after : (l : Link) (i : LinkInput) (ts : List Turn) → IsInputIn b i → AreTurnsIn ts → LinkIn b c n l
      → SideIn b (n + 8) (turned (after_input l.controller.side i) ts)
  side_after l i ts is turns h = side_turned b (n + 8) ts (after_input l.controller.side i) turns (side_input b n l.controller.side i is h.near.side.side)

  pub link_has_input : (l : Link) (i : LinkInput) (ts : List Turn) (ending : Ending) → IsInputIn b i → AreTurnsIn ts → LinkIn b c n l
      → LinkIn b c (n + 13) (has_input l i ts ending)
  link_has_input l i ts ending is turns h =
      finish_in b c n (with_ended l (is_some (ended_by l.controller.side i))) (turned (after_input l.controller.side i) ts) ending
      (side_after l i ts is turns h) (acts_after l i ts is h) (so_ended IsLineFrame n l (is_some (ended_by l.controller.side i)) (but b c n l h))

  link_restarted : (l : Link) (i : LinkInput) (ts : List Turn) (ending : Ending) → IsInputIn b i → AreTurnsIn ts → LinkIn b c n l
      → LinkIn b c (n + 13) (has_restarted l (after_input l.controller.side i) ts ending)
  link_restarted l i ts ending is turns h =
      finish_in b c n (silent l (after_input l.controller.side i)) (turned (after_input l.controller.side i) ts) ending (side_after l i ts is turns h)
      (acts_after l i ts is h) (so_silent IsLineFrame n l (after_input l.controller.side i) tt (but b c n l h))

  link_has_taken : (l : Link) (x : OnWire) (xs : List OnWire) (ts : List Turn) (ending : Ending) → l.to_controller ≡ x ∷ xs → AreTurnsIn ts
      → LinkIn b c n l → LinkIn b c (n + 13) (has_taken l x xs ts ending)
  link_has_taken l x xs ts ending q turns h =
      let wire : WireIs IsLineFrame n (x ∷ xs) = subst (WireIs IsLineFrame n) q h.to_near in
      finish_in b c n (left_with l x xs) (turned (after_input l.controller.side (Take x.frame)) ts) ending
      (side_after l (Take x.frame) ts wire.frames.0.frame turns h) (acts_after l (Take x.frame) ts wire.frames.0.frame h)
      (so_left IsLineFrame n l x xs q (but b c n l h))

  pub link_steps : (l : Link) (comes : Comes) (ts : List Turn) (ending : Ending) → ComesIn b comes → AreTurnsIn ts → LinkIn b c n l
      → LinkIn b c (n + 13) (steps_at_controller l comes ts ending)
  link_steps l NextFrame ts ending is turns h = go l.to_controller refl
    where
      by : List OnWire → Link
      by [] = l
      by (x ∷ xs) = has_taken l x xs ts ending

      go : (w : List OnWire) → l.to_controller ≡ w → LinkIn b c (n + 13) (by w)
      go [] q = link_in_more b c n (n + 13) l (omega arith) h
      go (x ∷ xs) q = link_has_taken l x xs ts ending q turns h
  link_steps l (AsksReset window) ts ending is turns h = link_has_input l (Reset window) ts ending is turns h
  link_steps l (Starts value) ts ending is turns h = link_restarted l (Start value) ts ending is turns h
  link_steps l Stops ts ending is turns h = link_restarted l Stop ts ending tt turns h
  link_steps l NoInput ts ending is turns h =
      let none = ap length h.near.side.calm in
      let later = turned_acts ts l.controller.side in
      finish_in b c n l (turned l.controller.side ts) ending
      (side_turned b (n + 8) ts l.controller.side turns (side_more b n (n + 8) l.controller.side (omega arith) h.near.side.side)) (omega (arith, none, later))
      (but b c n l h)

-- ## The entries of a world of nodes are in their ranges, where no number of a session in them is above a bound
-- What a boot finds and what ANY_OK counts isn't spoken of.

-- ### Entries

-- a value that is set is short
abbrev pub IsShortCommand : Command → Type 0
IsShortCommand (Set host gate param value) = length value.items ≤ 4095
IsShortCommand c = Unit {0}

-- an entry is in its range, and no number of a session in it is above n
abbrev pub IsIn : ℕ → Entry → Type 0
IsIn n (entry.Up at session) = IsEnd at × (session ≤ n)
IsIn n (entry.GaveUp at tries) = IsEnd at × (tries ≤ 5)
IsIn n (entry.Acked at session count) = IsEnd at × (session ≤ n) × (count ≤ n)
IsIn n (entry.Sent at session pid message) = IsEnd at × (session ≤ n) × IsMail (pid, message)
IsIn n (entry.Got at session pid message) = IsEnd at × (session ≤ n) × IsMail (pid, message)
IsIn n (entry.Command node c) = IsByte node × IsSaidCommand c × IsShortCommand c
IsIn n (entry.AnyOk node count) = IsByte node
IsIn n (entry.Booted node count) = IsByte node
IsIn n x = IsEntry x

abbrev pub AreIn : ℕ → List Entry → Type 0
AreIn n t = AllByRecursion (IsIn n) t

in_more : (n k : ℕ) → n ≤ k → (x : Entry) → IsIn n x → IsIn k x
in_more n k more x h = grind arith

pub all_in_more : (n k : ℕ) (t : List Entry) → n ≤ k → AreIn n t → AreIn k t
all_in_more n k t more h = all_mapped Entry (IsIn n) (IsIn k) t (in_more n k more) h

pub in-append : (n : ℕ) (t u : List Entry) → AreIn n t → AreIn n u → AreIn n (t ++ u)
in-append n t u h k = each-append (IsIn n) t u h k

-- where each element of a list comes to entries in their ranges, all do
pub each_in : {X : Type 0} (n : ℕ) (P : X → Type 0) (f : X → List Entry) → ((x : X) → P x → AreIn n (f x)) → (xs : List X) → AllByRecursion P xs
    → AreIn n (flat_map f xs)
each_in n P f one [] a = tt
each_in n P f one (x ∷ xs) a = in-append n (f x) (flat_map f xs) (one x a.0) (each_in n P f one xs a.1)

-- ### What is noted of one link

-- the bytes of a frame
pub line_lpdu : (c : Control) → IsLineFrame c → IsLpdu (lpdu_of c)
line_lpdu Clt h = lpdu_by 0x40 [] (omega arith) tt (omega arith)
line_lpdu (ActFrame Ready true) h = lpdu_by (0x60 + 8) [] (omega arith) tt (omega arith)
line_lpdu (ActFrame Ready false) h = lpdu_by (0x60 + 0) [] (omega arith) tt (omega arith)
line_lpdu (ActFrame (SyncId id) true) h = lpdu_by (0x61 + 8) (id / 256 ∷ id % 256 ∷ []) (omega arith) (omega (arith, h), (omega arith, tt)) (omega arith)
line_lpdu (ActFrame (SyncId id) false) h = lpdu_by (0x61 + 0) (id / 256 ∷ id % 256 ∷ []) (omega arith) (omega (arith, h), (omega arith, tt)) (omega arith)
line_lpdu (ActFrame (PowerMode power) true) h = lpdu_by (0x62 + 8) (power ∷ []) (omega arith) (h, tt) (omega arith)
line_lpdu (ActFrame (PowerMode power) false) h = lpdu_by (0x62 + 0) (power ∷ []) (omega arith) (h, tt) (omega arith)
line_lpdu c h = lpdu_in c h

abbrev pub IsNotedIn : ℕ → Noted → Type 0
IsNotedIn n x = NotedBy IsLineFrame IsMail IsMail n x

abbrev pub AreNotedIn : ℕ → List Noted → Type 0
AreNotedIn n t = AllByRecursion (IsNotedIn n) t

module _ (h n : ℕ) (low : h < 256) where
  one_entry : (x : Noted) → IsNotedIn n x → AreIn n (entry_of h x)
  one_entry (Up who k) p = ((end_in h who low, p), tt)
  one_entry (Down who cause) p = (end_in h who low, tt)
  one_entry (Active who) p = (end_in h who low, tt)
  one_entry (GaveUp who tries) p = ((end_in h who low, p), tt)
  one_entry (Acked who k count) p = ((end_in h who low, p.0, p.1), tt)
  one_entry (Got who k m) p = ((end_in h who low, p.0, p.1), tt)
  one_entry (Sent who k m) p = ((end_in h who low, p.0, p.1), tt)
  one_entry (Emit who c) p = ((end_in h who low, (line_lpdu c p).bytes_are), tt)
  one_entry (Took who c) p = ((end_in h who low, (line_lpdu c p).bytes_are), tt)
  one_entry (Lost who c why) p = ((end_in h who low, (line_lpdu c p).bytes_are), tt)
  one_entry _ p = tt

  pub all_entries_in : (t : List Noted) → AreNotedIn n t → AreIn n (entries_for h t)
  all_entries_in [] p = tt
  all_entries_in (x ∷ t) p = in-append n (entry_of h x) (entries_for h t) (one_entry x p.0) (all_entries_in t p.1)

-- ### What is told of an input

pub told_in_range : (n : ℕ) (who : Side) (k : ℕ) (r : Report) (acked : ℕ) → k ≤ n → acked ≤ n → ReportIn r → AreNotedIn n (told who k r acked)
told_in_range n who k r acked low few is = noted_told IsLineFrame IsMail IsMail n who k r acked low few is.tries is.got

-- ## Commands and tables of a world of nodes are in their ranges

-- ### Bytes

pub index_in : (bytes : List ℕ) (k : ℕ) → AreBytes bytes → slice_index bytes k < 256
index_in [] k h = omega arith
index_in (b ∷ bytes) zero h = h.0
index_in (b ∷ bytes) (suc k) h = index_in bytes k h.1

found_in : {X : Type 0} (P : X → Type 0) (test : X → Bool) (xs : List X) (x : X) → AllByRecursion P xs → find test xs ≡ Some x → P x
found_in P test [] x h q = absurd (cc q)
found_in P test (y ∷ xs) x h q =
    cond_both (test y) (Some y) (find test xs) (λ o. o ≡ Some x → P x) (λ _ is. let same : y ≡ x = cc in subst P same h.0)
    (λ _ is. found_in P test xs x h.1 is) q

-- ### Rows

-- a pipe is between 02 and 6F
abbrev pub IfMade : Command → Type 0
IfMade (Create row) = IsDynamic row.pid
IfMade c = Unit {0}

pub record IsCommandIn (c : Command) : Type 0 where
  pub said : IsSaidCommand c
  pub short : IsShortCommand c
  pub made : IfMade c

-- a value of a registry is in its range, and short
abbrev pub IsValueIn : RegValue → Type 0
IsValueIn v = IsSaidValue v × (length v.value.items ≤ 4095)

-- tables are in their ranges
pub record AreTablesIn (t : HciTables) : Type 0 where
  pub pipes : AllByRecursion IsSaidPipe t.rows
  pub statics : AllByRecursion IsSaidStatic t.statics
  pub values : AllByRecursion IsValueIn t.values
  pub syncs : AllByRecursion IsSaidSync t.syncs

row_put : {X : Type 0} (P : X → Type 0) (key : X → ℕ) (row : X) (rows : List X) → P row → AllByRecursion P rows → AllByRecursion P (with_row key row rows)
row_put P key row rows is h =
    each-append P (rows_before key (key row) rows) (row ∷ rows_behind key (key row) rows) (AllByRecursion-filter P _ rows h)
    (is, AllByRecursion-filter P _ rows h)

static_in : (statics : List (ℕ × ℕ)) (host pid : ℕ) (opened : Bool) → IsByte host → IsByte pid → AllByRecursion IsSaidStatic statics
    → AllByRecursion IsSaidStatic (with_static statics host pid opened)
static_in statics host pid true a b h = row_put IsSaidStatic static_place (host, pid) statics (a, b) h
static_in statics host pid false a b h = AllByRecursion-filter IsSaidStatic _ statics h

opened_in : (rows : List PipeRow) (pid : ℕ) (opened : Bool) → AllByRecursion IsSaidPipe rows → AllByRecursion IsSaidPipe (with_opened rows pid opened)
opened_in [] pid opened h = tt
opened_in (row ∷ rows) pid opened h = let h0 = as_opened opened row in let h1 = opened_in rows pid opened h.1 in grind arith

value_in : (values : List RegValue) (host gate param : ℕ) (value : List ℕ) → IsByte host → IsByte gate → IsByte param → AreBytes value → length value ≤ 4095
    → AllByRecursion IsValueIn values → AllByRecursion IsValueIn (with_value values host gate param value)
value_in values host gate param value a b c bytes short h =
    cond_both (is_default param value) _ _ (AllByRecursion IsValueIn) (λ _. AllByRecursion-filter IsValueIn _ values h)
    (λ _. row_put IsValueIn place_of_value (record { host = host; gate = gate; param = param; value = record { items = value } }) values
    ((a, b, c, each_all IsByte value bytes), short) h)

pub applied_in : (c : Command) (t : HciTables) → IsSaidCommand c → IsShortCommand c → AreTablesIn t → AreTablesIn (apply t c)
applied_in (Create row) t is short h = record {
  pipes = row_put IsSaidPipe pid_of (as_opened false row) t.rows
      (record { pid = is.1.pid; creator = is.1.creator; creator_gate = is.1.creator_gate; dest = is.1.dest; dest_gate = is.1.dest_gate }) h.pipes;
  statics = h.statics;
  values = h.values;
  syncs = h.syncs;
}
applied_in (Delete pid) t is short h =
    record { pipes = AllByRecursion-filter IsSaidPipe _ t.rows h.pipes; statics = h.statics; values = h.values; syncs = h.syncs }
applied_in (Clear host) t is short h = record {
  pipes = AllByRecursion-filter IsSaidPipe _ t.rows h.pipes;
  statics = AllByRecursion-filter IsSaidStatic _ t.statics h.statics;
  values = AllByRecursion-filter IsValueIn _ t.values h.values;
  syncs = h.syncs;
}
applied_in (SetOpened host pid opened) t is short h =
    cond_both (nat_lt pid 2) _ _ AreTablesIn
    (λ _. record { pipes = h.pipes; statics = static_in t.statics host pid opened is.0 is.1 h.statics; values = h.values; syncs = h.syncs })
    (λ _. record { pipes = opened_in t.rows pid opened h.pipes; statics = h.statics; values = h.values; syncs = h.syncs })
applied_in (Set host gate param value) t is short h = record {
  pipes = h.pipes;
  statics = h.statics;
  values = value_in t.values host gate param value.items is.0 is.1 is.2 (all_each IsByte value.items is.3) short h.values;
  syncs = h.syncs;
}
applied_in (Sync host id) t is short h = record {
  pipes = h.pipes;
  statics = h.statics;
  values = cond_both (is_kept_sync t.syncs host id) t.values (without_identity t.values host) (AllByRecursion IsValueIn) (λ _. h.values)
      (λ _. value_in t.values host 0 1 (default_of 1) is.0 (omega arith) (omega arith) (grind arith) (grind arith) h.values);
  syncs = row_put IsSaidSync sync_host (host, id) t.syncs is h.syncs;
}

-- the pipes stay sorted and dynamic
pub rows_applied : (c : Command) (t : HciTables) → IfMade c → ArePipeRows t.rows → ArePipeRows (apply t c).rows
rows_applied (Create row) t is h = AreRows-with_row pid_of 2 112 (as_opened false row) t.rows h is.0 is.1
rows_applied (SetOpened host pid opened) t is h =
    cond_both (nat_lt pid 2) _ _ (λ (u : HciTables). ArePipeRows u.rows) (λ _. h)
    (λ _. AreRows-map pid_of (λ row. cond (row.pid == pid) (as_opened opened row) row) 2 112 t.rows
    (λ row. cond_both (row.pid == pid) (as_opened opened row) row (λ (r : PipeRow). r.pid ≡ row.pid) (λ _. refl) (λ _. refl)) h)
rows_applied (Set host gate param value) t is h = h
rows_applied (Sync host id) t is h = h
rows_applied _ t is h = AreRows-filter pid_of 2 112 _ t.rows h

-- ### What is read of a node

abbrev IsKeptCommand : Command → Type 0
IsKeptCommand c = IsSaidCommand c × IsShortCommand c

after_in : (cs : List Command) (t : HciTables) → AllByRecursion IsKeptCommand cs → AreTablesIn t → AreTablesIn (after_commands t cs)
after_in [] t is h = h
after_in (c ∷ cs) t is h = after_in cs (apply t c) is.1 (applied_in c t is.0.0 is.0.1 h)

closed_in : (rows : List PipeRow) → AllByRecursion IsSaidPipe rows → AllByRecursion IsSaidPipe (all_closed rows)
closed_in [] h = tt
closed_in (row ∷ rows) h = let h0 = closed_in rows h.1 in grind arith

record IsBookIn (b : Book) : Type 0 where
  commands : AllByRecursion IsKeptCommand b.commands
  tables : AreTablesIn b.tables

book_next : (n k : ℕ) (b : Book) (x : Entry) → IsIn n x → IsBookIn b → IsBookIn (book_after k b x)
book_next n k b (entry.Command node c) is h =
    cond_both (node == k) (with_command c b) b IsBookIn
    (λ _. record {
      commands = each-append IsKeptCommand b.commands (c ∷ []) h.commands ((is.1, is.2), tt);
      tables = applied_in c b.tables is.1 is.2 h.tables;
    }) (λ _. h)
book_next n k b (entry.Booted node m) is h =
    cond_both (node == k) (with_found m b) b IsBookIn
    (λ _. let some = AllByRecursion-take IsKeptCommand m b.commands h.commands in
    let t = after_in (take m b.commands) no_tables some (grind arith) in
    record { commands = some; tables = record { pipes = closed_in _ t.pipes; statics = tt; values = t.values; syncs = t.syncs } }) (λ _. h)
book_next n k b _ is h = h

books_in : (n k : ℕ) (t : List Entry) (b : Book) → AreIn n t → IsBookIn b → IsBookIn (fold (book_after k) b t)
books_in n k [] b is h = h
books_in n k (x ∷ t) b is h = books_in n k t (book_after k b x) is.1 (book_next n k b x is.0 h)

-- the tables that are read of entries in their ranges
pub tables_read_in : (n k : ℕ) (t : List Entry) → AreIn n t → AreTablesIn (tables_in t k)
tables_read_in n k t is = (books_in n k t new_book is (record { commands = tt; tables = grind arith })).tables

-- a value that is read of tables
pub value_read_in : (values : List RegValue) (host gate param : ℕ) → AllByRecursion IsValueIn values
    → AreBytes (value_at values host gate param) × (length (value_at values host gate param) ≤ 4095)
value_read_in values host gate param h = by_option (row_of place_of_value (value_place host param) values)
    (λ q. rw q (grind arith, grind arith))
    (λ v q. rw q (let is = found_in IsValueIn _ values v h q in (all_each IsByte v.value.items is.0.3, is.1)))

-- a command that may be recorded makes a pipe between 02 and 6F
pub recordable_made : (c : Command) → is_command c ≡ true → IfMade c
recordable_made c q = grind arith
