-- Every history of a node alone answers as is read: turns stand in order, and power that is lost is noted.
use Rattle.std.specs.List.{filter_map}
use Rattle.std.specs.Prelude.{None, Option, Some, is_none, is_some, length, not}
use Rattle.lone_laws.proofs.Words.{AllByRecursion, AllByRecursion-append, AnsweredAlone, AreInTurn, AreNoTurns, AreOwn, AreTables, AreTables-apply}
use Rattle.lone_laws.proofs.Words.{AreTables-close, AreTables-none, AtEachLoneEvent, AtEachNoted, Bool, Command, Commits, Control, Core, Deed, End, Entry}
use Rattle.lone_laws.proofs.Words.{ErrorCount, FetchMessage, FrameIsRefused, HciTables, HearsFirstAlone, Hold, IsAscending, IsCommand, IsDueAlone, IsFirstThere}
use Rattle.lone_laws.proofs.Words.{IsHeldAlone, IsNoBoot, IsRepliedAlone, IsResetAlone, JoinTwo, JoinTwo-after, JoinTwo-closed, Lasts, LinkInput, List, Lone}
use Rattle.lone_laws.proofs.Words.{LoneCause, LoneEvent, Memory, NodeInput, Port, Running, Sends, Turn, TurnsAscendAlone, Work, [], after_sessions, all_come}
use Rattle.lone_laws.proofs.Words.{all_owed, anyone, ap, applied, apply, ap₂, arith, body_of, boot_writes, by_option, by_test, close, command_of, command_read}
use Rattle.lone_laws.proofs.Words.{commit_writes, cond, cons_option, deed_notes, does_by_power, done, emits_behind, end_of_node, entries_of_events_alone, eqb}
use Rattle.lone_laws.proofs.Words.{errors_found, fails_within, false, flat_map, fold, fold-append, forgets, forgotten, found, frames_behind, goes_through_end}
use Rattle.lone_laws.proofs.Words.{holds_after, if◌then◌else◌, is_answer_of, is_at_rest, is_cut_of, is_done_alone, is_left_lacking, is_short_alone, keeps}
use Rattle.lone_laws.proofs.Words.{link_of_turn, list_any, lone_arrival, lone_behind_step, lone_booted, lone_end, lone_events, lone_input, lone_step, lone_work}
use Rattle.lone_laws.proofs.Words.{loses_power, lpdu_of, map, new_desk, no_tables, node_input, node_of, noted_by_deed, noted_of, noted_of_refused, noting}
use Rattle.lone_laws.proofs.Words.{oldest, option_map_or, port_at, records, refl, rest_lasts, runs_behind, spelled_by, steps, subst, sym, synced, tables_of}
use Rattle.lone_laws.proofs.Words.{times_out, true, true≢false, turn_at, turn_link, unhandled_after, with_error, with_refusal, without_notice, ℕ, ◌&&◌, ◌++◌}
use Rattle.lone_laws.proofs.Words.{◌==◌, ◌||◌, ◌∙◌, ◌∷◌, ◌≡◌, ◌≤◌}
use Rattle.node_laws.proofs.worlds.Late.{AreUnanswered, AreUnheard, IsParted, first_heard, parted_for, step_parted}
use Rattle.swp_base.specs.declared.link_terms.FrameFault.{FrameFault}
use Rattle.lone_laws.proofs.answered.Answering.{answered_in_step, replied_silent}
use Rattle.lone_laws.proofs.answered.Dues.{due_in_step}
use Rattle.lone_laws.proofs.answered.Replied.{errs-append, errs_all}
use Rattle.lone_laws.proofs.answered.Knowing.{IfKeeps, IsAtEnd, LoneKeeps, OrderAt, are_in_turn, at_each, at_own_end, at_rest, begin_read, ended, in_order}
use Rattle.lone_laws.proofs.answered.Knowing.{keeps_step, none_at, order_silent, step_is}
use Rattle.lone_laws.proofs.answered.Keeping.{KeepsAll, all_passing, core_of, errors_of, keeps_behind}
use Rattle.lone_laws.proofs.answered.Replying.{cut_same, due_is, is_own_cut, own_behind, replied_is, step_own}
use Rattle.lone_laws.proofs.answered.Resets.{reset_in_step}
use Rattle.lone_laws.proofs.answered.Talking.{Reads, no_session_now, reads_silent, talk_of_side}
use Rattle.lone_laws.proofs.answered.Shorting.{short_behind}
use Rattle.swp_base.specs.declared.link_terms.FrameFault.TheVariants as fault
use Rattle.trace_model.specs.declared.entry.Entry.TheVariants as entry

-- ## A node that has lost its power in a step has noted it

-- where its power has gone, that was noted
abbrev IsCutNoted : Work → Type 0
IsCutNoted w = w.cut ≡ true → list_any is_own_cut w.entries ≡ true

or_still : (c r s : Bool) → (r ≡ true → s ≡ true) → (c || r) ≡ true → (c || s) ≡ true
or_still c r s f q = grind arith

or_right : (c s : Bool) → s ≡ true → (c || s) ≡ true
or_right c s q = grind arith

any_more : (a b : List Entry) → list_any is_own_cut a ≡ true → list_any is_own_cut (a ++ b) ≡ true
any_more [] b q = absurd (true≢false (sym q))
any_more (x ∷ a) b q = or_still (is_own_cut x) (list_any is_own_cut a) (list_any is_own_cut (a ++ b)) (any_more a b) q

any_behind : (a b : List Entry) → list_any is_own_cut b ≡ true → list_any is_own_cut (a ++ b) ≡ true
any_behind [] b q = q
any_behind (x ∷ a) b q = or_right (is_own_cut x) (list_any is_own_cut (a ++ b)) (any_behind a b q)

noting_noted : (es : List Entry) (w : Work) → IsCutNoted w → IsCutNoted (noting es w)
noting_noted es w a q = any_more w.entries es (a q)

turn_noted : (h : ℕ) (x : Turn) (w : Work) → IsCutNoted w → IsCutNoted (turn_at h x w)
turn_noted h x w a q = any_more w.entries (option_map_or (noted_of w.core x) (port_at w.ports h) []) (a q)

-- more is noted, and the power stays as it is
more_noted : (w v : Work) (es : List Entry) → v.cut ≡ w.cut → v.entries ≡ w.entries ++ es → IsCutNoted w → IsCutNoted v
more_noted w v es cut entries a q = subst (λ l. list_any is_own_cut l ≡ true) (sym entries) (any_more w.entries es (a (sym cut ∙ q)))

cut_deed : (h : ℕ) (d : Deed) (w : Work) → Unit {0} → IsCutNoted w → IsCutNoted (done h d w)
cut_deed h (Commits c) w may a = by_test (fails_within (length (commit_writes w.core.journal w.core.tables (body_of c))) w.plan)
    (λ is. rw is (λ q. any_behind (w.entries ++ entry.Command w.core.node c ∷ []) (entry.Cut w.core.node ∷ []) refl))
    (λ is. rw is (more_noted w (by false) (entry.Command w.core.node c ∷ []) refl refl a)) where
      by : Bool → Work
      by true = loses_power (commit_writes w.core.journal w.core.tables (body_of c)) (noting (entry.Command w.core.node c ∷ []) w)
      by false = keeps c (commit_writes w.core.journal w.core.tables (body_of c)) (noting (entry.Command w.core.node c ∷ []) w)
cut_deed h (Sends to m) w may a = (more_noted w (done h (Sends to m) w) (noted_by_deed h (Sends to m) w) refl (deed_notes h (Sends to m) w) a)
cut_deed h d w may a = (more_noted w (done h d w) (noted_by_deed h d w) refl (deed_notes h d w) a)

cut_lasts : Lasts IsCutNoted (λ d. Unit {0}) (λ h m. Unit {0})
cut_lasts = record {
  does = cut_deed;
  turn_told = λ h m w c a. noting_noted (entry.Turn (end_of_node w.core h) m.0 m.1 ∷ []) w a;
  held_told = λ h need spare w a. noting_noted (entry.Held (end_of_node w.core h) need spare ∷ []) w a;
  fetched = λ h w a. turn_noted h FetchMessage w a;
  held = λ h flag w a. turn_noted h (Hold flag) w a;
  marked = λ h flag w a q. a q;
  come = λ h w a. anyone (λ m. Unit {0}) (λ m. tt) _;
  causes = λ h m w c a. anyone (λ d. Unit {0}) (λ d. tt) _;
}

-- So it is behind each step of a node whose power was on.
cut_noted : (input : NodeInput) (w : Work) → w.cut ≡ false → IsCutNoted (steps input w)
cut_noted input w on =
    let came : Work = times_out input (all_come input w) in
    let left : List Port = map (forgets came.ports) came.ports in
    rest_lasts IsCutNoted (λ d. Unit {0}) (λ h m. Unit {0}) cut_lasts (forgotten came.ports) (flat_map (synced w.core input) w.ports) (all_owed left)
    (record came { core = after_sessions came.core came.ports; ports = map without_notice left })
    (anyone (λ d. Unit {0}) (λ d. tt) _) (anyone (λ d. Unit {0}) (λ d. tt) _) (anyone (λ d. Unit {0}) (λ d. tt) _)
    (λ q. absurd (true≢false (sym q ∙ (grind arith))))

-- ## In an event of a node alone turns stand in the order of their links, since it has one, and nothing comes behind an answer

-- ### Turns

above : (k : ℕ) (ks : List ℕ) (x : ℕ) → x ≡ k → AllByRecursion (λ j. j ≡ k) ks → AllByRecursion (λ j. x ≤ j) ks
above k [] x is all = tt
above k (j ∷ ks) x is all = let same = all.0 in (omega (arith, is, same), above k ks x is all.1)

same_ascend : (k : ℕ) (ks : List ℕ) → AllByRecursion (λ j. j ≡ k) ks → IsAscending ks
same_ascend k [] all = tt
same_ascend k (j ∷ ks) all = (above k ks j all.0 all.1, same_ascend k ks all.1)

links_are : (n : ℕ) (e : End) (es : List Entry) → ((front behind : List Entry) (x : Entry) → es ≡ front ++ (x ∷ behind) → IsAtEnd e x)
    → AllByRecursion (λ k. k ≡ e.link) (filter_map (turn_link n) es)
links_are n e [] each = tt
links_are n e (x ∷ es) each = one x (each [] es x refl) (links_are n e es (λ f b y q. each (x ∷ f) b y (ap (λ l. x ∷ l) q))) where
  at : (f : End) → f ≡ e → AllByRecursion (λ k. k ≡ e.link) (filter_map (turn_link n) es)
      → AllByRecursion (λ k. k ≡ e.link) (cons_option (if node_of f == n then Some f.link else None) (filter_map (turn_link n) es))
  at f is later = by_test (node_of f == n) (λ q. rw q (ap (λ (g : End). g.link) is, later)) (λ q. rw q later)

  one : (x : Entry) → IsAtEnd e x → AllByRecursion (λ k. k ≡ e.link) (filter_map (turn_link n) es)
      → AllByRecursion (λ k. k ≡ e.link) (filter_map (turn_link n) (x ∷ es))
  one x is later = grind arith

-- where each is at one end
own_ascend : (e : End) (es : List Entry) → ((front behind : List Entry) (x : Entry) → es ≡ front ++ (x ∷ behind) → IsAtEnd e x) → (n : ℕ)
    → IsAscending (filter_map (turn_link n) es)
own_ascend e es each n = same_ascend e.link (filter_map (turn_link n) es) (links_are n e es each)

-- ### What comes

emits_unheard : (e : End) (frames : List Control) → AreUnheard (map (λ c. entry.Emit e (lpdu_of c)) frames)
emits_unheard e [] = tt
emits_unheard e (c ∷ frames) = (refl, emits_unheard e frames)

-- in a step whose frames go out
heard_in_step : (l : Lone) (c : LoneCause) (input : NodeInput) (w : Work) → w.entries ≡ lone_arrival l c → (e : End) (frames : List Control)
    → (front behind : List Entry) (x : Entry) → (steps input w).entries ++ map (λ c. entry.Emit e (lpdu_of c)) frames ≡ front ++ (x ∷ behind)
    → HearsFirstAlone x behind
heard_in_step l c input w begins e frames front behind x q n =
    let emits : List Entry = map (λ c. entry.Emit e (lpdu_of c)) frames in
    let parted : IsParted ((steps input w).entries ++ emits) =
    step_parted input w emits (subst AreUnanswered (sym begins) (grind arith)) (emits_unheard e frames) in
    first_heard n ((steps input w).entries ++ emits) front behind x (parted_for n ((steps input w).entries ++ emits) parted) q

-- ## Every history of a node alone answers as is read

is_first : (t : List Entry) (x : Entry) (behind : List Entry) → OrderAt t x behind → IsFirstThere t x
is_first t x behind a = grind arith

-- ### What holds of an event

pub record EventFacts (F : Core) (h : ℕ) (t : List Entry) (o : LoneEvent) : Type 0 where
  pub turns : (front behind : List Entry) (x : Entry) → o.entries ≡ front ++ (x ∷ behind)
      → IsRepliedAlone F h (t ++ front) x behind × IsHeldAlone F h (t ++ front) x behind
  pub first : (front behind : List Entry) (x : Entry) → o.entries ≡ front ++ (x ∷ behind) → IsFirstThere (t ++ front) x
  pub done : is_done_alone F h t o ≡ true
  pub short : is_short_alone F h t o ≡ true
  pub due : IsDueAlone F h t o
  pub reset : IsResetAlone F h t o
  pub ascending : TurnsAscendAlone t o
  pub heard : (front behind : List Entry) (x : Entry) → o.entries ≡ front ++ (x ∷ behind) → HearsFirstAlone x behind

-- what is kept between events
pub record Between (rest : Core) (number h : ℕ) (t : List Entry) (l : Lone) : Type 0 where
  pub number_is : l.number ≡ number
  pub link_is : l.link ≡ h
  pub all : (n : Running) → l.node ≡ Some n → KeepsAll rest t l n
  pub rests : (n : Running) → l.node ≡ Some n → is_at_rest (lone_end l) t ≡ true

cond_true : (b x : Bool) → (b ≡ true → x ≡ true) → cond b x true ≡ true
cond_true b x q = grind arith

and_cond : (a b x : Bool) → (b ≡ true → x ≡ true) → cond (a && b) x true ≡ true
and_cond a b x q = grind arith

not_true : (b : Bool) → not b ≡ true → b ≡ true → ⊥
not_true b q r = grind arith

-- ### A step

module _ (rest : Core) (t : List Entry) (l : Lone) (some : 1 ≤ l.link) (most : l.link ≤ 7) (its : eqb l.number 0 ≡ false → l.number ≡ l.link) (n : Running)
    (on : l.node ≡ Some n) (k : KeepsAll rest t l n) (c : LoneCause) (i : LinkInput) (comes : lone_input c ≡ Some i) where
  abbrev G : Core
  G = core_of rest l.number

  abbrev last : Work
  last = ended G t l some most n k.keep c i comes

  abbrev es : List Entry
  es = last.entries ++ emits_behind l last

  abbrev event : LoneEvent
  event = record { cause = c; entries = es }

  -- what is noted is its own
  own : AreOwn l.number es
  own = step_own l its n k.keep.desk k.keep.desks_are k.keep.host k.keep.node c i (node_input l.link i) (frames_behind l last)

  -- where it runs behind it, it kept its power
  ran : runs_behind l.number event ≡ true → last.cut ≡ false
  ran q = by_test last.cut
      (λ z. absurd (not_true (list_any (is_cut_of l.number) es) q
      (cut_same l.number es own ∙ any_more last.entries (emits_behind l last) (cut_noted (node_input l.link i) (lone_work l n i (lone_arrival l c)) refl z))))
      (λ z. z)

  facts : EventFacts G l.link t event
  facts = record {
    turns = λ front behind x q.
        let both = answered_in_step rest t l some most its n c i comes k.keep (all_passing rest t l some most its n k c i comes) front behind x q in
        (replied_is G l.link (t ++ front) x behind (own_behind l.number front behind x (subst (AreOwn l.number) q own)) both.0, both.1);
    first = λ front behind x q. is_first (t ++ front) x behind (in_order G t l some most n k.keep c i comes front behind x q);
    done = cond_true (runs_behind l.number event) (is_at_rest (lone_end l) (t ++ es)) (λ q. at_rest G t l some most n k.keep c i comes (ran q));
    short = and_cond (goes_through_end c) (runs_behind l.number event) (is_left_lacking G l.link (t ++ es))
        (λ q. short_behind rest t l some most its n k c i comes (ran q));
    due = due_is G l.link t event own (due_in_step rest t l some most n k c i comes);
    reset = reset_in_step rest t l some most its n k c i comes;
    ascending = own_ascend (lone_end l) es (at_own_end G t l some most n k.keep c i comes);
    heard = heard_in_step l c (node_input l.link i) (lone_work l n i (lone_arrival l c)) refl (lone_end l) (frames_behind l last);
  }

  runs_still : (m : Running) → (lone_behind_step l i last).node ≡ Some m → last.cut ≡ false
  runs_still m q = by_test last.cut
      (λ z. grind arith)
      (λ z. z)

  input_step : EventFacts G l.link t (record { cause = c; entries = (lone_step l c).1 })
      × ((m : Running) → (lone_step l c).0.node ≡ Some m → KeepsAll rest (t ++ (lone_step l c).1) (lone_step l c).0 m)
      × ((m : Running) → (lone_step l c).0.node ≡ Some m → is_at_rest (lone_end (lone_step l c).0) (t ++ (lone_step l c).1) ≡ true)
      × ((lone_step l c).0.number ≡ l.number) × ((lone_step l c).0.link ≡ l.link)
  input_step =
      let is : lone_step l c ≡ (lone_behind_step l i last, es) = step_is l n c i on comes in
      let keeps : IfKeeps (begin_read G) (t ++ es) (lone_behind_step l i last) =
      subst (λ (x : Lone × List Entry). IfKeeps (begin_read G) (t ++ x.1) x.0) is
      (keeps_step (begin_read G) t l c some most (ap is_some on)
      (λ m q. let both : Some n ≡ Some m = sym on ∙ q in let same : n ≡ m = cc in subst (LoneKeeps (begin_read G) t l) same k.keep)) in
      subst (λ (x : Lone × List Entry). EventFacts G l.link t (record { cause = c; entries = x.1 })
      × ((m : Running) → x.0.node ≡ Some m → KeepsAll rest (t ++ x.1) x.0 m)
      × ((m : Running) → x.0.node ≡ Some m → is_at_rest (lone_end x.0) (t ++ x.1) ≡ true)
      × (x.0.number ≡ l.number) × (x.0.link ≡ l.link)) (sym is) (
        facts,
        (λ m q. keeps_behind rest t l some most its n k c i comes m q (keeps m q)),
        (λ m q. at_rest G t l some most n k.keep c i comes (runs_still m q)),
        refl,
        refl,
      )

-- ### A frame that is refused

module _ (rest : Core) (t : List Entry) (l : Lone) (n : Running) (on : l.node ≡ Some n) (k : KeepsAll rest t l n) (f : FrameFault) where
  abbrev J : Core
  J = core_of rest l.number

  abbrev e : End
  e = lone_end l

  abbrev lost : List Entry
  lost = noted_of_refused l (FrameIsRefused f)

  abbrev counted : Lone
  counted = record l { node = Some (with_refusal l.link n) }

  counted_errors : (errs_all e (errors_found J) (t ++ lost)).errors ≡ errors_of (with_error l.link n.desks)
  counted_errors =
      ap (λ (r : ErrorCount). r.errors) (errs-append e (errors_found J) t lost)
      ∙ (grind arith)

  counted_all : LoneKeeps (begin_read J) (t ++ lost) counted (with_refusal l.link n) → KeepsAll rest (t ++ lost) counted (with_refusal l.link n)
  counted_all keep = record {
    keep = keep;
    talks = record {
      talk = reads_silent e l.number l.session t lost (talk_of_side l.side l.session) (tt, tt) k.talks.talk;
      numbers = k.talks.numbers;
      sound = k.talks.sound;
      aside = k.talks.aside;
      role = k.talks.role;
      clean = k.talks.clean;
    };
    errs = record { are = counted_errors; unbooted = AllByRecursion-append IsNoBoot t lost k.errs.unbooted (tt, tt) };
  }

  rests_still : is_at_rest e t ≡ true → is_at_rest e (t ++ lost) ≡ true
  rests_still rests = ap₂ (λ ms b. is_none (oldest ms) || b) (fold-append (unhandled_after e) [] t lost) (fold-append (holds_after e) false t lost) ∙ rests

  refused_facts : is_at_rest e t ≡ true → EventFacts J l.link t (record { cause = FrameIsRefused f; entries = lost })
  refused_facts rests = record {
    turns = λ front behind x q.
        let both = replied_silent J l.link (t ++ front) x behind (none_at (λ y. link_of_turn y ≡ None) front behind x (subst AreNoTurns q (refl, tt))) in
        (replied_is J l.link (t ++ front) x behind (own_behind l.number front behind x (subst (AreOwn l.number) q (tt, tt))) both.0, both.1);
    done = rests_still rests;
    short = refl;
    due = due_is J l.link t (record { cause = FrameIsRefused f; entries = lost }) (tt, tt) refl;
    reset = refl;
    first = λ front behind x q.
        is_first (t ++ front) x behind (order_silent (t ++ front) x behind (none_at (λ y. link_of_turn y ≡ None) front behind x
        (subst AreNoTurns q (refl, tt))));
    ascending = λ n. tt;
    heard = λ front behind x q n answers.
        absurd (true≢false (sym answers ∙ none_at (λ y. is_answer_of n y ≡ false) front behind x
        (subst (AllByRecursion (λ y. is_answer_of n y ≡ false)) q (refl, tt))));
  }

  refused_step : 1 ≤ l.link → l.link ≤ 7 → is_at_rest e t ≡ true
      → EventFacts J l.link t (record { cause = FrameIsRefused f; entries = (lone_step l (FrameIsRefused f)).1 })
      × ((m : Running) → (lone_step l (FrameIsRefused f)).0.node ≡ Some m
      → KeepsAll rest (t ++ (lone_step l (FrameIsRefused f)).1) (lone_step l (FrameIsRefused f)).0 m)
      × ((m : Running) → (lone_step l (FrameIsRefused f)).0.node ≡ Some m
      → is_at_rest (lone_end (lone_step l (FrameIsRefused f)).0) (t ++ (lone_step l (FrameIsRefused f)).1) ≡ true)
      × ((lone_step l (FrameIsRefused f)).0.number ≡ l.number) × ((lone_step l (FrameIsRefused f)).0.link ≡ l.link)
  refused_step some most rests =
      let is : lone_step l (FrameIsRefused f) ≡ (counted, lost) = ap (does_by_power l (FrameIsRefused f)) on in
      let keeps : IfKeeps (begin_read J) (t ++ lost) counted =
      subst (λ (x : Lone × List Entry). IfKeeps (begin_read J) (t ++ x.1) x.0) is
      (keeps_step (begin_read J) t l (FrameIsRefused f) some most (ap is_some on)
      (λ m q. let both : Some n ≡ Some m = sym on ∙ q in let same : n ≡ m = cc in subst (LoneKeeps (begin_read J) t l) same k.keep)) in
      subst (λ (x : Lone × List Entry). EventFacts J l.link t (record { cause = FrameIsRefused f; entries = x.1 })
      × ((m : Running) → x.0.node ≡ Some m → KeepsAll rest (t ++ x.1) x.0 m)
      × ((m : Running) → x.0.node ≡ Some m → is_at_rest (lone_end x.0) (t ++ x.1) ≡ true)
      × (x.0.number ≡ l.number) × (x.0.link ≡ l.link)) (sym is) (
        refused_facts rests,
        (λ m q. let same : with_refusal l.link n ≡ m = cc in subst (KeepsAll rest (t ++ lost) counted) same (counted_all (keeps (with_refusal l.link n) refl))),
        (λ m q. rests_still rests),
        refl,
        refl,
      )

-- ### Each event

module _ (rest : Core) (number h : ℕ) (some : 1 ≤ h) (most : h ≤ 7) (its : eqb number 0 ≡ false → number ≡ h) where
  abbrev F : Core
  F = core_of rest number

  abbrev Step : List Entry → LoneCause → Lone × List Entry → ℕ → ℕ → Type 0
  Step t c x m k = EventFacts (core_of rest m) k t (record { cause = c; entries = x.1 })
      × ((r : Running) → x.0.node ≡ Some r → KeepsAll rest (t ++ x.1) x.0 r)
      × ((r : Running) → x.0.node ≡ Some r → is_at_rest (lone_end x.0) (t ++ x.1) ≡ true)
      × (x.0.number ≡ m) × (x.0.link ≡ k)

  pub each_step : (t : List Entry) (l : Lone) (c : LoneCause) → is_some l.node ≡ true → Between rest number h t l
      → EventFacts F h t (record { cause = c; entries = (lone_step l c).1 }) × Between rest number h (t ++ (lone_step l c).1) (lone_step l c).0
  each_step t l c runs b = by_option l.node (λ off. absurd (true≢false (sym runs ∙ ap is_some off))) (λ n on. so (by_input n on (lone_input c) refl)) where
    its_l : eqb l.number 0 ≡ false → l.number ≡ l.link
    its_l q = b.number_is ∙ (its (ap (λ x. eqb x 0) (sym b.number_is) ∙ q) ∙ sym b.link_is)

    some_l : 1 ≤ l.link
    some_l = subst (λ x. 1 ≤ x) (sym b.link_is) some

    most_l : l.link ≤ 7
    most_l = subst (λ x. x ≤ 7) (sym b.link_is) most

    so : Step t c (lone_step l c) l.number l.link
        → EventFacts F h t (record { cause = c; entries = (lone_step l c).1 }) × Between rest number h (t ++ (lone_step l c).1) (lone_step l c).0
    so s = grind arith

    by_input : (n : Running) → l.node ≡ Some n → (o : Option LinkInput) → lone_input c ≡ o → Step t c (lone_step l c) l.number l.link
    by_input n on (Some i) q = input_step rest t l some_l most_l its_l n on (b.all n on) c i q
    by_input n on None q = by_cause c q where
      by_cause : (c : LoneCause) → lone_input c ≡ None → Step t c (lone_step l c) l.number l.link
      by_cause (FrameIsRefused f) q = refused_step rest t l n on (b.all n on) f some_l most_l (b.rests n on)
      by_cause _ q = absurd (cc q)

  each_event : (causes : List LoneCause) (t : List Entry) (l : Lone) → Between rest number h t l
      → (past back : List LoneEvent) (o : LoneEvent) → lone_events l causes ≡ past ++ (o ∷ back) → EventFacts F h (t ++ entries_of_events_alone past) o
  each_event causes t l b = at_each (EventFacts F h) (Between rest number h) each_step causes t l b

-- ### The beginning

fine_one : (t : HciTables) (o : Option Command) → ((c : Command) → o ≡ Some c → IsCommand c) → AreTables t × JoinTwo t.rows
    → AreTables (option_map_or (apply t) o t) × JoinTwo (option_map_or (apply t) o t).rows
fine_one t None may fine = fine
fine_one t (Some c) may fine = (AreTables-apply t c (may c refl) fine.0, JoinTwo-after t (c ∷ []) (may c refl, tt) fine.1)

fine_fold : (t : HciTables) (bodies : List (List ℕ)) → AreTables t × JoinTwo t.rows → AreTables (fold applied t bodies) × JoinTwo (fold applied t bodies).rows
fine_fold t [] fine = fine
fine_fold t (body ∷ bodies) fine = fine_fold (applied t body) bodies (fine_one t (command_of body) (λ c e. command_read (spelled_by body) c e) fine)

fine_tables : (content : List ℕ) → AreTables (close (tables_of content)) × JoinTwo (close (tables_of content)).rows
fine_tables content =
    let fine = fine_fold no_tables (records content) (AreTables-none, refl) in
    (AreTables-close (tables_of content) fine.0, JoinTwo-closed (tables_of content).rows fine.1)

module _ (number h : ℕ) (some : 1 ≤ h) (most : h ≤ 7) (its : eqb number 0 ≡ false → number ≡ h) (m : Memory) where
  -- what its boot finds
  abbrev pub booted_core : Core
  booted_core = (found number (h ∷ []) m.content).core

  abbrev l : Lone
  l = lone_booted number h m

  nothing_read : (e : End) (n : ℕ) → Reads e n 0 [] no_session_now
  nothing_read e n = grind arith

  begin_all : (n : Running) → l.node ≡ Some n → KeepsAll booted_core [] l n
  begin_all n on = go (fails_within (length (boot_writes m.content)) m.plan) on where
    go : (b : Bool) → cond b None (Some (found number (h ∷ []) m.content)) ≡ Some n → KeepsAll booted_core [] l n
    go true q = absurd (cc q)
    go false q =
        let is : found number (h ∷ []) m.content ≡ n = cc in
        subst (KeepsAll booted_core [] l) is (record {
          keep = record {
            desk = new_desk h;
            desks_are = refl;
            host = refl;
            none = refl;
            node = refl;
            command = refl;
            init = refl;
            good = λ z. fine_tables m.content;
            read = refl;
          };
          talks = grind arith;
          errs = record { are = refl; unbooted = tt };
        })

  pub begin_between : Between booted_core number h [] l
  begin_between = record { number_is = refl; link_is = refl; all = begin_all; rests = λ n on. refl }

  lone_facts : (causes : List LoneCause) (past back : List LoneEvent) (o : LoneEvent) → lone_events l causes ≡ past ++ (o ∷ back)
      → EventFacts booted_core h (entries_of_events_alone past) o
  lone_facts causes = each_event booted_core number h some most its causes [] l begin_between

  lone_replied : (causes : List LoneCause) → AtEachNoted (lone_events l causes) (IsRepliedAlone booted_core h)
  lone_replied causes past back o front behind x q z = ((lone_facts causes past back o q).turns front behind x z).0

  lone_held : (causes : List LoneCause) → AtEachNoted (lone_events l causes) (IsHeldAlone booted_core h)
  lone_held causes past back o front behind x q z = ((lone_facts causes past back o q).turns front behind x z).1

  lone_done : (causes : List LoneCause) → AtEachLoneEvent (lone_events l causes) (λ t o. is_done_alone booted_core h t o ≡ true)
  lone_done causes past back o q = (lone_facts causes past back o q).done

  lone_short : (causes : List LoneCause) → AtEachLoneEvent (lone_events l causes) (λ t o. is_short_alone booted_core h t o ≡ true)
  lone_short causes past back o q = (lone_facts causes past back o q).short

  lone_reset : (causes : List LoneCause) → AtEachLoneEvent (lone_events l causes) (IsResetAlone booted_core h)
  lone_reset causes past back o q = (lone_facts causes past back o q).reset

  lone_in_turn : (causes : List LoneCause) → AreInTurn (entries_of_events_alone (lone_events l causes))
  lone_in_turn causes =
      are_in_turn (lone_events l causes) (λ past back o front behind x q z. (lone_facts causes past back o q).first front behind x z)

  lone_due : (causes : List LoneCause) → AtEachLoneEvent (lone_events l causes) (IsDueAlone booted_core h)
  lone_due causes past back o q = (lone_facts causes past back o q).due

  -- Every message that comes to a node alone is answered, and nothing else is.
  pub lone_answered : (causes : List LoneCause) → AnsweredAlone booted_core h (lone_events l causes)
  lone_answered causes = record {
    in_turn = lone_in_turn causes;
    replied = lone_replied causes;
    held = lone_held causes;
    done = lone_done causes;
    short = lone_short causes;
    due = lone_due causes;
    reset = lone_reset causes;
    ascending = λ past back o q. (lone_facts causes past back o q).ascending;
    heard = λ past back o front behind x q z. (lone_facts causes past back o q).heard front behind x z;
  }
