-- What the filters read off a history is what those of the link read, so messages are in order and both ends have the sessions that are
-- read.
use Rattle.std.proofs.lemmas.List.Elements.{filter_map-append}
use Rattle.std.proofs.lemmas.Grind.{common_steps}
use Rattle.std.proofs.lemmas.List.Concat.{flat_map-append}
use Rattle.history.proofs.Words.{Acked, ActDue, Active, AllAllowed, AllByRecursion, Asked, AsksReset, Begins, Bool, Busy, ByAct, Cause, Chain, Book, Control}
use Rattle.history.proofs.Words.{Controller, Counts, Cut, CutOff, Damage, Deliver, Down, Emit, End, EndEvent, EndState, EndStep, Ends, Entry, Event, Follows}
use Rattle.history.proofs.Words.{GaveUp, Gets, Given, GoesOut, Got, HasNumbers, HasTick, Header, History, Host, InOrderIn, IsBare, IsEvent, IsFrontOf, IsHeader}
use Rattle.history.proofs.Words.{IsInOrder, IsLineOf, IsSendable, IsWindow, Line, Link, LinkEnd, LinkEvent, LinkInput, List, Lose, Lost, Message, NamedEnd}
use Rattle.history.proofs.Words.{NextFrame, NoAnswer, NoInput, None, Noted, NumberedEnd, OnWire, Option, Peer, Prefix, read-append, Readied, Ready, Report}
use Rattle.history.proofs.Words.{Reset, Restarted, Saying, Send, Sends, Sent, Side, Some, Starts, Step, StepsFollow, Stops, Take, Taken, Ticked, Took, Turn, Up}
use Rattle.history.proofs.Words.{WasLost, WasReset, [], acked_after, acked_in, after_input, after_link_events, aged, aged_entries, all_entries, all_events}
use Rattle.history.proofs.Words.{among, ap, arith, at, at_each_moment, at_end, bare_link, causes_in, causes_of, cons_option, drop, end_of, ended_by, entries}
use Rattle.history.proofs.Words.{entries_for, entries_of, entry_of, event_at, event_entries, event_of, events_at, events_of, exchanged, false, fetched}
use Rattle.history.proofs.Words.{flat_map, fold, frame_due, frames_of, frames_out, frames_to, good_of, got_in, got_in_session, happens, heard, here_entries}
use Rattle.history.proofs.Words.{host_of, idle, if_so, if◌then◌else◌, is_chain_fault, is_some, left_after, length, link_acked, link_after, link_after_all}
use Rattle.history.proofs.Words.{link_after_line, link_fault, link_got, link_sent, list_any, map, max, most_frames, nat_lt, number_of, opening_of}
use Rattle.history.proofs.Words.{option_to_list, other_end, outcome_of, put, put_entries, puts_entries, refl, refusal, replicate, report, rest_entries, said_of}
use Rattle.history.proofs.Words.{same_end, same_side, sent_by, sent_in, step_entries, subst, suc, sym, take, taken_entries, taken_of, tick_entries}
use Rattle.history.proofs.Words.{ticks_at_controller, told, told_of, took_with, trace, true, turn, turn_entries, turn_entry, turned, unwrap_or, whole_acked}
use Rattle.history.proofs.Words.{with_ended, zero, ℕ, ◌++◌, ◌-◌, ◌<◌, ◌==◌, ◌∙◌, ◌∷◌, ◌≡◌, ◌≤◌}
use Rattle.link_laws.proofs.entries.Disturbing.{no_chain_noted}
use Rattle.link_laws.proofs.entries.Hearing.{controller_heard as link_controller, host_heard as link_host}
use Rattle.link_laws.specs.entries.Sessions.{number_now}
use Rattle.link_laws.specs.machine.Machine.LinkInput.{Reset as InputReset}
use Rattle.link_laws.specs.messages.Links.EndEvent.{Lose as EndLose}
use Rattle.trace_model.specs.declared.line.Line.TheVariants.{Tick}

-- ## What the filters read off the entries of a history is what those of the link read off what was noted of it

-- ### At the ends of the link

-- ends of one link are the same where they are at the same side
pub same_as : (h : ℕ) (w who : Side) → same_end (end_of h w) (end_of h who) ≡ same_side w who
same_as h w who = grind arith

-- what is said, if so
abbrev pub if_said : Bool → Saying → Option Saying
if_said b s = if b then Some s else None

-- what no filter hears adds nothing
passed : {A : Type 0} (g : Option Saying → Option A) (b : Bool) (s : Saying) → g None ≡ None → g (Some s) ≡ None
    → cons_option (g (if_said b s)) [] ≡ []
passed g b s none some = grind arith

-- ### Messages sent

pub sent-all : (h : ℕ) (t : List Noted) (who : Side) (n : ℕ) → sent_in (entries_for h t) (end_of h who) n ≡ link_sent t who n
sent-all h [] who n = refl
sent-all h (x ∷ t) who n =
    filter_map-append (λ entry. sent_by n (said_of (end_of h who) entry)) (entry_of h x) (entries_for h t)
    ∙ (ap (λ ms. ms ++ sent_in (entries_for h t) (end_of h who) n) (grind arith)
    ∙ (ap (λ ms. link_sent (x ∷ []) who n ++ ms) (sent-all h t who n) ∙ sym (ap (λ (b : Book). b.sent) (read-append (x ∷ []) t who n))))

-- ### Messages got

pub got-all : (h : ℕ) (t : List Noted) (who : Side) (n : ℕ) → got_in (entries_for h t) (end_of h who) n ≡ link_got t who n
got-all h [] who n = refl
got-all h (x ∷ t) who n =
    filter_map-append (λ entry. got_in_session n (said_of (end_of h who) entry)) (entry_of h x) (entries_for h t)
    ∙ (ap (λ ms. ms ++ got_in (entries_for h t) (end_of h who) n) (grind arith)
    ∙ (ap (λ ms. link_got (x ∷ []) who n ++ ms) (got-all h t who n) ∙ sym (ap (λ (b : Book). b.got) (read-append (x ∷ []) t who n))))

-- ### Messages acknowledged

-- what doesn't count changes nothing
not_counted : (n a : ℕ) (b : Bool) (s : Saying) → acked_after n a (Some s) ≡ a → acked_after n a (if_said b s) ≡ a
not_counted n a b s q = grind arith

-- how many messages of the session are acknowledged after these entries
abbrev counted_from : ℕ → End → List Entry → ℕ → ℕ
counted_from n e t a = fold (λ before entry. acked_after n before (said_of e entry)) a t

acked-from : (h : ℕ) (t : List Noted) (who : Side) (n a : ℕ) → counted_from n (end_of h who) (entries_for h t) a ≡ max a (link_acked t who n)
acked-from h [] who n a = sym (omega arith)
acked-from h (Up w k ∷ t) who n a =
    ap (counted_from n (end_of h who) (entries_for h t)) (not_counted n a (same_end (end_of h w) (end_of h who)) (Begins k) refl) ∙ acked-from h t who n a
acked-from h (Down w cause ∷ t) who n a =
    ap (counted_from n (end_of h who) (entries_for h t)) (not_counted n a (same_end (end_of h w) (end_of h who)) Ends refl) ∙ acked-from h t who n a
acked-from h (Acked w k count ∷ t) who n a =
    acked-from h t who n (acked_after n a (if_said (same_end (end_of h w) (end_of h who)) (Counts k count)))
    ∙ (ap (λ b. max (acked_after n a (if_said b (Counts k count))) (link_acked t who n)) (same_as h w who)
    ∙ (grind arith))
acked-from h (Got w k m ∷ t) who n a =
    ap (counted_from n (end_of h who) (entries_for h t)) (not_counted n a (same_end (end_of h w) (end_of h who)) (Gets k m) refl) ∙ acked-from h t who n a
acked-from h (Sent w k m ∷ t) who n a =
    ap (counted_from n (end_of h who) (entries_for h t)) (not_counted n a (same_end (end_of h w) (end_of h who)) (Sends k m) refl) ∙ acked-from h t who n a
acked-from h (Emit w c ∷ t) who n a =
    ap (counted_from n (end_of h who) (entries_for h t)) (not_counted n a (same_end (end_of h w) (end_of h who)) _ refl) ∙ acked-from h t who n a
acked-from h (Took w c ∷ t) who n a =
    ap (counted_from n (end_of h who) (entries_for h t)) (not_counted n a (same_end (end_of h w) (end_of h who)) _ refl) ∙ acked-from h t who n a
acked-from h (Lost w c why ∷ t) who n a =
    ap (counted_from n (end_of h who) (entries_for h t)) (not_counted n a (same_end (end_of h w) (end_of h who)) _ refl) ∙ acked-from h t who n a
acked-from h (_ ∷ t) who n a = acked-from h t who n a

pub acked-all : (h : ℕ) (t : List Noted) (who : Side) (n : ℕ) → acked_in (entries_for h t) (end_of h who) n ≡ link_acked t who n
acked-all h t who n = acked-from h t who n 0 ∙ let z : max 0 (link_acked t who n) ≡ link_acked t who n = omega arith in z

-- ### At the ends of another link

-- nothing is said of an end
abbrev pub Unsaid : End → List Entry → Type 0
Unsaid e t = AllByRecursion (λ entry. said_of e entry ≡ None) t

unsaid_there : (h : ℕ) (e : End) (w : Side) (s : Saying) → (h == e.link) ≡ false → at_end e (Some (end_of h w, s)) ≡ None
unsaid_there h e w s q = grind arith

pub unsaid : (h : ℕ) (e : End) (t : List Noted) → (h == e.link) ≡ false → Unsaid e (entries_for h t)
unsaid h e [] q = tt
unsaid h e (Up w k ∷ t) q = (unsaid_there h e w _ q, unsaid h e t q)
unsaid h e (Down w cause ∷ t) q = (unsaid_there h e w _ q, unsaid h e t q)
unsaid h e (Active w ∷ t) q = (refl, unsaid h e t q)
unsaid h e (GaveUp w tries ∷ t) q = (refl, unsaid h e t q)
unsaid h e (Acked w k count ∷ t) q = (unsaid_there h e w _ q, unsaid h e t q)
unsaid h e (Got w k m ∷ t) q = (unsaid_there h e w _ q, unsaid h e t q)
unsaid h e (Sent w k m ∷ t) q = (unsaid_there h e w _ q, unsaid h e t q)
unsaid h e (Emit w c ∷ t) q = (unsaid_there h e w _ q, unsaid h e t q)
unsaid h e (Took w c ∷ t) q = (unsaid_there h e w _ q, unsaid h e t q)
unsaid h e (Lost w c why ∷ t) q = (unsaid_there h e w _ q, unsaid h e t q)
unsaid h e (_ ∷ t) q = unsaid h e t q

none_sent : (e : End) (n : ℕ) (t : List Entry) → Unsaid e t → sent_in t e n ≡ []
none_sent e n [] u = refl
none_sent e n (x ∷ t) u = ap (λ o. cons_option (sent_by n o) (sent_in t e n)) u.0 ∙ none_sent e n t u.1

none_got : (e : End) (n : ℕ) (t : List Entry) → Unsaid e t → got_in t e n ≡ []
none_got e n [] u = refl
none_got e n (x ∷ t) u = ap (λ o. cons_option (got_in_session n o) (got_in t e n)) u.0 ∙ none_got e n t u.1

none_acked : (e : End) (n : ℕ) (t : List Entry) → Unsaid e t → acked_in t e n ≡ 0
none_acked e n [] u = refl
none_acked e n (x ∷ t) u = ap (λ o. counted_from n e t (acked_after n 0 o)) u.0 ∙ none_acked e n t u.1

-- ### Chain faults

pub fault-all : (h : ℕ) (t : List Noted) → list_any is_chain_fault (entries_for h t) ≡ list_any link_fault t
fault-all h [] = refl
fault-all h (Down w Asked ∷ t) = fault-all h t
fault-all h (Down w NoAnswer ∷ t) = fault-all h t
fault-all h (Down w Peer ∷ t) = fault-all h t
fault-all h (Down w ByAct ∷ t) = fault-all h t
fault-all h (Down w Chain ∷ t) = refl
fault-all h (_ ∷ t) = fault-all h t

-- ## The events of a history that follows a schedule are those of its causes, and these may happen on the link

-- ### Causes

-- what a cause must be to happen
abbrev pub CanCause : Cause → Type 0
CanCause (Given e m) = IsSendable m
CanCause (WasReset e window) = IsWindow window
CanCause _ = Unit {0}

abbrev pub CanAll : List Cause → Type 0
CanAll causes = AllByRecursion CanCause causes

-- it is an event of the link
pub can_event : (l : Link) (c : Cause) → CanCause c → IsEvent l (event_of c)
can_event l c can = grind arith

-- so are these, one after another
pub all_can : (cs : List Cause) (l : Link) → CanAll cs → AllAllowed l (map event_of cs)
all_can [] l can = tt
all_can (c ∷ cs) l can = (can_event l c can.0, all_can cs (happens l (event_of c)) can.1)

-- they make the same of a link
pub after_causes : (cs : List Cause) (l : Link) → after_link_events l (map event_of cs) ≡ link_after_all l cs
after_causes [] l = refl
after_causes (c ∷ cs) l = after_causes cs (link_after l c)

can_repeat : (c : Cause) → CanCause c → (n : ℕ) → CanAll (replicate n c)
can_repeat c can zero = tt
can_repeat c can (suc n) = (can, can_repeat c can n)

-- what a line causes may happen
can_line : (header : Header) (l : Link) (line : Line) → IsLineOf header line → CanAll (causes_in l line)
can_line header l (Send e pid message) is = ((is.pipe, is.some), tt)
can_line header l (Deliver e count) is = can_repeat (Taken e) tt (taken_of count (frames_to l e))
can_line header l (Lose e) is = (tt, tt)
can_line header l (Damage e places) is = grind arith
can_line header l (Tick times) is = can_repeat Ticked tt (unwrap_or times 1)
can_line header l (Reset e None) is = (tt, tt)
can_line header l (Reset e (Some w)) is = let low : 0 < w = omega (arith, is.1.0) in ((low, is.1.1), tt)
can_line header l (Busy e) is = (tt, tt)
can_line header l (Ready e) is = (tt, tt)
can_line header l _ is = tt

-- ### Events

-- each of these events is what its cause does on the link with this host, and may happen there, one after another
abbrev pub AreOf : ℕ → Link → List Event → Type 0
AreOf h l [] = Unit {0}
AreOf h l (x ∷ xs) = (x ≡ event_at h l x.cause) × CanCause x.cause × AreOf h (link_after l x.cause) xs

of_causes : (h : ℕ) (l : Link) (cs : List Cause) → CanAll cs → AreOf h l (events_at h l cs)
of_causes h l [] can = tt
of_causes h l (c ∷ cs) can = (refl, can.0, of_causes h (link_after l c) cs can.1)

of_append : (h : ℕ) (l : Link) (xs ys : List Event) → AreOf h l xs → AreOf h (link_after_all l (causes_of xs)) ys → AreOf h l (xs ++ ys)
of_append h l [] ys a b = b
of_append h l (x ∷ xs) ys a b = (a.0, a.1, of_append h (link_after l x.cause) xs ys a.2 b)

-- so are the first of them
pub of_front : (h : ℕ) (l : Link) (xs ys : List Event) → AreOf h l (xs ++ ys) → AreOf h l xs
of_front h l [] ys a = tt
of_front h l (x ∷ xs) ys a = (a.0, a.1, of_front h (link_after l x.cause) xs ys a.2)

-- the events of these causes on the link
abbrev pub link_events : List Event → List LinkEvent
link_events xs = map event_of (causes_of xs)

-- their entries are those of what is noted of the link
pub of_entries : (h : ℕ) (l : Link) (xs : List Event) → AreOf h l xs → entries_of xs ≡ entries_for h (entries l (link_events xs))
of_entries h l [] a = refl
of_entries h l (x ∷ xs) a =
    ap (λ (z : Event). z.entries ++ entries_of xs) a.0
    ∙ (ap (λ z. entries_for h (event_entries l (event_of x.cause)) ++ z) (of_entries h (link_after l x.cause) xs a.2)
    ∙ sym (flat_map-append (entry_of h) (event_entries l (event_of x.cause)) (entries (link_after l x.cause) (link_events xs))))

-- they may happen on the link
pub of_allowed : (h : ℕ) (l : Link) (xs : List Event) → AreOf h l xs → AllAllowed l (link_events xs)
of_allowed h l [] a = tt
of_allowed h l (x ∷ xs) a = (can_event l x.cause a.1, of_allowed h (link_after l x.cause) xs a.2)

pub of_can : (h : ℕ) (l : Link) (xs : List Event) → AreOf h l xs → CanAll (causes_of xs)
of_can h l [] a = tt
of_can h l (x ∷ xs) a = (a.1, of_can h (link_after l x.cause) xs a.2)

-- ### Lines

-- the events of a line
of_line : (header : Header) (h : ℕ) (l : Link) (line : Line) → IsLineOf header line → AreOf h l (events_of (outcome_of h l line))
of_line header h l line is =
    let h0 = refusal l line in let h1 = events_at h l (causes_in l line) in let h2 = of_causes h l (causes_in l line) (can_line header l line is) in
    grind arith

-- the events of steps
abbrev pub events_in : List Step → List Event
events_in steps = flat_map (λ (step : Step). events_of step.outcome) steps

pub of_steps : (header : Header) (h : ℕ) (l : Link) (lines : List Line) (steps : List Step) → AllByRecursion (IsLineOf header) lines
    → StepsFollow h l lines steps → AreOf h l (events_in steps)
of_steps header h l [] [] valid follows = tt
of_steps header h l [] (step ∷ steps) valid follows = absurd follows
of_steps header h l (line ∷ lines) [] valid follows = absurd follows
of_steps header h l (line ∷ lines) (step ∷ steps) valid follows =
    of_append h l (events_of step.outcome) (events_in steps) (subst (λ o. AreOf h l (events_of o)) (sym follows.1) (of_line header h l line valid.0))
    (of_steps header h (link_after_line l step.outcome) lines steps valid.1 follows.3)

-- ## At each moment of a history messages are in order

-- ### Fronts

-- it is one or nothing
abbrev pub IsOneAtMost : {Y : Type 0} → List Y → Type 0
IsOneAtMost [] = Unit {0}
IsOneAtMost (y ∷ []) = Unit {0}
IsOneAtMost (y ∷ z ∷ ys) = ⊥

-- where each element gives one at most, a front of all that they give is what a front of them gives
pub front_given : {X Y : Type 0} (f : X → List Y) → ((x : X) → IsOneAtMost (f x)) → (xs : List X) (front back : List Y) → flat_map f xs ≡ front ++ back
    → (p : List X) × IsFrontOf p xs × (front ≡ flat_map f p)
front_given f one xs [] back q = ([], (xs, refl), refl)
front_given f one [] (y ∷ front) back q = grind arith
front_given {X} {Y} f one (x ∷ xs) (y ∷ front) back q = go (f x) refl (one x) (front_given f one xs)
  where
    go : (ys : List Y) → f x ≡ ys → IsOneAtMost ys → ((fr bk : List Y) → flat_map f xs ≡ fr ++ bk → ((p : List X) × IsFrontOf p xs × (fr ≡ flat_map f p)))
        → (p : List X) × IsFrontOf p (x ∷ xs) × (y ∷ front ≡ flat_map f p)
    go [] e o later =
        let r = later (y ∷ front) back (sym (ap (λ z. z ++ flat_map f xs) e) ∙ q) in
        (x ∷ r.0, (r.1.0, ap (λ z. x ∷ z) r.1.1), r.2 ∙ sym (ap (λ z. z ++ flat_map f r.0) e))
    go (z ∷ []) e o later =
        let head : y ≡ z = cc in
        let r = later front back cc in (
          x ∷ r.0,
          (r.1.0, ap (λ w. x ∷ w) r.1.1),
          ap (λ w. y ∷ w) r.2 ∙ (ap (λ w. w ∷ flat_map f r.0) head ∙ sym (ap (λ w. w ++ flat_map f r.0) e)),
        )
    go (z ∷ w ∷ ys) e o later = absurd o

pub one_entry : (h : ℕ) (x : Noted) → IsOneAtMost (entry_of h x)
one_entry h x = grind arith

-- ### In order at an end

-- so many messages sent, acknowledged and got are in order
pub record AreInOrder (sent : List Message) (acked : ℕ) (got : List Message) : Type 0 where
  pub delivered : IsFrontOf got (good_of sent)
  pub acknowledged : IsFrontOf (good_of (take acked sent)) got
  pub counted : acked ≤ length sent

abbrev pub AtEnd : List Entry → End → ℕ → Type 0
AtEnd t e n = AreInOrder (sent_in t e n) (acked_in t e n) (got_in t (other_end e) n)

pub read_as : (t : List Entry) (e : End) (n : ℕ) (sent got : List Message) (acked : ℕ) → sent_in t e n ≡ sent → acked_in t e n ≡ acked
    → got_in t (other_end e) n ≡ got → AreInOrder sent acked got → AtEnd t e n
read_as t e n sent got acked p q r h = grind arith

pub empty : AreInOrder [] 0 []
empty = record { delivered = ([], refl); acknowledged = ([], refl); counted = omega arith }

-- at an end of the link
order_here : (h : ℕ) (p : List Noted) (who : Side) (n : ℕ) → InOrderIn p who n → AtEnd (entries_for h p) (end_of h who) n
order_here h p Controller n o =
    read_as (entries_for h p) (end_of h Controller) n _ _ _ (sent-all h p Controller n) (acked-all h p Controller n) (got-all h p Host n)
    (record { delivered = o.got; acknowledged = o.acked; counted = o.few })
order_here h p Host n o =
    read_as (entries_for h p) (end_of h Host) n _ _ _ (sent-all h p Host n) (acked-all h p Host n) (got-all h p Controller n)
    (record { delivered = o.got; acknowledged = o.acked; counted = o.few })

-- at an end of another link
order_there : (h : ℕ) (p : List Noted) (e : End) (n : ℕ) → (h == e.link) ≡ false → AtEnd (entries_for h p) e n
order_there h p e n q =
    read_as (entries_for h p) e n [] [] 0 (none_sent e n (entries_for h p) (unsaid h e p q)) (none_acked e n (entries_for h p) (unsaid h e p q))
    (none_got (other_end e) n (entries_for h p) (unsaid h (other_end e) p q)) empty

pub same_link : (h k : ℕ) → (h == k) ≡ true → h ≡ k
same_link h k q = grind (arith, common_steps)

pub order_at : (h : ℕ) (p : List Noted) → ((who : Side) (n : ℕ) → InOrderIn p who n) → (e : End) (n : ℕ) → AtEnd (entries_for h p) e n
order_at h p o e n = go (h == e.link) refl
  where
    side : (k : ℕ) (b : Bool) → h ≡ k → AtEnd (entries_for h p) (record { link = k; at_host = b }) n
    side k false q =
        let P : ℕ → Type 0 = λ z. AtEnd (entries_for h p) (record { link = z; at_host = false }) n in subst P q (order_here h p Controller n (o Controller n))
    side k true q =
        let P : ℕ → Type 0 = λ z. AtEnd (entries_for h p) (record { link = z; at_host = true }) n in subst P q (order_here h p Host n (o Host n))

    go : (b : Bool) → (h == e.link) ≡ b → AtEnd (entries_for h p) e n
    go true q = side e.link e.at_host (same_link h e.link q)
    go false q = order_there h p e n q

in_order_of : (h : ℕ) (p : List Noted) → ((who : Side) (n : ℕ) → InOrderIn p who n) → IsInOrder (entries_for h p)
in_order_of h p o =
    record {
      delivered = λ e n. (order_at h p o e n).delivered;
      acknowledged = λ e n. (order_at h p o e n).acknowledged;
      counted = λ e n. (order_at h p o e n).counted;
    }

-- ### Histories

-- a history that follows a schedule: its opening, and its events on the bare link
pub record IsRun (h : ℕ) (t : History) : Type 0 where
  pub opening : t.opening ≡ opening_of h
  pub events : AreOf h bare_link (all_events t)

pub is_run : (header : Header) (lines : List Line) (t : History) → AllByRecursion (IsLineOf header) lines → Follows header lines t
    → IsRun (host_of header) t
is_run header lines t valid follows =
    record {
      opening = follows.opening_is;
      events = of_steps header (host_of header) bare_link lines t.steps valid follows.steps_follow;
    }

-- what was noted of the link in these events
abbrev pub notes_of : List Event → List Noted
notes_of xs = trace bare_link (link_events xs)

-- the entries behind the opening are those for what was noted
pub run_entries : (h : ℕ) (opening : List Entry) (xs : List Event) → opening ≡ opening_of h → AreOf h bare_link xs
    → opening ++ entries_of xs ≡ entries_for h (notes_of xs)
run_entries h opening xs q a = ap (λ o. o ++ entries_of xs) q ∙ ap (λ z. opening_of h ++ z) (of_entries h bare_link xs a)

prefix_of : (h : ℕ) (t : History) → IsRun h t → Prefix t
prefix_of h t run front back q =
    let xs : List Event = all_events t in
    let f = front_given (entry_of h) (one_entry h) (notes_of xs) front back (sym (run_entries h t.opening xs run.opening run.events) ∙ q) in
    subst (λ z. IsInOrder z) (sym f.2)
    (in_order_of h f.0 (at_each_moment bare_link IsBare (link_events xs) (of_allowed h bare_link xs run.events) f.0 f.1))

pub in_order : (header : Header) (lines : List Line) (t : History) → AllByRecursion (IsLineOf header) lines → IsHeader header → Follows header lines t
    → Prefix t
in_order header lines t valid is follows = prefix_of (host_of header) t (is_run header lines t valid follows)

joined_of : (h : ℕ) (t : History) → IsRun h t → list_any is_chain_fault (all_entries t) ≡ false
joined_of h t run =
    let xs : List Event = all_events t in
    ap (λ z. list_any is_chain_fault z) (run_entries h t.opening xs run.opening run.events)
    ∙ (fault-all h (notes_of xs) ∙ no_chain_noted bare_link IsBare (link_events xs) (of_allowed h bare_link xs run.events))

pub joined : (header : Header) (lines : List Line) (t : History) → AllByRecursion (IsLineOf header) lines → IsHeader header → Follows header lines t
    → list_any is_chain_fault (all_entries t) ≡ false
joined header lines t valid is follows = joined_of (host_of header) t (is_run header lines t valid follows)

-- ## In what is noted of the events of causes no end is started, stopped or cut off, and the frames put on the link have their numbers below 8

-- ### Frames

abbrev pub HaveNumbers : List Control → Type 0
HaveNumbers cs = AllByRecursion HasNumbers cs

frames_numbers : (n : ℕ) (e : EndState) → HaveNumbers (frames_of n e)
frames_numbers zero e = tt
frames_numbers (suc n) e = let h0 = frame_due e in let h1 = frames_numbers n (fetched e) in grind arith

take_numbers : (n : ℕ) (cs : List Control) → HaveNumbers cs → HaveNumbers (take n cs)
take_numbers zero cs h = tt
take_numbers (suc n) [] h = tt
take_numbers (suc n) (c ∷ cs) h = (h.0, take_numbers n cs h.1)

drop_numbers : (n : ℕ) (cs : List Control) → HaveNumbers cs → HaveNumbers (drop n cs)
drop_numbers zero cs h = h
drop_numbers (suc n) [] h = tt
drop_numbers (suc n) (c ∷ cs) h = drop_numbers n cs h.1

numbers-append : (cs ds : List Control) → HaveNumbers cs → HaveNumbers ds → HaveNumbers (cs ++ ds)
numbers-append [] ds h k = k
numbers-append (c ∷ cs) ds h k = (h.0, numbers-append cs ds h.1 k)

among_numbers : (n : ℕ) (acts : List ActDue) (cs : List Control) → HaveNumbers cs → HaveNumbers (among n acts cs)
among_numbers n [] cs h = h
among_numbers n (a ∷ acts) cs h =
    numbers-append (take (a.behind - n) cs) _ (take_numbers (a.behind - n) cs h)
    (tt, among_numbers a.behind acts (drop (a.behind - n) cs) (drop_numbers (a.behind - n) cs h))

pub out_numbers : (e : LinkEnd) → HaveNumbers (frames_out e)
out_numbers e = among_numbers 0 e.acts (frames_of most_frames e.shdlc) (frames_numbers most_frames e.shdlc)

-- ### Entries

-- no end is started, stopped or cut off, and a frame that is put on the link has its numbers
abbrev pub IsPlain : Noted → Type 0
IsPlain (Restarted who) = ⊥
IsPlain (Cut who) = ⊥
IsPlain (Emit who c) = HasNumbers c
IsPlain _ = Unit {0}

abbrev pub ArePlain : List Noted → Type 0
ArePlain t = AllByRecursion IsPlain t

plain-append : (t u : List Noted) → ArePlain t → ArePlain u → ArePlain (t ++ u)
plain-append [] u h k = k
plain-append (e ∷ t) u h k = (h.0, plain-append t u h.1 k)

plain_map : {A : Type 0} (f : A → Noted) (xs : List A) → ((x : A) → IsPlain (f x)) → ArePlain (map f xs)
plain_map f [] p = tt
plain_map f (x ∷ xs) p = (p x, plain_map f xs p)

plain_told : (who : Side) (n : ℕ) (r : Report) (acked : ℕ) → ArePlain (told who n r acked)
plain_told who n r acked =
    let a = plain-append (if_so (nat_lt 0 r.acked) (Acked who n acked)) (map (Got who n) r.got) (grind arith)
    (plain_map (Got who n) r.got (λ m. tt)) in
    plain-append (map (Down who) (option_to_list r.ended))
    (if_so r.began (Up who n) ++ (if_so r.became_active (Active who)
    ++ (map (GaveUp who) (option_to_list r.gave_up) ++ (if_so (nat_lt 0 r.acked) (Acked who n acked) ++ map (Got who n) r.got))))
    (plain_map (Down who) (option_to_list r.ended) (λ m. tt)) (grind arith)

plain_turns : (who : Side) (n : ℕ) (e : LinkEnd) (ts : List Turn) → ArePlain (turn_entries who n e ts)
plain_turns who n e [] = tt
plain_turns who n e (t ∷ ts) = plain-append (turn_entry who n e t) (turn_entries who n (turn e t) ts) (grind arith) (plain_turns who n (turn e t) ts)

plain_puts : (who : Side) (cs : List Control) (l : Link) → HaveNumbers cs → ArePlain (puts_entries who l cs)
plain_puts who [] l h = tt
plain_puts who (c ∷ cs) l h =
    plain-append (put_entries who l c) (puts_entries who (put l c) cs)
    (h.0, grind arith) (plain_puts who cs (put l c) h.1)

plain_aged : (who : Side) (xs : List OnWire) → ArePlain (aged_entries who xs)
plain_aged who [] = tt
plain_aged who (x ∷ xs) = let h0 = plain_aged who xs in grind arith

plain_rest : (who : Side) (l : Link) (e : LinkEnd) (ts : List Turn) → ArePlain (rest_entries who l e ts GoesOut)
plain_rest who l e ts =
    plain-append (turn_entries who (number_of l.controller) e ts) (puts_entries who l (frames_out (turned e ts)))
    (plain_turns who (number_of l.controller) e ts)
    (plain_puts who (frames_out (turned e ts)) l (out_numbers (turned e ts)))

plain_input : (who : Side) (h : NumberedEnd) (i : LinkInput) (k : Link) (e : LinkEnd) (ts : List Turn)
    → ArePlain (told_of who h i ++ rest_entries who k e ts GoesOut)
plain_input who h i k e ts = plain-append (told_of who h i) (rest_entries who k e ts GoesOut)
    (plain_told who (number_of h) (report h.side i) (whole_acked (after_input h.side i))) (plain_rest who k e ts)

-- ### Steps and events

plain_frame : (who : Side) (l : Link) (ts : List Turn) → ArePlain (step_entries who l NextFrame ts GoesOut)
plain_frame who l ts = go l.to_controller refl
  where
    u : List Noted
    u = step_entries who l NextFrame ts GoesOut

    P : List Noted → Type 0
    P z = ArePlain z

    go : (w : List OnWire) → l.to_controller ≡ w → ArePlain u
    go [] q = let none : u ≡ [] = rw q refl in subst P (sym none) tt
    go (x ∷ xs) q =
        let some : u ≡ taken_entries who l x xs ts GoesOut = rw q refl in
        let i : LinkInput = Take x.frame in
        subst P (sym some) (
          tt,
          plain_input who (record l.controller { took = took_with l.controller.took x }) i (left_after l x xs) (after_input l.controller.side i) ts,
        )

-- an end takes a frame, is reset, does something of its own or loses a frame
abbrev pub IsStep : EndEvent → Type 0
IsStep (EndLose why) = Unit {0}
IsStep (EndStep NextFrame ts GoesOut) = Unit {0}
IsStep (EndStep NoInput ts GoesOut) = Unit {0}
IsStep (EndStep (AsksReset window) ts GoesOut) = Unit {0}
IsStep _ = ⊥

plain_here : (who : Side) (l : Link) (x : EndEvent) → IsStep x → ArePlain (here_entries who l x)
plain_here who l (EndLose why) s = grind arith
plain_here who l (EndStep NextFrame ts GoesOut) s = plain_frame who l ts
plain_here who l (EndStep NoInput ts GoesOut) s = plain_rest who l l.controller.side ts
plain_here who l (EndStep (AsksReset window) ts GoesOut) s =
    plain_input who l.controller (InputReset window) (with_ended l (is_some (ended_by l.controller.side (InputReset window))))
    (after_input l.controller.side (InputReset window)) ts
plain_here who l (EndStep (Starts value) ts GoesOut) s = absurd s
plain_here who l (EndStep Stops ts GoesOut) s = absurd s
plain_here who l (EndStep NextFrame ts CutOff) s = absurd s
plain_here who l (EndStep NoInput ts CutOff) s = absurd s
plain_here who l (EndStep (AsksReset window) ts CutOff) s = absurd s
plain_here who l (EndStep (Starts value) ts CutOff) s = absurd s
plain_here who l (EndStep Stops ts CutOff) s = absurd s

plain_at : (l : Link) (e : NamedEnd) (x : EndEvent) → IsStep x → ArePlain (event_entries l (at e x))
plain_at l e x s = go e.at_host
  where
    go : (b : Bool) → ArePlain (event_entries l (at (record { link = e.link; at_host = b }) x))
    go true = plain_here Host (exchanged l) x s
    go false = plain_here Controller l x s

abbrev ticks : Side → Link → List Noted
ticks who l = tick_entries who l idle

plain_tick : (who : Side) (l : Link) → ArePlain (ticks who l)
plain_tick who l =
    plain_input who l.controller HasTick (with_ended l (is_some (ended_by l.controller.side HasTick))) (after_input l.controller.side HasTick) []

pub plain_event : (l : Link) (c : Cause) → ArePlain (event_entries l (event_of c))
plain_event l (Given e m) = plain_at l e _ tt
plain_event l (Taken e) = plain_at l e _ tt
plain_event l (WasLost e why) = plain_at l e _ tt
plain_event l (WasReset e window) = plain_at l e _ tt
plain_event l (Readied e ready) = plain_at l e _ tt
plain_event l Ticked =
    let old : Link = aged l in
    let near : Link = exchanged (ticks_at_controller old [] GoesOut) in (
      tt,
      plain-append (aged_entries Controller l.to_controller) (aged_entries Host l.to_host ++ (ticks Controller old ++ ticks Host near))
          (plain_aged Controller l.to_controller)
          (plain-append (aged_entries Host l.to_host) (ticks Controller old ++ ticks Host near) (plain_aged Host l.to_host)
          (plain-append (ticks Controller old) (ticks Host near) (plain_tick Controller old) (plain_tick Host near))),
    )

pub plain_entries : (cs : List Cause) (l : Link) → ArePlain (entries l (map event_of cs))
plain_entries [] l = tt
plain_entries (c ∷ cs) l = plain-append (event_entries l (event_of c)) _ (plain_event l c) (plain_entries cs (happens l (event_of c)))

-- all that is noted of a bare link is so
pub plain_trace : (cs : List Cause) → ArePlain (trace bare_link (map event_of cs))
plain_trace cs = (tt, (tt, plain_entries cs bare_link))

-- ## What is noted of the events of causes says which sessions both ends have

-- what is heard of a bare link from its beginning on
pub controller_heard : (cs : List Cause) → CanAll cs
    → heard Controller None (trace bare_link (map event_of cs)) ≡ number_now (after_link_events bare_link (map event_of cs)).controller
controller_heard cs can = link_controller bare_link IsBare (map event_of cs) (all_can cs bare_link can)

pub host_heard : (cs : List Cause) → CanAll cs
    → heard Host None (trace bare_link (map event_of cs)) ≡ number_now (after_link_events bare_link (map event_of cs)).host
host_heard cs can = link_host bare_link IsBare (map event_of cs) (all_can cs bare_link can)
