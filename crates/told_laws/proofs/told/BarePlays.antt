-- All that is told of lines, of a history and of plays in a bare world is in its range.
use Rattle.told_laws.proofs.Words.{Acked, Active, All, AllByRecursion, AreFewPlays, AreOctets, Begins, Bool, Caused, Control, Emit, End, Entry, Event, FewRsets}
use Rattle.told_laws.proofs.Words.{Follows, GaveUp, Got, Header, History, HostsStay, I, IsByte, IsCause, IsEnd, IsEntry, IsFrontOf, IsHeader, IsLineOf}
use Rattle.told_laws.proofs.Words.{IsNumber, IsPlayFor, Line, LineRefused, Link, List, Lost, Message, NoCause, None, Noted, OnWire, Option, Outcome, Play, Rej}
use Rattle.told_laws.proofs.Words.{Rnr, Rr, Rset, S, Sent, Side, Some, Srej, StepsFollow, Taken, Ticked, Took, Ua, Verdict, [], all_entries, all_events}
use Rattle.told_laws.proofs.Words.{all_joined, all_mapped, ap, append-nil, append_assoc, arith, bare_lines, bare_link, bits_of, by_test, causes_in, causes_of}
use Rattle.told_laws.proofs.Words.{cons_option, damage_causes, each-append, end_of, end_of_frame, entries_for, entries_of, entries_told, entry_of}
use Rattle.told_laws.proofs.Words.{event_entries, event_of, events_at, events_of, false, first_verdict, flat_map, flat_map-append, frame_of, frames_to, good_of}
use Rattle.told_laws.proofs.Words.{host_of, hosts_stay_behind, if_beyond, if_out_of_reach, inl, is_good, length, length-append, lines_may_be_played}
use Rattle.told_laws.proofs.Words.{lines_of_play, lines_played, lines_said, link_after, link_after_all, link_after_line, lpdu_of, nat_lt, noted, other_twice}
use Rattle.told_laws.proofs.Words.{outcome_of, played-append, played_more, refl, refusal, replicate, rounds_played, said-append, start_of_frame, step_told}
use Rattle.told_laws.proofs.Words.{stuffed, stuffed_after, subst, suc, sym, taken_of, true, unwrap_or, with_crc, zero, ℕ, ◌%◌, ◌*◌, ◌++◌, ◌+◌, ◌/◌, ◌<◌, ◌==◌}
use Rattle.told_laws.proofs.Words.{◌^◌, ◌∙◌, ◌∷◌, ◌≡◌, ◌≤◌}
use Rattle.history.proofs.Filters.{same_end_itself}
use Rattle.history.proofs.RsetsInBareWorlds.{few_after}
use Rattle.history.proofs.legal.Sessions.{events_in, in_order}
use Rattle.history.specs.BareRsets.{rsets_by_bare}
use Rattle.history.specs.Filters.{Saying, got_in, got_in_session, said, said_of, sent_by, sent_in}
use Rattle.history.specs.Filters.Saying.{Sends}
use Rattle.history.specs.Histories.{Cause, Step}
use Rattle.history.specs.Legal.{IsInOrder}
use Rattle.link_laws.proofs.entries.Quieting.{same_number}
use Rattle.link_laws.proofs.messages.RsetNumbers.{start_numbered}
use Rattle.link_laws.specs.entries.Entries.Entry.{Down as Ends}
use Rattle.link_laws.specs.messages.Links.IsStart.{IsBare}
use Rattle.swp_base.proofs.BitLemmas.{length-bits_of}
use Rattle.swp_crc.specs.Crc.{crc_of}
use Rattle.trace_model.specs.Ends.{other_end}
use Rattle.told_laws.proofs.told.Links.{CanTell, IsFrame, LinkIs, WireIs, given_by, link_caused, link_more, link_within}
use Rattle.told_laws.proofs.told.Notes.{AreNoted, IsNoted, noted_event}
use Rattle.trace_model.specs.declared.entry.Entry.TheVariants as entry
use Rattle.trace_model.specs.declared.line.Line.TheVariants as line

-- ## What is told of a line of a schedule is in its range, but for the messages that came

-- ### Bytes

pub each_all : {X : Type 0} (P : X → Type 0) (xs : List X) → AllByRecursion P xs → All P xs
each_all P [] h = λ k d within. absurd (omega arith)
each_all P (x ∷ xs) h = go (each_all P xs h.1)
  where
    go : All P xs → All P (x ∷ xs)
    go later zero d within = h.0
    go later (suc k) d within = later k d (omega arith)

pub all_each : {X : Type 0} (P : X → Type 0) (xs : List X) → All P xs → AllByRecursion P xs
all_each P [] h = tt
all_each P (x ∷ xs) h = (h 0 x (omega arith), all_each P xs (λ k d within. h (suc k) d (omega arith)))

-- an LPDU of a bare link
pub record IsLpdu (bytes : List ℕ) : Type 0 where
  pub bytes_are : AreOctets bytes
  pub few : length bytes ≤ 30

pub lpdu_by : (first : ℕ) (rest : List ℕ) → first < 256 → AllByRecursion IsByte rest → length rest ≤ 29 → IsLpdu (first ∷ rest)
lpdu_by first rest low h few = record { bytes_are = (omega arith, each_all IsByte (first ∷ rest) (low, h)); few = omega (arith, few) }

pub lpdu_in : (c : Control) → IsFrame c → IsLpdu (lpdu_of c)
lpdu_in (I ns nr info) h = let a = h.0 in let b = h.1 in lpdu_by (0x80 + 8 * ns + nr) info (omega (arith, a, b)) h.2.0 h.2.1
lpdu_in (S Rr nr) h = lpdu_by (0xC0 + 8 * 0 + nr) [] (omega (arith, h)) tt (omega arith)
lpdu_in (S Rej nr) h = lpdu_by (0xC0 + 8 * 1 + nr) [] (omega (arith, h)) tt (omega arith)
lpdu_in (S Rnr nr) h = lpdu_by (0xC0 + 8 * 2 + nr) [] (omega (arith, h)) tt (omega arith)
lpdu_in (S Srej nr) h = lpdu_by (0xC0 + 8 * 3 + nr) [] (omega (arith, h)) tt (omega arith)
lpdu_in (Rset window caps) h = lpdu_by 0xF9 (window ∷ caps ∷ []) (omega arith) (h.0, (h.1, tt)) (omega arith)
lpdu_in Ua h = lpdu_by 0xE6 [] (omega arith) tt (omega arith)
lpdu_in _ h = absurd h

-- ### Entries

-- in its range, but for a message that came
abbrev IsApart : Entry → Type 0
IsApart (entry.Got e n pid message) = IsEnd e × IsNumber n
IsApart x = IsEntry x

abbrev AreApart : List Entry → Type 0
AreApart t = AllByRecursion IsApart t

pub end_in : (h : ℕ) (who : Side) → h < 256 → IsEnd (end_of h who)
end_in h who low = grind arith

entry_in : (h n : ℕ) → h < 256 → n < 2 ^ 32 → (x : Noted) → IsNoted n x → AreApart (entry_of h x)
entry_in h n low small (Begins who k) p = ((end_in h who low, omega (arith, small, p)), tt)
entry_in h n low small (Ends who cause) p = (end_in h who low, tt)
entry_in h n low small (Active who) p = (end_in h who low, tt)
entry_in h n low small (GaveUp who tries) p = ((end_in h who low, omega (arith, p)), tt)
entry_in h n low small (Acked who k count) p = grind arith
entry_in h n low small (Got who k m) p = let a = p.0 in ((end_in h who low, omega (arith, small, a)), tt)
entry_in h n low small (Sent who k m) p =
    let pipe = p.1.pipe in
    ((end_in h who low, omega (arith, small, p.0), omega (arith, pipe), (p.1.some, each_all IsByte m.1 p.1.bytes)), tt)
entry_in h n low small (Emit who c) p = ((end_in h who low, (lpdu_in c p).bytes_are), tt)
entry_in h n low small (Took who c) p = ((end_in h who low, (lpdu_in c p).bytes_are), tt)
entry_in h n low small (Lost who c why) p = ((end_in h who low, (lpdu_in c p).bytes_are), tt)
entry_in h n low small _ p = tt

entries_in : (h n : ℕ) → h < 256 → n < 2 ^ 32 → (t : List Noted) → AreNoted n t → AreApart (entries_for h t)
entries_in h n low small [] p = tt
entries_in h n low small (x ∷ t) p =
    each-append IsApart (entry_of h x) (entries_for h t) (entry_in h n low small x p.0) (entries_in h n low small t p.1)

-- the greatest number of a text
abbrev pub top : ℕ
top = 4294967295

-- The link where no number is above n, no more messages were given to an end in its session, and no more RSETs were made.
record LinkStands (n : ℕ) (l : Link) : Type 0 where
  pub link : LinkIs n n l
  pub rsets : FewRsets n l

stands_longer : (n k : ℕ) (l : Link) → n ≤ k → LinkStands n l → LinkStands k l
stands_longer n k l more h =
    let made = h.rsets.made in
    record { link = link_more n k n k l more more h.link; rsets = record { made = omega (arith, made, more); numbered = h.rsets.numbered } }

-- how many messages are given by a cause, or RSETs made
abbrev cost : Cause → ℕ
cost c = given_by c + rsets_by_bare c

abbrev cost_of_all : List Cause → ℕ
cost_of_all [] = 0
cost_of_all (c ∷ cs) = cost c + cost_of_all cs

-- over a cause no number grows by more
link_goes : (n : ℕ) (l : Link) (c : Cause) → CanTell c → LinkStands n l → LinkStands (n + cost c) (link_after l c)
link_goes n l c can h =
    let few : FewRsets (n + rsets_by_bare c) (link_after l c) = few_after n l c h.rsets in
    let made = few.made in
    let rsets : FewRsets (n + cost c) (link_after l c) = record { made = omega (arith, made); numbered = few.numbered } in
    record {
      link = link_more (n + given_by c) (n + cost c) (n + cost c) (n + cost c) (link_after l c) (omega arith) (omega arith)
          (link_within (n + given_by c) (n + 24) (n + cost c) (link_after l c) rsets (link_caused n n l c can h.link));
      rsets = rsets;
    }

-- what is told of causes one after another, and the link after them
record CausesTold (n : ℕ) (l : Link) (events : List Event) (causes : List Cause) : Type 0 where
  told : AreApart (entries_of events)
  stands : LinkStands (n + cost_of_all causes) (link_after_all l (causes_of events))

causes_told : (h : ℕ) (cs : List Cause) (n : ℕ) (l : Link) → h < 256 → AllByRecursion CanTell cs → LinkStands n l → n + cost_of_all cs + 24 ≤ top
    → CausesTold n l (events_at h l cs) cs
causes_told h [] n l low can is small = record { told = tt; stands = stands_longer n (n + 0) l (omega arith) is }
causes_told h (c ∷ cs) n l low can is small =
    let later = causes_told h cs (n + cost c) (link_after l c) low can.1 (link_goes n l c can.0 is) (omega (arith, small)) in
    record {
      told = each-append IsApart (entries_for h (event_entries l (event_of c))) (entries_of (events_at h (link_after l c) cs))
          (entries_in h (n + 24) low (omega (arith, small)) (event_entries l (event_of c)) (noted_event n l c can.0 is.link)) later.told;
      stands = grind arith;
    }

-- ### Causes of a line

same_cause : (c : Cause) → CanTell c → (n : ℕ) → AllByRecursion CanTell (replicate n c)
same_cause c can zero = tt
same_cause c can (suc n) = (can, same_cause c can n)

can_tell : (header : Header) (l : Link) (said : Line) → IsLineOf header said → AllByRecursion CanTell (causes_in l said)
can_tell header l (line.Send e pid message) is = (record { pipe = is.pipe; some = is.some; bytes = all_each IsByte message is.bytes }, tt)
can_tell header l (line.Deliver e count) is = same_cause (Taken e) tt (taken_of count (frames_to l e))
can_tell header l (line.Lose e) is = (tt, tt)
can_tell header l (line.Damage e places) is = grind arith
can_tell header l (line.Tick times) is = same_cause Ticked tt (unwrap_or times 1)
can_tell header l (line.Reset e None) is = (tt, tt)
can_tell header l (line.Reset e (Some w)) is = (is.1.1, tt)
can_tell header l (line.Busy e) is = (tt, tt)
can_tell header l (line.Ready e) is = (tt, tt)
can_tell header l _ is = tt

takes_cost : (e : End) (n : ℕ) → cost_of_all (replicate n (Taken e)) ≡ 0
takes_cost e zero = refl
takes_cost e (suc n) = let rest = takes_cost e n in omega (arith, rest)

ticks_cost : (n : ℕ) → cost_of_all (replicate n Ticked) ≡ 2 * n
ticks_cost zero = refl
ticks_cost (suc n) = let rest = ticks_cost n in omega (arith, rest)

damage_cost : (e : End) (v : Option Verdict) → cost_of_all (damage_causes e v) ≡ 0
damage_cost e v = grind arith

-- how much a line may cost
abbrev line_cost : Line → ℕ
line_cost (line.Send e pid message) = 1
line_cost (line.Reset e window) = 1
line_cost (line.Tick None) = 2
line_cost (line.Tick (Some times)) = 2 * times
line_cost said = 0

few_cost : (l : Link) (said : Line) → cost_of_all (causes_in l said) ≤ line_cost said
few_cost l (line.Deliver e count) = let none = takes_cost e (taken_of count (frames_to l e)) in omega (arith, none)
few_cost l (line.Damage e places) = let none = damage_cost e (first_verdict (frames_to l e) places.items) in omega (arith, none)
few_cost l (line.Tick None) = omega arith
few_cost l (line.Tick (Some times)) = let all = ticks_cost times in omega (arith, all)
few_cost l _ = omega arith

abbrev lines_cost : List Line → ℕ
lines_cost [] = 0
lines_cost (said ∷ lines) = line_cost said + lines_cost lines

-- ### Refusals

abbrev pub IfCause : Option NoCause → Type 0
IfCause None = Unit {0}
IfCause (Some cause) = IsCause cause

pub beyond_in : (bits : ℕ) (places : List ℕ) → IsNumber bits → IfCause (if_beyond bits places)
beyond_in bits [] small = tt
beyond_in bits (place ∷ places) small = by_test (nat_lt place bits) (λ q. rw q (beyond_in bits places small)) (λ q. rw q small)

stuffed_few : (ones : ℕ) (bits : List Bool) → length (stuffed_after ones bits) ≤ 2 * length bits
stuffed_few ones [] = omega arith
stuffed_few ones (false ∷ bits) = let few = stuffed_few 0 bits in omega (arith, few)
stuffed_few ones (true ∷ bits) = by_test (ones == 4) (λ q. rw q (omega (arith, stuffed_few 0 bits))) (λ q. rw q (omega (arith, stuffed_few (ones + 1) bits)))

pub frame_few : (lpdu : List ℕ) → length lpdu ≤ 30 → IsNumber (length (frame_of lpdu))
frame_few lpdu few =
    let content : List Bool = bits_of (with_crc lpdu) in
    let c = stuffed_few 0 content in
    let d = length-bits_of (with_crc lpdu) in
    let e = length-append lpdu (crc_of lpdu / 256 ∷ crc_of lpdu % 256 ∷ []) in
    omega (arith, length-append (start_of_frame ++ stuffed content) end_of_frame, length-append start_of_frame (stuffed content), c, d, e, few)

reach_in : (n : ℕ) (w : List OnWire) (places : List ℕ) → WireIs IsFrame n w → IfCause (if_out_of_reach w places)
reach_in n [] places h = tt
reach_in n (x ∷ xs) places h =
    beyond_in (length (frame_of (lpdu_of x.frame))) places (frame_few (lpdu_of x.frame) (lpdu_in x.frame h.frames.0.frame).few)

refusal_in : (n : ℕ) (l : Link) (said : Line) → LinkIs n n l → IfCause (refusal l said)
refusal_in n l (line.Send e pid message) h = grind arith
refusal_in n l (line.Deliver e count) h = grind arith
refusal_in n l (line.Lose e) h = grind arith
refusal_in n l (line.Damage e places) h = reach_in n (frames_to l e) places.items (grind arith)
refusal_in n l (line.Reset e window) h = grind arith
refusal_in n l _ h = tt

-- ### Lines

record LineTold (n k : ℕ) (l : Link) (outcome : Outcome) : Type 0 where
  told : AreApart (noted outcome)
  stands : LinkStands (n + k) (link_after_line l outcome)

line_told : (header : Header) (h n : ℕ) (l : Link) (said : Line) → h < 256 → IsLineOf header said → LinkStands n l → n + line_cost said + 24 ≤ top
    → LineTold n (line_cost said) l (outcome_of h l said)
line_told header h n l said low is stands small = go (refusal l said) (refusal_in n l said stands.link)
  where
    decided : Option NoCause → Outcome
    decided (Some cause) = LineRefused cause
    decided None = Caused (events_at h l (causes_in l said))

    go : (o : Option NoCause) → IfCause o → LineTold n (line_cost said) l (decided o)
    go (Some cause) in_range = record { told = (in_range, tt); stands = stands_longer n (n + line_cost said) l (omega arith) stands }
    go None in_range =
        let few = few_cost l said in
        let causes = causes_told h (causes_in l said) n l low (can_tell header l said is) stands (omega (arith, few, small)) in
        record {
          told = causes.told;
          stands = stands_longer (n + cost_of_all (causes_in l said)) (n + line_cost said)
              (link_after_all l (causes_of (events_at h l (causes_in l said)))) (omega (arith, few)) causes.stands;
        }

-- what is told of the steps of lines
steps_told : (header : Header) (n : ℕ) (l : Link) (lines : List Line) (steps : List Step) → IsHeader header
    → AllByRecursion (IsLineOf header) lines → StepsFollow (host_of header) l lines steps → LinkStands n l → n + lines_cost lines + 24 ≤ top
    → AreApart (flat_map step_told steps)
steps_told header n l [] [] is valid follows stands small = tt
steps_told header n l [] (step ∷ steps) is valid follows stands small = absurd follows
steps_told header n l (said ∷ lines) [] is valid follows stands small = absurd follows
steps_told header n l (said ∷ lines) (step ∷ steps) is valid follows stands small =
    let here : LineTold n (line_cost said) l step.outcome =
    subst (LineTold n (line_cost said) l) (sym follows.1)
    (line_told header (host_of header) n l said (grind arith) valid.0 stands (omega (arith, small))) in
    let later = steps_told header (n + line_cost said) (link_after_line l step.outcome) lines steps is valid.1 follows.3 here.stands
    (omega (arith, small)) in
    each-append IsApart (step_told step) (flat_map step_told steps) (grind arith, here.told) later

-- nothing has happened yet
bare_stands : LinkStands 0 bare_link
bare_stands = record { link = grind arith; rsets = record { made = omega arith; numbered = start_numbered bare_link IsBare } }

-- ## The messages that came are among those that were sent, so all that is told of a history is in its range

-- ### Parts of lists

pub front_each : {X : Type 0} (P : X → Type 0) (xs ys : List X) → AllByRecursion P (xs ++ ys) → AllByRecursion P xs
front_each P [] ys h = tt
front_each P (x ∷ xs) ys h = (h.0, front_each P xs ys h.1)

pub back_each : {X : Type 0} (P : X → Type 0) (xs ys : List X) → AllByRecursion P (xs ++ ys) → AllByRecursion P ys
back_each P [] ys h = h
back_each P (x ∷ xs) ys h = back_each P xs ys h.1

-- ### Messages

abbrev IsMessageIn : Message → Type 0
IsMessageIn m = IsByte m.0 × AreOctets m.1

abbrev AreMessagesIn : List Message → Type 0
AreMessagesIn ms = AllByRecursion IsMessageIn ms

abbrev IfMessage : Option Message → Type 0
IfMessage None = Unit {0}
IfMessage (Some m) = IsMessageIn m

cons_in : (o : Option Message) (ms : List Message) → IfMessage o → AreMessagesIn ms → AreMessagesIn (cons_option o ms)
cons_in o ms is h = grind arith

-- an entry of a message that was sent is in its range; nothing is said of others
abbrev IsSentIn : Entry → Type 0
IsSentIn (entry.Sent e n pid message) = IsMessageIn (pid, message)
IsSentIn x = Unit {0}

-- the same of a message that was got
abbrev IsGotIn : Entry → Type 0
IsGotIn (entry.Got e n pid message) = IsMessageIn (pid, message)
IsGotIn x = Unit {0}

abbrev IsSayingIn : Option Saying → Type 0
IsSayingIn (Some (Sends k m)) = IsMessageIn m
IsSayingIn o = Unit {0}

abbrev IsSaidIn : Option (End × Saying) → Type 0
IsSaidIn None = Unit {0}
IsSaidIn (Some x) = IsSayingIn (Some x.1)

sent_each : (e : End) (n : ℕ) (t : List Entry) → AllByRecursion IsSentIn t → AreMessagesIn (sent_in t e n)
sent_each e n [] h = tt
sent_each e n (x ∷ t) h = cons_in (sent_by n (said_of e x)) (sent_in t e n) (grind arith) (sent_each e n t h.1)

good_each : (ms : List Message) → AreMessagesIn ms → AreMessagesIn (good_of ms)
good_each [] h = tt
good_each (m ∷ ms) h = by_test (is_good m.1) (λ q. rw q (h.0, good_each ms h.1)) (λ q. rw q (good_each ms h.1))

front_in : (ms all : List Message) → IsFrontOf ms all → AreMessagesIn all → AreMessagesIn ms
front_in ms all front h = front_each IsMessageIn ms front.0 (subst AreMessagesIn (sym front.1) h)

-- each end has got only what the other sent
got_all : (t : List Entry) → IsInOrder t → AllByRecursion IsSentIn t → (e : End) (n : ℕ) → AreMessagesIn (got_in t e n)
got_all t order sent e n =
    subst (λ x. AreMessagesIn (got_in t x n)) (other_twice e)
    (front_in (got_in t (other_end (other_end e)) n) (good_of (sent_in t (other_end e) n)) (order.delivered (other_end e) n)
    (good_each (sent_in t (other_end e) n) (sent_each (other_end e) n t sent)))

got_one : (x : Entry) (t : List Entry) → ((e : End) (n : ℕ) → AreMessagesIn (cons_option (got_in_session n (said_of e x)) (got_in t e n))) → IsGotIn x
got_one (entry.Got e n pid message) t h =
    let here : AreMessagesIn ((pid, message) ∷ got_in t e n) = rw ((same_end_itself e), (same_number n)) at (h e n) in here.0
got_one x t h = tt

got_each : (t : List Entry) → ((e : End) (n : ℕ) → AreMessagesIn (got_in t e n)) → AllByRecursion IsGotIn t
got_each [] h = tt
got_each (x ∷ t) h = (got_one x t h, got_each t (λ e n. grind arith))

-- ### All that is told

apart_sent : (x : Entry) → IsApart x → IsSentIn x
apart_sent x h = grind arith

whole : (x : Entry) → IsApart x × IsGotIn x → IsEntry x
whole x h = grind arith

-- what is told of steps has all the entries of their events
gathered : (P : Entry → Type 0) (steps : List Step) → AllByRecursion P (flat_map step_told steps) → AllByRecursion P (entries_of (events_in steps))
gathered P [] h = tt
gathered P (step ∷ steps) h =
    let here : AllByRecursion P (step_told step) = front_each P (step_told step) (flat_map step_told steps) h in
    let later : AllByRecursion P (entries_of (events_in steps)) = gathered P steps (back_each P (step_told step) (flat_map step_told steps) h) in
    subst (AllByRecursion P) (sym (flat_map-append (λ (event : Event). event.entries) (events_of step.outcome) (events_in steps)))
    (each-append P (entries_of (events_of step.outcome)) (entries_of (events_in steps)) (grind arith) later)

-- and beside them only lines and refusals
spread : (steps : List Step) → AllByRecursion IsGotIn (entries_of (events_in steps)) → AllByRecursion IsGotIn (flat_map step_told steps)
spread [] h = tt
spread (step ∷ steps) h =
    let parts : AllByRecursion IsGotIn (entries_of (events_of step.outcome) ++ entries_of (events_in steps)) =
    subst (AllByRecursion IsGotIn) (flat_map-append (λ (event : Event). event.entries) (events_of step.outcome) (events_in steps)) h in
    let here = front_each IsGotIn (entries_of (events_of step.outcome)) (entries_of (events_in steps)) parts in
    let later = spread steps (back_each IsGotIn (entries_of (events_of step.outcome)) (entries_of (events_in steps)) parts) in
    each-append IsGotIn (step_told step) (flat_map step_told steps) (tt, grind arith) later

append_nil : (t : List Entry) → t ≡ t ++ []
append_nil [] = refl
append_nil (x ∷ t) = ap (λ u. x ∷ u) (append_nil t)

told_in : (header : Header) (lines : List Line) (t : History) → AllByRecursion (IsLineOf header) lines → IsHeader header → Follows header lines t
    → lines_cost lines + 24 ≤ top → AllByRecursion IsEntry (entries_told t)
told_in header lines t valid is follows few = entries
  where
    opening : AreApart t.opening
    opening = subst AreApart (sym follows.opening_is) ((grind arith, omega arith), ((grind arith, omega arith), tt))

    steps : AreApart (flat_map step_told t.steps)
    steps = steps_told header 0 bare_link lines t.steps is valid follows.steps_follow bare_stands (omega (arith, few))

    apart : AreApart (entries_told t)
    apart = (inl (subst IsHeader (sym follows.header_is) is), each-append IsApart t.opening (flat_map step_told t.steps) opening steps)

    sent : AllByRecursion IsSentIn (all_entries t)
    sent =
        all_mapped Entry IsApart IsSentIn (all_entries t) apart_sent
        (each-append IsApart t.opening (entries_of (all_events t)) opening (gathered IsApart t.steps steps))

    got : AllByRecursion IsGotIn (all_entries t)
    got =
        got_each (all_entries t)
        (got_all (all_entries t) (in_order header lines t valid is follows (all_entries t) [] (append_nil (all_entries t))) sent)

    got_told : AllByRecursion IsGotIn (entries_told t)
    got_told = (
      tt,
      each-append IsGotIn t.opening (flat_map step_told t.steps) (front_each IsGotIn t.opening (entries_of (all_events t)) got)
          (spread t.steps (back_each IsGotIn t.opening (entries_of (all_events t)) got)),
    )

    entries : AllByRecursion IsEntry (entries_told t)
    entries = all_mapped Entry (λ x. IsApart x × IsGotIn x) IsEntry (entries_told t) whole (all_joined Entry IsApart IsGotIn (entries_told t) apart got_told)

-- ## The lines that plays come to behind other plays

-- a world of nodes keeps the hosts of its header
pub keeps_hosts : (header : Header) → HostsStay header
keeps_hosts header = hosts_stay_behind header

abbrev pub lines_from : Header → List Play → List Play → List Line
lines_from header before [] = []
lines_from header before (p ∷ plays) = lines_of_play header (lines_played header before) p ++ lines_from header (before ++ p ∷ []) plays

pub played_from : (header : Header) (plays before : List Play)
    → lines_played header (before ++ plays) ≡ lines_played header before ++ lines_from header before plays
played_from header [] before = ap (lines_played header) (append-nil before) ∙ sym (append-nil (lines_played header before))
played_from header (p ∷ plays) before =
    let after : List Play = before ++ p ∷ [] in
    ap (lines_played header) (sym (append_assoc before (p ∷ []) plays))
    ∙ (played_from header plays after
    ∙ (ap (λ (lines : List Line). lines ++ lines_from header after plays) (played_more header before p)
    ∙ append_assoc (lines_played header before) (lines_of_play header (lines_played header before) p) (lines_from header after plays)))

-- ## All that is told of plays in a bare world is in its range

-- ### What lines cost

cost-append : (xs ys : List Line) → lines_cost (xs ++ ys) ≡ lines_cost xs + lines_cost ys
cost-append [] ys = omega arith
cost-append (x ∷ xs) ys = let rest = cost-append xs ys in omega (arith, rest)

module _ (header : Header) (is : IsHeader header) where
  play_cost : (before : List Line) (p : Play) → IsPlayFor header p → lines_cost (lines_of_play header before p)
      ≤ 200 * lines_said (p ∷ []) + 2 * rounds_played (p ∷ [])
  play_cost before p may = grind arith

  plays_cost : (plays before : List Play) → AllByRecursion (IsPlayFor header) plays
      → lines_cost (lines_from header before plays) ≤ 200 * lines_said plays + 2 * rounds_played plays
  plays_cost [] before may = omega arith
  plays_cost (p ∷ plays) before may =
      let both = cost-append (lines_of_play header (lines_played header before) p) (lines_from header (before ++ p ∷ []) plays) in
      let said = said-append (p ∷ []) plays in
      let rounds = played-append (p ∷ []) plays in
      omega (arith, play_cost (lines_played header before) p may.0, plays_cost plays (before ++ p ∷ []) may.1, both, said, rounds)

  pub bare_told_in : (plays : List Play) (t : History) → AllByRecursion (IsPlayFor header) plays → AreFewPlays plays
      → Follows header (lines_played header plays) t → AllByRecursion IsEntry (entries_told t)
  bare_told_in plays t may most follows =
      let lines : List Line = lines_played header plays in
      let said = most.said in
      let rounds = most.rounds in
      told_in header lines t
      (bare_lines header is.bare lines (lines_may_be_played header (inl is) (hosts_stay_behind header) plays may)) is follows
      (omega (arith, ap lines_cost (played_from header plays []), plays_cost plays [] may, said, rounds))
