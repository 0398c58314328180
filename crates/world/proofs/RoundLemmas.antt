-- What a line does on a link, seen from the end that it speaks of.
use Rattle.std.proofs.Common.{eqb}
use Rattle.std.proofs.lemmas.List.{length-map}
use Rattle.world.proofs.Words.{AreNoted, Buffer, Cause, Caused, Controller, Does, DoesAll, Empty, End, EndEvent, Entry, Flying, GoesOut, HasHappened}
use Rattle.world.proofs.Words.{HasRepeated, HaveSent, Host, IfSome, Line, Link, LinkStandsFor, List, No, NoCause, None, Noted, OnWire, Option, Outcome, Side}
use Rattle.world.proofs.Words.{SidesStandFor, Some, Taken, Ticked, WireStandsFor, [], aged, aged_entries, ap, append-nil, append_assoc, arith, causes_in}
use Rattle.world.proofs.Words.{entries_for, events_at, exchanged, false, frames_to, happens, happens_at_controller, here_entries, idle, if◌then◌else◌, kept_of}
use Rattle.world.proofs.Words.{length, lines-append, link_after, link_after_all, link_after_line, link_after_lines, more_noted, not, noted, other_end}
use Rattle.world.proofs.Words.{outcome_of, refl, refusal, replicate, round_on, seen_from, side_of, subst, suc, sym, taken_of, takes_on, taking_on, tick_entries}
use Rattle.world.proofs.Words.{ticks_at_controller, told_on, true, zero, ℕ, ◌*◌, ◌++◌, ◌+◌, ◌<◌, ◌^◌, ◌∙◌, ◌∷◌, ◌≡◌, ◌≤◌}
use lib.Dec.{T, eqb→eq}
use Rattle.link_laws.specs.entries.Entries.{event_entries}
use Rattle.history.specs.Histories.{entries_of}
use Rattle.history.specs.Histories.Outcome.{Refused}
use Rattle.history.specs.Steps.{at as happens_at, event_of, event_at}
use Rattle.history.specs.Follows.{if_empty}
use Rattle.trace_model.specs.declared.line.Line.TheVariants as saying
use Rattle.link_laws.specs.messages.Rest.{is_clear}
use Rattle.world.specs.Lines.{HasCaused}
use Rattle.world.proofs.Given.{causes_of-events, sent_repeated, sent_after}

-- ## Seen from an end

pub seen_happens : (at : End) (l : Link) (event : EndEvent)
    → seen_from at (happens l (happens_at at event)) ≡ happens_at_controller (seen_from at l) event
seen_happens at l event = grind arith

pub seen_noted : (at : End) (l : Link) (event : EndEvent)
    → event_entries l (happens_at at event) ≡ here_entries (side_of at) (seen_from at l) event
seen_noted at l event = grind arith

-- the sides of a link, seen from the host's end
pub seen_at_host : {near far : Side} {resets : ℕ} {l : Link} (at : End) → at.at_host ≡ true → LinkStandsFor far near resets l
    → SidesStandFor near far resets at l
seen_at_host {near} {far} {resets} {l} at q h = rw q (record { here = h.there; there = h.here; count = h.count })

pub seen_back : {near far : Side} {resets : ℕ} {l : Link} (at : End) → at.at_host ≡ true → SidesStandFor near far resets at l
    → LinkStandsFor far near resets l
seen_back {near} {far} {resets} {l} at q h =
    let z : LinkStandsFor near far resets (exchanged l) = rw q at h in record { here = z.there; there = z.here; count = z.count }

-- and from the controller's
pub seen_at_controller : {near far : Side} {resets : ℕ} {l : Link} (at : End) → at.at_host ≡ false → LinkStandsFor near far resets l
    → SidesStandFor near far resets at l
seen_at_controller {near} {far} {resets} {l} at q h = rw q h

pub seen_here : {near far : Side} {resets : ℕ} {l : Link} (at : End) → at.at_host ≡ false → SidesStandFor near far resets at l
    → LinkStandsFor near far resets l
seen_here at q h = grind arith

-- ## What becomes of a line

pub caused : (h : ℕ) (l : Link) (line : Line) → refusal l line ≡ None → outcome_of h l line ≡ Caused (events_at h l (causes_in l line))
caused h l line q = rw q refl

refused : (h : ℕ) (l : Link) (line : Line) (why : NoCause) → refusal l line ≡ Some why → outcome_of h l line ≡ Refused why
refused h l line why q = rw q refl

-- both sides stand for the link after this outcome, and it is noted
pub record Becomes (near far : Side) (resets : ℕ) (at : End) (l : Link) (outcome : Outcome) (now : List Entry) : Type 0 where
  pub stands : SidesStandFor near far resets at (link_after_line l outcome)
  pub noted_are : now ≡ noted outcome

pub does : {near far : Side} {resets : ℕ} {at : End} {l : Link} {line : Line} {now : List Entry} {outcome : Outcome}
    → outcome_of at.link l line ≡ outcome → Becomes near far resets at l outcome now → Does near far resets at l line now
does {near} {far} {resets} {at} {l} {line} {now} q b =
    let z : Becomes near far resets at l (outcome_of at.link l line) now = rw (← q) at b in
    record { stands = z.stands; noted_are = z.noted_are }

-- the same line does the same
pub same_does : {near far : Side} {resets : ℕ} {at : End} {l : Link} {line other : Line} {now : List Entry} → line ≡ other
    → Does near far resets at l other now → Does near far resets at l line now
same_does {near} {far} {resets} {at} {l} {now} is d = let P : Line → Type 0 = λ x. Does near far resets at l x now in subst P (sym is) d

-- a line that is refused does nothing
pub refused_does : {near far : Side} {resets : ℕ} {at : End} {l : Link} {line : Line} {now : List Entry} {why : NoCause}
    → refusal l line ≡ Some why → SidesStandFor near far resets at l → now ≡ No why ∷ [] → Does near far resets at l line now
refused_does {at} {l} {line} {why} q stands is = does (refused at.link l line why q) (record { stands = stands; noted_are = is })

-- a line isn't refused, and its one cause is that this happens at its end
pub record HasOneCause (at : End) (l : Link) (line : Line) (event : EndEvent) : Type 0 where
  pub cause : Cause
  pub none : refusal l line ≡ None
  pub causes : causes_in l line ≡ cause ∷ []
  pub is : event_of cause ≡ happens_at at event

-- a line whose one cause has happened
pub happened_does : {near far : Side} {resets : ℕ} {at : End} {l : Link} {line : Line} {before now : List Entry} {event : EndEvent}
    → HasHappened near far resets (seen_from at l) event at before now → before ≡ [] → HasOneCause at l line event
    → Does near far resets at l line now
happened_does {near} {far} {resets} {at} {l} {line} {event} has nothing one =
    does (caused at.link l line one.none ∙ ap (λ cs. Caused (events_at at.link l cs)) one.causes)
    (record {
      stands = (
          rw (← ap (λ e. seen_from at (happens l e)) one.is ∙ seen_happens at l event) at has.stands);
      noted_are =
          has.noted ∙ ap (λ es. es ++ entries_for at.link (here_entries (side_of at) (seen_from at l) event)) nothing
          ∙ ap (entries_for at.link) (sym (ap (event_entries l) one.is ∙ seen_noted at l event))
          ∙ sym (append-nil (entries_for at.link (event_entries l (event_of one.cause))));
    })

-- ## Frames on a wire

is_some : (n : ℕ) → false ≡ eqb n 0 → 0 < n
is_some n h = grind arith

-- what holds of the one thing that there is
pub some_holds : {X P : Type 0} (o : Option X) (x : X) → o ≡ Some x → IfSome o (λ y. P) → P
some_holds o x is p = grind arith

pub none_there : {kept : Buffer Flying} {wire : List OnWire} → WireStandsFor kept wire → true ≡ eqb (length kept.items) 0 → if_empty wire ≡ Some Empty
none_there {wire = []} w h = refl
none_there {kept} {wire = x ∷ xs} w h = absurd (omega (arith, eqb→eq (length kept.items) 0 (subst T h tt), ap length w.frames))

pub some_there : {kept : Buffer Flying} {wire : List OnWire} → WireStandsFor kept wire → false ≡ eqb (length kept.items) 0 → if_empty wire ≡ None
some_there w h = grind arith

-- The same happens on a link again and again.

-- what happened at an end is what its cause does
pub happened_caused : {near far : Side} {resets : ℕ} {at : End} {l : Link} {cause : Cause} {event : EndEvent} {before now : List Entry}
    → HasHappened near far resets (seen_from at l) event at before now → event_of cause ≡ happens_at at event
    → HasCaused near far resets at l cause before now
happened_caused {near} {far} {resets} {at} {l} {event} {before} has is =
    record {
      stands = (
          rw (← ap (λ e. seen_from at (happens l e)) is ∙ seen_happens at l event) at has.stands);
      noted_are = has.noted
          ∙ ap (λ ns. before ++ entries_for at.link ns) (sym (ap (event_entries l) is ∙ seen_noted at l event));
    }

-- the link after one cause more
after_more : (l : Link) (c : Cause) (k : ℕ) → link_after_all l (replicate (suc k) c) ≡ link_after (link_after_all l (replicate k c)) c
after_more l c zero = refl
after_more l c (suc k) = after_more (link_after l c) c k

-- and the entries
entries_more : (h : ℕ) (l : Link) (c : Cause) (k : ℕ)
    → entries_of (events_at h l (replicate (suc k) c))
    ≡ entries_of (events_at h l (replicate k c)) ++ (event_at h (link_after_all l (replicate k c)) c).entries
entries_more h l c zero = append-nil (event_at h l c).entries
entries_more h l c (suc k) =
    let first : List Entry = (event_at h l c).entries in
    ap (λ z. first ++ z) (entries_more h (link_after l c) c k)
    ∙ sym (append_assoc first (entries_of (events_at h (link_after l c) (replicate k c)))
    (event_at h (link_after_all (link_after l c) (replicate k c)) c).entries)

-- nothing was repeated yet
pub repeats_none : {near far : Side} {resets : ℕ} {at : End} {l : Link} {cause : Cause} {now : List Entry} → SidesStandFor near far resets at l
    → HasRepeated near far resets at l cause 0 now now
repeats_none {now} stands = record { stands = stands; noted_are = sym (append-nil now) }

pub repeats_more : {near far nears fars : Side} {resets now_resets : ℕ} {at : End} {l : Link} {cause : Cause} {k : ℕ} {first before now : List Entry}
    → HasRepeated near far resets at l cause k first before
    → HasCaused nears fars now_resets at (link_after_all l (replicate k cause)) cause before now
    → HasRepeated nears fars now_resets at l cause (suc k) first now
repeats_more {nears} {fars} {now_resets} {at} {l} {cause} {k} {first} h more =
    let last : List Entry = (event_at at.link (link_after_all l (replicate k cause)) cause).entries in
    record {
      stands = rw (← after_more l cause k) at more.stands;
      noted_are = more.noted_are
          ∙ ap (λ es. es ++ last) h.noted_are
          ∙ append_assoc first (entries_of (events_at at.link l (replicate k cause))) last
          ∙ ap (λ es. first ++ es) (sym (entries_more at.link l cause k));
    }

-- a line that causes the same so many times
pub repeats_does : {near far : Side} {resets : ℕ} {at : End} {l : Link} {line : Line} {cause : Cause} {k : ℕ} {now : List Entry}
    → HasRepeated near far resets at l cause k [] now → refusal l line ≡ None → causes_in l line ≡ replicate k cause
    → Does near far resets at l line now
repeats_does {near} {far} {resets} {at} {l} {line} {cause} {k} h none causes =
    does
    (caused at.link l line none ∙ ap (λ cs. Caused (events_at at.link l cs)) causes)
    (record {
      stands = rw (← ap (link_after_all l) (causes_of-events at.link l (replicate k cause))) at h.stands;
      noted_are = h.noted_are;
    })

-- ## A tick

-- what is noted of a tick, seen from the controller's end
pub tick_noted : {b c d e : List Entry} (at : End) (l : Link) (a : List Entry) → at.at_host ≡ false
    → AreNoted at a b (aged_entries (side_of at) l.to_controller)
    → AreNoted (other_end at) b c (aged_entries (side_of (other_end at)) l.to_host)
    → AreNoted at c d (tick_entries (side_of at) (aged l) idle)
    → AreNoted (other_end at) d e (tick_entries (side_of (other_end at)) (exchanged (ticks_at_controller (aged l) [] GoesOut)) idle)
    → e ≡ a ++ (event_at at.link l Ticked).entries
tick_noted {b} {c} {d} {e} at l a q one two three four =
    let near : Link = ticks_at_controller (aged l) [] GoesOut in
    let here : side_of at ≡ Controller = ap (λ x. if x then Host else Controller) q in
    let there : side_of (other_end at) ≡ Host = ap (λ x. if not x then Host else Controller) q in
    let last : List Noted = tick_entries Controller (aged l) idle ++ tick_entries Host (exchanged near) idle in
    more_noted at a (aged_entries Controller l.to_controller) (aged_entries Host l.to_host ++ last) (rw here at one)
    (more_noted at b (aged_entries Host l.to_host) last (rw there at two)
    (more_noted at c (tick_entries Controller (aged l) idle) (tick_entries Host (exchanged near) idle) (rw here at three) (rw there at four)))

-- the sides the other way round
pub turned_round : {near far : Side} {resets : ℕ} {l : Link} → LinkStandsFor near far resets l → LinkStandsFor far near resets (exchanged l)
turned_round h = record { here = h.there; there = h.here; count = h.count }

-- ## Bounds

-- the end from which a link is seen was given few messages
pub few_here : {n : ℕ} {l : Link} (at : End) → HaveSent l n → length (seen_from at l).controller.side.sent ≤ n
few_here at h = grind arith

-- a line takes no more frames than there are
taken_within : (count : Option ℕ) (wire : List OnWire) → taken_of count wire ≤ length wire
taken_within count wire = grind arith

-- as many frames are kept as stand on the wire
pub kept_len : {kept : Buffer Flying} {wire : List OnWire} → WireStandsFor kept wire → length wire ≡ length kept.items
kept_len {wire} h = sym (ap (λ (xs : List Flying). length xs) h.frames ∙ length-map wire kept_of)

-- so a line takes at most 64
pub taken_few : {kept : Buffer Flying} {wire : List OnWire} {n : ℕ} (count : Option ℕ) → WireStandsFor kept wire → n ≡ taken_of count wire → n ≤ 64
taken_few count h is = grind arith

-- 20,000 is short of what a count of messages holds
pub few_short : {n : ℕ} → n ≤ 320000 → n < 2 ^ 32
few_short h = omega (arith, h)

-- so many frames of at most 64, each with at most twelve RSETs behind it
pub room_for : (resets before k most : ℕ) → resets ≤ before + 12 * k → k < most → most ≤ 64 → before + 768 < 2 ^ 32 → resets + 12 < 2 ^ 32
room_for resets before k most a b d e = omega (arith, a, b, d, e)

pub grows_more : (now resets before k most : ℕ) → now ≤ resets + 12 → resets ≤ before + 12 * k → k < most → most ≤ 64 → now ≤ before + 768
grows_more now resets before k most g a b d = omega (arith, g, a, b, d)

pub grows_in_all : (resets before k : ℕ) → resets ≤ before + 12 * k → k ≤ 64 → resets ≤ before + 768
grows_in_all resets before k a b = omega (arith, a, b)

-- A round of a link: what its lines do, one after another.

-- ## What is noted of lines

pub told_on-append : (h : ℕ) (xs ys : List Line) (l : Link)
    → told_on h l (xs ++ ys) ≡ told_on h l xs ++ told_on h (link_after_lines h l xs) ys
told_on-append h [] ys l = refl
told_on-append h (x ∷ xs) ys l =
    let now : List Entry = noted (outcome_of h l x) in
    let next : Link = link_after_line l (outcome_of h l x) in
    ap (λ es. now ++ es) (told_on-append h xs ys next)
    ∙ sym (append_assoc now (told_on h next xs) (told_on h (link_after_lines h next xs) ys))

-- lines that did this, and lines behind them
pub does_both : {near far nears fars : Side} {resets more : ℕ} {at : End} {l : Link} {xs ys : List Line} {before mid now : List Entry}
    → DoesAll near far resets at l xs before mid → DoesAll nears fars more at (link_after_lines at.link l xs) ys mid now
    → DoesAll nears fars more at l (xs ++ ys) before now
does_both {nears} {fars} {more} {at} {l} {xs} {ys} {before} a b =
    let first : List Entry = told_on at.link l xs in
    let last : List Entry = told_on at.link (link_after_lines at.link l xs) ys in
    record {
      stands = rw (← lines-append at.link xs ys l) at b.stands;
      noted_are =
          b.noted_are ∙ ap (λ es. es ++ last) a.noted_are ∙ append_assoc before first last
          ∙ ap (λ es. before ++ es) (sym (told_on-append at.link xs ys l));
    }

-- ## All frames on a wire are taken

-- an end took all that stood on its wire
pub does_taking : {near far : Side} {resets : ℕ} {at : End} {l : Link} {before now : List Entry}
    → HasRepeated near far resets at l (Taken at) (length (frames_to l at)) before now
    → DoesAll near far resets at l (taking_on l at) before now
does_taking {near} {far} {resets} {at} {l} {before} {now} h =
    record {
      stands = rw (← takes_on at.link l at) at h.stands;
      noted_are = h.noted_are ∙ ap (λ es. before ++ es) (sym (go (frames_to l at) refl));
    }
  where
    go : (frames : List OnWire) → frames_to l at ≡ frames
        → told_on at.link l (taking_on l at) ≡ entries_of (events_at at.link l (replicate (length (frames_to l at)) (Taken at)))
    go [] q =
        ap (λ (xs : List OnWire). told_on at.link l (if is_clear xs then [] else saying.Deliver at None ∷ [])) q
        ∙ sym (ap (λ (xs : List OnWire). entries_of (events_at at.link l (replicate (length xs) (Taken at)))) q)
    go (x ∷ xs) q =
        let line : Line = saying.Deliver at None in
        let none : refusal l line ≡ None = rw q refl in
        ap (λ (ys : List OnWire). told_on at.link l (if is_clear ys then [] else saying.Deliver at None ∷ [])) q
        ∙ (append-nil (noted (outcome_of at.link l line)) ∙ ap noted (caused at.link l line none))

-- time passed once
pub does_tick : {near far : Side} {resets : ℕ} {at : End} {l : Link} {before now : List Entry}
    → HasCaused near far resets at l Ticked before now → DoesAll near far resets at l (saying.Tick None ∷ []) before now
does_tick {at} {l} {before} h =
    let now : List Entry = (event_at at.link l Ticked).entries in
    record {
      stands = h.stands;
      noted_are = h.noted_are ∙ ap (λ es. before ++ es) (sym (append-nil (now ++ []) ∙ append-nil now));
    }

-- ## The other end

-- the sides as the other end sees them
pub other_sees : {near far : Side} {resets : ℕ} (at : End) (l : Link) → at.at_host ≡ false → SidesStandFor near far resets at l
    → SidesStandFor far near resets (other_end at) l
other_sees {near} {far} {resets} at l q h =
    let z : LinkStandsFor near far resets l = rw q at h in rw q (turned_round z)

-- and back again
pub seen_again : {near far : Side} {resets : ℕ} (at : End) (l : Link) → at.at_host ≡ false → SidesStandFor far near resets (other_end at) l
    → SidesStandFor near far resets at l
seen_again {near} {far} {resets} at l q h =
    let z = rw q at h in rw q (record { here = z.there; there = z.here; count = z.count })

pub other_did : {near far : Side} {resets : ℕ} {l : Link} {lines : List Line} {before now : List Entry} (at : End) → at.at_host ≡ false
    → DoesAll far near resets (other_end at) l lines before now → DoesAll near far resets at l lines before now
other_did {l} {lines} at q d = record { stands = seen_again at (link_after_lines at.link l lines) q d.stands; noted_are = d.noted_are }

-- ## Messages given

-- no message is given where frames are taken
pub sent_taking : (n h : ℕ) (l : Link) (e : End) → HaveSent l n → HaveSent (link_after_lines h l (taking_on l e)) n
sent_taking n h l e sent = rw (takes_on h l e) (sent_repeated n (length (frames_to l e)) l (Taken e) tt sent)

-- nor in a round
pub sent_round : (n h : ℕ) (ends : List End) (l : Link) → HaveSent l n → HaveSent (link_after_lines h l (round_on h l ends)) n
sent_round n h [] l sent = sent_after n l Ticked tt sent
sent_round n h (e ∷ ends) l sent =
    let next : Link = link_after_lines h l (taking_on l e) in
    rw (lines-append h (taking_on l e) (round_on h next ends) l) (sent_round n h ends next (sent_taking n h l e sent))
