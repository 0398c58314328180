-- The link of a bare world is undisturbed while it settles, where nothing that disturbs it is noted; whether its ends take fragments.
use Rattle.world_laws.proofs.Words.{AllAllowed, AllByRecursion, AreBothReady, AreBothUpIn, ArePlain, AreReadyThroughout, AreRoundCauses, AreUndisturbedNotes}
use Rattle.world_laws.proofs.Words.{AreUnstarted, AsksReset, AtController, AtHost, Bool, Cause, Caused, Controller, Cut, End, EndEvent, Entry, Event}
use Rattle.world_laws.proofs.Words.{FetchMessage, Follows, Give, Given, GoesOut, Header, History, HistoryStep, Hold, Host, IsBare, IsEndOf, IsHeader, IsLineOf}
use Rattle.world_laws.proofs.Words.{IsLinkUndisturbed, IsPlayedLine, IsRun, IsUnderWay, Line, Link, LinkEnd, LinkEvent, List, MayFollow, NextFrame, NoInput}
use Rattle.world_laws.proofs.Words.{None, Noted, NumberedEnd, OnWire, Option, Play, Readied, Reset, Restarted, Round, Said, Side, Some, Step, StepsFollow, Take}
use Rattle.world_laws.proofs.Words.{Taken, Tick, Ticked, Turn, WasLost, WasReset, [], after_causes, after_input, after_link_events, again, aged, all_entries}
use Rattle.world_laws.proofs.Words.{all_events, allowed_parts, ap, append-nil, append_assoc, arith, bare_link, bare_link_behind, bare_round_lines, becomes}
use Rattle.world_laws.proofs.Words.{beside-put_all, busy_after, by_test, causes_in, causes_of, causes_of_round, causes_of_rounds, causes_on, cond}
use Rattle.world_laws.proofs.Words.{controller_heard, drop, drop-append_seam, end_of, ended_by, entries, entries_for, entries_since, entry_of, eq-eqb, event_of}
use Rattle.world_laws.proofs.Words.{events_at, events_in, events_of, exchanged, false, first_entries, flat_map-append, fold, frames_out, frames_to, happens}
use Rattle.world_laws.proofs.Words.{happens_at_controller, heard, heard-append, host_ended, host_heard, host_of, if◌then◌else◌, is_clear, is_left_busy, is_run}
use Rattle.world_laws.proofs.Words.{is_settling, is_some, length, lines-append, lines_played, link_after, link_after_all, link_after_line, link_after_lines}
use Rattle.world_laws.proofs.Words.{link_after_round, link_events, list_any, map, map-append, not, notes_of, of_allowed, of_can, outcome_of, plain_trace}
use Rattle.world_laws.proofs.Words.{played_more, plays_of, plays_of_line, refl, refusal, replicate, round_behind, round_first, round_on, rounds_to_rest}
use Rattle.world_laws.proofs.Words.{rounds_to_settle, run_entries, same_side, session-all, session_number, session_up, settling_causes, settling_events}
use Rattle.world_laws.proofs.Words.{start_under_way, steps_at_controller, subst, suc, sym, taken_of, takes_on, taking_on, ticks_at_controller, took_with, true}
use Rattle.world_laws.proofs.Words.{true≢false, turn, turned, unwrap_or, with_ended, zero, ℕ, ◌&&◌, ◌++◌, ◌==◌, ◌∙◌, ◌∷◌, ◌≡◌}
use Rattle.history.proofs.legal.Settled.{only_one}
use Rattle.node_laws.proofs.order.Watches.{is_cut}
use Rattle.world_laws.proofs.links.RoundCauses.{rounds_are}
use Rattle.world_laws.proofs.schedules.NotedQuiet.{as_many, happened_leads, one_round, settled_link}
use Rattle.world_laws.proofs.undisturbed.Runs.{AreBothUpNow, AreRoundEvents, Calm, Unbegun, calm_run, keeps, trace-append, way_to}
use Rattle.world_laws.proofs.undisturbed.Nodes.{noted_calm}
use Rattle.world_laws.proofs.undisturbed.Holding.{ready_after, sent_ready, turn_ready}
use Rattle.trace_model.specs.declared.line.Line.TheVariants as saying

-- ## What a history of a bare world notes behind an earlier one, where rounds stand between them; and whether its ends take fragments

-- ### The causes of lines

-- what lines cause on a link, one after another
abbrev causes_along : ℕ → Link → List Line → List Cause
causes_along h l [] = []
causes_along h l (line ∷ lines) = causes_of (events_of (outcome_of h l line)) ++ causes_along h (link_after_line l (outcome_of h l line)) lines

causes_of-append : (a b : List Event) → causes_of (a ++ b) ≡ causes_of a ++ causes_of b
causes_of-append [] b = refl
causes_of-append (x ∷ a) b = ap (λ cs. x.cause ∷ cs) (causes_of-append a b)

-- the causes of steps that follow lines
causes_followed : (h : ℕ) (l : Link) (lines : List Line) (steps : List HistoryStep) → StepsFollow h l lines steps
    → causes_of (events_in steps) ≡ causes_along h l lines
causes_followed h l [] [] follows = refl
causes_followed h l [] (step ∷ steps) follows = absurd follows
causes_followed h l (line ∷ lines) [] follows = absurd follows
causes_followed h l (line ∷ lines) (step ∷ steps) follows =
    causes_of-append (events_of step.outcome) (events_in steps)
    ∙ (ap (λ cs. causes_of (events_of step.outcome) ++ cs) (causes_followed h (link_after_line l step.outcome) lines steps follows.3)
    ∙ ap (λ o. causes_of (events_of o) ++ causes_along h (link_after_line l o) lines) follows.1)

along-append : (h : ℕ) (xs ys : List Line) (l : Link) → causes_along h l (xs ++ ys) ≡ causes_along h l xs ++ causes_along h (link_after_lines h l xs) ys
along-append h [] ys l = refl
along-append h (x ∷ xs) ys l =
    let now : List Cause = causes_of (events_of (outcome_of h l x)) in
    let m : Link = link_after_line l (outcome_of h l x) in
    ap (λ cs. now ++ cs) (along-append h xs ys m) ∙ sym (append_assoc now (causes_along h m xs) (causes_along h (link_after_lines h m xs) ys))

-- an end takes all
abbrev along_if : ℕ → Link → End → List OnWire → List Cause
along_if h l e frames = causes_along h l (cond (is_clear frames) [] (saying.Deliver e None ∷ []))

along_taking : (h : ℕ) (l : Link) (e : End) → causes_along h l (taking_on l e) ≡ causes_in l (saying.Deliver e None)
along_taking h l e = go (frames_to l e) refl
  where
    line : Line
    line = saying.Deliver e None

    go : (frames : List OnWire) → frames_to l e ≡ frames → causes_along h l (taking_on l e) ≡ causes_in l (saying.Deliver e None)
    go [] q = grind arith
    go (x ∷ xs) q =
        let none : refusal l line ≡ None = rw q refl in
        let caused : outcome_of h l line ≡ Caused (events_at h l (causes_in l line)) = rw none refl in
        ap (along_if h l e) q
        ∙ (append-nil (causes_of (events_of (outcome_of h l line)))
        ∙ (ap (λ o. causes_of (events_of o)) caused ∙ again h l (causes_in l line)))

along_round : (h : ℕ) (ends : List End) (l : Link) → causes_along h l (round_on h l ends) ≡ causes_on h l ends
along_round h [] l = refl
along_round h (e ∷ ends) l =
    let m : Link = link_after_lines h l (taking_on l e) in
    let now : List Cause = causes_in l (saying.Deliver e None) in
    along-append h (taking_on l e) (round_on h m ends) l
    ∙ (ap (λ cs. cs ++ causes_along h m (round_on h m ends)) (along_taking h l e)
    ∙ (ap (λ cs. now ++ cs) (along_round h ends m) ∙ ap (λ (k : Link). now ++ causes_on h k ends) (takes_on h l e)))

module _ (header : Header) (bare : header.hci ≡ false) where
  -- the lines of rounds cause what the rounds do
  along_rounds : (r : ℕ) (plays : List Play)
      → causes_along (host_of header) bare_link (lines_played header (plays ++ replicate r Round))
      ≡ causes_along (host_of header) bare_link (lines_played header plays)
      ++ causes_of_rounds r (host_of header) (bare_link_behind header (lines_played header plays))
  along_rounds zero plays =
      let h : ℕ = host_of header in
      ap (λ (ps : List Play). causes_along h bare_link (lines_played header ps)) (append-nil plays)
      ∙ sym (append-nil (causes_along h bare_link (lines_played header plays)))
  along_rounds (suc r) plays =
      let h : ℕ = host_of header in
      let before : List Line = lines_played header plays in
      let l : Link = bare_link_behind header before in
      let m : Link = link_after_round h l in
      let first : List Cause = causes_along h bare_link before in
      let one : causes_along h bare_link (lines_played header (plays ++ Round ∷ [])) ≡ first ++ causes_of_round h l =
      ap (causes_along h bare_link) (played_more header plays Round)
      ∙ (along-append h before (round_behind header before) bare_link
      ∙ (ap (λ (ls : List Line). first ++ causes_along h l ls) (bare_round_lines header bare before)
      ∙ ap (λ cs. first ++ cs) (along_round h (end_of h Controller ∷ end_of h Host ∷ []) l))) in
      let behind : bare_link_behind header (lines_played header (plays ++ Round ∷ [])) ≡ m =
      ap (bare_link_behind header) (played_more header plays Round) ∙ one_round header bare before in
      ap (λ (ps : List Play). causes_along h bare_link (lines_played header ps)) (round_first plays r)
      ∙ (along_rounds r (plays ++ Round ∷ [])
      ∙ (ap (λ cs. cs ++ causes_of_rounds r h (bare_link_behind header (lines_played header (plays ++ Round ∷ [])))) one
      ∙ (ap (λ (k : Link). (first ++ causes_of_round h l) ++ causes_of_rounds r h k) behind
      ∙ append_assoc first (causes_of_round h l) (causes_of_rounds r h m))))

-- ### Whether an end takes fragments

-- the end at this side of a link does
abbrev pub ready_at : Bool → Link → Bool
ready_at at_host l = cond at_host l.host.side.shdlc.ready l.controller.side.shdlc.ready

-- it does so after a cause, where it did before or not
abbrev readied_by : Bool → Bool → Cause → Bool
readied_by at_host before (Readied e ready) = cond (same_side e.at_host at_host) ready before
readied_by at_host before cause = before

-- what happened at the controller's end left the host's, and its own is so
record HasReady (l m : Link) (ready : Bool) : Type 0 where
  pub near : m.controller.side.shdlc.ready ≡ ready
  pub far : m.host.side.shdlc.ready ≡ l.host.side.shdlc.ready

became : (l k : Link) (e : LinkEnd) (ready : Bool) → k.host ≡ l.host → e.shdlc.ready ≡ ready → HasReady l (becomes k e) ready
became l k e ready host is =
    record {
      near = sent_ready e ∙ is;
      far = ap (λ (z : NumberedEnd). z.side.shdlc.ready) ((beside-put_all (frames_out e) k).host ∙ host);
    }

-- one turn of its node at most
abbrev after_turn : Bool → List Turn → Bool
after_turn ready [] = ready
after_turn ready (t ∷ ts) = after_turn (ready_after ready t) ts

turned_ready : (e : LinkEnd) (ts : List Turn) (ready : Bool) → e.shdlc.ready ≡ ready → (turned e ts).shdlc.ready ≡ after_turn ready ts
turned_ready e [] ready is = is
turned_ready e (t ∷ ts) ready is = turned_ready (turn e t) ts (ready_after ready t) (turn_ready e t ∙ ap (λ b. ready_after b t) is)

frame_readied : (l : Link) (ts : List Turn) → after_turn l.controller.side.shdlc.ready ts ≡ l.controller.side.shdlc.ready
    → HasReady l (steps_at_controller l NextFrame ts GoesOut) l.controller.side.shdlc.ready
frame_readied l ts none = go l.to_controller refl
  where
    e : LinkEnd
    e = l.controller.side

    go : (w : List OnWire) → l.to_controller ≡ w → HasReady l (steps_at_controller l NextFrame ts GoesOut) l.controller.side.shdlc.ready
    go [] q = grind arith
    go (x ∷ xs) q =
        let b : Bool = is_some (ended_by e (Take x.frame)) in
        let m : Link = with_ended (record l { to_controller = xs }) b in
        let k : Link = record m { controller = record m.controller { took = took_with l.controller.took x } } in
        let f : LinkEnd = turned (after_input e (Take x.frame)) ts in
        let P : Link → Type 0 = λ m. HasReady l m l.controller.side.shdlc.ready in
        subst P (sym (rw q refl)) (became l k f e.shdlc.ready (host_ended (record l { to_controller = xs }) b)
        (turned_ready (after_input e (Take x.frame)) ts e.shdlc.ready (grind arith) ∙ none))

-- ## Whether the ends of a bare world take fragments behind the lines of a schedule: the last line that says so decides

-- ### A cause

-- it happens at one end
at_one : (at_host side : Bool) (l : Link) (x : EndEvent) (f : Bool → Bool)
    → ((k : Link) → HasReady k (happens_at_controller k x) (f k.controller.side.shdlc.ready))
    → ready_at at_host (happens l (if side then AtHost x else AtController x)) ≡ cond (same_side side at_host) (f (ready_at at_host l)) (ready_at at_host l)
at_one at_host side l x f is = grind arith

either : (b c : Bool) → cond b c c ≡ c
either b c = grind arith

not_not : (b : Bool) → not (not b) ≡ b
not_not b = grind arith

with_turn : (t : Turn) (ready : Bool → Bool) (k : Link) → (turned k.controller.side (t ∷ [])).shdlc.ready ≡ ready k.controller.side.shdlc.ready
    → HasReady k (happens_at_controller k (Step NoInput (t ∷ []) GoesOut)) (ready k.controller.side.shdlc.ready)
with_turn t ready k is = became k k (turned k.controller.side (t ∷ [])) (ready k.controller.side.shdlc.ready) refl is

ticked_here : (l : Link) → HasReady l (ticks_at_controller l [] GoesOut) l.controller.side.shdlc.ready
ticked_here l =
    let b : Bool = is_some (ended_by l.controller.side Tick) in
    became l (with_ended l b) (after_input l.controller.side Tick) l.controller.side.shdlc.ready (host_ended l b) (grind arith)

reset_here : (window : Option ℕ) (l : Link) → HasReady l (happens_at_controller l (Step (AsksReset window) [] GoesOut)) l.controller.side.shdlc.ready
reset_here window l =
    let b : Bool = is_some (ended_by l.controller.side (Reset window)) in
    became l (with_ended l b) (after_input l.controller.side (Reset window)) l.controller.side.shdlc.ready (host_ended l b)
    (grind arith)

cause_readies : (at_host : Bool) (l : Link) (c : Cause) → ready_at at_host (link_after l c) ≡ readied_by at_host (ready_at at_host l) c
cause_readies at_host l (Given e m) =
    at_one at_host e.at_host l (Step NoInput (Give m ∷ []) GoesOut) (λ b. b)
    (λ k. with_turn (Give m) (λ b. b) k (turned_ready k.controller.side (Give m ∷ []) k.controller.side.shdlc.ready refl))
    ∙ either (same_side e.at_host at_host) (ready_at at_host l)
cause_readies at_host l (Taken e) =
    let h0 = at_one at_host e.at_host l (Step NextFrame (FetchMessage ∷ []) GoesOut) (λ b. b) (λ k. frame_readied k (FetchMessage ∷ []) refl) in grind arith
cause_readies at_host l (WasLost e why) = grind arith
cause_readies at_host l (WasReset e window) =
    at_one at_host e.at_host l (Step (AsksReset window) [] GoesOut) (λ b. b) (reset_here window) ∙ either (same_side e.at_host at_host) (ready_at at_host l)
cause_readies at_host l (Readied e ready) =
    at_one at_host e.at_host l (Step NoInput (Hold (not ready) ∷ []) GoesOut) (λ b. ready)
    (λ k. with_turn (Hold (not ready)) (λ b. ready) k
    (turned_ready k.controller.side (Hold (not ready) ∷ []) k.controller.side.shdlc.ready refl ∙ not_not ready))
cause_readies at_host l Ticked = by_test at_host
    (λ q. rw q ((ticked_here (exchanged (ticks_at_controller (aged l) [] GoesOut))).near ∙ (ticked_here (aged l)).far))
    (λ q. rw q ((ticked_here (exchanged (ticks_at_controller (aged l) [] GoesOut))).far ∙ (ticked_here (aged l)).near))

abbrev readied_by_all : Bool → Bool → List Cause → Bool
readied_by_all at_host before [] = before
readied_by_all at_host before (c ∷ cs) = readied_by_all at_host (readied_by at_host before c) cs

causes_ready : (at_host : Bool) (cs : List Cause) (l : Link) → ready_at at_host (link_after_all l cs) ≡ readied_by_all at_host (ready_at at_host l) cs
causes_ready at_host [] l = refl
causes_ready at_host (c ∷ cs) l = let h0 = causes_ready at_host cs (link_after l c) in let h1 = cause_readies at_host l c in grind arith

-- rounds say nothing of it
rounds_ready : (at_host : Bool) (h : ℕ) (l : Link) (cs : List Cause) → AreRoundCauses h l cs → (b : Bool) → readied_by_all at_host b cs ≡ b
rounds_ready at_host h l [] a b = refl
rounds_ready at_host h l (Taken e ∷ cs) a b = rounds_ready at_host h (link_after l (Taken e)) cs a.1 b
rounds_ready at_host h l (Ticked ∷ cs) a b = rounds_ready at_host h (link_after l Ticked) cs a.1 b
rounds_ready at_host h l (_ ∷ cs) a b = absurd a.0

-- ### A line

-- a line causes nothing, or these causes
by_refusal : (P : List Cause → Type 0) (h : ℕ) (l : Link) (line : Line) → P [] → P (causes_in l line) → P (causes_of (events_of (outcome_of h l line)))
by_refusal P h l line none some = let h0 = refusal l line in let h1 = events_at h l (causes_in l line) in let h2 = again h l (causes_in l line) in grind arith

repeated_ready : (at_host : Bool) (c : Cause) → ((b : Bool) → readied_by at_host b c ≡ b) → (n : ℕ) (b : Bool) → readied_by_all at_host b (replicate n c) ≡ b
repeated_ready at_host c none zero b = refl
repeated_ready at_host c none (suc n) b = repeated_ready at_host c none n (readied_by at_host b c) ∙ none b

module _ (header : Header) (is : IsHeader header) (at_host : Bool) where
  abbrev here : End
  here = record { link = host_of header; at_host = at_host }

  -- what is said of an end of the world is said of this side of its link
  same : (e : End) → IsEndOf header e → (b c : Bool) → not (cond ((e.link == host_of header) && same_side e.at_host at_host) b (not c))
      ≡ cond (same_side e.at_host at_host) (not b) c
  same e known b c =
      let one : (e.link == host_of header) ≡ true = eq-eqb e.link (host_of header) (only_one header.hosts.items e.link is.one known) in
      rw one (by_test (same_side e.at_host at_host) (λ q. rw q refl) (λ q. rw q (not_not c)))

  -- the lines that aren't about it leave it
  kept : (l : Link) (line : Line) → ((b : Bool) → readied_by_all at_host b (causes_in l line) ≡ b)
      → ready_at at_host (link_after_line l (outcome_of (host_of header) l line)) ≡ not (not (ready_at at_host l))
  kept l line none =
      let h : ℕ = host_of header in
      let b : Bool = ready_at at_host l in
      causes_ready at_host (causes_of (events_of (outcome_of h l line))) l
      ∙ (by_refusal (λ cs. readied_by_all at_host b cs ≡ b) h l line refl (none b) ∙ sym (not_not b))

  line_ready : (l : Link) (line : Line) → MayFollow header line → is_settling line ≡ false
      → ready_at at_host (link_after_line l (outcome_of (host_of header) l line)) ≡ not (busy_after here (not (ready_at at_host l)) line)
  line_ready l (saying.Deliver e count) may plain =
      kept l (saying.Deliver e count) (repeated_ready at_host (Taken e) (λ b. refl) (taken_of count (frames_to l e)))
  line_ready l (saying.Damage e places) may plain = kept l (saying.Damage e places) (λ b. grind arith)
  line_ready l (saying.Tick times) may plain = kept l (saying.Tick times) (repeated_ready at_host Ticked (λ b. refl) (unwrap_or times 1))
  line_ready l (saying.Busy e) may plain = cause_readies at_host l (Readied e false) ∙ sym (same e may.1 true (ready_at at_host l))
  line_ready l (saying.Ready e) may plain = cause_readies at_host l (Readied e true) ∙ sym (same e may.1 false (ready_at at_host l))
  line_ready l (saying.Settle rounds) may plain = absurd (true≢false plain)
  line_ready l line may plain = kept l line (λ b. refl)

  -- ### A schedule

  -- the link behind these plays
  abbrev behind : List Play → Link
  behind plays = bare_link_behind header (lines_played header plays)

  said_ready : (before : List Play) (line : Line) → MayFollow header line → is_settling line ≡ false → (busy : Bool)
      → ready_at at_host (behind before) ≡ not busy → ready_at at_host (behind (before ++ Said line ∷ [])) ≡ not (busy_after here busy line)
  said_ready before line may plain busy was =
      let h : ℕ = host_of header in
      let goes : behind (before ++ Said line ∷ []) ≡ link_after_line (behind before) (outcome_of h (behind before) line) =
      ap (bare_link_behind header) (played_more header before (Said line)) ∙ lines-append h (lines_played header before) (line ∷ []) bare_link in
      ap (ready_at at_host) goes
      ∙ (line_ready (behind before) line may plain ∙ ap (λ b. not (busy_after here b line)) (ap not was ∙ not_not busy))

  rested_ready : (before : List Play) (n : ℕ)
      → ready_at at_host (behind (before ++ replicate (rounds_to_rest header before n) Round)) ≡ ready_at at_host (behind before)
  rested_ready before n =
      let h : ℕ = host_of header in
      let l : Link = behind before in
      ap (ready_at at_host) (settled_link header is.bare before n ∙ sym (after_causes (settling_causes n h l) l))
      ∙ (causes_ready at_host (settling_causes n h l) l
      ∙ rounds_ready at_host h l (settling_causes n h l) (rounds_are h (rounds_to_settle n h l) l) (ready_at at_host l))

  line_played : (before : List Play) (line : Line) → MayFollow header line → (busy : Bool) → ready_at at_host (behind before) ≡ not busy
      → ready_at at_host (behind (before ++ plays_of_line header before line)) ≡ not (busy_after here busy line)
  line_played before (saying.Settle n) may busy was = rested_ready before n ∙ was
  line_played before line may busy was = said_ready before line may refl busy was

  lines_ready : (lines : List Line) (before : List Play) (busy : Bool) → AllByRecursion (MayFollow header) lines → ready_at at_host (behind before) ≡ not busy
      → ready_at at_host (behind (fold (λ (ps : List Play) (line : Line). ps ++ plays_of_line header ps line) before lines))
      ≡ not (fold (busy_after here) busy lines)
  lines_ready [] before busy may was = was
  lines_ready (line ∷ lines) before busy may was =
      lines_ready lines (before ++ plays_of_line header before line) (busy_after here busy line) may.1 (line_played before line may.0 busy was)

  pub schedule_ready : (lines : List Line) → AllByRecursion (MayFollow header) lines → is_left_busy here lines ≡ false
      → ready_at at_host (behind (plays_of header lines)) ≡ true
  schedule_ready lines may none = lines_ready lines [] false may (by_test at_host (λ q. rw q refl) (λ q. rw q refl)) ∙ ap not none

  -- ### Lines that are played

  -- the link behind these lines
  abbrev behind_lines : List Line → Link
  behind_lines before = bare_link_behind header before

  all_ready : (lines before : List Line) (busy : Bool) → AllByRecursion (IsPlayedLine header) lines → ready_at at_host (behind_lines before) ≡ not busy
      → ready_at at_host (behind_lines (before ++ lines)) ≡ not (fold (busy_after here) busy lines)
  all_ready [] before busy may was = ap (λ ls. ready_at at_host (behind_lines ls)) (append-nil before) ∙ was
  all_ready (line ∷ lines) before busy may was =
      let next : List Line = before ++ line ∷ [] in
      let now : ready_at at_host (behind_lines next) ≡ not (busy_after here busy line) =
      ap (ready_at at_host) (lines-append (host_of header) before (line ∷ []) bare_link)
      ∙ (line_ready (behind_lines before) line may.0.may_follow may.0.settles_not ∙ ap (λ b. not (busy_after here b line)) (ap not was ∙ not_not busy)) in
      ap (λ ls. ready_at at_host (behind_lines ls)) (sym (append_assoc before (line ∷ []) lines))
      ∙ all_ready lines next (busy_after here busy line) may.1 now

  pub played_ready : (lines : List Line) → AllByRecursion (IsPlayedLine header) lines → is_left_busy here lines ≡ false
      → ready_at at_host (behind_lines lines) ≡ true
  played_ready lines may none = all_ready lines [] false may (by_test at_host (λ q. rw q refl) (λ q. rw q refl)) ∙ ap not none

-- ## The link of a bare world is undisturbed while it settles, where nothing that disturbs it is noted of its rounds

-- ### What is noted

plain_right : (t u : List Noted) → ArePlain (t ++ u) → ArePlain u
plain_right [] u p = p
plain_right (e ∷ t) u p = plain_right t u p.1

-- no end is started, and no power cut
plain_unstarted : (t : List Noted) → ArePlain t → AreUnstarted t
plain_unstarted [] p = tt
plain_unstarted (Restarted w ∷ t) p = absurd p.0
plain_unstarted (e ∷ t) p = (tt, plain_unstarted t p.1)

plain_uncut : (t : List Noted) → ArePlain t → list_any is_cut t ≡ false
plain_uncut [] p = refl
plain_uncut (Cut w ∷ t) p = absurd p.0
plain_uncut (e ∷ t) p = plain_uncut t p.1

-- ### Rounds

round_events : (h : ℕ) (l : Link) (cs : List Cause) → AreRoundCauses h l cs → AreRoundEvents (map event_of cs)
round_events h l [] a = tt
round_events h l (Taken e ∷ cs) a = let h0 = link_after l (Taken e) in let h1 = round_events h (link_after l (Taken e)) cs a.1 in grind arith
round_events h l (Ticked ∷ cs) a = (tt, round_events h (link_after l Ticked) cs a.1)
round_events h l (_ ∷ cs) a = absurd a.0

ready_next : (h : ℕ) (l : Link) (c : Cause) → AreRoundCauses h l (c ∷ []) → AreBothReady l → AreBothReady (link_after l c)
ready_next h l (Taken e) a r = record { controller = cause_readies false l (Taken e) ∙ r.controller; host = cause_readies true l (Taken e) ∙ r.host }
ready_next h l Ticked a r = record { controller = cause_readies false l Ticked ∙ r.controller; host = cause_readies true l Ticked ∙ r.host }
ready_next h l _ a r = absurd a.0

ready_throughout : (h : ℕ) (cs : List Cause) (l : Link) → AreRoundCauses h l cs → AreBothReady l → AreReadyThroughout l (map event_of cs)
ready_throughout h [] l a r = r
ready_throughout h (c ∷ cs) l a r = (r, ready_throughout h cs (link_after l c) a.1 (ready_next h l c (a.0, tt) r))

-- ### Behind plays

module _ (header : Header) (bare : header.hci ≡ false) (plays : List Play) (n : ℕ) (t later : History)
    (valid : AllByRecursion (IsLineOf header) (lines_played header plays))
    (later_valid : AllByRecursion (IsLineOf header) (lines_played header (plays ++ replicate (rounds_to_rest header plays n) Round)))
    (follows : Follows header (lines_played header plays) t)
    (goes : Follows header (lines_played header (plays ++ replicate (rounds_to_rest header plays n) Round)) later) where
  abbrev h : ℕ
  h = host_of header

  abbrev xs : List Event
  xs = all_events t

  abbrev ys : List Event
  ys = all_events later

  abbrev l : Link
  l = bare_link_behind header (lines_played header plays)

  abbrev cs : List Cause
  cs = settling_causes n h l

  abbrev es : List LinkEvent
  es = settling_events n h l

  run : IsRun h t
  run = is_run header (lines_played header plays) t valid follows

  later_run : IsRun h later
  later_run = is_run header (lines_played header (plays ++ replicate (rounds_to_rest header plays n) Round)) later later_valid goes

  leads : after_link_events bare_link (link_events xs) ≡ l
  leads = happened_leads header (lines_played header plays) t valid follows

  -- the later history has the events of the rounds behind those of the earlier one
  later_causes : causes_of ys ≡ causes_of xs ++ cs
  later_causes =
      causes_followed h bare_link (lines_played header (plays ++ replicate (rounds_to_rest header plays n) Round)) later.steps goes.steps_follow
      ∙ (along_rounds header bare (rounds_to_rest header plays n) plays
      ∙ (ap (λ (r : ℕ). causes_along h bare_link (lines_played header plays) ++ causes_of_rounds r h l) (as_many header bare plays n)
      ∙ ap (λ ds. ds ++ cs) (sym (causes_followed h bare_link (lines_played header plays) t.steps follows.steps_follow))))

  later_events : link_events ys ≡ link_events xs ++ es
  later_events = ap (map event_of) later_causes ∙ map-append event_of (causes_of xs) cs

  later_notes : notes_of ys ≡ notes_of xs ++ entries l es
  later_notes =
      ap (λ fs. first_entries bare_link.controller.side.role ++ entries bare_link fs) later_events
      ∙ (trace-append bare_link IsBare (link_events xs) es ∙ ap (λ (k : Link). notes_of xs ++ entries k es) leads)

  since : entries_since (all_entries t) (all_entries later) ≡ entries_for h (entries l es)
  since =
      let a : List Entry = entries_for h (notes_of xs) in
      let b : List Entry = entries_for h (entries l es) in
      let first : all_entries t ≡ a = run_entries h t.opening xs run.opening run.events in
      let all : all_entries later ≡ a ++ b =
      run_entries h later.opening ys later_run.opening later_run.events
      ∙ (ap (entries_for h) later_notes ∙ flat_map-append (entry_of h) (notes_of xs) (entries l es)) in
      ap (λ (z : List Entry). drop (length z) (all_entries later)) first ∙ (ap (drop (length a)) all ∙ drop-append_seam a b)

  allowed : AllAllowed bare_link (link_events xs) × AllAllowed l es
  allowed =
      let both = allowed_parts (link_events xs) es bare_link
      (subst (AllAllowed bare_link) later_events (of_allowed h bare_link ys later_run.events)) in
      (both.0, subst (λ (k : Link). AllAllowed k es) leads both.1)

  up_there : (k : ℕ) → AreBothUpIn (all_entries t) h k → AreBothUpNow l
  up_there k up =
      let told : all_entries t ≡ entries_for h (notes_of xs) = run_entries h t.opening xs run.opening run.events in
      let m : Link = after_link_events bare_link (link_events xs) in
      let can = of_can h bare_link xs run.events in
      let plain = plain_trace (causes_of xs) in
      subst AreBothUpNow leads
      (record {
        controller = (session_up m.controller k
            (sym (session-all h (notes_of xs) Controller plain ∙ controller_heard (causes_of xs) can)
            ∙ (sym (ap (λ (z : List Entry). session_number z (end_of h Controller)) told) ∙ up.controller))).0;
        host = (session_up m.host k
            (sym (session-all h (notes_of xs) Host plain ∙ host_heard (causes_of xs) can)
            ∙ (sym (ap (λ (z : List Entry). session_number z (end_of h Host)) told) ∙ up.host))).0;
      })

  module _ (k : ℕ) (up : AreBothUpIn (all_entries t) (host_of header) k) (ready : AreBothReady (bare_link_behind header (lines_played header plays)))
      (notes : AreUndisturbedNotes (entries_since (all_entries t) (all_entries later)) (host_of header)) where
    plain : ArePlain (entries l es)
    plain = plain_right (notes_of xs) (entries l es) (subst ArePlain later_notes (plain_trace (causes_of ys)))

    calm : Calm (entries l es)
    calm =
        let told : AreUndisturbedNotes (entries_for h (entries l es)) h = subst (λ (z : List Entry). AreUndisturbedNotes z h) since notes in
        noted_calm h (entries l es) (plain_unstarted (entries l es) plain) (plain_uncut (entries l es) plain) told.lasting told.lossless

    both : IsLinkUndisturbed l es × Unbegun (entries l es)
    both =
        let rounds : AreRoundCauses h l cs = rounds_are h (rounds_to_settle n h l) l in
        let before = way_to (link_events xs) bare_link allowed.0 (start_under_way bare_link IsBare) in
        calm_run bare_link IsBare es (link_events xs) l leads allowed.0 allowed.1 (round_events h l cs rounds)
        (subst (IsUnderWay before.0) leads before.1) (up_there k up) (ready_throughout h cs l rounds ready) calm

    pub bare_undisturbed : IsLinkUndisturbed (bare_link_behind header (lines_played header plays))
        (settling_events n (host_of header) (bare_link_behind header (lines_played header plays)))
    bare_undisturbed = both.0

    -- both ends are up in the same session behind the rounds
    session_later : (who : Side) → session_number (all_entries t) (end_of h who) ≡ Some k → session_number (all_entries later) (end_of h who) ≡ Some k
    session_later who was =
        let before : heard who None (notes_of xs) ≡ Some k =
        sym (session-all h (notes_of xs) who (plain_trace (causes_of xs)))
        ∙ (sym (ap (λ (z : List Entry). session_number z (end_of h who)) (run_entries h t.opening xs run.opening run.events)) ∙ was) in
        ap (λ (z : List Entry). session_number z (end_of h who)) (run_entries h later.opening ys later_run.opening later_run.events)
        ∙ (session-all h (notes_of ys) who (plain_trace (causes_of ys))
        ∙ (ap (heard who None) later_notes
        ∙ (heard-append who None (notes_of xs) (entries l es)
        ∙ (ap (λ (z : Option ℕ). heard who z (entries l es)) before ∙ keeps who k (entries l es) calm both.1))))

    pub up_later : AreBothUpIn (all_entries later) (host_of header) k
    up_later = record { controller = session_later Controller up.controller; host = session_later Host up.host }
