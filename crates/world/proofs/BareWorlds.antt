-- Lines and rounds have a link make few RSETs.
use Rattle.std.specs.Prelude.{IsTrue}
use Rattle.std.specs.List.{fold, list_any}
use Rattle.std.proofs.lemmas.List.Concat.{flat_map-append}
use Rattle.world.proofs.Words.{AllByRecursion, BareWorld, Bool, Cause, Caused, Controller, Does, DoesAll, End, Entry, Given, HasBareRoom, HasBareRoomToSettle}
use Rattle.world.proofs.Words.{HaveSent, Header, History, Host, IsLineOf, IsPlayFor, IsPlayedLine, Line, Link, LinkStandsFor, List, NoCause, None, OnDemand}
use Rattle.world.proofs.Words.{Option, Outcome, Play, Readied, Round, Said, Side, SideStandsFor, SidesStandFor, Some, Taken, Ticked, Verdict, WasLost, WasReset}
use Rattle.world.proofs.Words.{WorldStandsFor, [], ap, append-nil, append_assoc, arith, bare_entries, bare_link_behind, causes_in, damage_causes, end_for}
use Rattle.world.proofs.Words.{events_at, false, first_verdict, frames_to, host_of, length, lines-append, lines_lead, lines_played, lines_said, link_after}
use Rattle.world.proofs.Words.{link_after_all, link_after_line, link_after_lines, link_at, misread, new_link_end, noted, other_end, outcome_of, played_more}
use Rattle.world.proofs.Words.{refl, refusal, replicate, round_behind, round_on, rounds_played, subst, suc, sym, taken_of, takes_on, taking_on, told_below}
use Rattle.world.proofs.Words.{told_of_play, told_on, true, true≢false, unwrap_or, with_step, with_steps, zero, ℕ, ◌*◌, ◌++◌, ◌+◌, ◌<◌, ◌∙◌, ◌∷◌, ◌≡◌, ◌≤◌}
use Rattle.link_laws.specs.messages.Rsets.{FewRsets}
use Rattle.history.specs.Steps.{bare_link, end_of}
use Rattle.lines_told.proofs.lines.Told.{bare_round_lines}
use Rattle.world.specs.BareWorlds.{most_rsets}
use Rattle.trace_model.specs.declared.line.Line.TheVariants as line
use Rattle.history.specs.BareRsets.{rsets_by_bare}
use Rattle.history.specs.Damage.Verdict.{Same, LostFor, Undetected}
use Rattle.history.specs.Histories.{Step, all_entries, all_events, causes_of, events_of}
use Rattle.history.specs.Histories.Outcome.{Refused}
use Rattle.history.proofs.RsetsInBareWorlds.{few_after}
use Rattle.lines_told.proofs.lines.Told.{bare_known, bare_lines_may_be_played, for_with, no_more_rounds, no_more_said, one_round, one_said, sure_on}
use Rattle.trace_model.specs.declared.line.Line.TheVariants.{Send, Deliver, Lose, Damage, Tick, Reset, Busy, Ready, Boot, Cut, Activate, Arm, Init, Tables}
use Rattle.trace_model.specs.declared.line.Line.TheVariants.{Settle}
use Rattle.trace_model.specs.Lines.{IsHeader}
use Rattle.link_laws.specs.machine.Machine.Role.{Bare}
use Rattle.link_laws.specs.messages.Links.{new_numbered_end}
use Rattle.link_laws.proofs.messages.RsetNumbers.{start_numbered}
use Rattle.link_laws.specs.messages.Links.IsStart.{IsBare}
use Rattle.history.specs.Follows.{Follows, StepsFollow, opened}
use Rattle.history.proofs.Leading.{events_in, after_events}
use Rattle.history.specs.Legal.{Legal, Complete, Prefix, Settled, is_chain_fault}
use Rattle.history.proofs.legal.Settled.{only_one}
use Rattle.lines_told.specs.lines.Plays.{lines_of_play, told_behind}
use Rattle.lines_told.specs.lines.RoundLines.{IsRoundLine}
use Rattle.link_wires.specs.declared.finding.Misread.{Misread}
use Rattle.node_world.proofs.WorldsStepped.{few_with_line, few_with_one_round}
use Rattle.world.specs.Lines.{IsMisread, damaged_by}
use Rattle.world.proofs.Given.{causes_of-events, sent_line}
use Rattle.world.proofs.RoundLemmas.{seen_back, seen_here, sent_round}
use Rattle.node_world.proofs.CountsStay.{ticks_within as few_ticks}

-- few RSETs are as few as this
pub fewer : (n k : ℕ) (l : Link) → n ≤ k → FewRsets n l → FewRsets k l
fewer n k l less few = record { made = let z = few.made in omega (arith, z, less); numbered = few.numbered }

-- the same happens again and again, with so many RSETs each time
repeated_few : (c : Cause) (k : ℕ) (n : ℕ) (l : Link) → FewRsets n l → FewRsets (n + rsets_by_bare c * k) (link_after_all l (replicate k c))
repeated_few c zero n l few = fewer n (n + rsets_by_bare c * 0) l (omega arith) few
repeated_few c (suc k) n l few =
    let b : ℕ = rsets_by_bare c in
    let more = repeated_few c k (n + b) (link_after l c) (few_after n l c few) in
    let q : b * suc k ≡ b + b * k = omega arith in
    fewer (n + b + b * k) (n + b * suc k) (link_after_all (link_after l c) (replicate k c)) (omega (arith, q)) more

-- frames that are taken make none
taken_few : (e : End) (k n : ℕ) (l : Link) → FewRsets n l → FewRsets n (link_after_all l (replicate k (Taken e)))
taken_few e k n l few = fewer (n + 0 * k) n (link_after_all l (replicate k (Taken e))) (omega arith) (repeated_few (Taken e) k n l few)

once : (n k : ℕ) (l : Link) (c : Cause) → rsets_by_bare c ≤ k → FewRsets n l → FewRsets (n + k) (link_after l c)
once n k l c most few = fewer (n + rsets_by_bare c) (n + k) (link_after l c) (omega (arith, most)) (few_after n l c few)

damaged_few : (e : End) (v : Option Verdict) (n : ℕ) (l : Link) → FewRsets n l → FewRsets (n + 200) (link_after_all l (damage_causes e v))
damaged_few e None n l few = fewer n (n + 200) l (omega arith) few
damaged_few e (Some Same) n l few = once n 200 l (Taken e) (omega arith) few
damaged_few e (Some (LostFor why)) n l few = once n 200 l (WasLost e why) (omega arith) few
damaged_few e (Some (Undetected read)) n l few = fewer n (n + 200) l (omega arith) few

caused_few : (header : Header) (n : ℕ) (l : Link) (said : Line) → IsLineOf header said → FewRsets n l
    → FewRsets (n + 200) (link_after_all l (causes_in l said))
caused_few header n l (line.Send e pid message) is few = once n 200 l (Given e (pid, message)) (omega arith) few
caused_few header n l (line.Deliver e count) is few =
    let k : ℕ = taken_of count (frames_to l e) in
    fewer n (n + 200) (link_after_all l (replicate k (Taken e))) (omega arith) (taken_few e k n l few)
caused_few header n l (line.Lose e) is few = once n 200 l (WasLost e OnDemand) (omega arith) few
caused_few header n l (line.Damage e places) is few = damaged_few e (first_verdict (frames_to l e) places.items) n l few
caused_few header n l (line.Tick times) is few =
    let k : ℕ = unwrap_or times 1 in
    let most = few_ticks times is in
    fewer (n + 2 * k) (n + 200) (link_after_all l (replicate k Ticked)) (omega (arith, most)) (repeated_few Ticked k n l few)
caused_few header n l (line.Reset e window) is few = once n 200 l (WasReset e window) (omega arith) few
caused_few header n l (line.Busy e) is few = once n 200 l (Readied e false) (omega arith) few
caused_few header n l (line.Ready e) is few = once n 200 l (Readied e true) (omega arith) few
caused_few header n l (line.Boot node) is few = absurd is
caused_few header n l (line.Cut node) is few = absurd is
caused_few header n l (line.Activate host sync power) is few = absurd is
caused_few header n l (line.Arm node nth fill) is few = absurd is
caused_few header n l (line.Init e identity pipes) is few = absurd is
caused_few header n l (line.Tables node) is few = absurd is
caused_few header n l (line.Settle rounds) is few = absurd is

pub line_few : (header : Header) (n h : ℕ) (l : Link) (said : Line) → IsLineOf header said → FewRsets n l
    → FewRsets (n + 200) (link_after_line l (outcome_of h l said))
line_few header n h l said is few = go (refusal l said)
  where
    decided : Option NoCause → Outcome
    decided (Some cause) = Refused cause
    decided None = Caused (events_at h l (causes_in l said))

    go : (o : Option NoCause) → FewRsets (n + 200) (link_after_line l (decided o))
    go (Some cause) = fewer n (n + 200) l (omega arith) few
    go None =
        rw (causes_of-events h l (causes_in l said)) (caused_few header n l said is few)

-- and a round two
pub round_few : (n h : ℕ) (ends : List End) (l : Link) → FewRsets n l → FewRsets (n + 2) (link_after_lines h l (round_on h l ends))
round_few n h [] l few = few_after n l Ticked few
round_few n h (e ∷ ends) l few =
    let next : Link = link_after_lines h l (taking_on l e) in
    let taken : FewRsets n next = rw (← takes_on h l e) at (taken_few e (length (frames_to l e)) n l few) in
    rw (lines-append h (taking_on l e) (round_on h next ends) l) (round_few n h ends next taken)

-- ## Plays

pub most_said : (plays : List Play) (said : Line) → most_rsets plays + 200 ≡ most_rsets (plays ++ Said said ∷ [])
most_said plays said = let a = one_said plays said in let b = no_more_rounds plays said in omega (arith, a, b)

pub most_round : (plays : List Play) → most_rsets plays + 2 ≡ most_rsets (plays ++ Round ∷ [])
most_round plays = let a = no_more_said plays in let b = one_round plays in omega (arith, a, b)

-- The world stands for the history of its header, and for a history with one line or one round more.

-- ## A history with one line more

-- the link behind one more step
link_at-step : (t : History) (line : Line)
    → link_at (with_step t line) ≡ link_after_line (link_at t) (outcome_of (host_of t.header) (link_at t) line)
link_at-step t line =
    let o : Outcome = outcome_of (host_of t.header) (link_at t) line in
    let more : events_in (t.steps ++ record { line = line; outcome = o } ∷ []) ≡ all_events t ++ events_of o =
    flat_map-append (λ (step : Step). events_of step.outcome) t.steps (record { line = line; outcome = o } ∷ [])
    ∙ ap (λ es. all_events t ++ es) (append-nil (events_of o)) in
    ap (λ es. link_after_all bare_link (causes_of es)) more ∙ after_events bare_link (all_events t) (events_of o)

-- the last step, behind these on a link
abbrev last_step : ℕ → Link → Line → Step
last_step h l line = record { line = line; outcome = outcome_of h l line }

steps_grow : (h : ℕ) (l : Link) (lines : List Line) (steps : List Step) (line : Line) → StepsFollow h l lines steps
    → misread (link_after_all l (causes_of (events_in steps))) line ≡ None
    → StepsFollow h l (lines ++ line ∷ []) (steps ++ last_step h (link_after_all l (causes_of (events_in steps))) line ∷ [])
steps_grow h l [] [] line follows none = (refl, refl, none, tt)
steps_grow h l [] (step ∷ steps) line follows none = absurd follows
steps_grow h l (x ∷ lines) [] line follows none = absurd follows
steps_grow h l (x ∷ lines) (step ∷ steps) line follows none =
    let now : Link = link_after_line l step.outcome in
    let same = after_events l (events_of step.outcome) (events_in steps) in (
      follows.0,
      follows.1,
      follows.2,
      rw (← same) at (steps_grow h now lines steps line follows.3 (rw same at none)),
    )

follows_grow : (header : Header) (lines : List Line) (t : History) (line : Line) → Follows header lines t → misread (link_at t) line ≡ None
    → Follows header (lines ++ line ∷ []) (with_step t line)
follows_grow header lines t line h none =
    let P : Header → Type 0 = λ x.
    StepsFollow (host_of header) bare_link (lines ++ line ∷ []) (t.steps ++ last_step (host_of x) (link_at t) line ∷ []) in
    record {
      header_is = h.header_is;
      opening_is = h.opening_is;
      steps_follow = subst P (sym h.header_is) (steps_grow (host_of header) bare_link lines t.steps line h.steps_follow none);
    }

follows_opened : (header : Header) → Follows header [] (opened header)
follows_opened header = record { header_is = refl; opening_is = refl; steps_follow = tt }

-- ## A history with lines more

-- none of these lines is misread, wherever they stand
abbrev AreSure : List Line → Type 0
AreSure lines = AllByRecursion (λ (line : Line). (l : Link) → misread l line ≡ None) lines

round_sure : (header : Header) (lines : List Line) → AllByRecursion (IsRoundLine header) lines → AreSure lines
round_sure header [] are = tt
round_sure header (line ∷ lines) are = (sure_on header line are.0, round_sure header lines are.1)

follows_more : (header : Header) (more lines : List Line) (t : History) → Follows header lines t → AreSure more
    → Follows header (lines ++ more) (with_steps t more)
follows_more header [] lines t h sure = let P : List Line → Type 0 = λ ls. Follows header ls t in subst P (sym (append-nil lines)) h
follows_more header (line ∷ more) lines t h sure =
    let P : List Line → Type 0 = λ ls. Follows header ls (with_steps (with_step t line) more) in
    subst P (append_assoc lines (line ∷ []) more)
    (follows_more header more (lines ++ line ∷ []) (with_step t line) (follows_grow header lines t line h (sure.0 (link_at t))) sure.1)

-- the link behind these steps
link_at-more : (h : ℕ) (more : List Line) (t : History) → host_of t.header ≡ h
    → link_at (with_steps t more) ≡ link_after_lines h (link_at t) more
link_at-more h [] t is = refl
link_at-more h (line ∷ more) t is =
    link_at-more h more (with_step t line) is
    ∙ ap (λ l. link_after_lines h l more)
    (link_at-step t line ∙ ap (λ x. link_after_line (link_at t) (outcome_of x (link_at t) line)) is)

-- ## The law

-- a fact about each history that follows a schedule
abbrev OfEach : (History → Type 0) → Type 0
OfEach P =
    (header : Header) (lines : List Line) (t : History) → AllByRecursion (IsLineOf header) lines → IsHeader header → Follows header lines t → P t

-- the law of histories
pub record Law : Type 0 where
  pub in_order : OfEach Prefix
  pub joined : OfEach (λ t. list_any is_chain_fault (all_entries t) ≡ false)
  pub complete : OfEach Complete
  pub settled : OfEach Settled

legal : Law → (header : Header) (lines : List Line) (t : History) → AllByRecursion (IsLineOf header) lines → IsHeader header → Follows header lines t
    → Legal t
legal law header lines t are is follows =
    record {
      in_order = law.in_order header lines t are is follows;
      complete = law.complete header lines t are is follows;
      settled = law.settled header lines t are is follows;
      joined = law.joined header lines t are is follows;
    }

-- ## The header

pub new_stands : Law → (w : BareWorld) (header : Header) → IsHeader header → w.header ≡ header
    → SideStandsFor w.controller (new_numbered_end (new_link_end Bare)) [] → SideStandsFor w.host (new_numbered_end (new_link_end Bare)) [] → w.resets ≡ 0
    → w.stepped ≡ 0 → w.rounds ≡ 0 → WorldStandsFor w header [] (opened header)
new_stands law w header is header_is here there none first second =
    record {
      header_is = header_is;
      is_header = is;
      plays_are = tt;
      few = record { said = omega arith; rounds = omega arith };
      follows = follows_opened header;
      legal = legal law header [] (opened header) tt is (follows_opened header);
      link = record { here = here; there = there; count = none };
      sent = record { here = omega arith; there = omega arith };
      resets = record { made = omega arith; numbered = start_numbered bare_link IsBare };
      stepped = first;
      rounds = second;
    }

-- ## Which lines there are

-- a line that a bare world plays is one that its header allows
pub played_line : (header : Header) (line : Line) → IsLineOf header line → IsPlayedLine header line
played_line header line is = grind arith

-- no line of nodes is
never : {X : Type 0} (b : Bool) → b ≡ false → IsTrue b → X
never b is so = absurd (true≢false (sym so ∙ is))

pub bare_line : (header : Header) (line : Line) → header.hci ≡ false → IsPlayedLine header line → IsLineOf header line
bare_line header line off is = grind arith

bare_lines : (header : Header) (lines : List Line) → header.hci ≡ false → AllByRecursion (IsPlayedLine header) lines
    → AllByRecursion (IsLineOf header) lines
bare_lines header [] off are = tt
bare_lines header (line ∷ lines) off are = (bare_line header line off are.0, bare_lines header lines off are.1)

-- so all lines are that plays come to
lines_of_plays : (header : Header) (plays : List Play) → IsHeader header → AllByRecursion (IsPlayFor header) plays
    → AllByRecursion (IsLineOf header) (lines_played header plays)
lines_of_plays header plays is are = bare_lines header (lines_played header plays) is.bare (bare_lines_may_be_played header is.bare is.one plays are)

-- ## A line

-- the controller's end of the link of a header
abbrev pub controller_of : Header → End
controller_of header = end_of (host_of header) Controller

-- the end from which a line is seen is one of that link
link_is : (header : Header) (line : Line) → IsHeader header → IsLineOf header line → (end_for (controller_of header) line).link ≡ host_of header
link_is header (Send e pid message) h is = only_one header.hosts.items e.link h.one is.known
link_is header (Deliver e count) h is = only_one header.hosts.items e.link h.one is.0
link_is header (Lose e) h is = only_one header.hosts.items e.link h.one is
link_is header (Damage e places) h is = only_one header.hosts.items e.link h.one is.0
link_is header (Tick times) h is = refl
link_is header (Reset e window) h is = only_one header.hosts.items e.link h.one is.0
link_is header (Busy e) h is = only_one header.hosts.items e.link h.one is.1
link_is header (Ready e) h is = only_one header.hosts.items e.link h.one is.1
link_is header (Boot node) h is = absurd is
link_is header (Cut node) h is = absurd is
link_is header (Activate host sync power) h is = absurd is
link_is header (Arm node nth fill) h is = absurd is
link_is header (Init e identity pipes) h is = absurd is
link_is header (Tables node) h is = absurd is
link_is header (Settle rounds) h is = absurd is

-- what a line adds to what the world stands for
pub record Grows (now : BareWorld) (header : Header) (plays : List Play) (t : History) (line : Line) : Type 0 where
  pub stands : WorldStandsFor now header (plays ++ Said line ∷ []) (with_step t line)
  pub entries_are : bare_entries now ≡ noted (outcome_of (host_of header) (link_at t) line)

-- a world that stood for a history was stepped by a line, by which no frame is misread
pub record WasStepped (w now : BareWorld) (header : Header) (plays : List Play) (t : History) (line : Line) : Type 0 where
  pub before : WorldStandsFor w header plays t
  pub is_line : IsLineOf header line
  pub room : lines_said plays < 320000
  pub header_is : now.header ≡ w.header
  pub none_misread : misread (link_at t) line ≡ None
  pub counted : now.stepped ≡ w.stepped + 1
  pub same : now.rounds ≡ w.rounds

-- the link behind a line more
link_stepped : (header : Header) (t : History) (line : Line) → t.header ≡ header
    → link_at (with_step t line) ≡ link_after_line (link_at t) (outcome_of (host_of header) (link_at t) line)
link_stepped header t line is = link_at-step t line ∙ ap (λ x. link_after_line (link_at t) (outcome_of (host_of x) (link_at t) line)) is

-- both sides stand for the link after the line
step_stands : {w now : BareWorld} {header : Header} {plays : List Play} {t : History} {line : Line} → Law → WasStepped w now header plays t line
    → LinkStandsFor now.controller now.host now.resets (link_after_line (link_at t) (outcome_of (host_of header) (link_at t) line))
    → WorldStandsFor now header (plays ++ Said line ∷ []) (with_step t line)
step_stands {now} {header} {plays} {t} {line} law s link =
    let h = s.before in
    let next : List Play = plays ++ Said line ∷ [] in
    let are = for_with header plays (Said line) h.plays_are (played_line header line s.is_line) in
    let follows : Follows header (lines_played header next) (with_step t line) =
    rw (← played_more header plays (Said line)) at (follows_grow header (lines_played header plays) t line h.follows s.none_misread) in
    let last = link_stepped header t line h.follows.header_is in
    let more = one_said plays line in
    let most = most_said plays line in
    let sent : HaveSent (link_at (with_step t line)) (lines_said plays + 1) =
    rw (← last) at (sent_line (lines_said plays) (host_of header) (link_at t) line h.sent) in
    let a = sent.here in
    let b = sent.there in
    let few = line_few header (most_rsets plays) (host_of header) (link_at t) line s.is_line h.resets in
    let after : Link = link_after_line (link_at t) (outcome_of (host_of header) (link_at t) line) in
    let counted = s.counted in
    let before = h.stepped in
    record {
      header_is = s.header_is ∙ h.header_is;
      is_header = h.is_header;
      plays_are = are;
      few = few_with_line plays line h.few s.room;
      follows = follows;
      legal = legal law header (lines_played header next) (with_step t line) (lines_of_plays header next h.is_header are) h.is_header follows;
      link = rw (← last) at link;
      sent = record { here = omega (arith, a, more); there = omega (arith, b, more) };
      resets = rw (← last) at (fewer (most_rsets plays + 200) (most_rsets next) after (omega (arith, most)) few);
      stepped = omega (arith, counted, before, more);
      rounds = s.same ∙ h.rounds ∙ sym (no_more_rounds plays line);
    }

-- ## Seen from either end

-- what a line did, on the link of this host
on_link : {near far : Side} {resets : ℕ} {at : End} {line : Line} {now : List Entry} (h : ℕ) (l : Link) → at.link ≡ h
    → Does near far resets at l line now
    → SidesStandFor near far resets at (link_after_line l (outcome_of h l line)) × (now ≡ noted (outcome_of h l line))
on_link h l q does = grind arith

at_link : (header : Header) (line : Line) (at : End) → IsHeader header → IsLineOf header line → at ≡ end_for (controller_of header) line
    → at.link ≡ host_of header
at_link header line at h is q = ap (λ (e : End). e.link) q ∙ link_is header line h is

pub host_grows : {w now : BareWorld} {header : Header} {plays : List Play} {t : History} {line : Line} {at : End} → Law
    → WasStepped w now header plays t line → at ≡ end_for (controller_of header) line → at.at_host ≡ true
    → Does now.host now.controller now.resets at (link_at t) line (bare_entries now) → Grows now header plays t line
host_grows {header} {t} {line} {at} law s seen q does =
    let z = on_link (host_of header) (link_at t) (at_link header line at s.before.is_header s.is_line seen) does in
    record { stands = step_stands law s (seen_back at q z.0); entries_are = z.1 }

pub controller_grows : {w now : BareWorld} {header : Header} {plays : List Play} {t : History} {line : Line} {at : End} → Law
    → WasStepped w now header plays t line → at ≡ end_for (controller_of header) line → at.at_host ≡ false
    → Does now.controller now.host now.resets at (link_at t) line (bare_entries now) → Grows now header plays t line
controller_grows {header} {t} {line} {at} law s seen q does =
    let z = on_link (host_of header) (link_at t) (at_link header line at s.before.is_header s.is_line seen) does in
    record { stands = step_stands law s (seen_here at q z.0); entries_are = z.1 }

-- the ends of a world were given few messages
pub few_sent : {w : BareWorld} {header : Header} {plays : List Play} {t : History} → WorldStandsFor w header plays t → HaveSent (link_at t) 320000
few_sent h = grind arith

-- behind whichever plays a world stands, they are as many
pub few_said : {w : BareWorld} {plays : List Play} {t : History} → HasBareRoom w → WorldStandsFor w w.header plays t → lines_said plays < 320000
few_said room h = let n = h.stepped in let m = room.stands.stepped in let few = room.few in omega (arith, n, m, few)

pub few_rounds : {w : BareWorld} {plays : List Play} {t : History} → HasBareRoomToSettle w → WorldStandsFor w w.header plays t
    → rounds_played plays < 400000000
few_rounds room h = let n = h.rounds in let m = room.stands.rounds in let few = room.few in omega (arith, n, m, few)

-- no line is misread where none is told
pub none_misread : (l : Link) (line : Line) (o : Option Misread) → o ≡ None → IsMisread l line o → misread l line ≡ None
none_misread l line o q h = grind arith

pub one_misread : (l : Link) (line : Line) (o : Option Misread) (other : Misread) → o ≡ Some other → IsMisread l line o
    → (misread l line ≡ Some other.read) × (damaged_by l line ≡ Some other.sent)
one_misread l line o other q h = let P : Option Misread → Type 0 = λ x. IsMisread l line x in subst P q h

-- ## A round

-- what a round adds to what the world stands for
pub record GoesRound (now : BareWorld) (header : Header) (plays : List Play) (t : History) : Type 0 where
  pub stands : WorldStandsFor now header (plays ++ Round ∷ []) (with_steps t (round_behind header (lines_played header plays)))
  pub entries_are : bare_entries now ≡ told_of_play header (lines_played header plays) Round

-- a world that stood for a history went through a round
pub record WentRound (w now : BareWorld) (header : Header) (plays : List Play) (t : History) : Type 0 where
  pub before : WorldStandsFor w header plays t
  pub room : rounds_played plays < 400000000
  pub header_is : now.header ≡ w.header
  pub counted : now.rounds ≡ w.rounds + 1
  pub same : now.stepped ≡ w.stepped

-- what is noted of lines behind others is what is noted of them on the link that those leave
told_bare_lines : (header : Header) (more before : List Line) (l : Link) → header.hci ≡ false → bare_link_behind header before ≡ l
    → told_behind header before more ≡ told_on (host_of header) l more
told_bare_lines header [] before l off is = refl
told_bare_lines header (line ∷ more) before l off is =
    let h : ℕ = host_of header in
    let next : Link = link_after_line l (outcome_of h l line) in
    let now : told_below header before line ≡ noted (outcome_of h l line) = rw off (ap (λ x. noted (outcome_of h x line)) is) in
    let goes : bare_link_behind header (before ++ line ∷ []) ≡ next =
    lines-append h before (line ∷ []) bare_link ∙ ap (λ x. link_after_line x (outcome_of h x line)) is in
    ap (λ es. es ++ told_behind header (before ++ line ∷ []) more) now
    ∙ ap (λ es. noted (outcome_of h l line) ++ es) (told_bare_lines header more (before ++ line ∷ []) next off goes)

-- the ends in a round
abbrev ends_of : Header → List End
ends_of header = end_of (host_of header) Controller ∷ end_of (host_of header) Host ∷ []

-- the lines of a round behind a history
round_of : (header : Header) (lines : List Line) (t : History) → header.hci ≡ false → Follows header lines t
    → round_behind header lines ≡ round_on (host_of header) (link_at t) (ends_of header)
round_of header lines t off follows =
    bare_round_lines header off lines ∙ ap (λ l. round_on (host_of header) l (ends_of header)) (sym (lines_lead header lines t follows))

pub went_round : {w now : BareWorld} {header : Header} {plays : List Play} {t : History} → Law → WentRound w now header plays t
    → LinkStandsFor now.controller now.host now.resets
    (link_after_lines (host_of header) (link_at t) (round_on (host_of header) (link_at t) (ends_of header)))
    → bare_entries now ≡ told_on (host_of header) (link_at t) (round_on (host_of header) (link_at t) (ends_of header))
    → GoesRound now header plays t
went_round {now} {header} {plays} {t} law s link told =
    let h = s.before in
    let off = h.is_header.bare in
    let host : ℕ = host_of header in
    let l : Link = link_at t in
    let before : List Line = lines_played header plays in
    let lines : List Line = round_behind header before in
    let next : List Play = plays ++ Round ∷ [] in
    let u : History = with_steps t lines in
    let are = for_with header plays Round h.plays_are tt in
    let is : lines ≡ round_on host l (ends_of header) = round_of header before t off h.follows in
    let sure = round_sure header lines (bare_known header h.is_header.bare h.is_header.one before) in
    let follows : Follows header (lines_played header next) u =
    rw (← played_more header plays Round) at (follows_more header lines before t h.follows sure) in
    let last : link_at u ≡ link_after_lines host l (round_on host l (ends_of header)) =
    link_at-more host lines t (ap host_of h.follows.header_is) ∙ ap (link_after_lines host l) is in
    let same = no_more_said plays in
    let more = one_round plays in
    let most = most_round plays in
    let sent : HaveSent (link_at u) (lines_said plays) = rw (← last) at (sent_round (lines_said plays) host (ends_of header) l h.sent) in
    let a = sent.here in
    let b = sent.there in
    let after : Link = link_after_lines host l (round_on host l (ends_of header)) in
    let few = round_few (most_rsets plays) host (ends_of header) l h.resets in
    let counted = s.counted in
    let rounds = h.rounds in
    record {
      stands = record {
        header_is = s.header_is ∙ h.header_is;
        is_header = h.is_header;
        plays_are = are;
        few = few_with_one_round plays h.few s.room;
        follows = follows;
        legal = legal law header (lines_played header next) u (lines_of_plays header next h.is_header are) h.is_header follows;
        link = rw (← last) at link;
        sent = record { here = omega (arith, a, same); there = omega (arith, b, same) };
        resets = rw (← last) at (fewer (most_rsets plays + 2) (most_rsets next) after (omega (arith, most)) few);
        stepped = s.same ∙ h.stepped ∙ sym same;
        rounds = omega (arith, counted, rounds, more);
      };
      entries_are = told ∙ sym (told_bare_lines header lines before l off (sym (lines_lead header before t h.follows)) ∙ ap (told_on host l) is);
    }

-- the same, seen from the controller's end
pub round_goes : {w now : BareWorld} {header : Header} {plays : List Play} {t : History} (at : End) → Law → WentRound w now header plays t
    → at ≡ controller_of header
    → DoesAll now.controller now.host now.resets at (link_at t) (round_on at.link (link_at t) (at ∷ other_end at ∷ [])) [] (bare_entries now)
    → GoesRound now header plays t
round_goes {now} {t} at law s is does =
    let P : End → Type 0 = λ e.
    DoesAll now.controller now.host now.resets e (link_at t) (round_on e.link (link_at t) (e ∷ other_end e ∷ [])) [] (bare_entries now) in
    let z = subst P is does in went_round law s z.stands z.noted_are

-- The link behind plays made few RSETs, and its ends were given few messages.

-- so many RSETs were made at most, and so many messages given to an end
pub record IsLow (n m : ℕ) (l : Link) : Type 0 where
  pub resets : FewRsets n l
  pub sent : HaveSent l m

lower : (n m k j : ℕ) (l : Link) → n ≤ k → m ≤ j → IsLow n m l → IsLow k j l
lower n m k j l p q a = grind arith

module _ (header : Header) (is : IsHeader header) where
  abbrev behind : List Line → List Play → Link
  behind before plays = bare_link_behind header (fold (λ (ls : List Line) (p : Play). ls ++ lines_of_play header ls p) before plays)

  said_low : (n m : ℕ) (before : List Line) (said : Line) → IsPlayFor header (Said said) → IsLow n m (bare_link_behind header before)
      → IsLow (n + 200) (m + 1) (bare_link_behind header (before ++ said ∷ []))
  said_low n m before said may a =
      let h : ℕ = host_of header in
      let l : Link = bare_link_behind header before in
      subst (IsLow (n + 200) (m + 1)) (sym (lines-append h before (said ∷ []) bare_link))
      (record {
        resets = line_few header n h l said (bare_line header said is.bare may) a.resets;
        sent = sent_line m h l said a.sent;
      })

  round_low : (n m : ℕ) (before : List Line) → IsLow n m (bare_link_behind header before)
      → IsLow (n + 2) m (bare_link_behind header (before ++ round_behind header before))
  round_low n m before a =
      let h : ℕ = host_of header in
      let l : Link = bare_link_behind header before in
      let ends : List End = end_of h Controller ∷ end_of h Host ∷ [] in
      let goes = lines-append h before (round_behind header before) bare_link ∙ ap (link_after_lines h l) (bare_round_lines header is.bare before) in
      subst (IsLow (n + 2) m) (sym goes) (record { resets = round_few n h ends l a.resets; sent = sent_round m h ends l a.sent })

  low_behind : (plays : List Play) (before : List Line) (n m : ℕ) → AllByRecursion (IsPlayFor header) plays → IsLow n m (bare_link_behind header before)
      → IsLow (n + most_rsets plays) (m + lines_said plays) (behind before plays)
  low_behind [] before n m may a = lower n m (n + most_rsets []) (m + 0) (bare_link_behind header before) (omega arith) (omega arith) a
  low_behind (Said said ∷ plays) before n m may a =
      let s : ℕ = lines_said plays in
      let r : ℕ = rounds_played plays in
      let next : List Line = before ++ said ∷ [] in
      lower (n + 200 + (200 * s + 2 * r)) (m + 1 + s) (n + (200 * suc s + 2 * r)) (m + suc s) (behind next plays) (omega arith) (omega arith)
      (low_behind plays next (n + 200) (m + 1) may.1 (said_low n m before said may.0 a))
  low_behind (Round ∷ plays) before n m may a =
      let s : ℕ = lines_said plays in
      let r : ℕ = rounds_played plays in
      let next : List Line = before ++ round_behind header before in
      lower (n + 2 + (200 * s + 2 * r)) (m + s) (n + (200 * s + 2 * suc r)) (m + s) (behind next plays) (omega arith) (omega arith)
      (low_behind plays next (n + 2) m may.1 (round_low n m before a))

  pub plays_low : (plays : List Play) → AllByRecursion (IsPlayFor header) plays
      → IsLow (most_rsets plays) (lines_said plays) (bare_link_behind header (lines_played header plays))
  plays_low plays may =
      let first : IsLow 0 0 bare_link = grind arith in
      lower (0 + most_rsets plays) (0 + lines_said plays) (most_rsets plays) (lines_said plays) (bare_link_behind header (lines_played header plays))
      (omega arith) (omega arith) (low_behind plays [] 0 0 may first)
