-- A schedule of bytes has one history, below either header: its lines are in their ranges, and none of them damages a frame so that another
-- one is read.
use Rattle.std.proofs.Common.{ap₂}
use Rattle.swp_tool.proofs.Words.{AllByRecursion, AreNodeLinesOf, Bool, Entry, Err, Header, IsInGrammar, IsNodeHeader, IsPlayed, IsPlayedText, Line, Link, List}
use Rattle.swp_tool.proofs.Words.{MayFollow, None, NoneIsMisread, OfLink, OfNodes, Ok, Option, Play, Result, Round, Said, Schedule, Some, Stop, Too_many, []}
use Rattle.swp_tool.proofs.Words.{and_line, and_lines, and_said, ap, append-nil, append_assoc, arith, asking_few, bare_link, bare_link_behind, common_steps}
use Rattle.swp_tool.proofs.Words.{cond, ended, entry_lines, false, fold, history_below, in_range, is_settling, length, length-append, line_of, lines}
use Rattle.swp_tool.proofs.Words.{lines_of_play, lines_played, lines_played_of, lines_said, link_history, link_steps_from, misread_below, new_world}
use Rattle.swp_tool.proofs.Words.{nodes_behind, nodes_history, nothing_read, played_legal, plays_of, plays_of_line, refl, replicate, round_behind}
use Rattle.swp_tool.proofs.Words.{rounds_to_rest, schedule_in, schedule_told, subst, suc, sym, true, zero, ℕ, ◌++◌, ◌+◌, ◌<◌, ◌==◌, ◌∙◌, ◌∷◌, ◌≡◌, ◌≤◌}
use Rattle.block_pool.proofs.HoldingLemmas.{all_pushed}
use Rattle.trace_model.specs.declared.line.Line.TheVariants as saying
use Rattle.trace_model.specs.Lines.{IsHeader, IsLineOf, MayBegin}
use Rattle.schedule_text.specs.declared.fault.LineFault.{LineFault}
use Rattle.schedule_text.specs.declared.read.Read.{Read}
use Rattle.schedule_text.specs.declared.read.Read.TheVariants as read
use Rattle.schedule_text.proofs.LinesLemmas.{line_fits}
use Rattle.history.specs.Histories.{Step, History, Outcome}
use Rattle.history.specs.Follows.{Follows, StepsFollow, host_of, opening_of, link_after_line, outcome_of}
use Rattle.node_laws.specs.schedules.Ranges.{asking, lines_asking}
use Rattle.node_laws.proofs.bounds.Paying.{asking-append}
use Rattle.node_laws.specs.answers.Headline.{PlayedHistory}
use Rattle.lines_told.specs.lines.Below.{IsPlayedLine}
use Rattle.lines_told.specs.lines.RoundLines.{IsRoundLine}
use Rattle.lines_told.proofs.lines.Told.{after-append, few_said, lines-append, lines_may_be_played, played_more, plays_for, plays_more, round_first}
use Rattle.lines_told.proofs.lines.Told.{round_known, sure_below}
use Rattle.told_laws.proofs.told.BarePlays.{keeps_hosts}
use Rattle.swp_tool.specs.Schedules.{misread_there, with_played}
use Rattle.swp_tool.proofs.Happened.{tells_history}

-- ## Lines in their ranges

not_settling : (l : Line) → is_settling l ≡ false → (rounds : ℕ) → l ≡ saying.Settle rounds → ⊥
not_settling l still rounds same = let settles : is_settling l ≡ true = ap is_settling same in absurd (let both : true ≡ false = sym settles ∙ still in cc both)

-- what stands below a header that isn't of nodes is of a bare world
bare_header : (header : Header) → header.hci ≡ false → MayBegin header → IsHeader header
bare_header header bare a = grind arith

nodes_header : (header : Header) → header.hci ≡ true → MayBegin header → IsNodeHeader header
nodes_header header nodes a = grind arith

bare_line : (header : Header) (said : Line) → header.hci ≡ false → is_settling said ≡ false → MayFollow header said → IsLineOf header said
bare_line header said bare still h = grind arith

-- ## A schedule, below either header

-- no line of these behind those damages a frame so that another one is read
abbrev pub NoneIsMisreadBehind : Header → List Line → List Line → Type 0
NoneIsMisreadBehind header before [] = Unit {0}
NoneIsMisreadBehind header before (line ∷ ls) = (misread_below header before line ≡ None) × NoneIsMisreadBehind header (before ++ line ∷ []) ls

-- no line of a schedule does so, behind what the lines before it come to
abbrev pub NoneIsMisreadOf : Header → List Line → Type 0
NoneIsMisreadOf header ls =
    (front back : List Line) (said : Line) → ls ≡ front ++ said ∷ back → misread_below header (lines_played_of header front) said ≡ None

-- A schedule may begin so, and its lines are in their ranges. None of them damages a frame so that another one is read, nor does any of those
-- that they come to.
pub record AreRight (header : Header) (ls : List Line) : Type 0 where
  pub begun : MayBegin header
  pub lines_are : AllByRecursion (MayFollow header) ls
  pub each : NoneIsMisreadOf header ls
  pub sure : NoneIsMisreadBehind header [] (lines_played_of header ls)

abbrev pub AreFit : Option Header → List Line → Type 0
AreFit None ls = ls ≡ []
AreFit (Some header) ls = AreRight header ls

pub record Fits (s : Schedule) : Type 0 where
  pub fit : AreFit s.header s.lines
  pub few : length s.lines ≤ s.count
  pub short : length s.lines ≤ 20000
  pub most : s.stop ≡ None → s.count ≤ 20000

module _ (header : Header) where
  sure-append : (xs ys before : List Line) → NoneIsMisreadBehind header before xs → NoneIsMisreadBehind header (before ++ xs) ys
      → NoneIsMisreadBehind header before (xs ++ ys)
  sure-append [] ys before a b = subst (λ ls. NoneIsMisreadBehind header ls ys) (append-nil before) b
  sure-append (x ∷ xs) ys before a b = (
    a.0,
    sure-append xs ys (before ++ x ∷ []) a.1 (subst (λ ls. NoneIsMisreadBehind header ls ys) (sym (append_assoc before (x ∷ []) xs)) b),
  )

  -- nor does any line of a round
  sure_lines : (ls before : List Line) → AllByRecursion (IsRoundLine header) ls → NoneIsMisreadBehind header before ls
  sure_lines [] before are = tt
  sure_lines (l ∷ ls) before are = (sure_below header l are.0 before, sure_lines ls (before ++ l ∷ []) are.1)

  sure_play : (plays : List Play) (p : Play) → NoneIsMisreadBehind header [] (lines_played header plays)
      → NoneIsMisreadBehind header (lines_played header plays) (lines_of_play header (lines_played header plays) p)
      → NoneIsMisreadBehind header [] (lines_played header (plays ++ p ∷ []))
  sure_play plays p a b =
      subst (NoneIsMisreadBehind header []) (sym (played_more header plays p))
      (sure-append (lines_played header plays) (lines_of_play header (lines_played header plays) p) [] a b)

  sure_rounds : MayBegin header → (n : ℕ) (plays : List Play) → NoneIsMisreadBehind header [] (lines_played header plays)
      → NoneIsMisreadBehind header [] (lines_played header (plays ++ replicate n Round))
  sure_rounds begun zero plays a = subst (λ ps. NoneIsMisreadBehind header [] (lines_played header ps)) (sym (append-nil plays)) a
  sure_rounds begun (suc n) plays a =
      let before : List Line = lines_played header plays in
      let known = round_known header begun (keeps_hosts header) before in
      subst (λ ps. NoneIsMisreadBehind header [] (lines_played header ps)) (sym (round_first plays n))
      (sure_rounds begun n (plays ++ Round ∷ []) (sure_play plays Round a (sure_lines (round_behind header before) before known)))

  sure_line : MayBegin header → (plays : List Play) (l : Line) → NoneIsMisreadBehind header [] (lines_played header plays)
      → misread_below header (lines_played header plays) l ≡ None
      → NoneIsMisreadBehind header [] (lines_played header (plays ++ plays_of_line header plays l))
  sure_line begun plays (saying.Settle n) a q = sure_rounds begun (rounds_to_rest header plays n) plays a
  sure_line begun plays l a q = sure_play plays (Said l) a (q, tt)

-- what holds of each line of a list, and of one more behind them
not_there : (front back : List Line) (said : Line) → [] ≡ front ++ said ∷ back → ⊥
not_there [] back said is = cc is
not_there (x ∷ front) back said is = cc is

each_more : (ls front back : List Line) (l said : Line) (P : List Line → Line → Type 0)
    → ((f b : List Line) (s : Line) → ls ≡ f ++ s ∷ b → P f s) → P ls l → ls ++ l ∷ [] ≡ front ++ said ∷ back → P front said
each_more [] [] back l said P each last is = let same : l ≡ said = cc in subst (P []) same last
each_more [] (x ∷ front) back l said P each last is = absurd (not_there front back said (let rest : [] ≡ front ++ said ∷ back = cc in rest))
each_more (y ∷ ls) [] back l said P each last is = let same : y ≡ said = cc in subst (P []) same (each [] ls y refl)
each_more (y ∷ ls) (x ∷ front) back l said P each last is =
    let same : y ≡ x = cc in
    let rest : ls ++ l ∷ [] ≡ front ++ said ∷ back = cc in
    let later : (f b : List Line) (s : Line) → ls ≡ f ++ s ∷ b → P (y ∷ f) s = λ f b s parts. each (y ∷ f) b s (ap (λ (zs : List Line). y ∷ zs) parts) in
    subst (λ (z : Line). P (z ∷ front) said) same (each_more ls front back l said (λ (f : List Line) (s : Line). P (y ∷ f) s) later last rest)

begun_fits : (o : Option Header) (ls : List Line) (header : Header) → AreFit o ls → IsInGrammar o (read.Header header) → AreFit (Some header) ls
begun_fits None ls header none is =
    let none_said : NoneIsMisreadOf header [] = λ front back said parts. absurd (not_there front back said parts) in
    subst (AreRight header) (sym none) (let x : AreRight header [] = record { begun = is; lines_are = tt; each = none_said; sure = tt } in x)
begun_fits (Some other) ls header fit is = absurd is

went_fits : (o : Option Header) (ls : List Line) (l : Line) → AreFit o ls → IsInGrammar o (read.Line l) → misread_there o ls l ≡ None
    → AreFit o (ls ++ l ∷ [])
went_fits None ls l fit is sure = absurd is
went_fits (Some header) ls l fit is sure =
    record {
      begun = fit.begun;
      lines_are = all_pushed Line (MayFollow header) ls l fit.lines_are is;
      each = λ front back said parts.
          each_more ls front back l said (λ (f : List Line) (s : Line). misread_below header (lines_played_of header f) s ≡ None) fit.each sure parts;
      sure = subst (λ ps. NoneIsMisreadBehind header [] (lines_played header ps)) (sym (plays_more header ls l))
          (sure_line header fit.begun (plays_of header ls) l fit.sure sure);
    }

played_fits : (s : Schedule) (l : Line) (other : Option (List ℕ)) → misread_there s.header s.lines l ≡ other → IsInGrammar s.header (read.Line l)
    → s.count < 20000 → Fits s → Fits (with_played s l other)
played_fits s l None q is more h =
    let few = h.few in
    let long = length-append s.lines (l ∷ []) in
    record {
      fit = went_fits s.header s.lines l h.fit is q;
      few = omega (arith, few, long);
      short = omega (arith, few, long, more);
      most = λ _. omega (arith, more);
    }
played_fits s l (Some other) q is more h = grind arith

said_fits : (s : Schedule) (bytes : List ℕ) (r : Result Read LineFault) → line_of s.header bytes ≡ r → s.count < 20000 → Fits s → Fits (and_said s r)
said_fits s bytes (Err f) is more h = grind arith
said_fits s bytes (Ok read.Skip) is more h = grind arith
said_fits s bytes (Ok (read.Header header)) is more h =
    let few = h.few in
    record {
      fit = begun_fits s.header s.lines header h.fit (line_fits s.header bytes (read.Header header) is);
      few = omega (arith, few);
      short = h.short;
      most = λ _. omega (arith, more);
    }
said_fits s bytes (Ok (read.Line l)) is more h =
    played_fits s l (misread_there s.header s.lines l) refl (line_fits s.header bytes (read.Line l) is) more h
said_fits s bytes (Ok read.NoMemory) is more h = h

below : (count : ℕ) → count ≤ 20000 → (count == 20000) ≡ false → count < 20000
below count few is = grind (arith, common_steps)

line_fits_too : (s : Schedule) (bytes : List ℕ) → Fits s → Fits (and_line s bytes)
line_fits_too s bytes h = go s.stop h
  where
    run : Schedule
    run = record s { stop = None }

    next : (b : Bool) → (s.count == 20000) ≡ b → Fits run
        → Fits (cond b (record s { count = s.count + 1; stop = Some Too_many }) (and_said run (line_of s.header bytes)))
    next true is k = let few = k.few in record { fit = k.fit; few = omega (arith, few); short = k.short; most = λ running. absurd (cc running) }
    next false is k = said_fits run bytes (line_of s.header bytes) refl (below s.count (k.most refl) is) k

    go : (o : Option Stop) → Fits (record s { stop = o }) → Fits (and_line (record s { stop = o }) bytes)
    go (Some why) k = k
    go None k = next (s.count == 20000) refl k

pub lines_fit : (ls : List (List ℕ)) (s : Schedule) → Fits s → Fits (and_lines s ls)
lines_fit [] s h = h
lines_fit (l ∷ ls) s h = lines_fit ls (and_line s l) (line_fits_too s l h)

ended_fits : (s : Schedule) → Fits s → Fits (ended s)
ended_fits s h = grind arith

nothing_fits : Fits nothing_read
nothing_fits = record { fit = refl; few = omega arith; short = omega arith; most = λ _. omega arith }

-- the schedule of lines
pub read_fits : (ls : List (List ℕ)) → Fits (and_lines nothing_read ls)
read_fits ls = lines_fit ls nothing_read nothing_fits

-- the schedule of bytes
pub whole_fits : (bytes : List ℕ) → Fits (schedule_in bytes)
whole_fits bytes = ended_fits (and_lines nothing_read (lines bytes)) (read_fits (lines bytes))

-- ## What its lines come to

module _ (header : Header) where
  in_ranges : header.hci ≡ true → (ls : List Line) → AllByRecursion (IsPlayedLine header) ls → AreNodeLinesOf header ls
  in_ranges nodes [] are = tt
  in_ranges nodes (l ∷ ls) are = (in_range header l are.0.may_follow (not_settling l are.0.settles_not), in_ranges nodes ls are.1)

  in_bare_ranges : header.hci ≡ false → (ls : List Line) → AllByRecursion (IsPlayedLine header) ls → AllByRecursion (IsLineOf header) ls
  in_bare_ranges bare [] are = tt
  in_bare_ranges bare (l ∷ ls) are = (bare_line header l bare are.0.settles_not are.0.may_follow, in_bare_ranges bare ls are.1)

  sure_in : header.hci ≡ true → (ls before : List Line) → NoneIsMisreadBehind header before ls → NoneIsMisread (nodes_behind header before) ls
  sure_in nodes [] before sure = tt
  sure_in nodes (l ∷ ls) before sure = (
    (let none = sure.0 in rw nodes at none),
    subst (λ w. NoneIsMisread w ls) (after-append before (l ∷ []) (new_world header.hosts.items)) (sure_in nodes ls (before ++ l ∷ []) sure.1),
  )

  follows_on : header.hci ≡ false → (ls before : List Line) → NoneIsMisreadBehind header before ls
      → StepsFollow (host_of header) (bare_link_behind header before) ls (link_steps_from (host_of header) (bare_link_behind header before) ls)
  follows_on bare [] before sure = tt
  follows_on bare (l ∷ ls) before sure =
      let h : ℕ = host_of header in
      let at : Link = bare_link_behind header before in
      let P : Link → Type 0 = λ x. StepsFollow h x ls (link_steps_from h x ls) in (
        refl,
        refl,
        (let none = sure.0 in rw bare at none),
        subst P (lines-append h before (l ∷ []) bare_link) (follows_on bare ls (before ++ l ∷ []) sure.1),
      )

  -- a round asks for nothing
  asks_none : (l : Line) → IsRoundLine header l → asking l ≡ 0
  asks_none l is = grind arith

  none_asked : (ls : List Line) → AllByRecursion (IsRoundLine header) ls → lines_asking ls ≡ 0
  none_asked [] are = refl
  none_asked (l ∷ ls) are = let one = asks_none l are.0 in let rest = none_asked ls are.1 in omega (arith, one, rest)

  asked : MayBegin header → (plays : List Play) (before : List Line)
      → lines_asking (fold (λ (ls : List Line) (p : Play). ls ++ lines_of_play header ls p) before plays) ≤ lines_asking before + lines_said plays
  asked begun [] before = omega arith
  asked begun (Said l ∷ plays) before =
      let rest = asked begun plays (before ++ l ∷ []) in
      let sum = asking-append before (l ∷ []) in
      let one = asking_few (l ∷ []) in
      omega (arith, rest, sum, one)
  asked begun (Round ∷ plays) before =
      let lines : List Line = round_behind header before in
      let rest = asked begun plays (before ++ lines) in
      let sum = asking-append before lines in
      let none = none_asked lines (round_known header begun (keeps_hosts header) before) in
      omega (arith, rest, sum, none)

-- ## Its history

-- what the lines come to has the history that is what becomes of each in turn
pub history_played : (s : Schedule) (header : Header) → s.header ≡ Some header → Fits s
    → IsPlayed header (lines_played_of header s.lines) (history_below header (lines_played_of header s.lines))
history_played s header is h = go header.hci refl
  where
    right : AreRight header s.lines
    right = subst (λ o. AreFit o s.lines) is h.fit

    played : List Line
    played = lines_played_of header s.lines

    all : AllByRecursion (IsPlayedLine header) played
    all = lines_may_be_played header right.begun (keeps_hosts header) (plays_of header s.lines) (plays_for header s.lines right.lines_are)

    few : lines_asking played ≤ 20000
    few =
        let most = asked header right.begun (plays_of header s.lines) [] in
        let said = few_said header s.lines in
        let short = h.short in
        omega (arith, most, said, short)

    go : (nodes : Bool) → header.hci ≡ nodes → IsPlayed header played (cond nodes (OfNodes (nodes_history header played)) (OfLink (link_history header played)))
    go true e = (
      nodes_header header e right.begun,
      in_ranges header e played all,
      few,
      record { nodes = e; header_is = refl; steps_are = refl; sure = sure_in header e played [] right.sure },
    )
    go false e = (
      bare_header header e right.begun,
      in_bare_ranges header e played all,
      record { header_is = refl; opening_is = refl; steps_follow = follows_on header e played [] right.sure },
    )

-- its transcript tells what is noted of a legal history
pub text_played : (s : Schedule) (header : Header) (text : List ℕ) → s.header ≡ Some header → Fits s → text ≡ entry_lines (schedule_told header s.lines)
    → IsPlayedText header s.lines text
text_played s header text is h text_is =
    let lines : List Line = lines_played_of header s.lines in
    let t = history_below header lines in
    let played = history_played s header is h in
    record {
      history = t;
      played = played;
      legal = played_legal header lines t played;
      tells = tells_history header s.lines;
      text_is = text_is;
    }

-- no other history is played from these lines
only_steps : (h : ℕ) (l : Link) (ls : List Line) (steps : List Step) → StepsFollow h l ls steps → steps ≡ link_steps_from h l ls
only_steps h l [] [] follows = refl
only_steps h l [] (step ∷ steps) follows = absurd follows
only_steps h l (line ∷ ls) [] follows = absurd follows
only_steps h l (line ∷ ls) (step ∷ steps) follows =
    let o : Outcome = outcome_of h l line in
    let same : step ≡ record { line = line; outcome = o } = grind arith in
    let rest : StepsFollow h (link_after_line l o) ls steps = subst (λ (b : Outcome). StepsFollow h (link_after_line l b) ls steps) follows.1 follows.3 in
    ap₂ (λ (x : Step) (xs : List Step). x ∷ xs) same (only_steps h (link_after_line l o) ls steps rest)

pub only_history : (header : Header) (ls : List Line) (t : PlayedHistory) → IsPlayed header ls t → t ≡ history_below header ls
only_history header ls (OfNodes t) played = grind arith
only_history header ls (OfLink t) played =
    let follows : Follows header ls t = played.2 in
    let steps : t.steps ≡ link_steps_from (host_of header) bare_link ls =
    only_steps (host_of header) bare_link ls t.steps follows.steps_follow in
    let same : t ≡ link_history header ls = grind arith in
    ap OfLink same ∙ ap (λ b. cond b (OfNodes (nodes_history header ls)) (OfLink (link_history header ls))) (sym played.0.bare)
  where
    all_same : (h : Header) (opening : List Entry) (steps : List Step) (g : Header) → h ≡ g → opening ≡ opening_of (host_of g)
        → steps ≡ link_steps_from (host_of g) bare_link ls
        → (let x : History = record { header = h; opening = opening; steps = steps } in x) ≡ link_history g ls
    all_same h opening steps g a b c = cc
