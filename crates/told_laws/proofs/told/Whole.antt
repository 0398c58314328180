-- All that is told of a schedule is in its range: its header, its opening, and its lines, each with what is noted below it.
use Rattle.told_laws.proofs.Words.{All, AllByRecursion, AreFewPlays, Echo, Entry, Follows, Header, History, IsEntry, IsPlayFor, IsRoundLine, Line, Link, List}
use Rattle.told_laws.proofs.Words.{MayBegin, MayFollow, NodeWorld, None, NoneIsMisread, Outcome, Play, Round, Said, StepsFollow, [], after-append, ap}
use Rattle.told_laws.proofs.Words.{append-nil, append_assoc, arith, bare_link, bare_link_behind, each-append, false, flat_map, host_of, hosts_stay_behind, inl}
use Rattle.told_laws.proofs.Words.{inr, length, length-append, lines-append, lines_played, lines_played_of, link_after_line, misread, misread_below, misread_in}
use Rattle.told_laws.proofs.Words.{new_world, nodes_behind, noted, opening_of, opening_told, outcome_of, played_more, plays_for, plays_more, plays_of}
use Rattle.told_laws.proofs.Words.{plays_of_line, refl, replicate, round_behind, round_first, round_known, rounds_to_rest, schedule_told, step_told, subst, suc}
use Rattle.told_laws.proofs.Words.{sure_below, sym, told_behind, told_below, told_of_line, told_of_lines, told_of_rounds, true, zero, ℕ, ◌++◌, ◌∙◌, ◌∷◌, ◌≡◌}
use Rattle.told_laws.proofs.Words.{◌≤◌}
use Rattle.trace_model.specs.declared.line.Line.TheVariants as line
use Rattle.told_laws.proofs.texts.ShownLemmas.{said_in}
use Rattle.history.specs.Histories.{Step}
use Rattle.lines_told.proofs.lines.Told.{at_most, behind-append, few_plays, told_nodes}
use Rattle.told_laws.proofs.told.BarePlays.{back_each, bare_told_in, each_all, front_each, lines_from, played_from}
use Rattle.told_laws.proofs.nodes.Schedules.{told_below_plays}

module _ (header : Header) where
  -- ## Lines of which none is misread

  -- no line damages a frame so that another one is read
  abbrev AreSure : List Line → List Line → Type 0
  AreSure before [] = Unit {0}
  AreSure before (l ∷ lines) = (misread_below header before l ≡ None) × AreSure (before ++ l ∷ []) lines

  sure-append : (xs ys before : List Line) → AreSure before xs → AreSure (before ++ xs) ys → AreSure before (xs ++ ys)
  sure-append [] ys before a b = subst (λ (ls : List Line). AreSure ls ys) (append-nil before) b
  sure-append (x ∷ xs) ys before a b =
      (a.0, sure-append xs ys (before ++ x ∷ []) a.1 (subst (λ (ls : List Line). AreSure ls ys) (sym (append_assoc before (x ∷ []) xs)) b))

  sure_lines : (lines before : List Line) → AllByRecursion (IsRoundLine header) lines → AreSure before lines
  sure_lines [] before are = tt
  sure_lines (l ∷ lines) before are = (sure_below header l are.0 before, sure_lines lines (before ++ l ∷ []) are.1)

  abbrev AreSurePlays : List Play → Type 0
  AreSurePlays plays = AreSure [] (lines_played header plays)

  sure_with : (plays : List Play) (line : Line) → misread_below header (lines_played header plays) line ≡ None → AreSurePlays plays
      → AreSurePlays (plays ++ Said line ∷ [])
  sure_with plays line none sure =
      subst (AreSure []) (sym (played_more header plays (Said line)))
      (sure-append (lines_played header plays) (line ∷ []) [] sure (none, tt))

  module _ (begin : MayBegin header) where
    sure_rounds : (n : ℕ) (plays : List Play) → AreSurePlays plays → AreSurePlays (plays ++ replicate n Round)
    sure_rounds zero plays sure = subst AreSurePlays (sym (append-nil plays)) sure
    sure_rounds (suc n) plays sure =
        let before : List Line = lines_played header plays in
        let one : AreSurePlays (plays ++ Round ∷ []) =
        subst (AreSure []) (sym (played_more header plays Round))
        (sure-append before (round_behind header before) [] sure
        (sure_lines (round_behind header before) before (round_known header begin (hosts_stay_behind header) before))) in
        subst AreSurePlays (sym (round_first plays n)) (sure_rounds n (plays ++ Round ∷ []) one)

    sure_line : (plays : List Play) (said : Line) → misread_below header (lines_played header plays) said ≡ None → AreSurePlays plays
        → AreSurePlays (plays ++ plays_of_line header plays said)
    sure_line plays (line.Settle n) none sure = sure_rounds (rounds_to_rest header plays n) plays sure
    sure_line plays l none sure = sure_with plays l none sure

    -- ## What is told below the lines of plays

    nodes_sure : header.hci ≡ true → (lines before : List Line) → AreSure before lines → NoneIsMisread (nodes_behind header before) lines
    nodes_sure hci [] before sure = tt
    nodes_sure hci (l ∷ lines) before sure =
        let same : misread_below header before l ≡ misread_in (nodes_behind header before) l = rw hci refl in (
          sym same ∙ sure.0,
          subst (λ (v : NodeWorld). NoneIsMisread v lines) (after-append before (l ∷ []) (new_world header.hosts.items))
              (nodes_sure hci lines (before ++ l ∷ []) sure.1),
        )

    -- the steps of lines on a bare link
    abbrev steps_on : Link → List Line → List Step
    steps_on l [] = []
    steps_on l (said ∷ lines) =
        record { line = said; outcome = outcome_of (host_of header) l said } ∷ steps_on (link_after_line l (outcome_of (host_of header) l said)) lines

    bare_follows : header.hci ≡ false → (lines before : List Line) (l : Link) → bare_link_behind header before ≡ l → AreSure before lines
        → StepsFollow (host_of header) l lines (steps_on l lines)
    bare_follows bare [] before l is sure = tt
    bare_follows bare (said ∷ lines) before l is sure =
        let same : misread_below header before said ≡ misread l said = rw bare (ap (λ (m : Link). misread m said) is) in
        let next : bare_link_behind header (before ++ said ∷ []) ≡ link_after_line l (outcome_of (host_of header) l said) =
        (lines-append (host_of header) before (said ∷ []) bare_link) ∙ ap (λ (m : Link). link_after_line m (outcome_of (host_of header) m said)) is in
        (refl, refl, sym same ∙ sure.0, bare_follows bare lines (before ++ said ∷ []) (link_after_line l (outcome_of (host_of header) l said)) next sure.1)

    bare_behind : header.hci ≡ false → (lines before : List Line) (l : Link) → bare_link_behind header before ≡ l
        → AllByRecursion IsEntry (flat_map step_told (steps_on l lines)) → AllByRecursion IsEntry (told_behind header before lines)
    bare_behind bare [] before l is told = tt
    bare_behind bare (said ∷ lines) before l is told =
        let outcome : Outcome = outcome_of (host_of header) l said in
        let here : List Entry = noted outcome in
        let later : List Entry = flat_map step_told (steps_on (link_after_line l outcome) lines) in
        let next : bare_link_behind header (before ++ said ∷ []) ≡ link_after_line l outcome =
        (lines-append (host_of header) before (said ∷ []) bare_link) ∙ ap (λ (m : Link). link_after_line m (outcome_of (host_of header) m said)) is in
        each-append IsEntry (told_below header before said) (told_behind header (before ++ said ∷ []) lines)
        (subst (AllByRecursion IsEntry) (sym (grind arith)) (front_each IsEntry here later told.1))
        (bare_behind bare lines (before ++ said ∷ []) (link_after_line l outcome) next (back_each IsEntry here later told.1))

    told_plays : (plays : List Play) → AllByRecursion (IsPlayFor header) plays → AreFewPlays plays → AreSurePlays plays
        → AllByRecursion IsEntry (told_behind header [] (lines_played header plays))
    told_plays plays may few sure = go begin
      where
        lines : List Line
        lines = lines_played header plays

        go : MayBegin header → AllByRecursion IsEntry (told_behind header [] lines)
        go (inr nodes) =
            subst (AllByRecursion IsEntry) (sym (told_nodes header nodes.nodes lines []))
            (told_below_plays header nodes plays may few (nodes_sure nodes.nodes lines [] sure))
        go (inl is) =
            let t : History = record { header = header; opening = opening_of (host_of header); steps = steps_on bare_link lines } in
            let follows : Follows header lines t =
            record { header_is = refl; opening_is = refl; steps_follow = bare_follows is.bare lines [] bare_link refl sure } in
            bare_behind is.bare lines [] bare_link refl
            (back_each IsEntry (opening_of (host_of header)) (flat_map step_told (steps_on bare_link lines)) (bare_told_in header is plays t may few follows).1)

    -- what is told of plays behind others
    told_later : (before plays : List Play) → AllByRecursion (IsPlayFor header) (before ++ plays) → AreFewPlays (before ++ plays)
        → AreSurePlays (before ++ plays) → AllByRecursion IsEntry (told_behind header (lines_played header before) (lines_from header before plays))
    told_later before plays may few sure =
        let lines : List Line = lines_played header before in
        let parts : told_behind header [] (lines_played header (before ++ plays))
        ≡ told_behind header [] lines ++ told_behind header lines (lines_from header before plays) =
        ap (told_behind header []) (played_from header plays before) ∙ behind-append header lines (lines_from header before plays) [] in
        back_each IsEntry (told_behind header [] lines) _ (subst (AllByRecursion IsEntry) parts (told_plays (before ++ plays) may few sure))

    -- ## Lines of a schedule

    rounds_told : (n : ℕ) (before : List Play)
        → told_of_rounds header before n ≡ told_behind header (lines_played header before) (lines_from header before (replicate n Round))
    rounds_told zero before = refl
    rounds_told (suc n) before =
        let lines : List Line = lines_played header before in
        let round : List Line = round_behind header lines in
        let rest : List Line = lines_from header (before ++ Round ∷ []) (replicate n Round) in
        ap (λ (t : List Entry). told_behind header lines round ++ t)
        (rounds_told n (before ++ Round ∷ []) ∙ ap (λ (ls : List Line). told_behind header ls rest) (played_more header before Round))
        ∙ sym (behind-append header round rest lines)

    line_told : (before : List Play) (said : Line) → MayFollow header said
        → AllByRecursion IsEntry (told_behind header (lines_played header before) (lines_from header before (plays_of_line header before said)))
        → AllByRecursion IsEntry (told_of_line header before said)
    line_told before (line.Settle n) may told =
        let few = at_most header before n in
        each-append IsEntry (told_of_rounds header before (rounds_to_rest header before n)) _
        (subst (AllByRecursion IsEntry) (sym (rounds_told (rounds_to_rest header before n) before)) told) (omega (arith, few, may.1), tt)
    line_told before l may told = (front_each IsEntry (told_below header (lines_played header before) l) [] told)

    abbrev NoneIsMisreadOf : List Line → Type 0
    NoneIsMisreadOf lines =
        (front back : List Line) (said : Line) → lines ≡ front ++ said ∷ back → misread_below header (lines_played_of header front) said ≡ None

    lines_told : (lines front whole : List Line) → whole ≡ front ++ lines → AllByRecursion (MayFollow header) whole → length whole ≤ 20000
        → NoneIsMisreadOf whole → AreSurePlays (plays_of header front) → AllByRecursion IsEntry (told_of_lines header (plays_of header front) lines)
    lines_told [] front whole is may few none sure = tt
    lines_told (said ∷ lines) front whole is may few none sure =
        let before : List Play = plays_of header front in
        let now : List Line = front ++ said ∷ [] in
        let parts : whole ≡ now ++ lines = is ∙ sym (append_assoc front (said ∷ []) lines) in
        let may_now : AllByRecursion (MayFollow header) now =
        front_each (MayFollow header) now lines (subst (AllByRecursion (MayFollow header)) parts may) in
        let may_said : MayFollow header said = (back_each (MayFollow header) front (said ∷ []) may_now).0 in
        let next : plays_of header now ≡ before ++ plays_of_line header before said = plays_more header front said in
        let sure_now : AreSurePlays (before ++ plays_of_line header before said) = sure_line before said (none front lines said is) sure in
        let told : AllByRecursion IsEntry (told_of_line header before said) =
        line_told before said may_said
        (told_later before (plays_of_line header before said) (subst (AllByRecursion (IsPlayFor header)) next (plays_for header now may_now))
        (subst AreFewPlays next (few_plays header now may_now (omega (arith, ap length parts, length-append now lines, few)))) sure_now) in
        let rest : AllByRecursion IsEntry (told_of_lines header (plays_of header now) lines) =
        lines_told lines now whole parts may few none (subst AreSurePlays (sym next) sure_now) in
        each-append IsEntry (Echo said ∷ told_of_line header before said) (told_of_lines header (before ++ plays_of_line header before said) lines)
        (said_in header begin said may_said, told) (subst (λ (ps : List Play). AllByRecursion IsEntry (told_of_lines header ps lines)) next rest)

    pub schedule_told_in : (lines : List Line) → AllByRecursion (MayFollow header) lines → length lines ≤ 20000 → NoneIsMisreadOf lines
        → All IsEntry (schedule_told header lines)
    schedule_told_in lines may few none =
        each_all IsEntry (schedule_told header lines) (
          begin,
          each-append IsEntry (opening_told header) (told_of_lines header [] lines) (grind arith) (lines_told lines [] lines refl may few none tt),
        )
