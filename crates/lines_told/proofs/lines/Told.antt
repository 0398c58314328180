-- The lines of rounds and of plays do what the rounds do and tell of it, none of them is misread, and links come to rest.
use Rattle.std.proofs.lemmas.List.Sums.{fold-append}
use Rattle.std.specs.List.{flat_map}
use Rattle.std.specs.Prelude.{if◌then◌else◌, replicate}
use Rattle.lines_told.proofs.Words.{AllByRecursion, AreFewPlays, Bool, Cause, Contains, Controller, End, Entry, Header, Host, IsEndOf, IsFirstRest, IsLineOf}
use Rattle.lines_told.proofs.Words.{IsPlayFor, IsPlayedLine, Line, LineOutcome, Link, List, MayBegin, MayFollow, NodeWorld, None, NoneIsMisread, Occurrence}
use Rattle.lines_told.proofs.Words.{Play, Round, Said, Site, [], after_steps, all_happen, ap, append-nil, append_assoc, arith, bare_link, bare_link_behind}
use Rattle.lines_told.proofs.Words.{causes_in, causes_of, end_c, end_h, end_of, end_takes_all, ends_in_order, ends_take_all, entries_below, entries_in}
use Rattle.lines_told.proofs.Words.{events_at, false, flat_map as flat_map_of_words, flat_map-append, fold, frames_at, frames_to, goes_on, host_of, inl, inr}
use Rattle.lines_told.proofs.Words.{is_clear, is_running, is_settling, length, line_step, lines_of_play, lines_played, lines_played_of, lines_said, link_after}
use Rattle.lines_told.proofs.Words.{link_after_all, link_after_line, link_after_lines, link_rests, map, misread, misread_below, misread_in, new_world, node_of}
use Rattle.lines_told.proofs.Words.{nodes_behind, not, noted_below, noted_lines, outcome_of, plays_of, plays_of_line, refl, refusal, refusal_in, rests_behind}
use Rattle.lines_told.proofs.Words.{round_behind, round_in, round_on, rounds_of_world, rounds_played, rounds_to_rest, slice_index, steps_to_rest, subst, suc}
use Rattle.lines_told.proofs.Words.{sym, taking_in, taking_on, told_behind, told_below, told_of_line, told_of_rounds, true, world_after, world_after_round}
use Rattle.lines_told.proofs.Words.{world_rests, world_round, world_rounds_to_settle, world_settling, zero, ℕ, ◌&&◌, ◌*◌, ◌++◌, ◌+◌, ◌<◌, ◌∙◌, ◌∷◌, ◌≡◌, ◌≤◌}
use Rattle.history.specs.Histories.Cause.{Ticked}
use Rattle.history.specs.Histories.Outcome.{Caused}
use Rattle.link_laws.specs.sessions.Sessions.{OnWire}
use Rattle.node_machine.specs.world.World.Happening.{Takes, Ticks}
use Rattle.trace_model.specs.declared.entry.Entry.TheVariants.{Settled}
use Rattle.lines_told.specs.lines.RoundLines.{HostsStay, IsRoundLine}
use Rattle.lines_told.proofs.messages.Law.{first_rest}
use Rattle.trace_model.specs.declared.line.Line.TheVariants as saying

-- ## Plays one after another: the lines that they come to, how many they are, and those of a schedule

-- ### One play more

pub played_more : (header : Header) (plays : List Play) (p : Play)
    → lines_played header (plays ++ p ∷ []) ≡ lines_played header plays ++ lines_of_play header (lines_played header plays) p
played_more header plays p = fold-append (λ (before : List Line) (play : Play). before ++ lines_of_play header before play) [] plays (p ∷ [])

pub plays_more : (header : Header) (lines : List Line) (line : Line)
    → plays_of header (lines ++ line ∷ []) ≡ plays_of header lines ++ plays_of_line header (plays_of header lines) line
plays_more header lines line = fold-append (λ (before : List Play) (l : Line). before ++ plays_of_line header before l) [] lines (line ∷ [])

-- a round more comes first, or last
pub round_first : (plays : List Play) (n : ℕ) → plays ++ replicate (suc n) Round ≡ (plays ++ Round ∷ []) ++ replicate n Round
round_first plays n = sym (append_assoc plays (Round ∷ []) (replicate n Round))

pub round_last : (plays : List Play) (n : ℕ) → plays ++ replicate (suc n) Round ≡ (plays ++ replicate n Round) ++ Round ∷ []
round_last plays zero = ap (λ (ps : List Play). ps ++ Round ∷ []) (sym (append-nil plays))
round_last plays (suc n) = let h0 = round_first plays (suc n) in let h1 = round_last (plays ++ Round ∷ []) n in let h2 = round_first plays n in grind arith

-- ### How many they are

pub said-append : (xs ys : List Play) → lines_said (xs ++ ys) ≡ lines_said xs + lines_said ys
said-append [] ys = omega arith
said-append (Said line ∷ xs) ys = let rest = said-append xs ys in omega (arith, rest)
said-append (Round ∷ xs) ys = said-append xs ys

pub played-append : (xs ys : List Play) → rounds_played (xs ++ ys) ≡ rounds_played xs + rounds_played ys
played-append [] ys = omega arith
played-append (Said line ∷ xs) ys = played-append xs ys
played-append (Round ∷ xs) ys = let rest = played-append xs ys in omega (arith, rest)

pub none_said : (n : ℕ) → lines_said (replicate n Round) ≡ 0
none_said zero = refl
none_said (suc n) = none_said n

pub so_many_rounds : (n : ℕ) → rounds_played (replicate n Round) ≡ n
so_many_rounds zero = refl
so_many_rounds (suc n) = let rest = so_many_rounds n in omega (arith, rest)

pub one_said : (plays : List Play) (line : Line) → lines_said (plays ++ Said line ∷ []) ≡ suc (lines_said plays)
one_said plays line = let sum = said-append plays (Said line ∷ []) in omega (arith, sum)

pub no_more_rounds : (plays : List Play) (line : Line) → rounds_played (plays ++ Said line ∷ []) ≡ rounds_played plays
no_more_rounds plays line = let sum = played-append plays (Said line ∷ []) in omega (arith, sum)

pub no_more_said : (plays : List Play) → lines_said (plays ++ Round ∷ []) ≡ lines_said plays
no_more_said plays = let sum = said-append plays (Round ∷ []) in omega (arith, sum)

pub one_round : (plays : List Play) → rounds_played (plays ++ Round ∷ []) ≡ suc (rounds_played plays)
one_round plays = let sum = played-append plays (Round ∷ []) in omega (arith, sum)

pub few_with_said : (plays : List Play) (line : Line) → AreFewPlays plays → lines_said plays < 20000 → AreFewPlays (plays ++ Said line ∷ [])
few_with_said plays line few room =
    let said = one_said plays line in
    let rounds = no_more_rounds plays line in
    record { said = omega (arith, said, room); rounds = omega (arith, rounds, few.rounds) }

pub few_with_round : (plays : List Play) → AreFewPlays plays → rounds_played plays < 400000000 → AreFewPlays (plays ++ Round ∷ [])
few_with_round plays few room =
    let said = no_more_said plays in
    let rounds = one_round plays in
    record { said = omega (arith, said, few.said); rounds = omega (arith, rounds, room) }

-- ### Which they may be

pub all-append : {X : Type 0} (P : X → Type 0) (xs ys : List X) → AllByRecursion P xs → AllByRecursion P ys → AllByRecursion P (xs ++ ys)
all-append P [] ys a b = b
all-append P (x ∷ xs) ys a b = (a.0, all-append P xs ys a.1 b)

module _ (header : Header) where
  pub for_with : (plays : List Play) (p : Play) → AllByRecursion (IsPlayFor header) plays → IsPlayFor header p
      → AllByRecursion (IsPlayFor header) (plays ++ p ∷ [])
  for_with plays p a b = all-append (IsPlayFor header) plays (p ∷ []) a (b, tt)

  pub rounds_for : (n : ℕ) → AllByRecursion (IsPlayFor header) (replicate n Round)
  rounds_for zero = tt
  rounds_for (suc n) = (tt, rounds_for n)

  -- ### Those of a schedule

  line_for : (before : List Play) (line : Line) → MayFollow header line → AllByRecursion (IsPlayFor header) (plays_of_line header before line)
  line_for before (saying.Settle n) may = rounds_for (rounds_to_rest header before n)
  line_for before line may = (record { may_follow = may; settles_not = refl }, tt)

  lines_for : (lines : List Line) (before : List Play) → AllByRecursion (MayFollow header) lines → AllByRecursion (IsPlayFor header) before
      → AllByRecursion (IsPlayFor header) (fold (λ (ps : List Play) (line : Line). ps ++ plays_of_line header ps line) before lines)
  lines_for [] before may so = so
  lines_for (line ∷ lines) before may so =
      lines_for lines (before ++ plays_of_line header before line) may.1
      (all-append (IsPlayFor header) before (plays_of_line header before line) so (line_for before line may.0))

  pub plays_for : (lines : List Line) → AllByRecursion (MayFollow header) lines → AllByRecursion (IsPlayFor header) (plays_of header lines)
  plays_for lines may = lines_for lines [] may tt

  line_few : (before : List Play) (line : Line) → lines_said (plays_of_line header before line) ≤ 1
  line_few before (saying.Settle n) = let none = none_said (rounds_to_rest header before n) in omega (arith, none)
  line_few before line = omega arith

  lines_few : (lines : List Line) (before : List Play)
      → lines_said (fold (λ (ps : List Play) (line : Line). ps ++ plays_of_line header ps line) before lines) ≤ lines_said before + length lines
  lines_few [] before = omega arith
  lines_few (line ∷ lines) before =
      let more : List Play = plays_of_line header before line in
      omega (arith, lines_few lines (before ++ more), said-append before more, line_few before line)

  pub few_said : (lines : List Line) → lines_said (plays_of header lines) ≤ length lines
  few_said lines = let all = lines_few lines [] in omega (arith, all)

  -- ### A schedule in which no line lets the links settle

  lines_stay : (lines said : List Line) (before : List Play) → AllByRecursion (λ (line : Line). is_settling line ≡ false) lines
      → lines_played header before ≡ said
      → lines_played header (fold (λ (ps : List Play) (line : Line). ps ++ plays_of_line header ps line) before lines) ≡ said ++ lines
  lines_stay [] said before stays is = is ∙ sym (append-nil said)
  lines_stay (line ∷ lines) said before stays is =
      let now : lines_played header (before ++ plays_of_line header before line) ≡ said ++ line ∷ [] =
      ap (λ (ps : List Play). lines_played header (before ++ ps)) (grind arith)
      ∙ (played_more header before (Said line) ∙ ap (λ (ls : List Line). ls ++ line ∷ []) is) in
      lines_stay lines (said ++ line ∷ []) (before ++ plays_of_line header before line) stays.1 now ∙ append_assoc said (line ∷ []) lines

  pub played_alone : (lines : List Line) → AllByRecursion (λ (line : Line). is_settling line ≡ false) lines → lines_played_of header lines ≡ lines
  played_alone lines stays = lines_stay lines [] [] stays refl

-- ## The lines of a round of a bare link do what the round does

-- ### Lines and causes one after another

pub lines-append : (h : ℕ) (xs ys : List Line) (l : Link) → link_after_lines h l (xs ++ ys) ≡ link_after_lines h (link_after_lines h l xs) ys
lines-append h [] ys l = refl
lines-append h (x ∷ xs) ys l = lines-append h xs ys (link_after_line l (outcome_of h l x))

pub link-append : (l : Link) (cs ds : List Cause) → link_after_all l (cs ++ ds) ≡ link_after_all (link_after_all l cs) ds
link-append l [] ds = refl
link-append l (c ∷ cs) ds = link-append (link_after l c) cs ds

pub again : (h : ℕ) (l : Link) (cs : List Cause) → causes_of (events_at h l cs) ≡ cs
again h l [] = refl
again h l (c ∷ cs) = ap (λ (ds : List Cause). c ∷ ds) (again h (link_after l c) cs)

-- ### A round

module _ (h : ℕ) where
  -- the lines of a taking, where these frames stand
  abbrev taken_if : End → List OnWire → List Line
  taken_if e frames = if is_clear frames then [] else saying.Deliver e None ∷ []

  pub takes_on : (l : Link) (e : End) → link_after_lines h l (taking_on l e) ≡ link_after_all l (causes_in l (saying.Deliver e None))
  takes_on l e = go (frames_to l e) refl
    where
      go : (frames : List OnWire) → frames_to l e ≡ frames → link_after_lines h l (taking_on l e) ≡ link_after_all l (causes_in l (saying.Deliver e None))
      go [] q = grind arith
      go (x ∷ xs) q =
          let line : Line = saying.Deliver e None in
          let none : refusal l line ≡ None = rw q refl in
          let caused : outcome_of h l line ≡ Caused (events_at h l (causes_in l line)) = rw none refl in
          ap (λ (ys : List OnWire). link_after_lines h l (taken_if e ys)) q
          ∙ (ap (link_after_line l) caused ∙ ap (link_after_all l) (again h l (causes_in l line)))

  -- the causes of such a round
  abbrev pub causes_on : Link → List End → List Cause
  causes_on l [] = Ticked ∷ []
  causes_on l (e ∷ ends) = causes_in l (saying.Deliver e None) ++ causes_on (link_after_all l (causes_in l (saying.Deliver e None))) ends

  pub round_causes : (ends : List End) (l : Link) → link_after_lines h l (round_on h l ends) ≡ link_after_all l (causes_on l ends)
  round_causes [] l = refl
  round_causes (e ∷ ends) l =
      let m : Link = link_after_lines h l (taking_on l e) in
      let now : List Cause = causes_in l (saying.Deliver e None) in
      lines-append h (taking_on l e) (round_on h m ends) l
      ∙ (round_causes ends m
      ∙ (ap (λ (k : Link). link_after_all k (causes_on k ends)) (takes_on l e)
      ∙ sym (link-append l now (causes_on (link_after_all l now) ends))))

-- ### Behind lines

-- the link of a bare world after the lines of a round
abbrev pub bare_round : Header → Link → Link
bare_round header l =
    link_after_lines (host_of header) l (round_on (host_of header) l (end_of (host_of header) Controller ∷ end_of (host_of header) Host ∷ []))

module _ (header : Header) (bare : header.hci ≡ false) where
  pub bare_round_lines : (before : List Line) → round_behind header before
      ≡ round_on (host_of header) (bare_link_behind header before) (end_of (host_of header) Controller ∷ end_of (host_of header) Host ∷ [])
  bare_round_lines before = rw bare refl

  pub bare_round_goes : (before : List Line)
      → bare_link_behind header (before ++ round_behind header before) ≡ bare_round header (bare_link_behind header before)
  bare_round_goes before =
      lines-append (host_of header) before (round_behind header before) bare_link
      ∙ ap (link_after_lines (host_of header) (bare_link_behind header before)) (bare_round_lines before)

  bare_played_round : (plays : List Play)
      → bare_link_behind header (lines_played header (plays ++ Round ∷ [])) ≡ bare_round header (bare_link_behind header (lines_played header plays))
  bare_played_round plays = ap (bare_link_behind header) (played_more header plays Round) ∙ bare_round_goes (lines_played header plays)

  pub bare_played_rounds : (n : ℕ) (plays : List Play)
      → bare_link_behind header (lines_played header (plays ++ replicate n Round))
      ≡ after_steps (bare_round header) n (bare_link_behind header (lines_played header plays))
  bare_played_rounds zero plays = ap (λ (ps : List Play). bare_link_behind header (lines_played header ps)) (append-nil plays)
  bare_played_rounds (suc n) plays =
      let h0 = round_first plays n in let h1 = bare_played_rounds n (plays ++ Round ∷ []) in let h2 = bare_played_round plays in grind arith

-- ## The lines of a round in a world of nodes do what the round does, and tell of it; and none of them is misread

-- ### Lines one after another

-- what is noted below these lines, one after another
abbrev pub told_in : NodeWorld → List Line → List Entry
told_in w lines = flat_map_of_words entries_below (noted_lines w lines)

pub after-append : (xs ys : List Line) (w : NodeWorld) → world_after w (xs ++ ys) ≡ world_after (world_after w xs) ys
after-append [] ys w = refl
after-append (x ∷ xs) ys w = after-append xs ys (line_step w x).0

pub told-append : (xs ys : List Line) (w : NodeWorld) → told_in w (xs ++ ys) ≡ told_in w xs ++ told_in (world_after w xs) ys
told-append [] ys w = refl
told-append (x ∷ xs) ys w =
    let now : List Entry = entries_below (noted_below (line_step w x).1) in
    let v : NodeWorld = (line_step w x).0 in
    ap (λ (es : List Entry). now ++ es) (told-append xs ys v) ∙ sym (append_assoc now (told_in v xs) (told_in (world_after v xs) ys))

pub sure-append : (xs ys : List Line) (w : NodeWorld) → NoneIsMisread w xs → NoneIsMisread (world_after w xs) ys → NoneIsMisread w (xs ++ ys)
sure-append [] ys w a b = b
sure-append (x ∷ xs) ys w a b = (a.0, sure-append xs ys (line_step w x).0 a.1 b)

-- ### An end takes all that stands on its wire

pub record TakesSo (w : NodeWorld) (e : End) : Type 0 where
  pub world : world_after w (taking_in w e) ≡ (end_takes_all w e).0
  pub told : told_in w (taking_in w e) ≡ entries_in (end_takes_all w e).1

pub none_taken : (k : ℕ) (w : NodeWorld) (e : End) → is_running w (node_of e) ≡ false → all_happen w (replicate k (Takes e)) ≡ (w, [])
none_taken k w e q = grind arith

nothing : (w : NodeWorld) (e : End) → taking_in w e ≡ [] → end_takes_all w e ≡ (w, []) → TakesSo w e
nothing w e line taken = grind arith

-- the lines of a taking, where its node runs or not and these frames stand
abbrev taken_if_of_node_rounds : End → Bool → List OnWire → List Line
taken_if_of_node_rounds e runs frames = if runs && not (is_clear frames) then saying.Deliver e None ∷ [] else []

pub takes_so : (w : NodeWorld) (e : End) → TakesSo w e
takes_so w e = go (is_running w (node_of e)) (frames_at w e) refl refl
  where
    go : (runs : Bool) (frames : List OnWire) → is_running w (node_of e) ≡ runs → frames_at w e ≡ frames → TakesSo w e
    go false frames p q = grind arith
    go true [] p q = grind arith
    go true (x ∷ xs) p q =
        let line : Line = saying.Deliver e None in
        let some : taking_in w e ≡ line ∷ [] = ap (λ (b : Bool). taken_if_of_node_rounds e b (frames_at w e)) p ∙ ap (taken_if_of_node_rounds e true) q in
        let none : refusal_in w line ≡ None = rw (p, q) refl in
        let step : line_step w line ≡ goes_on w line = rw none refl in
        record {
          world = ap (world_after w) some ∙ ap (λ (o : NodeWorld × LineOutcome). o.0) step;
          told = ap (told_in w) some
              ∙ (append-nil (entries_below (noted_below (line_step w line).1)) ∙ ap (λ (o : NodeWorld × LineOutcome). entries_below (noted_below o.1)) step);
        }

-- ### A round

-- what the ends do and then the tick, and what is noted of both
abbrev round_of : NodeWorld → List End → NodeWorld
round_of w ends = (all_happen (ends_take_all w ends).0 (Ticks ∷ [])).0

abbrev told_of : NodeWorld → List End → List Entry
told_of w ends = entries_in (ends_take_all w ends).1 ++ entries_in (all_happen (ends_take_all w ends).0 (Ticks ∷ [])).1

round_goes : (ends : List End) (w : NodeWorld) → world_after w (round_in w ends) ≡ round_of w ends
round_goes [] w = refl
round_goes (e ∷ ends) w =
    let v : NodeWorld = world_after w (taking_in w e) in
    after-append (taking_in w e) (round_in v ends) w
    ∙ (round_goes ends v ∙ ap (λ (u : NodeWorld). round_of u ends) (takes_so w e).world)

round_tells : (ends : List End) (w : NodeWorld) → told_in w (round_in w ends) ≡ told_of w ends
round_tells [] w = append-nil (entries_in (all_happen w (Ticks ∷ [])).1)
round_tells (e ∷ ends) w =
    let v : NodeWorld = world_after w (taking_in w e) in
    let now : List Entry = entries_in (end_takes_all w e).1 in
    let taken : NodeWorld × List Occurrence = ends_take_all ((end_takes_all w e).0) ends in
    let last : List Entry = entries_in (all_happen taken.0 (Ticks ∷ [])).1 in
    told-append (taking_in w e) (round_in v ends) w
    ∙ (ap (λ (es : List Entry). es ++ told_in v (round_in v ends)) (takes_so w e).told
    ∙ (ap (λ (es : List Entry). now ++ es) (round_tells ends v ∙ ap (λ (x : NodeWorld). told_of x ends) (takes_so w e).world)
    ∙ (sym (append_assoc now (entries_in taken.1) last)
    ∙ ap (λ (es : List Entry). es ++ last)
    (sym (flat_map-append (λ (o : Occurrence). o.entries) (end_takes_all w e).1 taken.1)))))

-- the lines of a round do what it does, and what is noted below them is what is noted of it
pub round_is : (w : NodeWorld) → world_after w (round_in w (ends_in_order w)) ≡ world_after_round w
round_is w = round_goes (ends_in_order w) w

pub round_told : (w : NodeWorld) → told_in w (round_in w (ends_in_order w)) ≡ entries_in (world_round w).1
round_told w =
    let taken : NodeWorld × List Occurrence = ends_take_all w (ends_in_order w) in
    round_tells (ends_in_order w) w
    ∙ sym (flat_map-append (λ (o : Occurrence). o.entries) taken.1 (all_happen taken.0 (Ticks ∷ [])).1)

-- ### None is misread

pub sure_round : (ends : List End) (w : NodeWorld) → NoneIsMisread w (round_in w ends)
sure_round [] w = (refl, tt)
sure_round (e ∷ ends) w =
    let v : NodeWorld = world_after w (taking_in w e) in
    sure-append (taking_in w e) (round_in v ends) w (grind arith) (sure_round ends v)

-- ### Behind lines

module _ (header : Header) (nodes : header.hci ≡ true) where
  pub round_lines : (before : List Line) → round_behind header before ≡ round_in (nodes_behind header before) (ends_in_order (nodes_behind header before))
  round_lines before = rw nodes refl

  pub round_behind_goes : (before : List Line) → nodes_behind header (before ++ round_behind header before) ≡ world_after_round (nodes_behind header before)
  round_behind_goes before =
      after-append before (round_behind header before) (new_world header.hosts.items)
      ∙ (ap (world_after (nodes_behind header before)) (round_lines before) ∙ round_is (nodes_behind header before))

  pub played_round : (plays : List Play)
      → nodes_behind header (lines_played header (plays ++ Round ∷ [])) ≡ world_after_round (nodes_behind header (lines_played header plays))
  played_round plays = ap (nodes_behind header) (played_more header plays Round) ∙ round_behind_goes (lines_played header plays)

  pub played_said : (plays : List Play) (line : Line)
      → nodes_behind header (lines_played header (plays ++ Said line ∷ [])) ≡ (line_step (nodes_behind header (lines_played header plays)) line).0
  played_said plays line =
      ap (nodes_behind header) (played_more header plays (Said line))
      ∙ after-append (lines_played header plays) (line ∷ []) (new_world header.hosts.items)

  pub played_rounds : (n : ℕ) (plays : List Play)
      → nodes_behind header (lines_played header (plays ++ replicate n Round)) ≡ (rounds_of_world n (nodes_behind header (lines_played header plays))).0
  played_rounds zero plays = ap (λ (ps : List Play). nodes_behind header (lines_played header ps)) (append-nil plays)
  played_rounds (suc n) plays = let h0 = round_first plays n in let h1 = played_rounds n (plays ++ Round ∷ []) in let h2 = played_round plays in grind arith

  -- none is misread over a round, nor below a line that isn't
  pub sure_with_round : (plays : List Play) → NoneIsMisread (new_world header.hosts.items) (lines_played header plays)
      → NoneIsMisread (new_world header.hosts.items) (lines_played header (plays ++ Round ∷ []))
  sure_with_round plays sure =
      let before : List Line = lines_played header plays in
      let w : NodeWorld = nodes_behind header before in
      subst (NoneIsMisread (new_world header.hosts.items)) (sym (played_more header plays Round))
      (sure-append before (round_behind header before) (new_world header.hosts.items) sure
      (subst (NoneIsMisread w) (sym (round_lines before)) (sure_round (ends_in_order w) w)))

  pub sure_with_said : (plays : List Play) (line : Line) → NoneIsMisread (new_world header.hosts.items) (lines_played header plays)
      → misread_in (nodes_behind header (lines_played header plays)) line ≡ None
      → NoneIsMisread (new_world header.hosts.items) (lines_played header (plays ++ Said line ∷ []))
  sure_with_said plays line sure none =
      subst (NoneIsMisread (new_world header.hosts.items)) (sym (played_more header plays (Said line)))
      (sure-append (lines_played header plays) (line ∷ []) (new_world header.hosts.items) sure (none, tt))

-- ## The lines of a round may be played, and none of them is misread; so it is with the lines that plays come to

-- ### What may be played in a bare world

module _ (header : Header) (bare : header.hci ≡ false) where
  pub bare_line : (line : Line) → IsPlayedLine header line → IsLineOf header line
  bare_line line may = grind arith

  pub bare_lines : (lines : List Line) → AllByRecursion (IsPlayedLine header) lines → AllByRecursion (IsLineOf header) lines
  bare_lines [] may = tt
  bare_lines (line ∷ lines) may = (bare_line line may.0, bare_lines lines may.1)

-- ### What a line of a round is

module _ (header : Header) where
  pub may_play : (line : Line) → IsRoundLine header line → IsPlayedLine header line
  may_play line is = grind arith

  pub sure_on : (line : Line) → IsRoundLine header line → (l : Link) → misread l line ≡ None
  sure_on line is l = grind arith

  pub sure_below : (line : Line) → IsRoundLine header line → (before : List Line) → misread_below header before line ≡ None
  sure_below line is before = grind arith

  -- ### The lines of a round are such lines

  lines_in : (ends : List End) (w : NodeWorld) → AllByRecursion (IsEndOf header) ends → AllByRecursion (IsRoundLine header) (round_in w ends)
  lines_in [] w known = (tt, tt)
  lines_in (e ∷ ends) w known =
      let v : NodeWorld = world_after w (taking_in w e) in
      all-append (IsRoundLine header) (taking_in w e) (round_in v ends)
      (grind arith) (lines_in ends v known.1)

  lines_on : (h : ℕ) (ends : List End) (l : Link) → AllByRecursion (IsEndOf header) ends → AllByRecursion (IsRoundLine header) (round_on h l ends)
  lines_on h [] l known = (tt, tt)
  lines_on h (e ∷ ends) l known =
      let m : Link = link_after_lines h l (taking_on l e) in
      all-append (IsRoundLine header) (taking_on l e) (round_on h m ends)
      (grind arith) (lines_on h ends m known.1)

-- ### The ends of a world

-- a list has its own numbers
one_more : (hosts : List ℕ) (h x : ℕ) → Contains hosts x → Contains (h ∷ hosts) x
one_more hosts h x c = let less = c.1 in (suc c.0, omega (arith, less), c.2)

all_more : (hosts : List ℕ) (h : ℕ) (xs : List ℕ) → AllByRecursion (Contains hosts) xs → AllByRecursion (Contains (h ∷ hosts)) xs
all_more hosts h [] a = tt
all_more hosts h (x ∷ xs) a = (one_more hosts h x a.0, all_more hosts h xs a.1)

has_own : (hosts : List ℕ) → AllByRecursion (Contains hosts) hosts
has_own [] = tt
has_own (h ∷ hosts) = ((0, omega arith, refl), all_more hosts h hosts (has_own hosts))

ends_known : (P : ℕ → Type 0) (sites : List Site) → AllByRecursion P (map (λ (s : Site). s.host) sites)
    → AllByRecursion (λ (e : End). P e.link) (flat_map (λ (s : Site). end_c s.host ∷ end_h s.host ∷ []) sites)
ends_known P [] a = tt
ends_known P (s ∷ sites) a = (a.0, (a.0, ends_known P sites a.1))

module _ (header : Header) where
  -- the lines of a round behind any lines
  nodes_known : header.hci ≡ true → HostsStay header → (before : List Line) → AllByRecursion (IsRoundLine header) (round_behind header before)
  nodes_known nodes stay before =
      let w : NodeWorld = nodes_behind header before in
      let hosts : List ℕ = header.hosts.items in
      subst (AllByRecursion (IsRoundLine header)) (sym (round_lines header nodes before))
      (lines_in header (ends_in_order w) w
      (ends_known (Contains hosts) w.sites (subst (AllByRecursion (Contains hosts)) (sym (stay before)) (has_own hosts))))

  pub bare_known : header.hci ≡ false → length header.hosts.items ≡ 1 → (before : List Line) → AllByRecursion (IsRoundLine header) (round_behind header before)
  bare_known bare one before =
      let h : ℕ = host_of header in
      let own : Contains header.hosts.items h = first header.hosts.items (omega (arith, one)) in
      subst (AllByRecursion (IsRoundLine header)) (sym (bare_round_lines header bare before))
      (lines_on header h (end_of h Controller ∷ end_of h Host ∷ []) (bare_link_behind header before) (own, (own, tt)))
    where
      first : (hosts : List ℕ) → 0 < length hosts → Contains hosts (slice_index hosts 0)
      first [] some = absurd (omega (arith, some))
      first (h ∷ hosts) some = (0, omega arith, refl)

  pub round_known : MayBegin header → HostsStay header → (before : List Line) → AllByRecursion (IsRoundLine header) (round_behind header before)
  round_known (inl bare) stay before = bare_known bare.bare bare.one before
  round_known (inr nodes) stay before = nodes_known nodes.nodes stay before

  -- ### The lines that plays come to

  all_play : (lines : List Line) → AllByRecursion (IsRoundLine header) lines → AllByRecursion (IsPlayedLine header) lines
  all_play [] a = tt
  all_play (line ∷ lines) a = (may_play header line a.0, all_play lines a.1)

  module _ (known : (before : List Line) → AllByRecursion (IsRoundLine header) (round_behind header before)) where
    of_play : (before : List Line) (p : Play) → IsPlayFor header p → AllByRecursion (IsPlayedLine header) (lines_of_play header before p)
    of_play before (Said line) may = (may, tt)
    of_play before Round may = all_play (round_behind header before) (known before)

    of_plays : (plays : List Play) (before : List Line) → AllByRecursion (IsPlayFor header) plays → AllByRecursion (IsPlayedLine header) before
        → AllByRecursion (IsPlayedLine header) (fold (λ (ls : List Line) (p : Play). ls ++ lines_of_play header ls p) before plays)
    of_plays [] before may so = so
    of_plays (p ∷ plays) before may so =
        of_plays plays (before ++ lines_of_play header before p) may.1
        (all-append (IsPlayedLine header) before (lines_of_play header before p) so (of_play before p may.0))

  pub lines_may_be_played : MayBegin header → HostsStay header → (plays : List Play) → AllByRecursion (IsPlayFor header) plays
      → AllByRecursion (IsPlayedLine header) (lines_played header plays)
  lines_may_be_played begin stay plays may = of_plays (round_known begin stay) plays [] may tt

  pub bare_lines_may_be_played : header.hci ≡ false → length header.hosts.items ≡ 1 → (plays : List Play) → AllByRecursion (IsPlayFor header) plays
      → AllByRecursion (IsPlayedLine header) (lines_played header plays)
  bare_lines_may_be_played bare one plays may = of_plays (bare_known bare one) plays [] may tt

-- ## How many rounds are played until all links are at rest

-- ### The same steps

-- what goes on alike, and is at rest alike, comes to rest alike
pub alike : {W V : Type 0} (rests : W → Bool) (next : W → W) (so : V → Bool) (on : V → V) (f : W → V) → ((x : W) → rests x ≡ so (f x))
    → ((x : W) → f (next x) ≡ on (f x)) → (n : ℕ) (x : W) → steps_to_rest rests next n x ≡ steps_to_rest so on n (f x)
alike rests next so on f r s zero x = refl
alike rests next so on f r s (suc n) x = let h0 = steps_to_rest rests next n (next x) in let h1 = alike rests next so on f r s n (next x) in grind arith

module _ (header : Header) where
  pub nodes_rest : header.hci ≡ true → (plays : List Play) → rests_behind header plays ≡ world_rests (nodes_behind header (lines_played header plays))
  nodes_rest nodes plays = grind arith

  pub bare_rests : header.hci ≡ false → (plays : List Play) → rests_behind header plays ≡ link_rests (bare_link_behind header (lines_played header plays))
  bare_rests bare plays = grind arith

  pub nodes_come_to_rest : header.hci ≡ true → (plays : List Play) (n : ℕ)
      → rounds_to_rest header plays n ≡ world_rounds_to_settle n (nodes_behind header (lines_played header plays))
  nodes_come_to_rest nodes plays n =
      alike (rests_behind header) (λ (before : List Play). before ++ Round ∷ []) world_rests world_after_round
      (λ (before : List Play). nodes_behind header (lines_played header before)) (nodes_rest nodes) (played_round header nodes) n plays

  pub bare_comes_to_rest : header.hci ≡ false → (plays : List Play) (n : ℕ)
      → rounds_to_rest header plays n ≡ steps_to_rest link_rests (bare_round header) n (bare_link_behind header (lines_played header plays))
  bare_comes_to_rest bare plays n =
      alike (rests_behind header) (λ (before : List Play). before ++ Round ∷ []) link_rests (bare_round header)
      (λ (before : List Play). bare_link_behind header (lines_played header before)) (bare_rests bare) (bare_played_round header bare) n plays

-- ### The first rest

rounds_after : (n : ℕ) (plays : List Play) → after_steps (λ (before : List Play). before ++ Round ∷ []) n plays ≡ plays ++ replicate n Round
rounds_after zero plays = sym (append-nil plays)
rounds_after (suc n) plays = rounds_after n (plays ++ Round ∷ []) ∙ sym (round_first plays n)

module _ (header : Header) (plays : List Play) (n : ℕ) where
  first : IsFirstRest (rests_behind header) (λ (before : List Play). before ++ Round ∷ []) n plays (rounds_to_rest header plays n)
  first = first_rest (rests_behind header) (λ (before : List Play). before ++ Round ∷ []) n plays

  pub at_most : rounds_to_rest header plays n ≤ n
  at_most = first.most

  pub rests_then : rounds_to_rest header plays n < n → rests_behind header (plays ++ replicate (rounds_to_rest header plays n) Round) ≡ true
  rests_then less = ap (rests_behind header) (sym (rounds_after (rounds_to_rest header plays n) plays)) ∙ first.rests_then less

  pub moves_before : (k : ℕ) → k < rounds_to_rest header plays n → rests_behind header (plays ++ replicate k Round) ≡ false
  moves_before k less = ap (rests_behind header) (sym (rounds_after k plays)) ∙ first.moves_before k less

-- ### The rounds of a schedule

module _ (header : Header) where
  line_rounds : (before : List Play) (line : Line) → MayFollow header line → rounds_played (plays_of_line header before line) ≤ 20000
  line_rounds before (saying.Settle n) may = omega (arith, so_many_rounds (rounds_to_rest header before n), at_most header before n, may.1)
  line_rounds before line may = omega arith

  lines_rounds : (lines : List Line) (before : List Play) → AllByRecursion (MayFollow header) lines
      → rounds_played (fold (λ (ps : List Play) (line : Line). ps ++ plays_of_line header ps line) before lines)
      ≤ rounds_played before + 20000 * length lines
  lines_rounds [] before may = omega arith
  lines_rounds (line ∷ lines) before may =
      let more : List Play = plays_of_line header before line in
      omega (arith, lines_rounds lines (before ++ more) may.1, played-append before more, line_rounds before line may.0)

  pub few_rounds : (lines : List Line) → AllByRecursion (MayFollow header) lines → rounds_played (plays_of header lines) ≤ 20000 * length lines
  few_rounds lines may = let all = lines_rounds lines [] may in omega (arith, all)

  pub few_plays : (lines : List Line) → AllByRecursion (MayFollow header) lines → length lines ≤ 20000 → AreFewPlays (plays_of header lines)
  few_plays lines may few =
      let said = few_said header lines in
      let rounds = few_rounds lines may in
      record { said = omega (arith, said, few); rounds = omega (arith, rounds, few) }

-- ## What is noted of lines and of rounds behind plays

pub behind-append : (header : Header) (xs ys before : List Line)
    → told_behind header before (xs ++ ys) ≡ told_behind header before xs ++ told_behind header (before ++ xs) ys
behind-append header [] ys before = ap (λ (ls : List Line). told_behind header ls ys) (sym (append-nil before))
behind-append header (x ∷ xs) ys before =
    let now : List Entry = told_below header before x in
    let later : List Line = before ++ x ∷ [] in
    ap (λ (es : List Entry). now ++ es)
    (behind-append header xs ys later
    ∙ ap (λ (ls : List Line). told_behind header later xs ++ told_behind header ls ys) (append_assoc before (x ∷ []) xs))
    ∙ sym (append_assoc now (told_behind header later xs) (told_behind header (before ++ x ∷ xs) ys))

module _ (header : Header) (nodes : header.hci ≡ true) where
  pub told_nodes : (lines before : List Line) → told_behind header before lines ≡ told_in (nodes_behind header before) lines
  told_nodes [] before = refl
  told_nodes (line ∷ lines) before =
      ap (λ (es : List Entry). es ++ told_behind header (before ++ line ∷ []) lines) (grind arith)
      ∙ ap (λ (es : List Entry). (entries_below (noted_below (line_step (nodes_behind header before) line).1)) ++ es)
      (told_nodes lines (before ++ line ∷ [])
      ∙ ap (λ (v : NodeWorld). told_in v lines) (after-append before (line ∷ []) (new_world header.hosts.items)))

  -- what is noted of a round, of so many rounds, and below a line that lets the links settle
  pub told_round : (before : List Line) → told_behind header before (round_behind header before) ≡ entries_in (world_round (nodes_behind header before)).1
  told_round before =
      told_nodes (round_behind header before) before
      ∙ (ap (told_in (nodes_behind header before)) (round_lines header nodes before) ∙ round_told (nodes_behind header before))

  pub told_rounds : (n : ℕ) (plays : List Play)
      → told_of_rounds header plays n ≡ entries_in (rounds_of_world n (nodes_behind header (lines_played header plays))).1
  told_rounds zero plays = refl
  told_rounds (suc n) plays =
      let w : NodeWorld = nodes_behind header (lines_played header plays) in
      ap (λ (es : List Entry). es ++ told_of_rounds header (plays ++ Round ∷ []) n) (told_round (lines_played header plays))
      ∙ (ap (λ (es : List Entry). (entries_in (world_round w).1) ++ es)
      (told_rounds n (plays ++ Round ∷ []) ∙ ap (λ (u : NodeWorld). entries_in (rounds_of_world n u).1) (played_round header nodes plays))
      ∙ sym (flat_map-append (λ (o : Occurrence). o.entries) (world_round w).1 (rounds_of_world n ((world_round w).0)).1))

  pub told_settling : (n : ℕ) (plays : List Play) → told_of_line header plays (saying.Settle n)
      ≡ entries_in (world_settling n (nodes_behind header (lines_played header plays))).1
      ++ Settled (world_rounds_to_settle n (nodes_behind header (lines_played header plays))) ∷ []
  told_settling n plays =
      let w : NodeWorld = nodes_behind header (lines_played header plays) in
      ap (λ (r : ℕ). told_of_rounds header plays r ++ Settled r ∷ []) (nodes_come_to_rest header nodes plays n)
      ∙ ap (λ (es : List Entry). es ++ Settled (world_rounds_to_settle n w) ∷ []) (told_rounds (world_rounds_to_settle n w) plays)
