-- A world that goes through rounds until all its links are at rest: what the rounds tell, and how many there are.
use Rattle.std.proofs.Common.{◌≡◌, ℕ, zero, suc, ◌+◌, ◌-◌, ◌<◌, ◌≤◌, Bool, true, false, cond, List, [], ◌∷◌, ◌++◌, refl, sym, ap, subst, ◌∙◌, arith}
use Rattle.std.proofs.Common.{append-nil, append_assoc}
use Rattle.std.specs.Prelude.{replicate}
use Rattle.trace_model.specs.declared.entry.Entry.{Entry}
use Rattle.trace_model.specs.declared.line.Header.{Header}
use Rattle.lines_told.specs.lines.Plays.{Play, lines_played, rests_behind, rounds_played, rounds_to_rest, told_of_play, told_of_rounds}
use Rattle.lines_told.specs.lines.Plays.Play.{Round}
use Rattle.world.specs.declared.world_steps.World.{World}
use Rattle.lines_told.proofs.lines.Told.{played-append, round_first, round_last, so_many_rounds}
use Rattle.world.specs.Worlds.{HasRoomToSettle, IsWorldAt, StandsBehind, world_header}

-- it stands so below its own header
pub under_own_header : (w : World) (header : Header) (plays : List Play) → IsWorldAt w header plays → IsWorldAt w (world_header w) plays
under_own_header w header plays stands = let P : Header → Type 0 = λ h. IsWorldAt w h plays in subst P (sym stands.header_is) stands

-- ## What rounds tell

-- what is told of a round behind so many rounds
abbrev pub told_then : Header → List Play → ℕ → List Entry
told_then header plays n = told_of_play header (lines_played header (plays ++ replicate n Round)) Round

-- one round more, which comes last
pub told_last : (header : Header) (n : ℕ) (plays : List Play)
    → told_of_rounds header plays (suc n) ≡ told_of_rounds header plays n ++ told_then header plays n
told_last header zero plays =
    append-nil (told_of_play header (lines_played header plays) Round)
    ∙ ap (λ (ps : List Play). told_of_play header (lines_played header ps) Round) (sym (append-nil plays))
told_last header (suc n) plays =
    let now : List Entry = told_of_play header (lines_played header plays) Round in
    let later : List Play = plays ++ Round ∷ [] in
    ap (λ (es : List Entry). now ++ es) (told_last header n later)
    ∙ (sym (append_assoc now (told_of_rounds header later n) (told_then header later n))
    ∙ ap (λ (ps : List Play). (now ++ told_of_rounds header later n) ++ told_of_play header (lines_played header ps) Round) (sym (round_first plays n)))

-- what is told of rounds is a front of what is told of more
pub told_on : (header : Header) (a b : ℕ) (plays : List Play)
    → (rest : List Entry) × (told_of_rounds header plays (a + b) ≡ told_of_rounds header plays a ++ rest)
told_on header zero b plays = (told_of_rounds header plays (0 + b), refl)
told_on header (suc a) b plays =
    let next : List Play = plays ++ Round ∷ [] in
    let first : List Entry = told_of_play header (lines_played header plays) Round in
    let more = told_on header a b next in
    let sum : suc a + b ≡ suc (a + b) = omega arith in (
      more.0,
      ap (told_of_rounds header plays) sum
          ∙ (ap (λ es. first ++ es) more.1 ∙ sym (append_assoc first (told_of_rounds header next a) more.0)),
    )

-- so many rounds and one
pub round_on : (plays : List Play) (n : ℕ) → (plays ++ replicate n Round) ++ Round ∷ [] ≡ plays ++ replicate (n + 1) Round
round_on plays n = sym (round_last plays n) ∙ ap (λ (k : ℕ). plays ++ replicate k Round) (let one : suc n ≡ n + 1 = omega arith in one)

-- ## How many there are

-- so many rounds were played, and more are needed only where the links aren't at rest behind them
abbrev pub MayNeedMore : Header → List Play → ℕ → ℕ → Type 0
MayNeedMore header plays most n = rounds_to_rest header plays most ≡ n + rounds_to_rest header (plays ++ replicate n Round) (most - n)

pub first_needed : (header : Header) (plays : List Play) (most : ℕ) → MayNeedMore header plays most 0
first_needed header plays most =
    let same : rounds_to_rest header plays most ≡ rounds_to_rest header (plays ++ []) most =
    ap (λ (ps : List Play). rounds_to_rest header ps most) (sym (append-nil plays)) in
    let left : most - 0 ≡ most = omega arith in
    let now : rounds_to_rest header (plays ++ []) (most - 0) ≡ rounds_to_rest header (plays ++ []) most = ap (rounds_to_rest header (plays ++ [])) left in
    omega (arith, same, now)

needed_now : (header : Header) (plays : List Play) (k : ℕ) (b : Bool) → rests_behind header plays ≡ b
    → rounds_to_rest header plays (suc k) ≡ cond b 0 (suc (rounds_to_rest header (plays ++ Round ∷ []) k))
needed_now header plays k b is = ap (λ (x : Bool). cond x 0 (suc (rounds_to_rest header (plays ++ Round ∷ []) k))) is

-- where they are, no more is
pub none_needed : (header : Header) (plays : List Play) (most n : ℕ) → n < most → rests_behind header (plays ++ replicate n Round) ≡ true
    → MayNeedMore header plays most n → n ≡ rounds_to_rest header plays most
none_needed header plays most n less rests so_far =
    let at : List Play = plays ++ replicate n Round in
    let left : most - n ≡ suc (most - (n + 1)) = omega (arith, less) in
    let none : rounds_to_rest header at (most - n) ≡ 0 =
    ap (rounds_to_rest header at) left ∙ needed_now header at (most - (n + 1)) true rests in
    omega (arith, none, so_far)

-- where they aren't, one is
pub one_needed : (header : Header) (plays : List Play) (most n : ℕ) → n < most → rests_behind header (plays ++ replicate n Round) ≡ false
    → MayNeedMore header plays most n → MayNeedMore header plays most (n + 1)
one_needed header plays most n less moves so_far =
    let at : List Play = plays ++ replicate n Round in
    let k : ℕ = most - (n + 1) in
    let left : most - n ≡ suc k = omega (arith, less) in
    let one : rounds_to_rest header at (most - n) ≡ suc (rounds_to_rest header (at ++ Round ∷ []) k) =
    ap (rounds_to_rest header at) left ∙ needed_now header at k false moves in
    let same : rounds_to_rest header (at ++ Round ∷ []) k ≡ rounds_to_rest header (plays ++ replicate (n + 1) Round) k =
    ap (λ (ps : List Play). rounds_to_rest header ps k) (round_on plays n) in
    omega (arith, so_far, one, same)

-- none is where there is room for no more
pub all_needed : (header : Header) (plays : List Play) (most n : ℕ) → n ≡ most → MayNeedMore header plays most n → most ≡ rounds_to_rest header plays most
all_needed header plays most n all so_far =
    let none : rounds_to_rest header (plays ++ replicate n Round) (most - n) ≡ 0 =
    ap (rounds_to_rest header (plays ++ replicate n Round)) (let left : most - n ≡ 0 = omega (arith, all) in left) in
    omega (arith, none, so_far, all)

-- whether they are is what the world says
pub rests_so : (w : World) (header : Header) (plays : List Play) (quiet b : Bool) → IsWorldAt w header plays
    → ((ps : List Play) → StandsBehind w ps → quiet ≡ rests_behind (world_header w) ps) → quiet ≡ b → rests_behind header plays ≡ b
rests_so w header plays quiet b stands says is =
    ap (λ (h : Header). rests_behind h plays) (sym stands.header_is) ∙ (sym (says plays (under_own_header w header plays stands).stands) ∙ is)

-- behind fewer rounds than there may be it has room for one more
pub room_behind : (w : World) (header : Header) (plays : List Play) (most n : ℕ) → rounds_played plays + most ≤ 400000000 → n < most
    → IsWorldAt w header (plays ++ replicate n Round) → HasRoomToSettle w
room_behind w header plays most n few less stands =
    let sum = played-append plays (replicate n Round) in
    let many = so_many_rounds n in
    record {
      plays = plays ++ replicate n Round;
      stands = under_own_header w header (plays ++ replicate n Round) stands;
      few = omega (arith, few, sum, many, less);
    }
