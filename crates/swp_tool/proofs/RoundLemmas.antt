-- Rounds that are played one after another until all links are at rest.
use Rattle.std.specs.Prelude.{IsErrAnd}
use Rattle.swp_tool.proofs.Words.{Bool, Entry, HasGoneThrough, HasRoundsLeft, Header, IfErr, IsWorldAt, Line, List, OnErr, OnOk, Play, Result, Round, Runs}
use Rattle.swp_tool.proofs.Words.{World, [], ap, append-nil, append_assoc, arith, entry_line, entry_lines, false, flat_map-append, lines_played, plays_of}
use Rattle.swp_tool.proofs.Words.{plays_of_line, replicate, rounds_to_rest, subst, suc, sym, told_of_line, told_of_play, told_of_rounds, true, world_header}
use Rattle.swp_tool.proofs.Words.{zero, ℕ, ◌++◌, ◌+◌, ◌-◌, ◌<◌, ◌∙◌, ◌∷◌, ◌≡◌}
use Rattle.trace_model.specs.declared.entry.Entry.TheVariants.{Echo, Settled}
use Rattle.trace_model.specs.declared.line.Line.TheVariants as saying
use Rattle.lines_told.specs.lines.Plays.{rests_behind}
use Rattle.lines_told.proofs.lines.Told.{played-append, plays_more, round_first, round_last, so_many_rounds}
use Rattle.world.specs.Worlds.{HasRoomToSettle, StandsBehind}
use Rattle.swp_tool.proofs.Happened.{schedule_text-push}

-- ## Texts

-- what `?` hands on is the error itself
pub err_is : {T E : Type 0} (P : E → Type 0) (r : Result T E) (why : E) → IsErrAnd r (λ e. e ≡ why) → P why → IfErr r P
err_is P r why is h = grind arith

-- what holds where a call fails, together
pub err_both : {T E : Type 0} (A B : Type 0) (P : E → Type 0) (r : Result T E) → OnErr r A → OnErr r B → IfErr r P → IfErr r (λ e. A × B × P e)
err_both A B P r a b h = grind arith

-- what a text that grew has behind what it had
pub any_ok : {T E : Type 0} (P : Type 0) (r : Result T E) → P → OnOk r P
any_ok P r h = grind arith

pub any_err : {T E : Type 0} (P : Type 0) (r : Result T E) → P → OnErr r P
any_err P r h = grind arith

pub more_again : (old text new : List ℕ) → (more : List ℕ) × (text ≡ old ++ more) → (more : List ℕ) × (new ≡ text ++ more)
    → (more : List ℕ) × (new ≡ old ++ more)
more_again old text new first later = (first.0 ++ later.0, later.1 ∙ (ap (λ l. l ++ later.0) first.1 ∙ append_assoc old first.0 later.0))

-- ## What rounds tell

-- one round more, which comes last
told_last : (header : Header) (n : ℕ) (plays : List Play)
    → told_of_rounds header plays (suc n)
    ≡ told_of_rounds header plays n ++ told_of_play header (lines_played header (plays ++ replicate n Round)) Round
told_last header zero plays =
    append-nil (told_of_play header (lines_played header plays) Round)
    ∙ ap (λ (ps : List Play). told_of_play header (lines_played header ps) Round) (sym (append-nil plays))
told_last header (suc n) plays =
    let now : List Entry = told_of_play header (lines_played header plays) Round in
    let later : List Play = plays ++ Round ∷ [] in
    ap (λ (es : List Entry). now ++ es) (told_last header n later)
    ∙ (sym (append_assoc now (told_of_rounds header later n) (told_of_play header (lines_played header (later ++ replicate n Round)) Round))
    ∙ ap (λ (ps : List Play). (now ++ told_of_rounds header later n) ++ told_of_play header (lines_played header ps) Round) (sym (round_first plays n)))

-- so many rounds and one
round_on : (plays : List Play) (n : ℕ) → (plays ++ replicate n Round) ++ Round ∷ [] ≡ plays ++ replicate (n + 1) Round
round_on plays n = sym (round_last plays n) ∙ ap (λ (k : ℕ). plays ++ replicate k Round) (let one : suc n ≡ n + 1 = omega arith in one)

-- ## A world that goes through rounds

-- before the first one
pub none_gone : (w : World) (header : Header) (plays : List Play) (text : List ℕ) → IsWorldAt w header plays → HasGoneThrough w header plays 0 text text
none_gone w header plays text stands = record {
  stands = subst (IsWorldAt w header) (sym (append-nil plays)) stands;
  text_is = sym (append-nil text);
}

-- with one round more
pub one_gone : (w v : World) (header : Header) (plays : List Play) (n : ℕ) (before text after : List ℕ) → HasGoneThrough w header plays n before text
    → ((ps : List Play) → IsWorldAt w header ps → IsWorldAt v header (ps ++ Round ∷ []))
    → ((ps : List Play) → IsWorldAt w header ps → after ≡ text ++ entry_lines (told_of_play header (lines_played header ps) Round))
    → HasGoneThrough v header plays (n + 1) before after
one_gone w v header plays n before text after gone goes tells =
    let at : List Play = plays ++ replicate n Round in
    let now : List Entry = told_of_play header (lines_played header at) Round in
    let was : List ℕ = entry_lines (told_of_rounds header plays n) in
    let one : suc n ≡ n + 1 = omega arith in
    let told : was ++ entry_lines now ≡ entry_lines (told_of_rounds header plays (n + 1)) =
    sym (ap entry_lines (told_last header n plays) ∙ flat_map-append entry_line (told_of_rounds header plays n) now)
    ∙ ap (λ (k : ℕ). entry_lines (told_of_rounds header plays k)) one in
    record {
      stands = subst (IsWorldAt v header) (round_on plays n) (goes at gone.stands);
      text_is = tells at gone.stands
          ∙ (ap (λ (l : List ℕ). l ++ entry_lines now) gone.text_is
          ∙ (append_assoc before was (entry_lines now) ∙ ap (λ (l : List ℕ). before ++ l) told));
    }

-- ## How many there are

-- so many rounds were played, and more are needed only where the links aren't at rest behind them
abbrev pub MayNeedMore : Header → List Play → ℕ → ℕ → Type 0
MayNeedMore header plays most n = rounds_to_rest header plays most ≡ n + rounds_to_rest header (plays ++ replicate n Round) (most - n)

pub first_needed : (header : Header) (plays : List Play) (most : ℕ) → MayNeedMore header plays most 0
first_needed header plays most =
    let same : rounds_to_rest header plays most ≡ rounds_to_rest header (plays ++ []) most =
    ap (λ (ps : List Play). rounds_to_rest header ps most) (sym (append-nil plays)) in
    let left : most - 0 ≡ most = omega arith in
    let now : rounds_to_rest header (plays ++ []) (most - 0) ≡ rounds_to_rest header (plays ++ []) most = ap (rounds_to_rest header (plays ++ [])) left in
    omega (arith, same, now)

-- where they are, no more is
pub none_needed : (header : Header) (plays : List Play) (most n : ℕ) → n < most → rests_behind header (plays ++ replicate n Round) ≡ true
    → MayNeedMore header plays most n → n ≡ rounds_to_rest header plays most
none_needed header plays most n less rests so_far = grind arith

-- where they aren't, one is
pub one_needed : (header : Header) (plays : List Play) (most n : ℕ) → n < most → rests_behind header (plays ++ replicate n Round) ≡ false
    → MayNeedMore header plays most n → MayNeedMore header plays most (n + 1)
one_needed header plays most n less moves so_far =
    let at : List Play = plays ++ replicate n Round in
    let k : ℕ = most - (n + 1) in
    let left : most - n ≡ suc k = omega (arith, less) in
    let one : rounds_to_rest header at (most - n) ≡ suc (rounds_to_rest header (at ++ Round ∷ []) k) = grind arith in
    let same : rounds_to_rest header (at ++ Round ∷ []) k ≡ rounds_to_rest header (plays ++ replicate (n + 1) Round) k =
    ap (λ (ps : List Play). rounds_to_rest header ps k) (round_on plays n) in
    omega (arith, so_far, one, same)

-- none is where there is room for no more
pub all_needed : (header : Header) (plays : List Play) (most n : ℕ) → n ≡ most → MayNeedMore header plays most n → most ≡ rounds_to_rest header plays most
all_needed header plays most n all so_far = grind arith

-- whether they are is what the world says
pub rests_so : (w : World) (header : Header) (plays : List Play) (quiet b : Bool) → IsWorldAt w header plays
    → ((ps : List Play) → StandsBehind w ps → quiet ≡ rests_behind (world_header w) ps) → quiet ≡ b → rests_behind header plays ≡ b
rests_so w header plays quiet b stands says is = grind arith

-- the world stands behind these plays, and has room for a round
abbrev pub HaveGone : World → World → ℕ → List ℕ → List ℕ → Type 0
HaveGone w v n before text = (header : Header) (plays : List Play) → IsWorldAt w header plays → HasGoneThrough v header plays n before text

pub stands_then : (w v : World) (most n : ℕ) (before text : List ℕ) → HasRoundsLeft w most → HaveGone w v n before text
    → (plays : List Play) × IsWorldAt v (world_header v) plays
stands_then w v most n before text left gone = grind arith

pub room_for_round : (w v : World) (most n : ℕ) (before text : List ℕ) → HasRoundsLeft w most → n < most → HaveGone w v n before text → HasRoomToSettle v
room_for_round w v most n before text left less gone =
    let few = left.2 in
    let sum = played-append left.0 (replicate n Round) in
    let many = so_many_rounds n in
    grind arith

-- what was gathered of rounds
pub gone_more : (w v : World) (most n : ℕ) (before text : List ℕ) → HasRoundsLeft w most → HaveGone w v n before text
    → (more : List ℕ) × (text ≡ before ++ more)
gone_more w v most n before text left gone = grind arith

-- ## A line that lets the links settle

-- what was gathered of the line and its rounds
pub line_more : (w v : World) (most n : ℕ) (old first text : List ℕ) → HasRoundsLeft w most
    → first ≡ old ++ (entry_line (Echo (saying.Settle most)) ++ entry_lines []) → HaveGone w v n first text → (more : List ℕ) × (text ≡ old ++ more)
line_more w v most n old first text left first_is gone =
    more_again old first text (entry_line (Echo (saying.Settle most)) ++ entry_lines [], first_is) (gone_more w v most n first text left gone)

pub settled_text : (header : Header) (plays : List Play) (most r : ℕ) (old first text last : List ℕ) → r ≡ rounds_to_rest header plays most
    → first ≡ old ++ (entry_line (Echo (saying.Settle most)) ++ entry_lines []) → text ≡ first ++ entry_lines (told_of_rounds header plays r)
    → last ≡ text ++ entry_lines (Settled r ∷ [])
    → last ≡ old ++ (entry_line (Echo (saying.Settle most)) ++ entry_lines (told_of_line header plays (saying.Settle most)))
settled_text header plays most r old first text last r_is first_is text_is last_is =
    let echo : List ℕ = entry_line (Echo (saying.Settle most)) in
    let told : List ℕ = entry_lines (told_of_rounds header plays r) in
    let end : List ℕ = entry_line (Settled r) in
    (last_is ∙ ap (λ l. text ++ l) (append-nil end))
    ∙ (ap (λ l. l ++ end) (text_is ∙ ap (λ l. l ++ told) first_is)
    ∙ (append_assoc (old ++ (echo ++ [])) told end
    ∙ (append_assoc old (echo ++ []) (told ++ end)
    ∙ (ap (λ l. old ++ (l ++ (told ++ end))) (append-nil echo)
    ∙ (ap (λ l. old ++ (echo ++ l))
    (sym (flat_map-append entry_line (told_of_rounds header plays r) (Settled r ∷ []) ∙ ap (λ l. told ++ l) (append-nil end)))
    ∙ ap (λ n. old ++ (echo ++ entry_lines (told_of_rounds header plays n ++ Settled n ∷ []))) r_is)))))

pub settled_runs : (w v : World) (most : ℕ) (text after : List ℕ)
    → ((header : Header) (plays : List Play) → IsWorldAt w header plays → IsWorldAt v header (plays ++ plays_of_line header plays (saying.Settle most)))
    → ((header : Header) (plays : List Play) → IsWorldAt w header plays
    → after ≡ text ++ (entry_line (Echo (saying.Settle most)) ++ entry_lines (told_of_line header plays (saying.Settle most))))
    → (header : Header) (lines : List Line) (before : List ℕ) → Runs w header lines (before ++ text)
    → Runs v header (lines ++ saying.Settle most ∷ []) (before ++ after)
settled_runs w v most text after goes tells header lines before runs =
    let plays : List Play = plays_of header lines in
    let more : List ℕ = entry_line (Echo (saying.Settle most)) ++ entry_lines (told_of_line header plays (saying.Settle most)) in
    record {
      stands = subst (IsWorldAt v header) (sym (plays_more header lines (saying.Settle most))) (goes header plays runs.stands);
      text_is = ap (λ l. before ++ l) (tells header plays runs.stands)
          ∙ (sym (append_assoc before text more)
          ∙ (ap (λ l. l ++ more) runs.text_is ∙ sym (schedule_text-push header lines (saying.Settle most))));
    }
