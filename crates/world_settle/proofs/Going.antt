-- A world goes through rounds until its links are at rest, and each is noted.
use Rattle.std.proofs.Common.{◌≡◌, ℕ, suc, ◌+◌, ◌-◌, ◌<◌, Bool, true, false, List, [], ◌∷◌, ◌++◌, refl, ap, sym, subst, ◌∙◌, arith}
use Rattle.std.proofs.Common.{append-nil, append_assoc}
use Rattle.std.specs.Prelude.{replicate, Result, Ok, Err, OnErr}
use Rattle.trace_model.specs.declared.entry.Entry.{Entry}
use Rattle.trace_model.specs.declared.entry.Entry.TheVariants.{Echo, Settled}
use Rattle.trace_model.specs.declared.line.Header.{Header}
use Rattle.trace_model.specs.declared.line.Line.TheVariants as line
use Rattle.lines_told.specs.lines.Plays.{Play, rests_behind, rounds_to_rest, told_of_rounds}
use Rattle.lines_told.specs.lines.Plays.Play.{Round}
use Rattle.world.specs.declared.world_steps.World.{World}
use Rattle.world.specs.Worlds.{IsWorldAt}
use Rattle.world_settle.proofs.Rounds.{MayNeedMore, first_needed, one_needed, round_on, told_last, told_on, told_then}
use Rattle.world_settle.specs.Fronts.{IsFrontNoted}

-- behind these plays the world went through so many rounds, and they were noted unless the watch is short
pub record WentOn (w : World) (header : Header) (plays : List Play) (most k : ℕ) (short : Bool) (before now : List Entry) : Type 0 where
  pub stands : IsWorldAt w header (plays ++ replicate k Round)
  pub need : MayNeedMore header plays most k
  pub noted_are : short ≡ false → now ≡ before ++ told_of_rounds header plays k

pub went_none : {w : World} {header : Header} {plays : List Play} {short : Bool} {before : List Entry} (most : ℕ) → IsWorldAt w header plays
    → WentOn w header plays most 0 short before before
went_none {w} {header} {plays} {before = before} most stands =
    record {
      stands = subst (IsWorldAt w header) (sym (append-nil plays)) stands;
      need = first_needed header plays most;
      noted_are = λ long. sym (append-nil before);
    }

pub went_more : {w next : World} {header : Header} {plays : List Play} {most k : ℕ} {short later : Bool} {before mid now : List Entry}
    → (h : WentOn w header plays most k short before mid) → k < most → rests_behind header (plays ++ replicate k Round) ≡ false
    → IsWorldAt next header ((plays ++ replicate k Round) ++ Round ∷ []) → (later ≡ false → short ≡ false)
    → (later ≡ false → now ≡ mid ++ told_then header plays k) → WentOn next header plays most (k + 1) later before now
went_more {next = next} {header} {plays} {most} {k} {before = before} {mid} {now} h less moves stands goes told =
    let one : suc k ≡ k + 1 = omega arith in
    record {
      stands = subst (IsWorldAt next header) (round_on plays k) stands;
      need = one_needed header plays most k less moves h.need;
      noted_are = λ long.
          told long
          ∙ (ap (λ (es : List Entry). es ++ told_then header plays k) (h.noted_are (goes long))
          ∙ (append_assoc before (told_of_rounds header plays k) (told_then header plays k)
          ∙ (ap (λ (es : List Entry). before ++ es) (sym (told_last header k plays))
          ∙ ap (λ (n : ℕ). before ++ told_of_rounds header plays n) one)));
    }

-- what holds in any case holds where a call fails
pub any_err : {T E : Type 0} {P : Type 0} (r : Result T E) → P → OnErr r P
any_err (Ok x) p = tt
any_err (Err e) p = p

-- what was not short is not, where what is short stays so
pub was_long : (before later : Bool) → (before ≡ true → later ≡ true) → later ≡ false → before ≡ false
was_long true later stays long = sym (stays refl) ∙ long
was_long false later stays long = refl

-- all that a line that lets the links settle tells, in so many rounds
abbrev pub told_whole : Header → List Play → ℕ → ℕ → List Entry
told_whole header plays most r = Echo (line.Settle most) ∷ (told_of_rounds header plays r ++ Settled r ∷ [])

-- the line, its rounds and how many there were are noted
pub noted_whole : {w : World} {header : Header} {plays : List Play} {most k : ℕ} {short : Bool} {first mid : List Entry} (start last : List Entry)
    → WentOn w header plays most k short first mid → short ≡ false → first ≡ start ++ Echo (line.Settle most) ∷ [] → last ≡ mid ++ Settled k ∷ []
    → last ≡ start ++ told_whole header plays most k
noted_whole {header = header} {plays} {most} {k} {first = first} {mid} start last h long one end =
    let es : List Entry = told_of_rounds header plays k in
    let echo : Entry = Echo (line.Settle most) in
    end ∙ (ap (λ (x : List Entry). x ++ Settled k ∷ []) (h.noted_are long ∙ ap (λ (x : List Entry). x ++ es) one)
    ∙ (append_assoc (start ++ echo ∷ []) es (Settled k ∷ []) ∙ append_assoc start (echo ∷ []) (es ++ Settled k ∷ [])))

-- where memory runs out in the next round, what was noted is a front of all that the line tells
pub breaks_off : {w : World} {header : Header} {plays : List Play} {most k : ℕ} {short : Bool} {first mid : List Entry} (start : List Entry)
    → WentOn w header plays most k short first mid → first ≡ start ++ Echo (line.Settle most) ∷ [] → short ≡ false
    → IsFrontNoted start mid (told_whole header plays most (rounds_to_rest header plays most))
breaks_off {header = header} {plays} {most} {k} {first = first} {mid} start h one long =
    let r : ℕ = rounds_to_rest header plays most in
    let left : ℕ = rounds_to_rest header (plays ++ replicate k Round) (most - k) in
    let es : List Entry = told_of_rounds header plays k in
    let echo : Entry = Echo (line.Settle most) in
    let more = told_on header k left plays in
    let all : told_of_rounds header plays r ≡ es ++ more.0 = ap (told_of_rounds header plays) h.need ∙ more.1 in
    record {
      front = echo ∷ es;
      back = more.0 ++ Settled r ∷ [];
      now_is = h.noted_are long ∙ (ap (λ (x : List Entry). x ++ es) one ∙ append_assoc start (echo ∷ []) es);
      whole_is = ap (λ (x : List Entry). echo ∷ (x ++ Settled r ∷ [])) all ∙ ap (λ (x : List Entry). echo ∷ x) (append_assoc es more.0 (Settled r ∷ []));
    }
