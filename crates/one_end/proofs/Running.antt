-- Runs of a node alone: answers one after another, whole runs, and runs that grow by what comes.
use Rattle.std.proofs.Common.{ap₂, take-add}
use Rattle.std.proofs.lemmas.List.{map-append, reverse-append, take-append-drop, take_more}
use Rattle.one_end.proofs.Words.{Bool, Control, EndForm, Foretells, FrameComes, HasAnswered, HasBooted, IsAlone, IsRunOfBytes, List, Lone, LoneCause, Memory}
use Rattle.one_end.proofs.Words.{Node, None, OneEnd, Option, ResetComes, Running, RunsAlone, RunsReady, RunsYet, WereMade, Write, [], after_planned}
use Rattle.one_end.proofs.Words.{after_planned-append, all_answered, answers_alone, ap, append-nil, append_assoc, arith, asks_reset, booted_from, bytes_bring}
use Rattle.one_end.proofs.Words.{cond, does_alone, does_by_power, drop, end_booted, end_causes, end_written, false, first_comes, flat_map, form_named}
use Rattle.one_end.proofs.Words.{frames_written, get_or, is_none, is_some, length, lone_after, map, plan_behind, planned_whole, refl, reset_refusal, reverse}
use Rattle.one_end.proofs.Words.{subst, sym, take, take-take, true, ℕ, ◌++◌, ◌+◌, ◌<◌, ◌∙◌, ◌∷◌, ◌≡◌, ◌≤◌}
use Rattle.node_core.proofs.Joining.{foretold_parts, made_on}
use Rattle.lone_laws.specs.alone.Lone.{lone_events, lone_step}
use Rattle.lone_laws.specs.alone.Ends.{byte_brings, event_written, with_resets}
use Rattle.one_end.specs.Running.{BringsAlone, then_does}
use Rattle.one_end.specs.Standing.{HasRun, HearsAlone, StandsAlone, run_brings}
use Rattle.one_end.specs.Reading.{form_read, ReaderStandsFor}
use Rattle.one_end.specs.declared.reading.Reader.{Reader}

-- ## A node that has lost its power does nothing

pub nothing_done : (form : EndForm) (l : Lone) (c : LoneCause) → is_none l.node ≡ true → does_alone form l c ≡ (l, [])
nothing_done form l c gone = grind arith

pub nothing_answered : (form : EndForm) (l : Lone) (c : LoneCause) → is_none l.node ≡ true → answers_alone form l c ≡ (l, [])
nothing_answered form l c gone = grind arith

pub nothing_at_all : (form : EndForm) (causes : List LoneCause) (l : Lone) → is_none l.node ≡ true → all_answered form l causes ≡ (l, [])
nothing_at_all form [] l gone = refl
nothing_at_all form (c ∷ causes) l gone =
    ap (then_does (λ after. all_answered form after causes)) (nothing_answered form l c gone)
    ∙ ap (λ y. (y.0, [] ++ y.1)) (nothing_at_all form causes l gone)

-- ## One thing after another

pub all_answered-append : (form : EndForm) (first later : List LoneCause) (l : Lone)
    → all_answered form l (first ++ later) ≡ then_does (λ after. all_answered form after later) (all_answered form l first)
all_answered-append form [] later l = refl
all_answered-append form (c ∷ first) later l =
    let x : Lone × List ℕ = answers_alone form l c in
    let y : Lone × List ℕ = all_answered form x.0 first in
    let z : Lone × List ℕ = all_answered form y.0 later in
    ap (λ (w : Lone × List ℕ). (w.0, x.1 ++ w.1)) (all_answered-append form first later x.0)
    ∙ ap (λ bytes. (z.0, bytes)) (sym (append_assoc x.1 y.1 z.1))

module _ {N : Type 0} (writes : N → ℕ → List ℕ → Bool → N → Type 0) where
  -- it goes on
  pub brings_on : {old mid new : N} {S T : Lone → Type 0} {f : Memory → Lone × List ℕ} (g : Lone → Lone × List ℕ) {one two : List ℕ}
      (b : BringsAlone writes old mid S f one) → is_none b.after.node ≡ false
      → BringsAlone writes mid new T (λ m. g (record b.after { memory = m })) two → BringsAlone writes old new T (λ m. then_does g (f m)) (one ++ two)
  brings_on {old} {mid} {new} {S} {T} {f} g {one} {two} b live c =
      let P : Bool → Type 0 = λ t. WereMade writes b.sure b.torn old t mid in
      let first = subst P live b.made in
      let none : b.torn ≡ [] = first.0 in
      let cut : Bool = is_none c.after.node in
      record {
        after = c.after;
        stands = c.stands;
        sure = b.sure ++ c.sure;
        torn = c.torn;
        made = made_on writes (is_none c.after.node) b.sure c.sure c.torn old mid new first.1 c.made;
        is = λ m foretold.
            let parts = foretold_parts (is_none c.after.node) b.sure c.sure c.torn m.plan foretold in
            let m1 : Memory = after_planned b.sure m in
            let Q : Bool → Type 0 = λ t. Foretells m.plan b.sure b.torn t in
            let all_sure : f m ≡ (record b.after { memory = m1 }, one) =
            b.is m (subst Q (sym live) parts.0)
            ∙ (ap (λ t. (record b.after { memory = after_planned (b.sure ++ t) m }, one)) none
            ∙ ap (λ s. (record b.after { memory = after_planned s m }, one)) (append-nil b.sure)) in
            let plan_is : m1.plan ≡ plan_behind b.sure m.plan = (planned_whole b.sure m parts.0).1 in
            let then_is : g (record b.after { memory = m1 }) ≡ (record c.after { memory = after_planned (c.sure ++ c.torn) m1 }, two) = grind arith in
            let all : after_planned (c.sure ++ c.torn) m1 ≡ after_planned ((b.sure ++ c.sure) ++ c.torn) m =
            sym (after_planned-append b.sure (c.sure ++ c.torn) m parts.0) ∙ ap (λ s. after_planned s m) (sym (append_assoc b.sure c.sure c.torn)) in
            ap (then_does g) all_sure
            ∙ (ap (λ (y : Lone × List ℕ). (y.0, one ++ y.1)) then_is ∙ ap (λ x. (record c.after { memory = x }, one ++ two)) all);
      }

  -- it has stopped, and does nothing more
  pub brings_stopped : {old new : N} {S : Lone → Type 0} {f : Memory → Lone × List ℕ} (g : Lone → Lone × List ℕ) {one : List ℕ}
      (b : BringsAlone writes old new S f one) → is_none b.after.node ≡ true → ((l : Lone) → is_none l.node ≡ true → g l ≡ (l, []))
      → BringsAlone writes old new S (λ m. then_does g (f m)) one
  brings_stopped {old} {new} {S} {f} g {one} b gone nothing = record {
    after = b.after;
    stands = b.stands;
    sure = b.sure;
    torn = b.torn;
    made = b.made;
    is = λ m foretold.
        let k : Lone = record b.after { memory = after_planned (b.sure ++ b.torn) m } in
        ap (then_does g) (b.is m foretold)
        ∙ (ap (λ (y : Lone × List ℕ). (y.0, one ++ y.1)) (nothing k gone) ∙ ap (λ bytes. (k, bytes)) (append-nil one));
  }

  -- said in other words
  pub brings_as : {old new : N} {S : Lone → Type 0} {f : Memory → Lone × List ℕ} (g : Memory → Lone × List ℕ) {one : List ℕ}
      (b : BringsAlone writes old new S f one) → ((m : Memory) → g m ≡ f m) → BringsAlone writes old new S g one
  brings_as g b same = grind arith

  -- nothing came
  pub brings_nothing : {old : N} (S : Lone → Type 0) (l : Lone) → S l → is_none l.node ≡ false
      → BringsAlone writes old old S (λ m. (record l { memory = m }, [])) []
  brings_nothing {old} S l stands live =
      let P : Bool → Type 0 = λ t. WereMade writes [] [] old t old in
      record {
        after = l;
        stands = stands;
        sure = [];
        torn = [];
        made = subst P (sym live) (refl, (refl, refl));
        is = λ m foretold. refl;
      }

-- ---- what a node did alone, as it was written

-- a node that runs has its power
pub alone_is_live : {N : Type 0} {n : Node N} {l : Lone} {frames : List Control} → RunsAlone n l frames → is_none l.node ≡ false
alone_is_live a = ap (λ o. is_none o) a.node_is

-- with this memory
abbrev pub over : Lone → Memory → Lone
over l m = record l { memory = m }

-- A node made a step: so says the definition for each plan that foretells what became of its writes. These frames are to go out then. Where
-- the step asks for a reset, the end takes one behind it.
pub record StepsAlone {N : Type 0} (writes : N → ℕ → List ℕ → Bool → N → Type 0) (old new : N) (n : Node N)
    (stopped : Bool) (cause : LoneCause) (l : Lone) : Type 0 where
  pub after : Lone
  pub frames : List Control
  pub few : length frames ≤ 17
  pub stopped_is : stopped ≡ is_none after.node
  pub runs : stopped ≡ false → RunsAlone n after frames
  pub none : stopped ≡ true → frames ≡ []
  pub ready : asks_reset l cause ≡ true → stopped ≡ false → reset_refusal after.side ≡ None
  pub sure : List Write
  pub torn : List Write
  pub made : WereMade writes sure torn old stopped new
  pub is : (form : EndForm) (m : Memory) → Foretells m.plan sure torn stopped
      → does_alone form (over l m) cause ≡ (over after (after_planned (sure ++ torn) m), frames_written form l.number frames)

one_answered : (form : EndForm) (c : LoneCause) (l : Lone) → all_answered form l (c ∷ []) ≡ answers_alone form l c
one_answered form c l = ap (λ bytes. ((answers_alone form l c).0, bytes)) (append-nil (answers_alone form l c).1)

-- one more of a list
pub next_of : {X Y : Type 0} (f : X → Y) (xs : List X) (i : ℕ) (x : X) → i < length xs → x ≡ get_or xs i x
    → map f (take (i + 1) xs) ≡ map f (take i xs) ++ f x ∷ []
next_of f xs i x within is =
    ap (map f) (take_more xs i x within) ∙ (map-append f (take i xs) (get_or xs i x ∷ []) ∙ ap (λ y. map f (take i xs) ++ f y ∷ []) (sym is))

-- all of it
pub parts_of : {X Y : Type 0} (f : X → Y) (xs : List X) (n : ℕ) → map f (take n xs) ++ map f (drop n xs) ≡ map f xs
parts_of f xs n = sym (map-append f (take n xs) (drop n xs)) ∙ ap (map f) (take-append-drop n xs)

module _ {N : Type 0} (writes : N → ℕ → List ℕ → Bool → N → Type 0) (form : EndForm) where
  -- a step was made, and its frames were written; its end takes the reset that it asks for
  pub stepped_ready : (n later : Node N) {old new : N} {stopped asks : Bool} (c : LoneCause) (l : Lone) {before now : List ℕ}
      (s : StepsAlone writes old new n stopped c l) → now ≡ before ++ frames_written form l.number s.frames
      → (stopped ≡ false → RunsAlone later s.after []) → asks ≡ asks_reset l c
      → HasAnswered writes old new (RunsReady later stopped asks) (λ m. does_alone form (over l m) c) before now
  stepped_ready n later {old} {new} {stopped} {asks} c l s is runs same = record {
    given = frames_written form l.number s.frames;
    appended = is;
    brings = record {
      after = s.after;
      stands = ((s.stopped_is, runs), λ asked live. s.ready (sym same ∙ asked) live);
      sure = s.sure;
      torn = s.torn;
      made = let P : Bool → Type 0 = λ t. WereMade writes s.sure s.torn old t new in subst P s.stopped_is s.made;
      is = λ m foretold.
          let P : Bool → Type 0 = λ t. Foretells m.plan s.sure s.torn t in
          s.is form m (subst P (sym s.stopped_is) foretold);
    };
  }

  module _ (n : Node N) where
    -- what is known beside is left out
    pub as_yet : {old new : N} {stopped asks : Bool} {f : Memory → Lone × List ℕ} {before now : List ℕ}
        → HasAnswered writes old new (RunsReady n stopped asks) f before now → HasAnswered writes old new (RunsYet n stopped) f before now
    as_yet h = grind arith

    -- it has stopped: no reset comes
    pub stopped_then : {old new : N} (c : LoneCause) (l : Lone) {before now : List ℕ}
        → HasAnswered writes old new (RunsYet n true) (λ m. does_alone form (over l m) c) before now
        → HasAnswered writes old new (RunsYet n true) (λ m. answers_alone form (over l m) c) before now
    stopped_then {old} {new} c l {before} {now} h = record { given = h.given; appended = h.appended; brings = go (asks_reset l c) refl } where
      R : Lone → Lone × List ℕ
      R after = does_alone form after (ResetComes None)

      F : Memory → Lone × List ℕ
      F m = does_alone form (over l m) c

      go : (b : Bool) → asks_reset l c ≡ b → BringsAlone writes old new (RunsYet n true) (λ m. answers_alone form (over l m) c) h.given
      go true q =
          brings_as writes (λ m. answers_alone form (over l m) c)
          (brings_stopped writes R h.brings (sym h.brings.stands.0) (λ k gone. nothing_done form k (ResetComes None) gone))
          (λ m. ap (λ b. cond b (then_does R (F m)) (F m)) q)
      go false q = brings_as writes (λ m. answers_alone form (over l m) c) h.brings (λ m. ap (λ b. cond b (then_does R (F m)) (F m)) q)

    -- no reset is asked for
    pub without_reset : {old new : N} {stopped : Bool} (c : LoneCause) (l : Lone) {before now : List ℕ}
        → HasAnswered writes old new (RunsYet n stopped) (λ m. does_alone form (over l m) c) before now → asks_reset l c ≡ false
        → HasAnswered writes old new (RunsYet n stopped) (λ m. answers_alone form (over l m) c) before now
    without_reset c l h none = grind arith

    -- a reset is asked for, and comes
    pub with_reset : (later : Node N) {old mid new : N} {stopped : Bool} (c : LoneCause) (l : Lone) {before then_is now : List ℕ}
        → HasAnswered writes old mid (RunsReady n false true) (λ m. does_alone form (over l m) c) before then_is → asks_reset l c ≡ true
        → ((k : Lone) → RunsAlone n k [] → reset_refusal k.side ≡ None
        → HasAnswered writes mid new (RunsYet later stopped) (λ m. does_alone form (over k m) (ResetComes None)) then_is now)
        → HasAnswered writes old new (RunsYet later stopped) (λ m. answers_alone form (over l m) c) before now
    with_reset later c l {before = before} h asks reset =
        let b = h.brings in
        let r = reset b.after (b.stands.0.1 refl) (b.stands.1 refl refl) in
        let R : Lone → Lone × List ℕ = λ after. does_alone form after (ResetComes None) in
        record {
          given = h.given ++ r.given;
          appended = r.appended ∙ (ap (λ bytes. bytes ++ r.given) h.appended ∙ append_assoc before h.given r.given);
          brings = brings_as writes (λ m. answers_alone form (over l m) c) (brings_on writes R b (sym b.stands.0.0) r.brings)
              (λ m. ap (λ b. cond b (then_does R (does_alone form (over l m) c)) (does_alone form (over l m) c)) asks);
        }

    -- nothing came yet
    pub none_came : {old : N} (l : Lone) (before : List ℕ) → RunsAlone n l []
        → HasAnswered writes old old (RunsYet n false) (λ m. all_answered form (over l m) []) before before
    none_came l before a =
        let live = alone_is_live a in
        record {
          given = [];
          appended = sym (append-nil before);
          brings = brings_nothing writes (RunsYet n false) l (sym live, λ _. a) live;
        }

    -- one more comes
    pub one_more : (later : Node N) {old mid new : N} {stopped : Bool} (first : List LoneCause) (c : LoneCause) (l : Lone)
        {before then_is now : List ℕ} → HasAnswered writes old mid (RunsYet n false) (λ m. all_answered form (over l m) first) before then_is
        → ((k : Lone) → RunsAlone n k [] → HasAnswered writes mid new (RunsYet later stopped) (λ m. answers_alone form (over k m) c) then_is now)
        → HasAnswered writes old new (RunsYet later stopped) (λ m. all_answered form (over l m) (first ++ c ∷ [])) before now
    one_more later first c l {before = before} h next =
        let b = h.brings in
        let r = next b.after (b.stands.1 refl) in
        let R : Lone → Lone × List ℕ = λ after. all_answered form after (c ∷ []) in
        record {
          given = h.given ++ r.given;
          appended = r.appended ∙ (ap (λ bytes. bytes ++ r.given) h.appended ∙ append_assoc before h.given r.given);
          brings = brings_as writes (λ m. all_answered form (over l m) (first ++ c ∷ []))
              (brings_on writes R b (sym b.stands.0)
              (brings_as writes (λ m. R (record b.after { memory = m })) r.brings (λ m. one_answered form c (record b.after { memory = m }))))
              (λ m. all_answered-append form first (c ∷ []) (over l m));
        }

    -- it has stopped: nothing more is done
    pub stopped_with : {old new : N} (first later : List LoneCause) (l : Lone) {before now : List ℕ}
        → HasAnswered writes old new (RunsYet n true) (λ m. all_answered form (over l m) first) before now
        → HasAnswered writes old new (RunsYet n true) (λ m. all_answered form (over l m) (first ++ later)) before now
    stopped_with first later l h = record {
      given = h.given;
      appended = h.appended;
      brings = brings_as writes (λ m. all_answered form (over l m) (first ++ later))
          (brings_stopped writes (λ after. all_answered form after later) h.brings (sym h.brings.stands.0) (λ k gone. nothing_at_all form later k gone))
          (λ m. all_answered-append form first later (over l m));
    }

  -- one thing alone comes
  pub answers_one : {old new : N} {S : Lone → Type 0} (c : LoneCause) (l : Lone) {before now : List ℕ}
      → HasAnswered writes old new S (λ m. answers_alone form (over l m) c) before now
      → HasAnswered writes old new S (λ m. all_answered form (over l m) (c ∷ [])) before now
  answers_one c l h = record {
    given = h.given;
    appended = h.appended;
    brings = brings_as writes (λ m. all_answered form (over l m) (c ∷ [])) h.brings (λ m. one_answered form c (over l m));
  }

  -- said of other causes that are the same
  pub same_causes : {old new : N} {S : Lone → Type 0} (others : List LoneCause) {causes : List LoneCause} (l : Lone) → causes ≡ others
      → {before now : List ℕ} → HasAnswered writes old new S (λ m. all_answered form (over l m) causes) before now
      → HasAnswered writes old new S (λ m. all_answered form (over l m) others) before now
  same_causes others l is h = grind arith

  -- and with more that is known behind it
  pub stands_as : {old new : N} (S T : Lone → Type 0) (causes : List LoneCause) (l : Lone) → ((k : Lone) → S k → T k)
      → {before now : List ℕ} → HasAnswered writes old new S (λ m. all_answered form (over l m) causes) before now
      → HasAnswered writes old new T (λ m. all_answered form (over l m) causes) before now
  stands_as S T causes l more h = grind arith

-- ---- what a node alone answers to all that comes to it is the run of `end`

-- the node behind these causes, and what it wrote for them
abbrev whole : EndForm → Lone → List LoneCause → Lone × List ℕ
whole form l causes = (lone_after l causes, flat_map (event_written form l.number) (lone_events l causes))

by_power_number : (l : Lone) (c : LoneCause) (o : Option Running) → (does_by_power l c o).0.number ≡ l.number
by_power_number l c o = grind arith

step_number : (l : Lone) (c : LoneCause) → (lone_step l c).0.number ≡ l.number
step_number l c = by_power_number l c l.node

no_events : (l : Lone) (causes : List LoneCause) → is_some l.node ≡ false → lone_events l causes ≡ []
no_events l [] gone = refl
no_events l (c ∷ causes) gone = rw gone refl

none_some : (o : Option Running) → is_some o ≡ false → is_none o ≡ true
none_some o q = grind arith

after_gone : (form : EndForm) (l : Lone) (c : LoneCause) (causes : List LoneCause) → is_some l.node ≡ false
    → whole form l (c ∷ causes) ≡ then_does (λ a. whole form a causes) (does_alone form l c)
after_gone form l c causes gone =
    let nothing : does_alone form l c ≡ (l, []) = nothing_done form l c (none_some l.node gone) in
    let same : lone_after l (c ∷ causes) ≡ lone_after l causes = ap (λ (x : Lone × List ℕ). lone_after x.0 causes) nothing in
    let none : flat_map (event_written form l.number) (lone_events l (c ∷ causes)) ≡ [] = grind arith in
    let none_later : flat_map (event_written form l.number) (lone_events l causes) ≡ [] =
    ap (flat_map (event_written form l.number)) (no_events l causes gone) in
    ap (λ z. (z, flat_map (event_written form l.number) (lone_events l (c ∷ causes)))) same
    ∙ (ap (λ bytes. (lone_after l causes, bytes)) (none ∙ sym none_later) ∙ ap (then_does (λ a. whole form a causes)) (sym nothing))

after_on : (form : EndForm) (l : Lone) (c : LoneCause) (causes : List LoneCause) → is_some l.node ≡ true
    → whole form l (c ∷ causes) ≡ then_does (λ a. whole form a causes) (does_alone form l c)
after_on form l c causes on = grind arith

whole_then : (form : EndForm) (l : Lone) (c : LoneCause) (causes : List LoneCause)
    → whole form l (c ∷ causes) ≡ then_does (λ a. whole form a causes) (does_alone form l c)
whole_then form l c causes = go (is_some l.node) refl where
  go : (b : Bool) → is_some l.node ≡ b → whole form l (c ∷ causes) ≡ then_does (λ a. whole form a causes) (does_alone form l c)
  go true q = after_on form l c causes q
  go false q = after_gone form l c causes q

pub run_is : (form : EndForm) (causes : List LoneCause) (l : Lone)
    → all_answered form l causes ≡ (lone_after l (with_resets l causes), flat_map (event_written form l.number) (lone_events l (with_resets l causes)))
run_is form [] l = refl
run_is form (c ∷ causes) l = go (λ z. run_is form causes z) (asks_reset l c) refl where
  R : Lone → Lone × List ℕ
  R a = does_alone form a (ResetComes None)

  A : Lone → Lone × List ℕ
  A a = all_answered form a causes

  x : Lone × List ℕ
  x = does_alone form l c

  y : Lone × List ℕ
  y = R x.0

  go : ((z : Lone) → all_answered form z causes ≡ whole form z (with_resets z causes)) → (b : Bool) → asks_reset l c ≡ b
      → all_answered form l (c ∷ causes) ≡ whole form l (with_resets l (c ∷ causes))
  go again false q =
      ap (λ b. then_does A (cond b (then_does R x) x)) q
      ∙ (ap (λ (z : Lone × List ℕ). (z.0, x.1 ++ z.1)) (again x.0)
      ∙ (sym (whole_then form l c (with_resets x.0 causes))
      ∙ ap (λ b. whole form l (cond b (c ∷ ResetComes None ∷ with_resets y.0 causes) (c ∷ with_resets x.0 causes))) (sym q)))
  go again true q =
      let later : List LoneCause = with_resets y.0 causes in
      let v : Lone × List ℕ = whole form y.0 later in
      ap (λ b. then_does A (cond b (then_does R x) x)) q
      ∙ (ap (λ (z : Lone × List ℕ). (z.0, (x.1 ++ y.1) ++ z.1)) (again y.0)
      ∙ (ap (λ bytes. (v.0, bytes)) (append_assoc x.1 y.1 v.1)
      ∙ (ap (λ (u : Lone × List ℕ). (u.0, x.1 ++ u.1)) (sym (whole_then form x.0 (ResetComes None) later))
      ∙ (grind arith))))

-- bytes behind others
pub bytes_on : (form : EndForm) (number : ℕ) (first bytes older : List ℕ)
    → bytes_bring form number older (first ++ bytes) ≡ bytes_bring form number older first ++ bytes_bring form number (reverse first ++ older) bytes
bytes_on form number [] bytes older = refl
bytes_on form number (b ∷ first) bytes older =
    ap (λ z. byte_brings form number b older ++ z) (bytes_on form number first bytes (b ∷ older))
    ∙ (ap (λ z. byte_brings form number b older ++ (bytes_bring form number (b ∷ older) first ++ bytes_bring form number z bytes))
    (sym (append_assoc (reverse first) (b ∷ []) older) ∙ ap (λ z. z ++ older) (sym (reverse-append (b ∷ []) first)))
    ∙ sym (grind arith))

-- ---- a run grows by the bytes that come

run_more : (form : EndForm) (number : ℕ) (bytes more : List ℕ)
    → run_brings form number (bytes ++ more) ≡ run_brings form number bytes ++ bytes_bring form number (reverse bytes) more
run_more form number bytes more =
    let first : List LoneCause = first_comes form number in
    let so_far : List LoneCause = bytes_bring form number [] bytes in
    ap (λ z. first ++ z) (bytes_on form number bytes more [])
    ∙ (ap (λ z. first ++ (so_far ++ bytes_bring form number z more)) (append-nil (reverse bytes))
    ∙ sym (append_assoc first so_far (bytes_bring form number (reverse bytes) more)))

module _ {N : Type 0} (writes : N → ℕ → List ℕ → Bool → N → Type 0) (content : List ℕ) (first : N) where
  -- it begins
  pub has_begun : (n : Node N) (e : OneEnd N) (stopped : Bool) (now : List ℕ) → e.node.number ≡ n.number → HasBooted writes content first n
      → ((l : Lone) → RunsAlone n l [] → HasAnswered writes n.store.journal.nv e.node.store.journal.nv (IsAlone e [] stopped)
      (λ m. all_answered (form_named e.form) (over l m) (first_comes (form_named e.form) n.number)) [] now)
      → HasRun writes content first e stopped [] now
  has_begun n e stopped now same b begun =
      let form : EndForm = form_named e.form in
      let h = begun b.after b.stands in
      let G : Lone → Lone × List ℕ = λ a. all_answered form a (first_comes form n.number) in
      let on = brings_on writes G b (alone_is_live b.stands) h.brings in
      let F : ℕ → Memory → Lone × List ℕ = λ k m. all_answered form (booted_from k content m) (run_brings form k []) in
      let Run : ℕ → List ℕ → Type 0 = λ k bytes. BringsAlone writes first e.node.store.journal.nv (IsAlone e [] stopped) (F k) bytes in
      subst (λ k. Run k now) (sym same)
      (grind arith)

  -- more bytes come
  pub has_heard : (d e : OneEnd N) (more : List ℕ) (stopped : Bool) (bytes written before now : List ℕ) → e.form ≡ d.form
      → e.node.number ≡ d.node.number → HasRun writes content first d false bytes (written ++ before) → HearsAlone writes d e stopped more before now
      → HasRun writes content first e stopped (bytes ++ more) (written ++ now)
  has_heard d e more stopped bytes written before now same own b heard =
      let form : EndForm = form_named d.form in
      let number : ℕ = d.node.number in
      let h = heard b.after (reverse bytes) (b.stands.1 refl) in
      let G : Lone → Lone × List ℕ = λ a. all_answered form a (bytes_bring form number (reverse bytes) more) in
      let on = brings_on writes G b (sym b.stands.0) h.brings in
      let F : EndForm → ℕ → Memory → Lone × List ℕ = λ f k m. all_answered f (booted_from k content m) (run_brings f k (bytes ++ more)) in
      let Run : EndForm → ℕ → List ℕ → List ℕ → Type 0 =
      λ f k older all. BringsAlone writes first e.node.store.journal.nv (IsAlone e older stopped) (F f k) all in
      let older : List ℕ = reverse more ++ reverse bytes in
      let all : Run form number older (written ++ now) =
      subst (Run form number older) (append_assoc written before h.given ∙ ap (λ z. written ++ z) (sym h.appended))
      (brings_as writes (F form number) on (λ m. ap (all_answered form (booted_from number content m)) (run_more form number bytes more)
      ∙ all_answered-append form (run_brings form number bytes) (bytes_bring form number (reverse bytes) more) (booted_from number content m))) in
      subst (λ f. Run (form_named f) e.node.number (reverse (bytes ++ more)) (written ++ now)) (sym same)
      (subst (λ k. Run form k (reverse (bytes ++ more)) (written ++ now)) (sym own)
      (subst (λ z. Run form number z (written ++ now)) (sym (reverse-append bytes more)) all))

-- bytes came that brought this, which it answered
pub heard_so : {N : Type 0} (writes : N → ℕ → List ℕ → Bool → N → Type 0) (d e : OneEnd N) {causes : List LoneCause} {stopped : Bool} (came : List ℕ)
    {before now : List ℕ} (l : Lone) (older : List ℕ) → StandsAlone d l older → form_read e.reader ≡ form_named e.form → e.node.number ≡ d.node.number
    → ReaderStandsFor e.reader d.node.number (reverse came ++ older) → causes ≡ bytes_bring (form_named d.form) d.node.number older came
    → HasAnswered writes d.node.store.journal.nv e.node.store.journal.nv (RunsYet e.node stopped)
    (λ m. all_answered (form_named d.form) (over l m) causes) before now
    → HasAnswered writes d.node.store.journal.nv e.node.store.journal.nv (IsAlone e (reverse came ++ older) stopped)
    (λ m. all_answered (form_named d.form) (over l m) (bytes_bring (form_named d.form) d.node.number older came)) before now
heard_so writes d e came l older s form_is own reads is h = grind arith

-- a whole unit came, and the frame in it, which it answered
pub unit_heard : {N : Type 0} (writes : N → ℕ → List ℕ → Bool → N → Type 0) (d : OneEnd N) (node : Node N) {stopped : Bool} (came lpdu sent : List ℕ)
    {before now : List ℕ} → sent ≡ lpdu → node.number ≡ d.node.number
    → ((number : ℕ) (older : List ℕ) → ReaderStandsFor d.reader number older → ReaderStandsFor d.reader number (reverse came ++ older))
    → ((number : ℕ) (older : List ℕ) → ReaderStandsFor d.reader number older
    → bytes_bring (form_read d.reader) number older came ≡ FrameComes lpdu ∷ [])
    → ((l : Lone) → RunsAlone d.node l [] → HasAnswered writes d.node.store.journal.nv node.store.journal.nv (RunsYet node stopped)
    (λ m. answers_alone (form_named d.form) (over l m) (FrameComes sent)) before now)
    → HearsAlone writes d (record d { node = node }) stopped came before now
unit_heard writes d node came lpdu sent is own stands brings answered l older s =
    let number : ℕ = d.node.number in
    heard_so writes d (record d { node = node }) came l older s s.form_is own (stands number older s.reads)
    (ap (λ xs. FrameComes xs ∷ []) is ∙ (sym (brings number older s.reads) ∙ ap (λ f. bytes_bring f number older came) s.form_is))
    (answers_one writes (form_named d.form) (FrameComes sent) l (answered l s.runs))

-- so it may go on
pub goes_on : {N : Type 0} (writes : N → ℕ → List ℕ → Bool → N → Type 0) (d e : OneEnd N) (more : List ℕ) (stopped : Bool) {before now : List ℕ}
    → HearsAlone writes d e stopped more before now → (l : Lone) × (older : List ℕ) × StandsAlone d l older → stopped ≡ false
    → (l : Lone) × (older : List ℕ) × StandsAlone e l older
goes_on writes d e more stopped heard (l, older, s) on =
    let b = (heard l older s).brings in
    (b.after, reverse more ++ older, b.stands.1 on)

-- that is a whole run
pub is_run_of : {N : Type 0} (writes : N → ℕ → List ℕ → Bool → N → Type 0) (is_clf : Bool) (content : List ℕ) (first : N) (e : OneEnd N)
    (stopped : Bool) (bytes written : List ℕ) → e.node.number ≡ cond is_clf 0 2 → HasRun writes content first e stopped bytes written
    → IsRunOfBytes writes first e.node.store.journal.nv stopped (form_named e.form) is_clf content bytes written
is_run_of {N} writes is_clf content first e stopped bytes written role b =
    let form : EndForm = form_named e.form in
    let number : ℕ = cond is_clf 0 2 in
    let F : ℕ → Memory → Lone × List ℕ = λ k m. all_answered form (booted_from k content m) (run_brings form k bytes) in
    let total : (m : Memory) → Foretells m.plan b.sure b.torn stopped
    → (lone_after (end_booted is_clf content m) (end_causes form (end_booted is_clf content m) bytes), end_written form (end_booted is_clf content m) bytes)
    ≡ (record b.after { memory = after_planned (b.sure ++ b.torn) m }, written) =
    λ m f.
    sym (run_is form (run_brings form number bytes) (end_booted is_clf content m))
    ∙ (ap (λ k. F k m) (sym role) ∙ b.is m (subst (λ t. Foretells m.plan b.sure b.torn t) b.stands.0 f)) in
    record {
      sure = b.sure;
      torn = b.torn;
      made = let P : Bool → Type 0 = λ t. WereMade writes b.sure b.torn first t e.node.store.journal.nv in subst P (sym b.stands.0) b.made;
      wrote = λ m f. ap (λ (z : Lone × List ℕ). z.1) (total m f);
      behind = λ m f. ap (λ (z : Lone × List ℕ). z.0.memory) (total m f);
      runs = λ m f. ap (λ (z : Lone × List ℕ). is_none z.0.node) (total m f) ∙ sym b.stands.0;
    }

-- ---- bytes that a reader took one behind another

-- where the first reader stood for what came before, the second stands for these bytes too, the oldest first, and this is what they brought
pub record HasReadOn (old new : Reader) (bytes : List ℕ) (causes : List LoneCause) : Type 0 where
  pub form : form_read new ≡ form_read old
  pub stands : (number : ℕ) (older : List ℕ) → ReaderStandsFor old number older → ReaderStandsFor new number (reverse bytes ++ older)
  pub brings : (number : ℕ) (older : List ℕ) → ReaderStandsFor old number older → bytes_bring (form_read old) number older bytes ≡ causes

pub nothing_read : (reader : Reader) → HasReadOn reader reader [] []
nothing_read reader = record { form = refl; stands = λ number older s. s; brings = λ number older s. refl }

-- one byte
pub one_read : (old new : Reader) (byte : ℕ) (causes : List LoneCause) → form_read new ≡ form_read old
    → ((number : ℕ) (older : List ℕ) → ReaderStandsFor old number older → ReaderStandsFor new number (byte ∷ older))
    → ((number : ℕ) (older : List ℕ) → ReaderStandsFor old number older → causes ≡ byte_brings (form_read old) number byte older)
    → HasReadOn old new (byte ∷ []) causes
one_read old new byte causes form stands brings = record {
  form = form;
  stands = stands;
  brings = λ number older s. append-nil (byte_brings (form_read old) number byte older) ∙ sym (brings number older s);
}

-- further bytes behind those
pub read_further : (old mid new : Reader) (first second : List ℕ) (causes more : List LoneCause) → HasReadOn old mid first causes
    → HasReadOn mid new second more → HasReadOn old new (first ++ second) (causes ++ more)
read_further old mid new first second causes more h k =
    let onto : (older : List ℕ) → reverse second ++ (reverse first ++ older) ≡ reverse (first ++ second) ++ older = λ older.
    sym (append_assoc (reverse second) (reverse first) older) ∙ ap (λ z. z ++ older) (sym (reverse-append first second)) in
    record {
      form = k.form ∙ h.form;
      stands = λ number older s. subst (ReaderStandsFor new number) (onto older) (k.stands number (reverse first ++ older) (h.stands number older s));
      brings = λ number older s.
          bytes_on (form_read old) number first second older
          ∙ ap₂ (λ a b. a ++ b) (h.brings number older s)
          (grind arith);
    }

-- some of those behind a place, which bring nothing
pub passed_further : (old mid new : Reader) (bytes : List ℕ) (n k m : ℕ) → k ≤ m → HasReadOn old mid (take n bytes) []
    → HasReadOn mid new (take k (take m (drop n bytes))) [] → HasReadOn old new (take (n + k) bytes) []
passed_further old mid new bytes n k m within h more =
    subst (λ came. HasReadOn old new came [])
    (ap (λ z. take n bytes ++ z) (take-take k m (drop n bytes) within) ∙ sym (take-add n k bytes))
    (read_further old mid new (take n bytes) (take k (take m (drop n bytes))) [] [] h more)

-- and the one behind them
pub heard_further : (old mid new : Reader) (bytes : List ℕ) (n : ℕ) (causes : List LoneCause) → n < length bytes → HasReadOn old mid (take n bytes) []
    → HasReadOn mid new (get_or bytes n 0 ∷ []) causes → HasReadOn old new (take (n + 1) bytes) causes
heard_further old mid new bytes n causes within h more =
    subst (λ came. HasReadOn old new came causes) (sym (take_more bytes n 0 within))
    (read_further old mid new (take n bytes) (get_or bytes n 0 ∷ []) [] causes h more)
