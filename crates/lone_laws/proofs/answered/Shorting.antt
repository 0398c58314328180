-- Behind each step of a node alone that runs on, the first message that came and had no turn lacks room.
use Rattle.lone_laws.proofs.Words.{AllByRecursion, AllByRecursion-append, AreAlong, BeginWithTurn, Bool, ComesTo, Control, Core, End, Entry, ErrorCount}
use Rattle.lone_laws.proofs.Words.{IsBehind, LinkInput, List, Lone, LoneCause, Message, None, Option, Port, Running, Some, Work, [], ap, append-nil}
use Rattle.lone_laws.proofs.Words.{append_assoc, ap₂, arith, cond, core_noted, core_since, deeds_for, emits_behind, end_of_node, end_of_node_alone}
use Rattle.lone_laws.proofs.Words.{end_of_number, eqb, errors_found, errors_since, false, first_lack, fold, fold-append, frames_behind, is_held_at}
use Rattle.lone_laws.proofs.Words.{is_left_lacking, is_none, is_some, is_up_read, lack_since, links_of_turns, lone_input, lpdu_of, map, needs, oldest}
use Rattle.lone_laws.proofs.Words.{option_and_then, option_map_or, refl, session_with, spare_at, spare_with_link, subst, sym, true, unhandled_after}
use Rattle.lone_laws.proofs.Words.{unhandled_in, view_with_link, waiting_at, ℕ, ◌++◌, ◌||◌, ◌∙◌, ◌∷◌, ◌≡◌, ◌≤◌}
use Rattle.trace_model.specs.declared.entry.Entry.TheVariants as entry
use Rattle.node_laws.specs.passes.Passing.{Stays}
use Rattle.lone_laws.proofs.answered.Reading.{eqb_same, Read, Alone, left_is}
use Rattle.lone_laws.proofs.answered.Talking.{AreSilent, IsSilent, sessions_same, spares_same}
use Rattle.lone_laws.proofs.answered.Knowing.{begin_read, begun, ended, left_so, was_on}
use Rattle.lone_laws.proofs.answered.Replied.{IsSettled, KnowsAll, errs-append, errs_all, settled_errs}
use Rattle.lone_laws.proofs.answered.Answering.{all_at, its_lack}
use Rattle.lone_laws.proofs.answered.Keeping.{core_of, KeepsAll, all_passing}

-- an entry that changes nothing of what is read of a reply
abbrev pub IsIdle : End → ℕ → Entry → Type 0
IsIdle e n x = ((c : Core) → core_noted c x ≡ c) × IsSilent x × IsSettled e x × ((ms : List Message) → unhandled_after e ms x ≡ ms)

idle_core : (e : End) (n : ℕ) (es : List Entry) → AllByRecursion (IsIdle e n) es → (c : Core) → fold core_noted c es ≡ c
idle_core e n [] a c = refl
idle_core e n (x ∷ es) a c = ap (λ d. fold core_noted d es) (a.0.0 c) ∙ idle_core e n es a.1 c

idle_silent : (e : End) (n : ℕ) (es : List Entry) → AllByRecursion (IsIdle e n) es → AreSilent es
idle_silent e n [] a = tt
idle_silent e n (x ∷ es) a = (a.0.1, idle_silent e n es a.1)

idle_left : (e : End) (n : ℕ) (es : List Entry) → AllByRecursion (IsIdle e n) es → (ms : List Message) → fold (unhandled_after e) ms es ≡ ms
idle_left e n [] a ms = refl
idle_left e n (x ∷ es) a ms = ap (λ d. fold (unhandled_after e) d es) (a.0.3 ms) ∙ idle_left e n es a.1 ms

idle_settled : (e : End) (n : ℕ) (es : List Entry) → AllByRecursion (IsIdle e n) es → AllByRecursion (IsSettled e) es
idle_settled e n [] a = tt
idle_settled e n (x ∷ es) a = (a.0.2, idle_settled e n es a.1)

emits_idle : (e f : End) (n : ℕ) (frames : List Control) → AllByRecursion (IsIdle e n) (map (λ c. entry.Emit f (lpdu_of c)) frames)
emits_idle e f n [] = tt
emits_idle e f n (c ∷ frames) = (((λ z. refl), tt, ((λ z. refl), tt), (λ z. refl)), emits_idle e f n frames)

-- what a message lacks, by what is read
abbrev lacks_of : ℕ → Message → Core → Bool → ℕ → ℕ → Option (ℕ × ℕ)
lacks_of h m c up spare errors =
    first_lack (spare_with_link h spare) (needs h (deeds_for (view_with_link c h (record { up = up; errors = errors }) spare) h m))

module _ (F : Core) (h : ℕ) where
  abbrev e : End
  e = end_of_node_alone F.node h

  module _ (T X : List Entry) (idle : AllByRecursion (IsIdle e F.node) X) where
    core_same : core_since F (T ++ X) ≡ core_since F T
    core_same = fold-append core_noted F T X ∙ idle_core e F.node X idle (core_since F T)

    up_same : is_up_read (T ++ X) F.node h ≡ is_up_read T F.node h
    up_same = ap is_some (sessions_same (end_of_number F.node h) F.node T X (idle_silent e F.node X idle))

    errors_same : errors_since F e (T ++ X) ≡ errors_since F e T
    errors_same =
        ap (λ (r : ErrorCount). r.errors) (errs-append e (errors_found F) T X)
        ∙ settled_errs e X (idle_settled e F.node X idle) (errs_all e (errors_found F) T)

    pub left_same : unhandled_in (T ++ X) e ≡ unhandled_in T e
    left_same = fold-append (unhandled_after e) [] T X ∙ idle_left e F.node X idle (unhandled_in T e)

    pub lack_same_there : (m : Message) → lack_since F h (T ++ X) m ≡ lack_since F h T m
    lack_same_there m =
        let c : Core = core_since F T in
        ap (λ d. lacks_of h m d (is_up_read (T ++ X) F.node h) (spare_at (T ++ X) e) (errors_since F e (T ++ X))) core_same
        ∙ (ap (λ d. lacks_of h m c d (spare_at (T ++ X) e) (errors_since F e (T ++ X))) up_same
        ∙ (ap (λ d. lacks_of h m c (is_up_read T F.node h) d (errors_since F e (T ++ X))) (spares_same e T X (idle_silent e F.node X idle))
        ∙ ap (λ d. lacks_of h m c (is_up_read T F.node h) (spare_at T e) d) errors_same))

-- nothing comes behind the one end
none_behind : (back : List Entry) → BeginWithTurn back → AreAlong [] (links_of_turns back) → back ≡ []
none_behind back begin along = grind arith

-- ## A step

module _ (rest : Core) (t : List Entry) (l : Lone) (some : 1 ≤ l.link) (most : l.link ≤ 7) (its : eqb l.number 0 ≡ false → l.number ≡ l.link) (n : Running)
    (k : KeepsAll rest t l n) (c : LoneCause) (i : LinkInput) (comes : lone_input c ≡ Some i) where
  abbrev s : ℕ
  s = session_with l i

  abbrev G : Core
  G = core_of rest l.number

  abbrev f : End
  f = end_of_node_alone l.number l.link

  abbrev passing : Work
  passing = begun G t l some most n k.keep c i comes

  abbrev last : Work
  last = ended G t l some most n k.keep c i comes

  abbrev emits : List Entry
  emits = emits_behind l last

  held_idle : (b : Bool) (x : End) (short : ℕ × ℕ) → AllByRecursion (IsIdle f l.number) (cond b [] (entry.Held x short.0 short.1 ∷ []))
  held_idle b x short = grind arith

  pub short_behind : last.cut ≡ false → is_left_lacking G l.link (t ++ (last.entries ++ emits)) ≡ true
  short_behind still =
      let b : IsBehind (ComesTo passing) passing last [] l.link [] = left_so G t l some most n k.keep c i comes still in
      let on : passing.cut ≡ false = was_on G t l some most n k.keep c i comes still in
      let K : KnowsAll rest l.number l.link some most s t b.work =
      all_at rest l.number l.link some most s t its passing b.work (all_passing rest t l some most its n k c i comes on) b.keeps in
      let T : List Entry = t ++ b.work.entries in
      let own : List Entry = b.own ++ emits in
      let is : t ++ (last.entries ++ emits) ≡ T ++ own =
      ap (λ es. t ++ (es ++ emits)) (b.all ∙ (ap (λ es. (passing.entries ++ b.front) ++ (b.own ++ es)) (none_behind b.back b.next b.behind)
      ∙ ap₂ (λ x y. x ++ y) (sym b.entries) (append-nil b.own)))
      ∙ (ap (λ es. t ++ es) (append_assoc b.work.entries b.own emits) ∙ sym (append_assoc t b.work.entries own)) in
      ap (is_left_lacking G l.link) is ∙ go b.work K b.on b.own (waiting_at b.work.ports l.link) refl b.stays where
        got : (w : Work) (K : KnowsAll rest l.number l.link some most s t w) → unhandled_in (t ++ w.entries) f ≡ waiting_at w.ports l.link
        got w K =
            let a : Alone l.number l.link (begin_read G) t w = K.known.keeps in
            sym (left_is f (t ++ w.entries) (begin_read G)) ∙ (ap (λ (z : Read). z.left) a.read
            ∙ sym (ap (λ ps. waiting_at ps l.link) a.ports_are
            ∙ ap (λ z. option_map_or (λ (p : Port). p.side.got) (cond z (Some a.port) None) []) (ap (λ x. eqb x l.link) a.host ∙ eqb_same l.link)))

        by : (T own : List Entry) (ms : List Message) → AllByRecursion (IsIdle f l.number) own → unhandled_in T f ≡ ms
            → ((m : Message) (messages : List Message) → ms ≡ m ∷ messages → is_some (lack_since G l.link T m) ≡ true)
            → is_left_lacking G l.link (T ++ own) ≡ true
        by T own [] idle left lacks = ap
            (λ z. is_none (oldest z) || is_some (option_and_then (lack_since G l.link (T ++ own)) (oldest z))) (left_same G l.link T own idle ∙ left)
        by T own (m ∷ messages) idle left lacks =
            ap (λ z. is_none (oldest z) || is_some (option_and_then (lack_since G l.link (T ++ own)) (oldest z))) (left_same G l.link T own idle ∙ left)
            ∙ (ap is_some (lack_same_there G l.link T own idle m) ∙ lacks m messages refl)

        go : (w : Work) (K : KnowsAll rest l.number l.link some most s t w) → w.cut ≡ false → (own : List Entry) (ms : List Message)
            → waiting_at w.ports l.link ≡ ms
            → Stays w last l.link own (waiting_at w.ports l.link) → is_left_lacking G l.link ((t ++ w.entries) ++ (own ++ emits)) ≡ true
        go w K on own [] q stays =
            let none : own ≡ [] = subst (Stays w last l.link own) q stays in
            by (t ++ w.entries) (own ++ emits) []
            (AllByRecursion-append (IsIdle f l.number) own emits (subst (AllByRecursion (IsIdle f l.number)) (sym none) tt) (emits_idle f f l.number
            (frames_behind l last)))
            (got w K ∙ q) (λ m messages z. absurd (cc z))
        go w K on own (m ∷ messages) q stays =
            let so = subst (Stays w last l.link own) q stays in
            by (t ++ w.entries) (own ++ emits) (m ∷ messages)
            (AllByRecursion-append (IsIdle f l.number) own emits
            (subst (AllByRecursion (IsIdle f l.number)) (sym so.3) (held_idle (is_held_at w.ports l.link) (end_of_node w.core l.link) so.0))
            (emits_idle f f l.number (frames_behind l last)))
            (got w K ∙ q)
            (λ m2 others z.
            let same : m ≡ m2 = cc in
            subst (λ x. is_some (lack_since G l.link (t ++ w.entries) x) ≡ true) same
            (ap is_some (its_lack rest l.number l.link some most s t its w K on l.link m messages q ∙ so.1)))
