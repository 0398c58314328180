-- A fact of a node is carried through its pass, turn by turn; and what the pass leaves at each end.
use Rattle.node_laws.proofs.Words.{AllByRecursion, AreAlong, AreNoTurns, ArePassed, BeginWithTurn, Bool, ComesTo, Core, Deed, Desk, Entry, FetchMessage}
use Rattle.node_laws.proofs.Words.{HadTurn, Handles, Hold, Holds, IsBehind, IsNoTurn, IsTurnSo, LastsOverTurns, LetsGo, List, Message, None, Option, Port, Some}
use Rattle.node_laws.proofs.Words.{Stays, WasHeld, Work, [], after_turn, ap, append-nil, append_assoc, arith, by_list, by_option, by_test, cond, deeds_of, drop}
use Rattle.node_laws.proofs.Words.{end_of_node, false, filter_map-append, goes_through_ends, handles, have_turns, holds_back, inl, inr, is_held, is_held_at}
use Rattle.node_laws.proofs.Words.{lacking, lets_go, link_of_turn, links_of_turns, noted_by_deeds, noting, option_map_or, port_at, refl, subst, sym, takes_up}
use Rattle.node_laws.proofs.Words.{true, true≢false, turn_at, unless_cut, waiting_at, with_desk, ℕ, ◌++◌, ◌==◌, ◌∙◌, ◌∷◌, ◌≡◌, ◌⊎◌}
use Rattle.node_laws.specs.passes.Passing.ComesTo.{Begins}
use Rattle.node_laws.proofs.kept.Doing.{stays_cut, uncut}
use Rattle.node_laws.proofs.passes.Replying.{HasFirst, Sees, SeesAt, deeds_see, has_first, lets_see, other_stays, own_changed, turn_sees}
use Rattle.node_laws.proofs.passes.InSteps.{deeds_note_of_notes as deeds_note, reply_none}
use Rattle.node_laws.proofs.steps.StepWalks.{unless as unless_lost}
use Rattle.trace_model.specs.declared.entry.Entry.TheVariants as entry

-- ## A fact of a node is carried through its pass, to each turn of it

-- ### Lists of entries

-- an entry stands in the first of two lists, or in the second
record StandsFirst (piece more front back : List Entry) (x : Entry) : Type 0 where
  pub between : List Entry
  pub is : piece ≡ front ++ (x ∷ between)
  pub behind : back ≡ between ++ more

record StandsSecond (piece more front back : List Entry) (x : Entry) : Type 0 where
  pub between : List Entry
  pub before : front ≡ piece ++ between
  pub is : more ≡ between ++ (x ∷ back)

either_stands : (piece more front back : List Entry) (x : Entry) → piece ++ more ≡ front ++ (x ∷ back)
    → StandsFirst piece more front back x ⊎ StandsSecond piece more front back x
either_stands [] more front back x e = inr (record { between = front; before = refl; is = e })
either_stands (y ∷ piece) more [] back x e = grind arith
either_stands (y ∷ piece) more (z ∷ front) back x e =
    let same : y ≡ z = cc in
    let left : piece ++ more ≡ front ++ (x ∷ back) = cc in go same (either_stands piece more front back x left)
  where
    go : y ≡ z → StandsFirst piece more front back x ⊎ StandsSecond piece more front back x
        → StandsFirst (y ∷ piece) more (z ∷ front) back x ⊎ StandsSecond (y ∷ piece) more (z ∷ front) back x
    go same a = grind arith

no_links : (es : List Entry) → AreNoTurns es → links_of_turns es ≡ []
no_links [] a = refl
no_links (x ∷ es) a = rw a.0 (no_links es a.1)

pub links_behind : (es more : List Entry) → AreNoTurns es → links_of_turns (es ++ more) ≡ links_of_turns more
links_behind [] more a = refl
links_behind (x ∷ es) more a = rw a.0 (links_behind es more a.1)

-- what stands in entries without turns is no turn
stands_none : (es front back : List Entry) (x : Entry) → AreNoTurns es → es ≡ front ++ (x ∷ back) → IsNoTurn x
stands_none [] [] back x a e = absurd (cc e)
stands_none [] (z ∷ front) back x a e = absurd (cc e)
stands_none (y ∷ es) [] back x a e = let same : y ≡ x = cc in subst IsNoTurn same a.0
stands_none (y ∷ es) (z ∷ front) back x a e = let left : es ≡ front ++ (x ∷ back) = cc in stands_none es front back x a.1 left

-- ### Powers

module _ (J : Work → Type 0) (lasts : LastsOverTurns J) where
  no_turn_passed : (w : Work) (front back : List Entry) (x : Entry) → IsNoTurn x → IsTurnSo J w front x back
  no_turn_passed w front back x n = grind arith

  -- ### Further on

  -- behind what is noted in between
  module _ (w v : Work) (piece : List Entry) (entries : v.entries ≡ w.entries ++ piece) where
    joined : (u front : List Entry) → u ≡ v.entries ++ front → u ≡ w.entries ++ (piece ++ front)
    joined u front e = e ∙ (ap (λ es. es ++ front) entries ∙ append_assoc w.entries piece front)

    passed_then : (front back : List Entry) (x : Entry) → IsTurnSo J v front x back → IsTurnSo J w (piece ++ front) x back
    passed_then front back (entry.Turn e pid message) a = record {
      work = a.work;
      host = a.host;
      keeps = a.keeps;
      on = a.on;
      entries = joined a.work.entries front a.entries;
      its_end = a.its_end;
      messages = a.messages;
      waiting = a.waiting;
      room = a.room;
      later = a.later;
      notes = a.notes;
      next = a.next;
      power = a.power;
    }
    passed_then front back (entry.Held e need spare) a = record {
      work = a.work;
      host = a.host;
      keeps = a.keeps;
      on = a.on;
      entries = joined a.work.entries front a.entries;
      its_end = a.its_end;
      message = a.message;
      messages = a.messages;
      waiting = a.waiting;
      lacks = a.lacks;
      fresh = a.fresh;
      next = a.next;
    }
    passed_then front back x a = tt

    -- a pass that goes on from v
    goes_further : (hosts : List ℕ) (u : Work) (others : List ℕ) (rest : ArePassed J hosts v u)
        → ((front back : List Entry) (x : Entry) → piece ≡ front ++ (x ∷ back) → IsTurnSo J w front x (back ++ rest.more))
        → BeginWithTurn (piece ++ rest.more) → AreAlong others (links_of_turns (piece ++ rest.more)) → ArePassed J others w u
    goes_further hosts u others rest first begin along = record {
      more = piece ++ rest.more;
      entries = joined u.entries rest.more rest.entries;
      keeps = rest.keeps;
      begin = begin;
      each = λ front back x e. by front back x (either_stands piece rest.more front back x e);
      along = along;
    } where
      by : (front back : List Entry) (x : Entry)
          → StandsFirst piece rest.more front back x ⊎ StandsSecond piece rest.more front back x → IsTurnSo J w front x back
      by front back x (inl s) = subst (IsTurnSo J w front x) (sym s.behind) (first front s.between x s.is)
      by front back x (inr s) =
          subst (λ f. IsTurnSo J w f x back) (sym s.before) (passed_then s.between back x (rest.each s.between back x s.is))

  -- ### What is noted of one turn

  module _ (w : Work) (j : J w) (on : w.cut ≡ false) (h : ℕ) (m : Message) (messages : List Message) (waiting : waiting_at w.ports h ≡ m ∷ messages) where
    abbrev deeds : List Deed
    deeds = deeds_of w.core w.ports h m

    abbrev told : List Entry
    told = noted_by_deeds h deeds (takes_up h m w)

    abbrev turned : List Entry
    turned = entry.Turn (end_of_node w.core h) m.0 m.1 ∷ told

    module _ (room : lacking w h m ≡ None) (more : List Entry) (next : BeginWithTurn more)
        (power : (handles h m deeds w).cut ≡ true → more ≡ []) where
      had : HadTurn J w [] (end_of_node w.core h) m (told ++ more)
      had = record {
        work = w;
        host = h;
        keeps = j;
        on = on;
        entries = sym (append-nil w.entries);
        its_end = refl;
        messages = messages;
        waiting = waiting;
        room = room;
        later = more;
        notes = refl;
        next = next;
        power = power;
      }

      turned_passed : (front back : List Entry) (x : Entry) → turned ≡ front ++ (x ∷ back) → IsTurnSo J w front x (back ++ more)
      turned_passed [] back x e =
          let same : entry.Turn (end_of_node w.core h) m.0 m.1 ≡ x = cc in
          let rest : told ≡ back = cc in
          subst (λ y. IsTurnSo J w [] y (back ++ more)) same
          (subst (λ l. HadTurn J w [] (end_of_node w.core h) m (l ++ more)) rest had)
      turned_passed (z ∷ front) back x e =
          no_turn_passed w (z ∷ front) (back ++ more) x
          (stands_none told front back x (reply_none w.core w.ports h m (takes_up h m w)) cc)

    abbrev held_so : ℕ × ℕ → List Entry
    held_so short = cond (is_held_at w.ports h) [] (entry.Held (end_of_node w.core h) short.0 short.1 ∷ [])

    module _ (short : ℕ × ℕ) (lacks : lacking w h m ≡ Some short) (more : List Entry) (next : BeginWithTurn more) where
      held_passed : (front back : List Entry) (x : Entry) → held_so short ≡ front ++ (x ∷ back) → IsTurnSo J w front x (back ++ more)
      held_passed = by (is_held_at w.ports h) refl
        where
          one : Entry
          one = entry.Held (end_of_node w.core h) short.0 short.1

          by : (b : Bool) → is_held_at w.ports h ≡ b → (front back : List Entry) (x : Entry)
              → cond b [] (one ∷ []) ≡ front ++ (x ∷ back) → IsTurnSo J w front x (back ++ more)
          by true q [] back x e = absurd (cc e)
          by true q (z ∷ front) back x e = absurd (cc e)
          by false q [] back x e =
              let same : one ≡ x = cc in
              let rest : [] ≡ back = cc in
              subst (λ y. IsTurnSo J w [] y (back ++ more)) same
              (subst (λ l. WasHeld J w [] (end_of_node w.core h) short (l ++ more)) rest (record {
                work = w;
                host = h;
                keeps = j;
                on = on;
                entries = sym (append-nil w.entries);
                its_end = refl;
                message = m;
                messages = messages;
                waiting = waiting;
                lacks = lacks;
                fresh = q;
                next = next;
              }))
          by false q (z ∷ []) back x e = let none : [] ≡ x ∷ back = cc in absurd (cc none)
          by false q (z ∷ y ∷ front) back x e = let none : [] ≡ y ∷ front ++ (x ∷ back) = cc in absurd (cc none)

-- ## A fact of a node is carried through its whole pass

-- ### What each thing that a node does leaves

-- what is noted, and whether the power goes
pub record Notes (w v : Work) (es : List Entry) : Type 0 where
  pub entries : v.entries ≡ w.entries ++ es
  pub power : v.cut ≡ w.cut

holding_notes : (h : ℕ) (held : Bool) (w : Work) → Notes w (turn_at h (Hold held) w) []
holding_notes h held w = record { entries = ap (λ es. w.entries ++ es) (grind arith); power = refl }

pub lets_notes : (h : ℕ) (w : Work) → Notes w (lets_go h w) []
lets_notes h w = by_test (option_map_or (λ (p : Port). is_held p.side) (port_at w.ports h) false)
    (λ q. rw q (holding_notes h false w))
    (λ q. rw q (record { entries = sym (append-nil w.entries); power = refl }))

abbrev pub own_held : ℕ → ℕ × ℕ → Work → List Entry
own_held h short w = cond (is_held_at w.ports h) [] (entry.Held (end_of_node w.core h) short.0 short.1 ∷ [])

pub holds_notes : (h : ℕ) (short : ℕ × ℕ) (w : Work) → Notes w (holds_back h short w) (own_held h short w)
holds_notes h short w = by_test (is_held_at w.ports h)
    (λ q. rw q (holding_notes h true w))
    (λ q. let a : Notes told (turn_at h (Hold true) told) [] = holding_notes h true told in
    rw q (record { entries = a.entries ∙ append-nil (w.entries ++ one); power = a.power }))
  where
    one : List Entry
    one = entry.Held (end_of_node w.core h) short.0 short.1 ∷ []

    told : Work
    told = with_desk h (λ d. record d { holds = true }) (noting one w)

-- a message is the node's
pub takes_entries : (h : ℕ) (m : Message) (w : Work) → (takes_up h m w).entries ≡ w.entries ++ entry.Turn (end_of_node w.core h) m.0 m.1 ∷ []
takes_entries h m w =
    ap (λ es. (w.entries ++ entry.Turn (end_of_node w.core h) m.0 m.1 ∷ []) ++ es) (grind arith)
    ∙ append-nil (w.entries ++ entry.Turn (end_of_node w.core h) m.0 m.1 ∷ [])

pub handles_entries : (h : ℕ) (m : Message) (deeds : List Deed) (w : Work)
    → (handles h m deeds w).entries ≡ w.entries ++ (entry.Turn (end_of_node w.core h) m.0 m.1 ∷ noted_by_deeds h deeds (takes_up h m w))
handles_entries h m deeds w =
    let told : List Entry = noted_by_deeds h deeds (takes_up h m w) in
    deeds_note h deeds (takes_up h m w)
    ∙ (ap (λ es. es ++ told) (takes_entries h m w) ∙ append_assoc w.entries (entry.Turn (end_of_node w.core h) m.0 m.1 ∷ []) told)

-- the others wait on
takes_sees : (h : ℕ) (m : Message) (messages : List Message) (w : Work) → waiting_at w.ports h ≡ m ∷ messages → SeesAt h messages false (takes_up h m w)
takes_sees h m messages w e =
    let first : HasFirst w.ports h m messages = has_first w.ports h m messages e in
    let p : Port = first.port in
    let told : Work = noting (entry.Turn (end_of_node w.core h) m.0 m.1 ∷ []) w in
    let two = own_changed h (λ (q : Port). record q { desk = record q.desk { holds = false } }) (λ q. refl) (turn_at h FetchMessage told).ports
    (after_turn FetchMessage p) (own_changed h (after_turn FetchMessage) (λ q. refl) w.ports p first.here) in
    subst (Sees messages false) (sym two) (ap (λ l. drop 1 l) first.got, refl)

pub handles_sees : (h : ℕ) (m : Message) (messages : List Message) (deeds : List Deed) (w : Work) → waiting_at w.ports h ≡ m ∷ messages
    → SeesAt h messages false (handles h m deeds w)
handles_sees h m messages deeds w e = deeds_see h messages false h deeds (takes_up h m w) (takes_sees h m messages w e)

pub link_is : (core : Core) (h : ℕ) → (end_of_node core h).link ≡ h
link_is core h = by_test (core.node == 0) (λ q. rw q refl) (λ q. rw q refl)

along_more : (h : ℕ) (hosts links : List ℕ) → AreAlong hosts links → AreAlong (h ∷ hosts) links
along_more h hosts [] a = tt
along_more h hosts (l ∷ links) a = inr a

-- ### How messages have their turns

pub have_handled : (h : ℕ) (m : Message) (messages : List Message) (w : Work) → lacking w h m ≡ None
    → have_turns h (m ∷ messages) w ≡ unless_cut (have_turns h messages) (handles h m (deeds_of w.core w.ports h m) w)
have_handled h m messages w q = rw q refl

pub have_held : (h : ℕ) (m : Message) (messages : List Message) (w : Work) (short : ℕ × ℕ) → lacking w h m ≡ Some short
    → have_turns h (m ∷ messages) w ≡ holds_back h short w
have_held h m messages w short q = rw q refl

module _ (J : Work → Type 0) (lasts : LastsOverTurns J) where
  -- nothing comes behind a cut
  stops : (hosts : List ℕ) (v : Work) → v.cut ≡ true → ArePassed J hosts v v
  stops hosts v off = record {
    more = [];
    entries = sym (append-nil v.entries);
    keeps = λ on. absurd (true≢false (sym off ∙ on));
    begin = tt;
    each = λ front back x e. by_list front
        (λ q. rw q (absurd (cc (rw q at e))))
        (λ z front q. rw q (absurd (cc (rw q at e))));
    along = tt;
  }

  none_first : (w : Work) (more front back : List Entry) (x : Entry) → [] ≡ front ++ (x ∷ back) → IsTurnSo J w front x (back ++ more)
  none_first w more [] back x e = absurd (cc e)
  none_first w more (z ∷ front) back x e = absurd (cc e)

  module _ (h : ℕ) (hosts : List ℕ)
      (later : (v : Work) → J v → v.cut ≡ false → ArePassed J hosts v (goes_through_ends hosts v)) where
    abbrev Goes : Work → Work → Type 0
    Goes w v = ArePassed J (h ∷ hosts) w (unless_cut (goes_through_ends hosts) v)

    -- no message is left
    let_go : (w : Work) → J w → w.cut ≡ false → waiting_at w.ports h ≡ [] → Goes w (lets_go h w)
    let_go w j on waiting =
        let n : Notes w (lets_go h w) [] = lets_notes h w in
        let still : (lets_go h w).cut ≡ false = n.power ∙ on in
        let rest : ArePassed J hosts (lets_go h w) (goes_through_ends hosts (lets_go h w)) = later (lets_go h w) (lasts.let_go w h j on waiting) still in
        subst (ArePassed J (h ∷ hosts) w) (sym (uncut (goes_through_ends hosts) (lets_go h w) still))
        (goes_further J lasts w (lets_go h w) [] n.entries hosts (goes_through_ends hosts (lets_go h w)) (h ∷ hosts) rest
        (λ front back x e. none_first w rest.more front back x e) rest.begin (along_more h hosts (links_of_turns rest.more) rest.along))

    -- the first one is held
    held : (w : Work) → J w → w.cut ≡ false → (m : Message) (messages : List Message) → waiting_at w.ports h ≡ m ∷ messages
        → (short : ℕ × ℕ) → lacking w h m ≡ Some short → Goes w (holds_back h short w)
    held w j on m messages waiting short lacks =
        let v : Work = holds_back h short w in
        let n : Notes w v (own_held h short w) = holds_notes h short w in
        let still : v.cut ≡ false = n.power ∙ on in
        let rest : ArePassed J hosts v (goes_through_ends hosts v) = later v (lasts.held w h m messages short j on waiting lacks) still in
        subst (ArePassed J (h ∷ hosts) w) (sym (uncut (goes_through_ends hosts) v still))
        (goes_further J lasts w v (own_held h short w) n.entries hosts (goes_through_ends hosts v) (h ∷ hosts) rest
        (held_passed J lasts w j on h m messages waiting short lacks rest.more rest.begin) (begin (is_held_at w.ports h) rest.more rest.begin)
        (along (is_held_at w.ports h) rest.more rest.along))
      where
        one : Entry
        one = entry.Held (end_of_node w.core h) short.0 short.1

        begin : (b : Bool) (more : List Entry) → BeginWithTurn more → BeginWithTurn (cond b [] (one ∷ []) ++ more)
        begin b more a = grind arith

        along : (b : Bool) (more : List Entry) → AreAlong hosts (links_of_turns more)
            → AreAlong (h ∷ hosts) (links_of_turns (cond b [] (one ∷ []) ++ more))
        along true more a = along_more h hosts (links_of_turns more) a
        along false more a = inl (link_is w.core h, along_more h hosts (links_of_turns more) a)

    -- the first one is handled
    handled : (w : Work) → J w → w.cut ≡ false → (m : Message) (messages : List Message) → waiting_at w.ports h ≡ m ∷ messages
        → lacking w h m ≡ None
        → ((v : Work) → J v → v.cut ≡ false → waiting_at v.ports h ≡ messages → Goes v (have_turns h messages v))
        → Goes w (unless_cut (have_turns h messages) (handles h m (deeds_of w.core w.ports h m) w))
    unfolding stops
    handled w j on m messages waiting room next = by_test v.cut
        (λ off. subst (λ u. ArePassed J (h ∷ hosts) w u)
        (sym (ap (λ u. unless_cut (goes_through_ends hosts) u) (stays_cut (have_turns h messages) v off) ∙ stays_cut (goes_through_ends hosts) v off))
        (more_of v (stops (h ∷ hosts) v off) (λ z. refl)))
        (λ still. subst (λ u. Goes w u) (sym (uncut (have_turns h messages) v still))
        (more_of (unless_cut (goes_through_ends hosts) (have_turns h messages v))
        (next v (lasts.handled w h m messages j on waiting room still) still (handles_sees h m messages deeds w waiting).0)
        (λ off. absurd (true≢false (sym off ∙ still)))))
      where
        deeds : List Deed
        deeds = deeds_of w.core w.ports h m

        v : Work
        v = handles h m deeds w

        told : List Entry
        told = noted_by_deeds h deeds (takes_up h m w)

        along : (more : List Entry) → AreAlong (h ∷ hosts) (links_of_turns more)
            → AreAlong (h ∷ hosts) (links_of_turns (entry.Turn (end_of_node w.core h) m.0 m.1 ∷ told ++ more))
        along more a =
            inl (link_is w.core h, subst (AreAlong (h ∷ hosts)) (sym (links_behind told more (reply_none w.core w.ports h m (takes_up h m w)))) a)

        more_of : (u : Work) (rest : ArePassed J (h ∷ hosts) v u) → (v.cut ≡ true → rest.more ≡ []) → ArePassed J (h ∷ hosts) w u
        more_of u rest power =
            goes_further J lasts w v (entry.Turn (end_of_node w.core h) m.0 m.1 ∷ told) (handles_entries h m deeds w) (h ∷ hosts) u (h ∷ hosts) rest
            (turned_passed J lasts w j on h m messages waiting room rest.more rest.begin power) refl (along rest.more rest.along)

    turning : (messages : List Message) (w : Work) → J w → w.cut ≡ false → waiting_at w.ports h ≡ messages → Goes w (have_turns h messages w)
    turning [] w j on waiting = let_go w j on waiting
    turning (m ∷ messages) w j on waiting = by_option (lacking w h m)
        (λ q. subst (λ u. Goes w u) (sym (have_handled h m messages w q))
        (handled w j on m messages waiting q (λ v k still rest. turning messages v k still rest)))
        (λ short q. subst (λ u. Goes w u) (sym (have_held h m messages w short q)) (held w j on m messages waiting short q))

  -- the node goes through these ends
  pub through : (hosts : List ℕ) (w : Work) → J w → w.cut ≡ false → ArePassed J hosts w (goes_through_ends hosts w)
  through [] w j on = record {
    more = [];
    entries = sym (append-nil w.entries);
    keeps = λ z. j;
    begin = tt;
    each = λ front back x e. by_list front
        (λ q. rw q (absurd (cc (rw q at e))))
        (λ z front q. rw q (absurd (cc (rw q at e))));
    along = tt;
  }
  through (h ∷ hosts) w j on = turning h hosts (λ v k still. through hosts v k still) (waiting_at w.ports h) w j on refl

-- ### What turns make of a node

pub comes_lasts : (w : Work) → LastsOverTurns (ComesTo w)
comes_lasts w = record {
  handled = λ v h m messages c on waiting room still. Handles v h m messages c on waiting room still;
  held = λ v h m messages short c on waiting lacks. Holds v h m messages short c on waiting lacks;
  let_go = λ v h c on waiting. LetsGo v h c on waiting;
}

-- what lasts over turns holds of each node that comes of one of which it holds
pub comes_so : (J : Work → Type 0) → LastsOverTurns J → (w : Work) → J w → (v : Work) → ComesTo w v → J v
comes_so J lasts w j v Begins = j
comes_so J lasts w j v (Handles u h m messages c on waiting room still) =
    lasts.handled u h m messages (comes_so J lasts w j u c) on waiting room still
comes_so J lasts w j v (Holds u h m messages short c on waiting lacks) = lasts.held u h m messages short (comes_so J lasts w j u c) on waiting lacks
comes_so J lasts w j v (LetsGo u h c on waiting) = lasts.let_go u h (comes_so J lasts w j u c) on waiting

-- ## What a pass leaves at each end of its node

-- ### Links

along_append : (hosts : List ℕ) (h : ℕ) (links more : List ℕ) → AreAlong hosts links → AreAlong (h ∷ []) more → AreAlong (hosts ++ h ∷ []) (links ++ more)
along_append [] h [] more a b = b
along_append [] h (x ∷ links) more a b = absurd a
along_append (k ∷ hosts) h [] more a b = along_more k (hosts ++ h ∷ []) more (along_append hosts h [] more tt b)
along_append (k ∷ hosts) h (x ∷ links) more (inl a) b = inl (a.0, along_append (k ∷ hosts) h links more a.1 b)
along_append (k ∷ hosts) h (x ∷ links) more (inr a) b = inr (along_append hosts h (x ∷ links) more a b)

-- ### Other ends

module _ (k : ℕ) (ms : List Message) (b : Bool) where
  abbrev Same : Work → Type 0
  Same w = SeesAt k ms b w

  other_desk : (h : ℕ) (f : Desk → Desk) (w : Work) → ((d : Desk) → (f d).host ≡ d.host) → (h == k) ≡ false → Same w → Same (with_desk h f w)
  other_desk h f w host off s = subst (Sees ms b) (sym (other_stays h k (λ p. record p { desk = f p.desk }) (λ p. host p.desk) w.ports off)) s

  pub other_handles : (h : ℕ) (m : Message) (deeds : List Deed) (w : Work) → (h == k) ≡ false → Same w → Same (handles h m deeds w)
  other_handles h m deeds w off s =
      let told : Work = noting (entry.Turn (end_of_node w.core h) m.0 m.1 ∷ []) w in
      let fetched : Same (turn_at h FetchMessage told) =
      subst (Sees ms b) (sym (other_stays h k (after_turn FetchMessage) (λ p. refl) w.ports off)) s in
      deeds_see k ms b h deeds (takes_up h m w) (other_desk h (λ d. record d { holds = false }) (turn_at h FetchMessage told) (λ d. refl) off fetched)

  pub other_holds : (h : ℕ) (short : ℕ × ℕ) (w : Work) → (h == k) ≡ false → Same w → Same (holds_back h short w)
  other_holds h short w off s = by_test (is_held_at w.ports h)
      (λ q. rw q (turn_sees k ms b h (Hold true) w tt s))
      (λ q. rw q (turn_sees k ms b h (Hold true) (with_desk h (λ d. record d { holds = true }) told) tt
      (other_desk h (λ d. record d { holds = true }) told (λ d. refl) off s)))
    where
      told : Work
      told = noting (entry.Held (end_of_node w.core h) short.0 short.1 ∷ []) w

  other_turns : (h : ℕ) (messages : List Message) (w : Work) → (h == k) ≡ false → Same w → Same (have_turns h messages w)
  other_turns h [] w off s = lets_see k ms b h w s
  other_turns h (m ∷ messages) w off s = by_option (lacking w h m)
      (λ q. subst Same (sym (have_handled h m messages w q))
      (unless_lost Same (have_turns h messages) (handles h m (deeds_of w.core w.ports h m) w) (λ v t. other_turns h messages v off t)
      (other_handles h m (deeds_of w.core w.ports h m) w off s)))
      (λ short q. subst Same (sym (have_held h m messages w short q)) (other_holds h short w off s))

  others_pass : (hosts : List ℕ) (w : Work) → AllByRecursion (λ j. (j == k) ≡ false) hosts → Same w → Same (goes_through_ends hosts w)
  others_pass [] w off s = s
  others_pass (h ∷ hosts) w off s =
      unless_lost Same (goes_through_ends hosts) (have_turns h (waiting_at w.ports h) w) (λ v t. others_pass hosts v off.1 t)
      (other_turns h (waiting_at w.ports h) w off.0 s)

-- ### Its own end

pub held_own : (h : ℕ) (short : ℕ × ℕ) (w : Work) (m : Message) (messages : List Message) → waiting_at w.ports h ≡ m ∷ messages
    → SeesAt h (waiting_at w.ports h) true (holds_back h short w)
held_own h short w m messages waiting = by_test (is_held_at w.ports h)
    (λ q. rw q (turn_sees h (waiting_at w.ports h) true h (Hold true) w tt (refl, q)))
    (λ q. let is = own_changed h (λ (p : Port). record p { desk = record p.desk { holds = true } }) (λ p. refl) w.ports first.port first.here in
    rw q (turn_sees h (waiting_at w.ports h) true h (Hold true)
    (with_desk h (λ d. record d { holds = true }) (noting (entry.Held (end_of_node w.core h) short.0 short.1 ∷ []) w)) tt
    (subst (Sees (waiting_at w.ports h) true) (sym is) (first.got ∙ sym waiting, refl))))
  where
    first : HasFirst w.ports h m messages
    first = has_first w.ports h m messages waiting

-- as the node leaves an end
record StopsAt (J : Work → Type 0) (h : ℕ) (v u : Work) : Type 0 where
  pub work : Work
  pub keeps : J work
  pub on : work.cut ≡ false
  pub front : List Entry
  pub own : List Entry
  pub entries : work.entries ≡ v.entries ++ front
  pub along : AreAlong (h ∷ []) (links_of_turns front)
  pub all : u.entries ≡ work.entries ++ own
  pub waits : waiting_at u.ports h ≡ waiting_at work.ports h
  pub stays : (z : Work) → is_held_at z.ports h ≡ is_held_at u.ports h → Stays work z h own (waiting_at work.ports h)
  pub goes_on : J u

module _ (J : Work → Type 0) (lasts : LastsOverTurns J) (h : ℕ) where
  go_stop : (w : Work) → J w → w.cut ≡ false → waiting_at w.ports h ≡ [] → StopsAt J h w (lets_go h w)
  go_stop w j on waiting = record {
    work = w;
    keeps = j;
    on = on;
    front = [];
    own = [];
    entries = sym (append-nil w.entries);
    along = tt;
    all = (lets_notes h w).entries;
    waits = (lets_see h (waiting_at w.ports h) (is_held_at w.ports h) h w (refl, refl)).0;
    stays = λ z same. subst (Stays w z h []) (sym waiting) refl;
    goes_on = lasts.let_go w h j on waiting;
  }

  held_stop : (w : Work) → J w → w.cut ≡ false → (m : Message) (messages : List Message) → waiting_at w.ports h ≡ m ∷ messages
      → (short : ℕ × ℕ) → lacking w h m ≡ Some short → StopsAt J h w (holds_back h short w)
  held_stop w j on m messages waiting short lacks =
      let sees : SeesAt h (waiting_at w.ports h) true (holds_back h short w) = held_own h short w m messages waiting in
      record {
        work = w;
        keeps = j;
        on = on;
        front = [];
        own = own_held h short w;
        entries = sym (append-nil w.entries);
        along = tt;
        all = (holds_notes h short w).entries;
        waits = sees.0;
        stays = λ z same. subst (Stays w z h (own_held h short w)) (sym waiting) (short, lacks, same ∙ sees.1, refl);
        goes_on = lasts.held w h m messages short j on waiting lacks;
      }

  handled_stop : (w : Work) (m : Message) (u : Work) → StopsAt J h (handles h m (deeds_of w.core w.ports h m) w) u → StopsAt J h w u
  handled_stop w m u s =
      let deeds : List Deed = deeds_of w.core w.ports h m in
      let told : List Entry = noted_by_deeds h deeds (takes_up h m w) in
      let turned : List Entry = entry.Turn (end_of_node w.core h) m.0 m.1 ∷ told in
      record {
        work = s.work;
        keeps = s.keeps;
        on = s.on;
        front = turned ++ s.front;
        own = s.own;
        entries = s.entries ∙ (ap (λ es. es ++ s.front) (handles_entries h m deeds w) ∙ append_assoc w.entries turned s.front);
        along = inl (
          link_is w.core h,
          subst (AreAlong (h ∷ []))
              (sym (filter_map-append link_of_turn told s.front
              ∙ ap (λ l. l ++ links_of_turns s.front) (no_links told (reply_none w.core w.ports h m (takes_up h m w))))) s.along,
        );
        all = s.all;
        waits = s.waits;
        stays = s.stays;
        goes_on = s.goes_on;
      }

  stopping : (messages : List Message) (w : Work) → J w → w.cut ≡ false → waiting_at w.ports h ≡ messages → (have_turns h messages w).cut ≡ false
      → StopsAt J h w (have_turns h messages w)
  stopping [] w j on waiting still = go_stop w j on waiting
  stopping (m ∷ messages) w j on waiting still = go (lacking w h m) refl (λ v k o r t. stopping messages v k o r t)
    where
      deeds : List Deed
      deeds = deeds_of w.core w.ports h m

      v : Work
      v = handles h m deeds w

      go : (o : Option (ℕ × ℕ)) → lacking w h m ≡ o
          → ((x : Work) → J x → x.cut ≡ false → waiting_at x.ports h ≡ messages → (have_turns h messages x).cut ≡ false
          → StopsAt J h x (have_turns h messages x))
          → StopsAt J h w (have_turns h (m ∷ messages) w)
      go None q later = by_test v.cut
          (λ off. absurd (true≢false (sym off ∙ subst P (stays_cut (have_turns h messages) v off) goes)))
          (λ o. subst (StopsAt J h w) (sym (have_handled h m messages w q ∙ uncut (have_turns h messages) v o))
          (handled_stop w m (have_turns h messages v)
          (later v (lasts.handled w h m messages j on waiting q o) o (handles_sees h m messages deeds w waiting).0
          (subst P (uncut (have_turns h messages) v o) goes))))
        where
          P : Work → Type 0
          P x = x.cut ≡ false

          goes : (unless_cut (have_turns h messages) v).cut ≡ false
          goes = subst P (have_handled h m messages w q) still
      go (Some short) q later = subst (StopsAt J h w) (sym (have_held h m messages w short q)) (held_stop w j on m messages waiting short q)

-- ### A pass

-- first through these ends, then through those
goes_apart : (earlier later : List ℕ) (w : Work) → w.cut ≡ false
    → goes_through_ends (earlier ++ later) w ≡ unless_cut (goes_through_ends later) (goes_through_ends earlier w)
goes_apart [] later w on = sym (uncut (goes_through_ends later) w on)
goes_apart (k ∷ earlier) later w on = by_test v.cut
    (λ off. grind arith)
    (λ o. uncut (goes_through_ends (earlier ++ later)) v o
    ∙ (goes_apart earlier later v o ∙ sym (ap (unless_cut (goes_through_ends later)) (uncut (goes_through_ends earlier) v o))))
  where
    v : Work
    v = have_turns k (waiting_at w.ports k) w

-- what lost no power had none to lose
was_on : (f : Work → Work) (w : Work) → (unless_cut f w).cut ≡ false → w.cut ≡ false
was_on f w on = by_test w.cut (λ off. let P : Work → Type 0 = λ x. x.cut ≡ false in absurd (true≢false (sym off ∙ subst P (stays_cut f w off) on))) (λ o. o)

module _ (J : Work → Type 0) (lasts : LastsOverTurns J) where
  pub leaves_behind : (earlier : List ℕ) (h : ℕ) (later : List ℕ) (w : Work) → J w → w.cut ≡ false
      → AllByRecursion (λ k. (k == h) ≡ false) later → (goes_through_ends (earlier ++ h ∷ later) w).cut ≡ false
      → IsBehind J w (goes_through_ends (earlier ++ h ∷ later) w) earlier h later
  leaves_behind earlier h later w j on off still =
      subst (λ x. IsBehind J w x earlier h later)
      (sym (goes_apart earlier (h ∷ later) w on ∙ (uncut (goes_through_ends (h ∷ later)) v v_on ∙ uncut (goes_through_ends later) u u_on)))
      (record {
        work = s.work;
        keeps = s.keeps;
        on = s.on;
        front = first.more ++ s.front;
        own = s.own;
        back = rest.more;
        entries = entries_is;
        all = rest.entries ∙ (ap (λ es. es ++ rest.more) (s.all ∙ ap (λ es. es ++ s.own) entries_is)
            ∙ append_assoc (w.entries ++ (first.more ++ s.front)) s.own rest.more);
        before = subst (AreAlong (earlier ++ h ∷ [])) (sym (filter_map-append link_of_turn first.more s.front))
            (along_append earlier h (links_of_turns first.more) (links_of_turns s.front) first.along s.along);
        behind = rest.along;
        next = rest.begin;
        waits = sees.0 ∙ s.waits;
        stays = s.stays end sees.1;
      })
    where
      P : Work → Type 0
      P x = x.cut ≡ false

      v : Work
      v = goes_through_ends earlier w

      first : ArePassed J earlier w v
      first = through J lasts earlier w j on

      v_goes : (unless_cut (goes_through_ends (h ∷ later)) v).cut ≡ false
      v_goes = subst P (goes_apart earlier (h ∷ later) w on) still

      v_on : v.cut ≡ false
      v_on = was_on (goes_through_ends (h ∷ later)) v v_goes

      u : Work
      u = have_turns h (waiting_at v.ports h) v

      u_on : u.cut ≡ false
      u_on = was_on (goes_through_ends later) u (subst P (uncut (goes_through_ends (h ∷ later)) v v_on) v_goes)

      s : StopsAt J h v u
      s = stopping J lasts h (waiting_at v.ports h) v (first.keeps v_on) v_on refl u_on

      end : Work
      end = goes_through_ends later u

      rest : ArePassed J later u end
      rest = through J lasts later u s.goes_on u_on

      sees : SeesAt h (waiting_at u.ports h) (is_held_at u.ports h) end
      sees = others_pass h (waiting_at u.ports h) (is_held_at u.ports h) later u off (refl, refl)

      entries_is : s.work.entries ≡ w.entries ++ (first.more ++ s.front)
      entries_is = s.entries ∙ (ap (λ es. es ++ s.front) first.entries ∙ append_assoc w.entries first.more s.front)
